-- The header is read exactly as the grammar derives it.
use Rattle.std.specs.Prelude.{Some}
use Rattle.protocol.specs.Types.{number}
use Prim.Native.Nat.{ℕ, ◌+◌, ◌-◌, ◌≤◌}
use mathlib.Core.Path.{◌≡◌, refl, sym, ap, ◌∙◌, subst}
use mathlib.Core.Logic.{◌⊎◌, inl, inr}
use mathlib.Core.Bool.{false, ◌&&◌}
use mathlib.Core.List.{List, [], ◌∷◌, ◌++◌, append_assoc}
use lib.ListN.{length, take, drop, length-drop, length-append}
use lib.Seq.{take-append_seam}
use lib.Dec.{leb}
use borrow.Author.Tests.{leb-true}
use native.Mathlib.Omega.{arith}
use Rattle.base.specs.Pick.{pick}
use Rattle.base.specs.Lists.{is_at, has, every, part}
use Rattle.base.specs.Bytes.{text}
use Rattle.base.proofs.TestLaws.{clash}
use Rattle.megaco.specs.Bytes.{slash, is_letter, is_digit, is_word, is_white, in_class, capital, capitals}
use Rattle.megaco.specs.White.{goes_on, white_at, sep_at}
use Rattle.megaco.specs.Keywords.{forms, forms_of}
use Rattle.megaco.specs.Tokens.{mark_at, keyword_at, number_at, m_id_at}
use Rattle.megaco.specs.Reading.{skip, bind, read_number, reading, start_at, sender_at, sender_r, or_no_bytes, sender_of}
use Rattle.protocol.specs.Types.{MegacopToken, Parsed}
use Rattle.grammar.specs.Characters.{Spelling, long, short, Keyword}
use Rattle.grammar.specs.Grammar.{SEP, sep, NAME, m_id, by_address, by_domain, device_name, IPv4address, domain, Header, header}
use Rattle.grammar.proofs.Classes.{and_parts, test_not}
use Rattle.grammar.proofs.Places.{regroup6, head, Any, Stands, Finds, finds_here, finds_after, behind, is_at_head, is_at_cons, whether, given, next_same, after_next}
use Rattle.grammar.proofs.WhiteLaws.{Solid, white_complete, white_sound, sep_complete, sep_sound}
use Rattle.grammar.proofs.RowLaws.{mark_complete, mark_sound, number_complete, number_sound}
use Rattle.grammar.proofs.FollowLaws.{Follow, ends, blank_ends, ends_digit, path_solid}
use Rattle.grammar.proofs.WordLaws.{name_letter, keyword_complete, keyword_sound, letters_name}
use Rattle.grammar.proofs.NameLaws.{path_first}
use Rattle.grammar.proofs.MidLaws.{ends_mid, m_id_complete, m_id_sound}
use Rattle.grammar.proofs.ItemLaws.{name_solid}

-- ---- the keyword, in its long form a word, in its short one a mark

-- the keyword's reader
abbrev megaco_at : List ℕ → ℕ → Parsed
megaco_at s p = pick (is_at s p 0x21) (Some (p + 1)) (keyword_at MegacopToken s p)

capital_mark : (b : ℕ) → capital b ≡ 0x21 → b ≡ 0x21
unfolding capital pick
capital_mark b e = whether (leb 0x61 b && leb b 0x7a)
    (λ t. absurd (omega (arith, leb-true 0x61 b (and_parts (leb 0x61 b) _ t).0, rw t at e)))
    (λ t. rw t at e)

mark_is : (a : List ℕ) → capitals a ≡ 0x21 ∷ [] → a ≡ 0x21 ∷ []
unfolding capitals
mark_is [] e = cc
mark_is (b ∷ []) e = let k : capital b ≡ 0x21 = cc in rw (capital_mark b k)
mark_is (b ∷ c ∷ a) e = cc

either : {a : List ℕ} (l s : List ℕ) → Spelling (forms l s) a → (capitals a ≡ l) ⊎ (capitals a ≡ s)
either l s (long e) = inl e
either l s (short e) = inr e

module _ (s : List ℕ) where
  megaco_word : {a : List ℕ} (t : List ℕ) (at : ℕ) → NAME a → Keyword MegacopToken a → drop at s ≡ a ++ slash ∷ t
      → Finds s (megaco_at s at) (slash ∷ t)
  unfolding pick is_letter in_class is_word is_digit
  megaco_word {a} t at n k h =
      let i : is_at s at 0x21 ≡ false = is_at_head s _ at 0x21 h ∙ test_not is_letter (head (a ++ slash ∷ t)) 0x21 refl (name_letter (slash ∷ t) n) in
      rw i (keyword_complete MegacopToken s (slash ∷ t) at k n refl h)

  megaco_complete : {a : List ℕ} (t : List ℕ) (at : ℕ) → Keyword MegacopToken a → drop at s ≡ a ++ slash ∷ t → Finds s (megaco_at s at) (slash ∷ t)
  unfolding forms_of pick is_letter every
  megaco_complete {a} t at k h = go (either (text "MEGACO") (text "!") k)
    where
      go : (capitals a ≡ text "MEGACO") ⊎ (capitals a ≡ text "!") → Finds s (megaco_at s at) (slash ∷ t)
      go (inl e) = megaco_word t at (letters_name a (text "MEGACO") refl e) k h
      go (inr e) =
          let f : drop at s ≡ 0x21 ∷ slash ∷ t = h ∙ ap (λ l. l ++ slash ∷ t) (mark_is a e) in
          rw (is_at_head s _ at 0x21 f) (finds_here s (at + 1) (slash ∷ t) (behind s (0x21 ∷ []) (slash ∷ t) at f))

  megaco_sound : (at e : ℕ) → megaco_at s at ≡ Some e → Stands (Keyword MegacopToken) Any (drop at s) (drop e s)
  unfolding forms_of pick capitals capital
  megaco_sound at e h = whether (is_at s at 0x21)
      (λ t. record {
        bytes = 0x21 ∷ [];
        derives = short refl;
        split = is_at_cons s at 0x21 (omega arith) t ∙ ap (λ p. 0x21 ∷ drop p s)
            (next_same (rw t at h));
        stops = tt;
      })
      (λ t. given (keyword_sound MegacopToken s at e (rw t at h))
      (λ y. record { bytes = y.bytes; derives = y.derives; split = y.split; stops = tt }))

-- ---- the header

m_id_solid : {a : List ℕ} (t : List ℕ) → m_id a → Solid (a ++ t)
unfolding goes_on is_white
m_id_solid t (by_address (IPv4address i j k l) p) = refl
m_id_solid t (by_domain (domain x m l) p) = refl
m_id_solid t (device_name x) = path_solid _ (path_first t x)

megaco_solid : {a : List ℕ} (t : List ℕ) → Keyword MegacopToken a → Solid (a ++ t)
unfolding forms_of is_letter every pick goes_on is_white
megaco_solid {a} t k = go (either (text "MEGACO") (text "!") k)
  where
    go : (capitals a ≡ text "MEGACO") ⊎ (capitals a ≡ text "!") → Solid (a ++ t)
    go (inl e) = name_solid t (letters_name a (text "MEGACO") refl e)
    go (inr e) = rw (mark_is a e)

sep_ends : {a : List ℕ} (t : List ℕ) → SEP a → Follow ends (a ++ t)
sep_ends t (sep {a} {b} x w) = rw (append_assoc a b t) (blank_ends (b ++ t) x)

some_more : (l : List ℕ) → Follow ends l → 1 ≤ length l
unfolding has pick
some_more [] f = absurd (clash (sym f.first))
some_more (x ∷ l) f = omega arith

sep_more : {a : List ℕ} (t : List ℕ) → SEP a → 1 ≤ length (a ++ t)
sep_more {a} t i = some_more (a ++ t) (sep_ends t i)

-- the mId's bytes
part_is : (s : List ℕ) (a b : ℕ) (m rest : List ℕ) → drop a s ≡ m ++ rest → drop b s ≡ rest → 1 ≤ length rest → part s a b ≡ m
unfolding part
part_is s a b m rest h k l =
    let n : length s - a ≡ length m + length rest = sym (length-drop a s) ∙ ap length h ∙ length-append m rest in
    let o : length s - b ≡ length rest = sym (length-drop b s) ∙ ap length k in
    let e : b - a ≡ length m = omega (arith, n, o, l) in
    rw (e, h) (take-append_seam m rest)

sender_by : (s : List ℕ) (v p q a b : ℕ) → start_at s ≡ Some p → number_at s p 2 99 ≡ number v q → sep_at s q ≡ Some a → m_id_at s a ≡ Some b → sender_of s ≡ part s a b
unfolding sender_of sender_r or_no_bytes skip bind read_number reading
sender_by s v p q a b h n k m = rw (h, n, k, m)

-- what the readers of a header find
pub record Headed (s : List ℕ) (v : ℕ) (m rest : List ℕ) : Type 0 where
  pub begun : ℕ
  pub numbered : ℕ
  pub end : ℕ
  pub start : start_at s ≡ Some begun
  pub version : number_at s begun 2 99 ≡ number v numbered
  pub sender : sender_at s numbered ≡ Some end
  pub leaves : drop end s ≡ rest
  pub from : sender_of s ≡ m

pub header_complete : {a m : List ℕ} {v : ℕ} (s t : List ℕ) → Header a v m → Solid t → s ≡ a ++ t → Headed s v m t
unfolding start_at sender_at
header_complete s t (header {a} {b} {c} {d} {e} {f} w k n i m j) z h =
    let g : s ≡ a ++ (b ++ (slash ∷ c ++ (d ++ (e ++ (f ++ t))))) = h ∙ regroup6 a b (slash ∷ c) d e f t in
    given (finds_after s (white_at s 0) _ (white_complete s _ 0 w (megaco_solid _ k) g) (λ p l. finds_after s (megaco_at s p) (mark_at slash s)
    (megaco_complete s _ p k l) (λ p l. mark_complete s p slash _ l))) (λ x.
    given (number_complete s (d ++ (e ++ (f ++ t))) x.end 2 99 n (ends_digit (sep_ends _ i)) x.leaves) (λ y.
    given (finds_after s (sep_at s y.end) _ (sep_complete s (e ++ (f ++ t)) y.end i (m_id_solid _ m) y.leaves) (λ p l.
    finds_after s (m_id_at s p) (sep_at s) (m_id_complete s (f ++ t) p m (ends_mid (sep_ends t j)) l) (λ p l. sep_complete s t p j z l))) (λ r.
    given (sep_complete s (e ++ (f ++ t)) y.end i (m_id_solid _ m) y.leaves) (λ b.
    given (m_id_complete s (f ++ t) b.end m (ends_mid (sep_ends t j)) b.leaves) (λ u.
    record {
      begun = x.end;
      numbered = y.end;
      end = r.end;
      start = x.is;
      version = y.is;
      sender = r.is;
      leaves = r.leaves;
      from = sender_by s _ x.end y.end b.end u.end x.is y.is b.is u.is ∙ part_is s b.end u.end e (f ++ t) b.leaves u.leaves (sep_more t j);
    })))))

pub header_sound : (s : List ℕ) (v p q e : ℕ) → start_at s ≡ Some p → number_at s p 2 99 ≡ number v q → sender_at s q ≡ Some e
    → Stands (λ a. Header a v (sender_of s)) Solid s (drop e s)
unfolding start_at sender_at
header_sound s v p q e start n k =
    after_next _ _ p start (λ a m h. after_next _ _ p h (λ b o h.
    after_next _ _ e k (λ c l k. after_next _ _ e k (λ d g k.
    given (white_sound s 0 a m) (λ y₁.
    given (megaco_sound s a b o) (λ y₂.
    given (mark_sound s b slash p (omega arith) h) (λ y₃.
    given (number_sound s p 2 99 v q n) (λ y₄.
    given (sep_sound s q c l) (λ y₅.
    given (m_id_sound s c d g) (λ y₆.
    given (sep_sound s d e k) (λ y₇. record {
      bytes = y₁.bytes ++ y₂.bytes ++ slash ∷ y₄.bytes ++ y₅.bytes ++ y₆.bytes ++ y₇.bytes;
      derives =
          let f : sender_of s ≡ y₆.bytes = sender_by s v p q c d start n l g ∙ part_is s c d y₆.bytes (drop d s) y₆.split refl (rw y₇.split (sep_more (drop e s) y₇.derives)) in
          subst (Header _ v) (sym f) (header y₁.derives y₂.derives y₄.derives y₅.derives y₆.derives y₇.derives);
      split =
          y₁.split ∙ rw (y₂.split, y₃, y₄.split, y₅.split, y₆.split, y₇.split)
          (sym (regroup6 y₁.bytes y₂.bytes (slash ∷ y₄.bytes) y₅.bytes y₆.bytes y₇.bytes (drop e s)));
      stops = y₇.stops;
    })))))))))))
