-- The message identifier is read exactly as the grammar derives it.
use Rattle.std.specs.Prelude.{Some}
use Prim.Native.Nat.{ℕ, ◌+◌, ◌<◌, ◌≤◌}
use mathlib.Core.Path.{◌≡◌, refl, sym, ap, ◌∙◌}
use mathlib.Core.Bool.{Bool, true, false, ◌||◌, false≢true}
use mathlib.Core.List.{List, [], ◌∷◌, ◌++◌, append_assoc}
use lib.ListN.{length, get_or, drop}
use lib.Dec.{eqb}
use native.Mathlib.Omega.{arith}
use Rattle.base.specs.Pick.{pick}
use Rattle.base.specs.Lists.{is_at, every, has}
use Rattle.base.specs.Bytes.{text}
use Rattle.megaco.specs.Bytes.{colon, dot, is_letter, is_digit, is_word, is_name, is_domain, in_class}
use Rattle.megaco.specs.White.{after}
use Rattle.megaco.specs.Tokens.{mark_at, row_at, path_name_at, number_at, after_number, port_at, octet_at, address_at, domain_at, m_id_at}
use Rattle.protocol.specs.Types.{NameByte, DomainByte, Parsed, Number, number}
use Rattle.grammar.specs.Characters.{AlphaDigitOr, or_alpha, or_digit, or_mark, Many, no_more, and_then}
use Rattle.grammar.specs.Grammar.{V4hex, domain_address, IPv4address, domain_name, domain, Port, no_port, port, m_id, by_address, by_domain, device_name}
use Rattle.grammar.proofs.Classes.{test_not, name_tests, digit_tests, domain_tests, letter_digit_tests}
use Rattle.grammar.proofs.Places.{regroup5, head, at_head, Any, Stands, Finds, Counts, finds, finds_here, finds_after, behind, is_at_head, is_at_cons, next_same, pick_next, given, after_next, number_next}
use Rattle.grammar.proofs.RowLaws.{Stops, row_is, up_to_64, within_64, mark_complete, mark_sound, number_complete, number_sound}
use Rattle.grammar.proofs.FollowLaws.{Follow, ends, follow_not, ends_name, ends_digit}
use Rattle.grammar.proofs.WordLaws.{row_stands}
use Rattle.grammar.proofs.NameLaws.{path_first, path_complete, path_sound}

-- ---- a number that leaves nothing in the tree

finds_number : {s mid rest : List ℕ} {v : ℕ} (r : Number) (f : ℕ → Parsed) → Counts s r v mid → ((p : ℕ) → drop p s ≡ mid → Finds s (f p) rest)
    → Finds s (after_number r f) rest
unfolding after_number
finds_number r f g k = rw g.is (k g.end g.leaves)

-- ---- what may stand behind: nothing that makes the mId longer

pub record MidEnds (rest : List ℕ) : Type 0 where
  pub no_name : Stops (in_class NameByte) rest
  pub no_digit : Stops is_digit rest
  pub no_colon : eqb (head rest) colon ≡ false

pub ends_mid : {rest : List ℕ} → Follow ends rest → MidEnds rest
unfolding every has pick
ends_mid f = record { no_name = ends_name f; no_digit = ends_digit f; no_colon = follow_not (λ b. eqb b colon) refl f }

pub end_mid : MidEnds []
end_mid = record { no_name = name_tests.ends; no_digit = digit_tests.ends; no_colon = refl }

-- ---- the port

port_complete : (s rest : List ℕ) {a : List ℕ} (at : ℕ) → Port a → MidEnds rest → drop at s ≡ a ++ rest → Finds s (port_at s at) rest
unfolding port_at pick
port_complete s rest at no_port k h = rw (is_at_head s rest at colon h, k.no_colon) (finds_here s at rest h)
port_complete s rest at (port {a} n) k h =
    rw (is_at_head s (colon ∷ a ++ rest) at colon h)
    (finds_number _ Some (number_complete s rest (at + 1) 5 65535 n k.no_digit (behind s (colon ∷ []) (a ++ rest) at h))
    (λ p e. finds_here s p rest e))

port_sound : (s : List ℕ) (at e : ℕ) → port_at s at ≡ Some e → Stands Port Any (drop at s) (drop e s)
unfolding port_at pick
port_sound s at e h = go (is_at s at colon) refl h
  where
    some : (v p : ℕ) → is_at s at colon ≡ true → number_at s (at + 1) 5 65535 ≡ number v p → Some p ≡ Some e → Stands Port Any (drop at s) (drop e s)
    some v p i n l =
        let r = number_sound s (at + 1) 5 65535 v p n in
        let k : drop p s ≡ drop e s = ap (λ x. drop x s) (next_same l) in
        record {
          bytes = colon ∷ r.bytes;
          derives = port r.derives;
          split = is_at_cons s at colon (omega arith) i ∙ ap (λ t. colon ∷ t)
              (r.split ∙ ap (λ t. r.bytes ++ t) k);
          stops = tt;
        }

    go : (t : Bool) → is_at s at colon ≡ t → pick t (after_number (number_at s (at + 1) 5 65535) Some) (Some at) ≡ Some e
        → Stands Port Any (drop at s) (drop e s)
    go true i f = number_next _ Some e f (λ v p. some v p i)
    go false i f = record { bytes = []; derives = no_port; split = ap (λ x. drop x s) (next_same f); stops = tt }

-- ---- addresses

octet_complete : (s rest : List ℕ) {a : List ℕ} {i : ℕ} (b at : ℕ) → V4hex a i → is_digit b ≡ false → drop at s ≡ a ++ b ∷ rest
    → Finds s (octet_at b s at) rest
unfolding octet_at
octet_complete s rest b at n k h = finds_number _ (mark_at b s) (number_complete s (b ∷ rest) at 3 255 n k h) (λ p e. mark_complete s p b rest e)

octet_sound : (s : List ℕ) (b at e : ℕ) → 0 < b → octet_at b s at ≡ Some e → (a : List ℕ) × (i : ℕ) × V4hex a i × (drop at s ≡ a ++ b ∷ drop e s)
unfolding octet_at
octet_sound s b at e z h = number_next _ (mark_at b s) e h (λ v p n l.
    let r = number_sound s at 3 255 v p n in
    (r.bytes, v, r.derives, r.split ∙ ap (λ t. r.bytes ++ t) (mark_sound s p b e z l)))

address_complete : (s rest : List ℕ) {a : List ℕ} (at : ℕ) → domain_address a → drop at s ≡ a ++ rest → Finds s (address_at s at) rest
unfolding address_at is_digit
address_complete s rest at (IPv4address {a} {b} {c} {d} i j k l) h =
    let f : drop (at + 1) s ≡ a ++ dot ∷ (b ++ dot ∷ (c ++ dot ∷ (d ++ 0x5d ∷ rest))) =
    behind s (0x5b ∷ []) _ at (h ∙ regroup5 (0x5b ∷ a) (dot ∷ b) (dot ∷ c) (dot ∷ d) (0x5d ∷ []) rest) in
    finds_after s _ _ (octet_complete s _ dot (at + 1) i refl f) (λ p g.
    finds_after s _ _ (octet_complete s _ dot p j refl g) (λ q g.
    finds_after s _ _ (octet_complete s _ dot q k refl g) (λ r g. octet_complete s rest 0x5d r l refl g)))

address_sound : (s : List ℕ) (at e : ℕ) → is_at s at 0x5b ≡ true → address_at s at ≡ Some e → Stands domain_address Any (drop at s) (drop e s)
unfolding address_at
address_sound s at e i h =
    after_next _ _ e h (λ p m h. after_next _ _ e h (λ q n h. after_next _ _ e h (λ r o h.
    given (octet_sound s dot (at + 1) p (omega arith) m) (λ a.
    given (octet_sound s dot p q (omega arith) n) (λ b.
    given (octet_sound s dot q r (omega arith) o) (λ c.
    given (octet_sound s 0x5d r e (omega arith) h) (λ d.
    record {
      bytes = 0x5b ∷ a.0 ++ dot ∷ b.0 ++ dot ∷ c.0 ++ dot ∷ d.0 ++ 0x5d ∷ [];
      derives = IPv4address a.2 b.2 c.2 d.2;
      split =
          is_at_cons s at 0x5b (omega arith) i ∙ rw (a.3, b.3, c.3, d.3)
          (sym (regroup5 (0x5b ∷ a.0) (dot ∷ b.0) (dot ∷ c.0) (dot ∷ d.0) (0x5d ∷ []) (drop e s)));
      stops = tt;
    })))))))

-- ---- domain names

mark_not_domain : in_class DomainByte 0x3e ≡ false
unfolding in_class is_domain is_letter is_digit
mark_not_domain = refl

domain_many : {marks : List ℕ} {b : ℕ} → AlphaDigitOr [] b → AlphaDigitOr marks b
unfolding has
domain_many (or_alpha h) = or_alpha h
domain_many (or_digit h) = or_digit h
domain_many (or_mark h) = absurd (false≢true h)

domain_complete : (s rest : List ℕ) {a : List ℕ} (at : ℕ) → domain_name a → drop at s ≡ a ++ rest → Finds s (domain_at s at) rest
unfolding domain_at after pick
domain_complete s rest at (domain {b} {bs} x m l) h =
    let f : drop (at + 1) s ≡ (b ∷ bs) ++ 0x3e ∷ rest = behind s (0x3c ∷ []) _ at h ∙ append_assoc (b ∷ bs) (0x3e ∷ []) rest in
    let g : get_or s (at + 1) 0 ≡ b = at_head s (at + 1) ∙ ap head f in
    let n : drop (at + 1 + length (b ∷ bs)) s ≡ 0x3e ∷ rest = behind s (b ∷ bs) (0x3e ∷ rest) (at + 1) f in
    rw (
      g,
      letter_digit_tests.passes b x,
      row_is DomainByte domain_tests s (0x3e ∷ rest) (at + 1)
          (and_then (domain_many x) m) mark_not_domain f,
      within_64 (at + 1) (length (b ∷ bs)) (omega arith),
    )
    (mark_complete s _ 0x3e rest n)

domain_of : {a : List ℕ} (rest : List ℕ) → Many (AlphaDigitOr (text "-.")) a → is_letter (head (a ++ rest)) || is_digit (head (a ++ rest)) ≡ true
    → Stops (in_class DomainByte) rest
    → length a ≤ 64 → domain_name (0x3c ∷ a ++ 0x3e ∷ [])
domain_of rest no_more g k l = absurd (false≢true (sym k ∙ domain_tests.passes (head rest) (domain_many (letter_digit_tests.tells (head rest) g))))
domain_of rest (and_then {b} x m) g k l = domain (letter_digit_tests.tells b g) m (omega arith)

domain_sound : (s : List ℕ) (at e : ℕ) → is_at s at 0x3c ≡ true → domain_at s at ≡ Some e → Stands domain_name Any (drop at s) (drop e s)
unfolding domain_at
domain_sound s at e i h =
    given (pick_next _ _ e h) (λ k. after_next _ _ e k.1 (λ p u m.
    given (up_to_64 (at + 1) (row_at DomainByte s (at + 1)) p u) (λ q.
    given (row_stands DomainByte domain_tests s (at + 1) p q.0) (λ r.
    let f : get_or s (at + 1) 0 ≡ head (r.bytes ++ drop p s) = at_head s (at + 1) ∙ ap head r.split in
    record {
      bytes = 0x3c ∷ r.bytes ++ 0x3e ∷ [];
      derives = domain_of (drop p s) r.derives.many (rw f at k.0) r.stops (omega (arith, r.derives.long, q.0, q.1));
      split =
          is_at_cons s at 0x3c (omega arith) i ∙ ap (λ t. 0x3c ∷ t) (r.split ∙ rw (mark_sound s p 0x3e e (omega arith) m)
          (sym (append_assoc r.bytes (0x3e ∷ []) (drop e s))));
      stops = tt;
    }))))

-- ---- the message identifier

-- parts one after the other
stand_both : {X Y Z : List ℕ → Type 0} {t m r : List ℕ} → ((a b : List ℕ) → X a → Y b → Z (a ++ b)) → Stands X Any t m → Stands Y Any m r
    → Stands Z Any t r
stand_both {r} f x y = record {
  bytes = x.bytes ++ y.bytes;
  derives = f _ _ x.derives y.derives;
  split = x.split ∙ ap (λ l. x.bytes ++ l) y.split ∙ sym (append_assoc x.bytes y.bytes r);
  stops = tt;
}

bracket_not_name : in_class NameByte 0x5b ≡ false
unfolding in_class is_name is_word is_letter is_digit
bracket_not_name = refl

angle_not_name : in_class NameByte 0x3c ≡ false
unfolding in_class is_name is_word is_letter is_digit
angle_not_name = refl

address_head : {a : List ℕ} (t : List ℕ) → domain_address a → head (a ++ t) ≡ 0x5b
address_head t (IPv4address i j k l) = refl

domain_head : {a : List ℕ} (t : List ℕ) → domain_name a → head (a ++ t) ≡ 0x3c
domain_head t (domain x m l) = refl

pub m_id_complete : (s rest : List ℕ) {a : List ℕ} (at : ℕ) → m_id a → MidEnds rest → drop at s ≡ a ++ rest → Finds s (m_id_at s at) rest
unfolding m_id_at pick
m_id_complete s rest at (by_address {a} {b} x y) k h =
    let f : drop at s ≡ a ++ (b ++ rest) = h ∙ append_assoc a b rest in
    rw (is_at_head s _ at 0x5b f, address_head (b ++ rest) x) (finds_after s _ (port_at s) (address_complete s (b ++ rest) at x f)
    (λ p g. port_complete s rest p y k g))
m_id_complete s rest at (by_domain {a} {b} x y) k h =
    let f : drop at s ≡ a ++ (b ++ rest) = h ∙ append_assoc a b rest in
    rw (is_at_head s _ at 0x5b f, is_at_head s _ at 0x3c f, domain_head (b ++ rest) x)
    (finds_after s _ (port_at s) (domain_complete s (b ++ rest) at x f) (λ p g. port_complete s rest p y k g))
m_id_complete s rest at (device_name {a} x) k h =
    let i : is_at s at 0x5b ≡ false = is_at_head s _ at 0x5b h ∙ test_not (in_class NameByte) _ 0x5b bracket_not_name (path_first rest x) in
    let j : is_at s at 0x3c ≡ false = is_at_head s _ at 0x3c h ∙ test_not (in_class NameByte) _ 0x3c angle_not_name (path_first rest x) in
    rw (i, j) (finds s a rest at _ h (path_complete s rest at x k.no_name h).1)

pub m_id_sound : (s : List ℕ) (at e : ℕ) → m_id_at s at ≡ Some e → Stands m_id Any (drop at s) (drop e s)
unfolding m_id_at pick
m_id_sound s at e h = go (is_at s at 0x5b) (is_at s at 0x3c) refl refl h
  where
    go : (t u : Bool) → is_at s at 0x5b ≡ t → is_at s at 0x3c ≡ u
        → pick t (after (address_at s at) (port_at s)) (pick u (after (domain_at s at) (port_at s)) (path_name_at s at)) ≡ Some e
        → Stands m_id Any (drop at s) (drop e s)
    go true u i j f = after_next _ _ e f (λ p m l. stand_both (λ a b. by_address) (address_sound s at p i m) (port_sound s p e l))
    go false true i j f = after_next _ _ e f (λ p m l. stand_both (λ a b. by_domain) (domain_sound s at p j m) (port_sound s p e l))
    go false false i j f =
        let r = path_sound s at e f in record { bytes = r.bytes; derives = device_name r.derives.0; split = r.split; stops = tt }
