-- The gateway's own mId ('Calls turned down', 4): the whole slice is an mId of the grammar, of at most 64 bytes.
use Rattle.std.specs.Prelude.{Some, None}
use Rattle.protocol.specs.Types.{number}
use Prim.Native.Nat.{ℕ, suc, ◌+◌, ◌*◌, ◌-◌, ◌<◌, ◌≤◌}
use mathlib.Core.Path.{◌≡◌, sym, ap, ◌∙◌}
use mathlib.Core.Logic.{◌↔◌}
use mathlib.Core.Bool.{Bool, true, false, false≢true}
use mathlib.Core.List.{List, [], ◌∷◌, ◌++◌, append-nil}
use lib.ListN.{length, drop, length-drop}
use lib.Seq.{drop-length}
use lib.Dec.{leb, ltb}
use borrow.Author.Tests.{leb-true, le-leb, eqb-true, eq-eqb}
use native.Mathlib.Omega.{arith}
use Rattle.base.specs.Pick.{pick}
use Rattle.base.specs.Lists.{is_at}
use Rattle.megaco.specs.Bytes.{colon, star, is_digit, in_class}
use Rattle.megaco.specs.Tokens.{mark_at, letter_at, row_from, row_at, path_start, path_name_at, number_end, number_from, number_at, port_at, octet_at, address_at, domain_at, m_id_at, whole_at, is_mid}
use Rattle.protocol.specs.Types.{Class, NameByte, Parsed}
use Rattle.grammar.specs.Grammar.{m_id}
use Rattle.grammar.proofs.Classes.{and_both, and_parts}
use Rattle.grammar.proofs.Places.{is_at_cons, whether, given, next_same, pick_next, after_next, number_next}
use Rattle.grammar.proofs.RowLaws.{up_to_64, number_end_lem, not_bad}
use Rattle.grammar.proofs.MidLaws.{end_mid, m_id_complete, m_id_sound}

-- ---- no reader goes past the end of the text

module _ (s : List ℕ) where
  sign_within : (b at : ℕ) → 0 < b → is_at s at b ≡ true → at + 1 ≤ length s
  sign_within b at z i = omega (arith, sym (length-drop at s) ∙ ap length (is_at_cons s at b z i))

  mark_within : (b at e : ℕ) → 0 < b → mark_at b s at ≡ Some e → e ≤ length s
  unfolding mark_at
  mark_within b at e z h = given (pick_next (is_at s at b) _ e h) (λ p. omega (arith, sign_within b at z p.0, next_same p.1))

row_within : (k : Class) (t : List ℕ) (n : ℕ) → row_from k t n ≤ n + length t
unfolding row_from pick
row_within k [] n = omega arith
row_within k (b ∷ t) n = go (in_class k b) (row_within k t (n + 1))
  where
    go : (x : Bool) → row_from k t (n + 1) ≤ n + 1 + length t → pick x (row_from k t (n + 1)) n ≤ n + suc (length t)
    go true r = omega arith
    go false r = omega arith

number_within : (at most limit : ℕ) (t : List ℕ) (n v x e : ℕ) → number_from at most limit t n v ≡ number x e → e ≤ n + length t
unfolding number_from pick
number_within at most limit [] n v x e h = omega (arith, (number_end_lem at n v x e h).1)
number_within at most limit (b ∷ t) n v x e h = go (is_digit b) h (number_within at most limit t (n + 1) (v * 10 + (b - 48)) x e)
  where
    go : (y : Bool)
        → pick y (pick (leb most (n - at)) None (pick (ltb limit (v * 10 + (b - 48))) None (number_from at most limit t (n + 1) (v * 10 + (b - 48)))))
        (number_end at n v) ≡ number x e → (number_from at most limit t (n + 1) (v * 10 + (b - 48)) ≡ number x e → e ≤ n + 1 + length t) → e ≤ n + suc
        (length t)
    go true f r = omega (arith, r (not_bad (ltb limit (v * 10 + (b - 48))) _ (not_bad (leb most (n - at)) _ f).1).1)
    go false f r = omega (arith, (number_end_lem at n v x e f).1)

module _ (s : List ℕ) where
  number_at_within : (at most limit v e : ℕ) → at ≤ length s → number_at s at most limit ≡ number v e → e ≤ length s
  unfolding number_at
  number_at_within at most limit v e l h = omega (arith, number_within at most limit (drop at s) at 0 v e h, length-drop at s)

  port_within : (at e : ℕ) → at ≤ length s → port_at s at ≡ Some e → e ≤ length s
  unfolding port_at pick
  port_within at e l h = whether (is_at s at colon)
      (λ t. number_next _ Some e (rw t at h) (λ v p n m. omega
      (arith, number_at_within (at + 1) 5 65535 v p (sign_within s colon at (omega arith) t) n, next_same m)))
      (λ t. omega (arith, next_same (rw t at h)))

  octet_within : (b at e : ℕ) → 0 < b → octet_at b s at ≡ Some e → e ≤ length s
  unfolding octet_at
  octet_within b at e z h = number_next _ (mark_at b s) e h (λ v p n m. mark_within s b p e z m)

  address_within : (at e : ℕ) → address_at s at ≡ Some e → e ≤ length s
  unfolding address_at
  address_within at e h =
      after_next _ _ e h (λ p m h. after_next _ _ e h (λ q m h. after_next _ _ e h (λ r m h. octet_within 0x5d r e (omega arith) h)))

  domain_within : (at e : ℕ) → domain_at s at ≡ Some e → e ≤ length s
  unfolding domain_at
  domain_within at e h = given (pick_next _ _ e h) (λ k. after_next _ _ e k.1 (λ p u m. mark_within s 0x3e p e (omega arith) m))

  start_within : (at : ℕ) → at ≤ length s → path_start s at ≤ length s
  unfolding path_start pick
  start_within at l = whether (is_at s at star) (λ t. rw t (sign_within s star at (omega arith) t)) (λ t. rw t l)

  path_within : (at e : ℕ) → at ≤ length s → path_name_at s at ≡ Some e → e ≤ length s
  unfolding path_name_at row_at
  path_within at e l h =
      let p = path_start s at in
      given (up_to_64 at (row_at NameByte s p) e (pick_next (letter_at s p) _ e h).1) (λ q.
      omega (arith, row_within NameByte (drop p s) p, length-drop p s, start_within at l, q.0))

  m_id_within : (at e : ℕ) → at ≤ length s → m_id_at s at ≡ Some e → e ≤ length s
  unfolding m_id_at pick
  m_id_within at e l h = whether (is_at s at 0x5b)
      (λ t. after_next _ _ e (rw t at h) (λ p m h. port_within p e (address_within at p m) h))
      (λ t. given (rw t at h) (λ h. whether (is_at s at 0x3c)
      (λ t. after_next _ _ e (rw t at h) (λ p m h. port_within p e (domain_within at p m) h))
      (λ t. path_within at e l (rw t at h))))

-- ---- the whole slice

whole_next : (r : Parsed) (n : ℕ) → whole_at r n ≡ true → r ≡ Some n
unfolding whole_at
whole_next (Some p) n h = ap Some (eqb-true p n h)
whole_next None n h = absurd (false≢true h)

pub own_mid_lem : (own : List ℕ) → is_mid own ≡ true ↔ m_id own × (length own ≤ 64)
unfolding is_mid whole_at
own_mid_lem own = (to, from)
  where
    to : is_mid own ≡ true → m_id own × (length own ≤ 64)
    to h = given (and_parts (leb (length own) 64) _ h) (λ p.
        given (m_id_sound own 0 (length own) (whole_next (m_id_at own 0) (length own) p.1)) (λ y.
        let z : own ≡ y.bytes = y.split ∙ ap (λ t. y.bytes ++ t) (drop-length own) ∙ append-nil y.bytes in
        (rw (← z) at y.derives, leb-true (length own) 64 p.0)))

    from : m_id own × (length own ≤ 64) → is_mid own ≡ true
    from x = given (m_id_complete own [] 0 x.0 end_mid (sym (append-nil own))) (λ y.
        let n : length own - y.end ≡ 0 = sym (length-drop y.end own) ∙ ap length y.leaves in
        let e : y.end ≡ length own = omega (arith, m_id_within own 0 y.end (omega arith) y.is) in
        and_both (leb (length own) 64) _ (le-leb _ _ x.1) (rw y.is (eq-eqb y.end (length own) e)))
