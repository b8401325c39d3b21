-- A name without `*` and `$` means a termination of the table, ROOT, or none.
use Prim.Native.Nat.{ℕ, ◌+◌, ◌*◌, ◌-◌, ◌≤◌, ◌<◌}
use mathlib.Core.Path.{◌≡◌, refl, sym, ◌∙◌}
use mathlib.Core.Bool.{Bool, true, false, ◌&&◌}
use mathlib.Core.List.{List, [], ◌∷◌}
use lib.Dec.{eqb, leb, ltb}
use borrow.Author.Tests.{leb-true, ltb-true, ne_eqb}
use native.Mathlib.Omega.{arith}
use Rattle.base.specs.Pick.{pick}
use Rattle.base.specs.Lists.{has}
use Rattle.megaco.specs.Bytes.{star, dollar, capital, capitals}
use Rattle.megaco.specs.Table.{terminations, channels, ephemerals}
use Rattle.megaco.specs.Names.{within, line_name, ephemeral_name, plain_name, capital_name, name_of}
use Rattle.protocol.specs.Types.{Name, Termination, Root, Unknown}
use Rattle.base.proofs.TestLaws.{clash, and_left, and_right}

pub data Plain (lines : ℕ) : Name → Type 0 where
  a_termination : {i : ℕ} → i < terminations lines → Plain lines (Termination i)
  root : Plain lines Root
  unknown : Plain lines Unknown

pub plain_below : (lines : ℕ) {i : ℕ} → Plain lines (Termination i) → i < terminations lines
plain_below lines (a_termination h) = h

plain_pick : (lines : ℕ) (b : Bool) (x y : Name) → (b ≡ true → Plain lines x) → Plain lines y → Plain lines (pick b x y)
unfolding pick
plain_pick lines true x y p q = p refl
plain_pick lines false x y p q = q

-- letters are none of the signs before them
capital_sign : (b x : ℕ) → b < 65 → eqb (capital x) b ≡ eqb x b
unfolding capital pick
capital_sign b x h = by (leb 97 x && leb x 122) refl
  where
    by : (s : Bool) → leb 97 x && leb x 122 ≡ s → eqb (pick s (x - 32) x) b ≡ eqb x b
    by true e =
        let l : 97 ≤ x = leb-true 97 x (and_left (leb 97 x) (leb x 122) e) in
        ne_eqb (x - 32) b (omega arith) ∙ sym (ne_eqb x b (omega arith))
    by false e = refl

has_capitals : (b : ℕ) (n : List ℕ) → b < 65 → has b (capitals n) ≡ has b n
unfolding has capitals
has_capitals b [] h = refl
has_capitals b (x ∷ xs) h = rw (capital_sign b x h, has_capitals b xs h)

within_range : (x m : ℕ) → within x m ≡ true → (0 < x) × (x ≤ m)
unfolding within
within_range x m e = (ltb-true 0 x (and_left (ltb 0 x) (leb x m) e), leb-true x m (and_right (ltb 0 x) (leb x m) e))

module _ (lines : ℕ) where
  line_plain : (l s : ℕ) → Plain lines (line_name lines l s)
  unfolding line_name
  line_plain l s = plain_pick lines (within l lines && within s channels) _ _ (λ e. a_termination (below e)) unknown
    where
      below : within l lines && within s channels ≡ true → channels * (l - 1) + (s - 1) < terminations lines
      below e =
          let q = within_range l lines (and_left (within l lines) (within s channels) e) in
          let r = within_range s channels (and_right (within l lines) (within s channels) e) in
          omega arith

  ephemeral_plain : (k : ℕ) → Plain lines (ephemeral_name lines k)
  unfolding ephemeral_name
  ephemeral_plain k = plain_pick lines (within k ephemerals) _ _ (λ e. a_termination (let q = within_range k ephemerals e in omega arith)) unknown

  plain_name_plain : (n : List ℕ) → Plain lines (plain_name lines n)
  unfolding plain_name
  plain_name_plain n = plain_pick lines _ _ _ (λ e. line_plain _ _) (plain_pick lines _ _ _ (λ e. ephemeral_plain _) unknown)

  capital_name_plain : (n : List ℕ) → has dollar n ≡ false → has star n ≡ false → Plain lines (capital_name lines n)
  unfolding capital_name
  capital_name_plain n d s =
      plain_pick lines _ _ _ (λ e. root)
      (plain_pick lines (has dollar n) _ _ (λ e. absurd (clash (sym e ∙ d))) (plain_pick lines (has star n) _ _ (λ e. absurd (clash (sym e ∙ s))) (plain_name_plain n)))

  pub plain_name_lem : (n : List ℕ) → has star n ≡ false → has dollar n ≡ false → Plain lines (name_of lines n)
  unfolding name_of
  plain_name_lem n s d = capital_name_plain (capitals n) (has_capitals dollar n (omega arith) ∙ d) (has_capitals star n (omega arith) ∙ s)
