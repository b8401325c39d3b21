-- The plan of a row, item by item: one test computed over all counts of lines.
use Prim.Native.Nat.{ℕ, zero, suc, ◌+◌}
use mathlib.Core.Path.{◌≡◌, refl, sym, ap}
use mathlib.Core.Bool.{Bool, true, false}
use mathlib.Core.List.{List, [], ◌∷◌, ◌++◌}
use native.Mathlib.Omega.{arith}
use lib.Dec.{eqb}
use borrow.Author.Tests.{eqb-true}
use Rattle.base.specs.Pick.{pick}
use Rattle.base.proofs.TestLaws.{clash, pick_both, below}
use Rattle.megaco.specs.Table.{most_lines, is_ephemeral}
use Rattle.groups.specs.Groups.{number}
use Rattle.groups.specs.Rows.{encode}
use Rattle.row_laws.specs.Items.{Lines, termination_items, context_items, each, plan}
use Rattle.row_laws.specs.Row.{numbers_in, numbers_of, row_of}
use Rattle.row_laws.specs.Filling.{items, termination_item, context_item, item_at, numbers_from}
use Rattle.row_laws.specs.declared.Item.{Item}
use Rattle.row_laws.specs.declared.Item.TheVariants.{Word, Side}
use Rattle.row_laws.proofs.ItemLaws.{of_count}

unfoldable same_item : Item → Item → Bool
same_item (Word a) (Word b) = eqb a b
same_item (Word a) (Side b) = false
same_item (Side a) (Word b) = false
same_item (Side a) (Side b) = eqb a b

same_item_lem : (a b : Item) → same_item a b ≡ true → a ≡ b
unfolding same_item
same_item_lem (Word a) (Word b) e = ap Word (eqb-true a b e)
same_item_lem (Word a) (Side b) e = absurd (clash (sym e))
same_item_lem (Side a) (Word b) e = absurd (clash (sym e))
same_item_lem (Side a) (Side b) e = ap Side (eqb-true a b e)

-- a list is the k items from item j on
unfoldable listed : ℕ → List Item → ℕ → ℕ → Bool
listed n [] k j = eqb k 0
listed n (s ∷ ss) zero j = false
listed n (s ∷ ss) (suc k) j = let r = listed n ss k (j + 1) in pick (same_item s (item_at n j)) r false

plan_listed : below (λ n. listed (n + 1) (plan (n + 1)) (items (n + 1)) 0) most_lines ≡ true
unfolding below listed same_item plan each termination_items context_items is_ephemeral item_at termination_item context_item pick
plan_listed = refl

in_order : (n : ℕ) (t : List ℕ) (ss : List Item) (k j : ℕ) → listed n ss k j ≡ true → numbers_in t ss ≡ numbers_from n t k j
unfolding listed numbers_in numbers_from
in_order n t [] zero j e = refl
in_order n t [] (suc k) j e = let z : suc k ≡ 0 = eqb-true (suc k) 0 e in absurd (omega arith)
in_order n t (s ∷ ss) zero j e = absurd (clash (sym e))
in_order n t (s ∷ ss) (suc k) j e =
    let b = pick_both (same_item s (item_at n j)) (listed n ss k (j + 1)) e in
    let p : s ≡ item_at n j = same_item_lem s (item_at n j) b.0 in
    rw (p, in_order n t ss k (j + 1) b.1)

module _ (n : ℕ) (l : Lines n) (t : List ℕ) where
  pub numbers_are : numbers_of n t ≡ n ∷ numbers_from n t (items n) 0
  unfolding numbers_of
  numbers_are = ap (λ (xs : List ℕ). n ∷ xs) (in_order n t (plan n) (items n) 0 (of_count (λ n. listed n (plan n) (items n) 0) n l plan_listed))

  pub row_is : row_of n t ≡ number n ++ encode (numbers_from n t (items n) 0)
  unfolding row_of encode
  row_is = ap encode numbers_are
