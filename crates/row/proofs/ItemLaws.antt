-- Where an item stands, in the form in which `search` uses the laws.
use Prim.Native.Nat.{ℕ, ◌+◌, ◌-◌, ◌*◌, ◌/◌, ◌%◌, ◌<◌, ◌≤◌}
use mathlib.Core.Path.{◌≡◌, ap, ◌∙◌}
use mathlib.Core.Bool.{false}
use native.Mathlib.Omega.{arith}
use lib.Dec.{eqb}
use borrow.Author.Tests.{lt-ltb, le-ltb, eq-eqb, ne_eqb}
use Rattle.base.specs.Pick.{pick}
use Rattle.megaco.specs.Table.{line_terminations, start_of}
use Rattle.row_laws.specs.Filling.{of_lines, of_terminations, items, termination_item, context_item, item_at}
use Rattle.row_laws.specs.declared.Item.{Item}
use Rattle.row_laws.specs.declared.Item.TheVariants.{Word, Side}

pub items_are : (n f : ℕ) → f ≡ line_terminations n → 2 * f + 256 + 384 ≡ items n
items_are n f e = omega (arith, e)

module _ (n i k : ℕ) where
  pub its_context : k ≡ 0 → Word i ≡ termination_item n i k
  unfolding termination_item pick
  its_context e = rw (eq-eqb k 0 e)

  pub its_property : (a : ℕ) → (k ≡ 0 → ⊥) → k < 2 → a ≡ start_of n 1 → Word (a + i) ≡ termination_item n i k
  unfolding termination_item pick
  its_property a e h p = rw (ne_eqb k 0 e, eq-eqb k 1 (omega (arith, e, h)), p)

module _ (n e k : ℕ) where
  pub ephemeral_word : (f : ℕ) (r : Item) → f ≡ line_terminations n → r ≡ termination_item n (f + e) k → r ≡ termination_item n (line_terminations n + e) k
  ephemeral_word f r p q = rw p at q

  pub ephemeral_side : (a : ℕ) → 2 ≤ k → k < 4 → a ≡ start_of n 5 → Side (a + (8 * e + 4 * (k - 2))) ≡ termination_item n (line_terminations n + e) k
  unfolding termination_item pick
  ephemeral_side a h l p =
      let x : eqb k 0 ≡ false = ne_eqb k 0 (λ (z : k ≡ 0). omega arith) in
      let y : eqb k 1 ≡ false = ne_eqb k 1 (λ (z : k ≡ 1). omega arith) in
      let w : ℕ = 8 * (line_terminations n + e) + 4 * (k - 2) + 0 in
      let q : w / 8 ≡ line_terminations n + e = omega arith in
      let m : w % 8 ≡ 4 * (k - 2) = omega arith in
      rw (x, y) (ap Side (omega (arith, p, q, m)))

module _ (n c k : ℕ) where
  pub its_record : (a : ℕ) → k ≡ 0 → a ≡ start_of n 2 → Word (a + c) ≡ context_item n (c + 1) k
  unfolding context_item pick
  its_record a e p = rw (eq-eqb k 0 e) (ap Word (omega (arith, p)))

  pub its_flow : (a : ℕ) → (k ≡ 0 → ⊥) → a ≡ start_of n 4 → Word (a + (2 * c + (k - 1))) ≡ context_item n (c + 1) k
  unfolding context_item pick
  its_flow a e p = rw (ne_eqb k 0 e) (ap Word (omega (arith, p)))

module _ (n j f : ℕ) (p : f ≡ line_terminations n) (r : Item) where
  pub of_line : j < 2 * f → r ≡ termination_item n (j / 2) (j % 2) → r ≡ item_at n j
  unfolding item_at pick
  of_line h q = q ∙ rw (lt-ltb j (of_lines n) (omega (arith, p, h)))

  pub of_ephemeral : 2 * f ≤ j → j < 2 * f + 256 → r ≡ termination_item n (line_terminations n + (j - 2 * f) / 4) ((j - 2 * f) % 4) → r ≡ item_at n j
  unfolding item_at pick
  of_ephemeral h k q = (rw p at q) ∙ rw (le-ltb j (of_lines n) (omega (arith, p, h)), lt-ltb j (of_terminations n) (omega (arith, p, k)))

  pub of_context : 2 * f ≤ j → 2 * f + 256 ≤ j → r ≡ context_item n ((j - (2 * f + 256)) / 3 + 1) ((j - (2 * f + 256)) % 3) → r ≡ item_at n j
  unfolding item_at pick
  of_context h k q = (rw p at q) ∙ rw (le-ltb j (of_lines n) (omega (arith, p, h)), le-ltb j (of_terminations n) (omega (arith, p, k)))
