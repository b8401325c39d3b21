-- The items of a row take each word of the table once, but for the map: tests computed over all counts of lines.
use Prim.Native.Nat.{ℕ, ◌+◌, ◌-◌, ◌*◌, ◌/◌, ◌%◌, ◌<◌, ◌≤◌}
use mathlib.Core.Path.{◌≡◌, refl, sym, ◌∙◌}
use mathlib.Core.Bool.{Bool, true, false, ◌&&◌, ◌||◌}
use mathlib.Core.List.{List, [], ◌∷◌}
use native.Mathlib.Omega.{arith}
use lib.Dec.{ltb, leb, eqb}
use borrow.Author.Tests.{ltb-true, leb-true, eqb-true, lt-ltb, le-ltb, eq-eqb, ne_eqb}
use Rattle.base.specs.Pick.{pick}
use Rattle.base.specs.Lists.{every, has}
use Rattle.base.proofs.TestLaws.{clash, and_both, pick_both, below, below_at}
use Rattle.megaco.specs.Table.{most_lines, line_terminations, terminations, start_of, map_start, words}
use Rattle.row_laws.specs.Items.{Lines}
use Rattle.row_laws.specs.Filling.{of_lines, of_terminations, items, termination_item, context_item, item_at, words_of}
use Rattle.row_laws.specs.declared.Item.{Item}
use Rattle.row_laws.specs.declared.Item.TheVariants.{Word, Side}

-- the item of a word; that of the map's is past the last
unfoldable pub owner : ℕ → ℕ → ℕ
owner n w =
    pick (ltb w (terminations n)) (item_of w 0)
    (pick (ltb w (start_of n 2)) (item_of (w - terminations n) 1)
    (pick (ltb w (map_start n)) (of_terminations n + 3 * (w - start_of n 2))
    (pick (ltb w (start_of n 4)) (items n)
    (pick (ltb w (start_of n 5)) (of_terminations n + 1 + 3 * ((w - start_of n 4) / 2) + (w - start_of n 4) % 2)
    (of_lines n + 4 * ((w - start_of n 5) / 8) + 2 + (w - start_of n 5) % 8 / 4)))))
  where
    item_of : ℕ → ℕ → ℕ
    item_of i r = pick (ltb i (line_terminations n)) (2 * i + r) (of_lines n + 4 * (i - line_terminations n) + r)

-- Local and Remote stand in the last region, four words after four words
unfoldable side_stands : ℕ → Item → Bool
side_stands n (Word k) = true
side_stands n (Side k) = leb (start_of n 5) k && eqb ((k - start_of n 5) % 4) 0

unfoldable item_owned : ℕ → ℕ → Bool
item_owned n j = every (λ w. eqb (owner n w) j && ltb w (words n)) (words_of (item_at n j)) && side_stands n (item_at n j)

unfoldable word_owned : ℕ → ℕ → Bool
word_owned n w = ltb (owner n w) (items n) && has w (words_of (item_at n (owner n w))) || eqb w (map_start n) || eqb w (map_start n + 1)

items_owned : below (λ n. below (item_owned (n + 1)) (items (n + 1))) most_lines ≡ true
unfolding below item_owned side_stands owner item_at termination_item context_item words_of every pick
items_owned = refl

words_owned : below (λ n. below (word_owned (n + 1)) (words (n + 1))) most_lines ≡ true
unfolding below word_owned owner item_at termination_item context_item words_of has pick
words_owned = refl

-- ---- what the tests tell

pub every_has : (p : ℕ → Bool) (l : List ℕ) (w : ℕ) → every p l ≡ true → has w l ≡ true → p w ≡ true
unfolding every has pick
every_has p [] w e h = absurd (clash (sym h))
every_has p (x ∷ l) w e h = by (eqb x w) refl h (λ i. every_has p l w (pick_both (p x) (every p l) e).1 i)
  where
    by : (b : Bool) → eqb x w ≡ b → pick b true (has w l) ≡ true → (has w l ≡ true → p w ≡ true) → p w ≡ true
    by true f h g = rw (← (eqb-true x w f)) (pick_both (p x) (every p l) e).0
    by false f h g = g h

-- a test computed over all counts holds of one
pub of_count : (p : ℕ → Bool) (n : ℕ) → Lines n → below (λ m. p (m + 1)) most_lines ≡ true → p n ≡ true
of_count p n l e = let m : n - 1 + 1 ≡ n = omega arith in rw m at (below_at (λ m. p (m + 1)) most_lines (n - 1) e (omega arith))

module _ (n : ℕ) (l : Lines n) where
  item_owned_lem : (j : ℕ) → j < items n → (every (λ w. eqb (owner n w) j && ltb w (words n)) (words_of (item_at n j)) ≡ true) × (side_stands n (item_at n j) ≡ true)
  unfolding item_owned
  item_owned_lem j h = and_both _ _ (below_at (item_owned n) (items n) j (of_count (λ n. below (item_owned n) (items n)) n l items_owned) h)

  module _ (j w : ℕ) (h : j < items n) (e : has w (words_of (item_at n j)) ≡ true) where
    both : (owner n w ≡ j) × (w < words n)
    both =
        let c = and_both (eqb (owner n w) j) (ltb w (words n)) (every_has (λ w. eqb (owner n w) j && ltb w (words n)) (words_of (item_at n j)) w (item_owned_lem j h).0 e) in
        (eqb-true (owner n w) j c.0, ltb-true w (words n) c.1)

    pub owned : owner n w ≡ j
    owned = both.0

    pub inside : w < words n
    inside = both.1

  -- no item has a word of the map
  pub no_item : (w : ℕ) → map_start n ≤ w → w < start_of n 4 → owner n w ≡ items n
  unfolding owner pick
  no_item w h k =
      let a : ltb w (terminations n) ≡ false = le-ltb w (terminations n) (omega arith) in
      let b : ltb w (start_of n 2) ≡ false = le-ltb w (start_of n 2) (omega arith) in
      let c : ltb w (map_start n) ≡ false = le-ltb w (map_start n) h in
      let d : ltb w (start_of n 4) ≡ true = lt-ltb w (start_of n 4) k in
      rw (a, b, c, d)

  pub covered : (w : ℕ) → w < words n → (w ≡ map_start n → ⊥) → (w ≡ map_start n + 1 → ⊥) → (owner n w < items n) × (has w (words_of (item_at n (owner n w))) ≡ true)
  unfolding word_owned
  covered w h p q =
      let c : word_owned n w ≡ true = below_at (word_owned n) (words n) w (of_count (λ n. below (word_owned n) (words n)) n l words_owned) h in
      by (ltb (owner n w) (items n) && has w (words_of (item_at n (owner n w)))) refl (rw (ne_eqb w (map_start n) p, ne_eqb w (map_start n + 1) q) at c)
    where
      by : (x : Bool) → (ltb (owner n w) (items n) && has w (words_of (item_at n (owner n w)))) ≡ x → (x || false || false) ≡ true → (owner n w < items n) × (has w (words_of (item_at n (owner n w))) ≡ true)
      by true f g = let c = and_both (ltb (owner n w) (items n)) (has w (words_of (item_at n (owner n w)))) f in (ltb-true (owner n w) (items n) c.0, c.1)
      by false f g = absurd (clash (sym g))

  -- the places of an item's words are small
  pub side_small : (j k : ℕ) (s : Item) → j < items n → s ≡ item_at n j → s ≡ Side k → k ≤ 4096
  unfolding words_of has pick
  side_small j k s h e f = omega (arith, inside j k h (rw (sym e ∙ f, eq-eqb k k refl)))

  -- side i of 128
  pub record SideAt (k : ℕ) : Type 0 where
    pub i : ℕ
    pub is : k ≡ start_of n 5 + 4 * i
    pub few : i < 128

  pub side_at : (j k : ℕ) → j < items n → item_at n j ≡ Side k → SideAt k
  unfolding side_stands words_of has pick
  side_at j k h e =
      let a = and_both (leb (start_of n 5) k) (eqb ((k - start_of n 5) % 4) 0) (rw e at (item_owned_lem j h).1) in
      let b : start_of n 5 ≤ k = leb-true (start_of n 5) k a.0 in
      let c : (k - start_of n 5) % 4 ≡ 0 = eqb-true ((k - start_of n 5) % 4) 0 a.1 in
      let d : k < words n = inside j k h (rw (e, eq-eqb k k refl)) in
      record { i = (k - start_of n 5) / 4; is = omega (arith, b, c); few = omega (arith, b, d) }
