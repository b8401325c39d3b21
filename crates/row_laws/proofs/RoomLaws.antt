-- How long a sound table's row is at most: 4,369 bytes.
use Prim.Native.Nat.{ℕ, zero, suc, ◌+◌, ◌*◌, ◌/◌, ◌%◌, ◌<◌, ◌≤◌}
use mathlib.Core.Path.{◌≡◌, refl, ap}
use mathlib.Core.Bool.{Bool, true, false}
use mathlib.Core.List.{List, [], ◌∷◌, ◌++◌}
use native.Mathlib.Omega.{arith}
use lib.ListN.{length, get_or, length-append}
use lib.Dec.{ltb, leb, eqb}
use borrow.Author.Tests.{ltb-true, ltb-false, leb-true}
use Rattle.base.specs.Pick.{pick}
use Rattle.base.proofs.TestLaws.{below}
use Rattle.megaco.specs.Table.{most_lines, terminations, map_start}
use Rattle.groups.specs.Groups.{groups_f, number}
use Rattle.groups.specs.Rows.{encode}
use Rattle.groups.proofs.RowLaws.{encode_append}
use Rattle.row_laws.specs.Items.{Lines}
use Rattle.row_laws.specs.Row.{item_numbers, numbers_of, row_of}
use Rattle.row_laws.specs.Filling.{items, termination_item, context_item, item_at, numbers_from}
use Rattle.row_laws.specs.Answers.{sound_of}
use Rattle.row_laws.specs.declared.Item.{Item}
use Rattle.row_laws.specs.declared.Item.TheVariants.{Word, Side}
use Rattle.row_laws.proofs.ItemLaws.{of_count, side_at}
use Rattle.row_laws.proofs.OrderLaws.{numbers_are}
use Rattle.row_laws.proofs.SoundLaws.{SideSound, lines, context_word, small_word, side_sound}

-- ---- sums over the items, computed

unfoldable sum_over : (Item → ℕ) → ℕ → ℕ → ℕ → ℕ
sum_over f n zero j = 0
sum_over f n (suc k) j = f (item_at n j) + sum_over f n k (j + 1)

-- bytes of an item: two of a context, one of properties or a record, five of a flow word, ten of Local or Remote
unfoldable space : ℕ → Item → ℕ
space n (Word k) = pick (ltb k (terminations n)) 2 (pick (ltb k (map_start n)) 1 5)
space n (Side k) = 10

space_total : below (λ n. leb (sum_over (space (n + 1)) (n + 1) (items (n + 1)) 0) 4368) most_lines ≡ true
unfolding below sum_over space item_at termination_item context_item pick
space_total = refl

-- ---- numbers

abbrev sevens : ℕ → ℕ
sevens zero = 128
sevens (suc j) = 128 * sevens j

length_groups : (k j x : ℕ) → x < sevens j → length (groups_f k x) ≤ suc j
unfolding groups_f pick
length_groups zero j x h = omega arith
length_groups (suc k) j x h = by (ltb x 128) refl j h (λ i l. length_groups k i (x / 128) l)
  where
    by : (t : Bool) → ltb x 128 ≡ t → (j : ℕ) → x < sevens j → ((i : ℕ) → x / 128 < sevens i → length (groups_f k (x / 128)) ≤ suc i)
        → length (pick t (x ∷ []) ((128 + x % 128) ∷ groups_f k (x / 128))) ≤ suc j
    by true e j h f = omega arith
    by false e zero h f = absurd (omega (arith, ltb-false x 128 e))
    by false e (suc j) h f = omega (arith, f j (omega arith))

most_groups : (k x : ℕ) → length (groups_f k x) ≤ suc k
unfolding groups_f pick
most_groups zero x = omega arith
most_groups (suc k) x = by (ltb x 128) (most_groups k (x / 128))
  where
    by : (t : Bool) → length (groups_f k (x / 128)) ≤ suc k → length (pick t (x ∷ []) ((128 + x % 128) ∷ groups_f k (x / 128))) ≤ suc (suc k)
    by true h = omega arith
    by false h = omega arith

in_groups : (j x : ℕ) → x < sevens j → length (number x) ≤ suc j
unfolding number
in_groups j x h = length_groups 4 j x h

five : (x : ℕ) → length (number x) ≤ 5
unfolding number
five x = most_groups 4 x

length_cons : (x : ℕ) (xs : List ℕ) → length (encode (x ∷ xs)) ≡ length (number x) + length (encode xs)
unfolding encode
length_cons x xs = length-append (number x) (encode xs)

length_none : length (encode []) ≡ 0
unfolding encode
length_none = refl

length_one : (x : ℕ) → length (encode (x ∷ [])) ≡ length (number x)
length_one x = omega (arith, length_cons x [], length_none)

-- ---- items

side_space : (f a p y : ℕ) → SideSound f a p y → length (encode (pick (eqb f 0) (0 ∷ []) (f ∷ a ∷ p ∷ y ∷ []))) ≤ 10
unfolding pick
side_space f a p y s = by (eqb f 0)
  where
    by : (b : Bool) → length (encode (pick b (0 ∷ []) (f ∷ a ∷ p ∷ y ∷ []))) ≤ 10
    by true = omega (arith, length_one 0, five 0)
    by false =
        let x₀ : length (number f) ≤ 1 = in_groups 0 f (omega (arith, s.flag)) in
        let x₁ : length (number a) ≤ 5 = five a in
        let x₂ : length (number p) ≤ 3 = in_groups 2 p (omega (arith, s.port)) in
        let x₃ : length (number y) ≤ 1 = in_groups 0 y (omega (arith, s.kind)) in
        omega (arith, length_cons f (a ∷ p ∷ y ∷ []), length_cons a (p ∷ y ∷ []), length_cons p (y ∷ []), length_one y)

module _ (n : ℕ) (t : List ℕ) (e : sound_of n t ≡ true) where
  word_space : (k : ℕ) → length (encode (get_or t k 0 ∷ [])) ≤ space n (Word k)
  unfolding space pick
  word_space k = by (ltb k (terminations n)) refl (ltb k (map_start n)) refl
    where
      by : (a : Bool) → ltb k (terminations n) ≡ a → (b : Bool) → ltb k (map_start n) ≡ b → length (encode (get_or t k 0 ∷ [])) ≤ pick a 2 (pick b 1 5)
      by true p b q = omega (arith, length_one (get_or t k 0), in_groups 1 (get_or t k 0) (omega (arith, context_word n t e k (ltb-true k (terminations n) p))))
      by false p true q = omega (arith, length_one (get_or t k 0), in_groups 0 (get_or t k 0) (small_word n t e k (ltb-false k (terminations n) p) (ltb-true k (map_start n) q)))
      by false p false q = omega (arith, length_one (get_or t k 0), five (get_or t k 0))

  item_space : (j : ℕ) → j < items n → length (encode (item_numbers t (item_at n j))) ≤ space n (item_at n j)
  unfolding item_numbers space
  item_space j h = by (item_at n j) refl
    where
      by : (s : Item) → item_at n j ≡ s → length (encode (item_numbers t s)) ≤ space n s
      by (Word k) f = word_space k
      by (Side k) f = let a = side_at n (lines n t e) j k h f in side_space _ _ _ _ (side_sound n t e k a.i a.is a.few)

-- ---- rows

from_space : (n : ℕ) (t : List ℕ) (k j : ℕ) → ((i : ℕ) → i < j + k → length (encode (item_numbers t (item_at n i))) ≤ space n (item_at n i))
    → length (encode (numbers_from n t k j)) ≤ sum_over (space n) n k j
unfolding numbers_from sum_over
from_space n t zero j f = omega (arith, length_none)
from_space n t (suc k) j f =
    let a : encode (item_numbers t (item_at n j) ++ numbers_from n t k (j + 1)) ≡ encode (item_numbers t (item_at n j)) ++ encode (numbers_from n t k (j + 1)) = encode_append (item_numbers t (item_at n j)) (numbers_from n t k (j + 1)) in
    let b = length-append (encode (item_numbers t (item_at n j))) (encode (numbers_from n t k (j + 1))) in
    let c : length (encode (item_numbers t (item_at n j))) ≤ space n (item_at n j) = f j (omega arith) in
    let d : length (encode (numbers_from n t k (j + 1))) ≤ sum_over (space n) n k (j + 1) = from_space n t k (j + 1) (λ i h. f i (omega arith)) in
    rw a (omega (arith, b, c, d))

pub row_fits : (n : ℕ) (t : List ℕ) → sound_of n t ≡ true → length (row_of n t) ≤ 4369
unfolding row_of
row_fits n t e =
    let l : Lines n = lines n t e in
    let b = leb-true (sum_over (space n) n (items n) 0) 4368 (of_count (λ n. leb (sum_over (space n) n (items n) 0) 4368) n l space_total) in
    let c : length (encode (numbers_from n t (items n) 0)) ≤ sum_over (space n) n (items n) 0 = from_space n t (items n) 0 (λ i h. item_space n t e i (omega arith)) in
    let q : length (encode (numbers_of n t)) ≡ length (encode (n ∷ numbers_from n t (items n) 0)) = ap (λ (xs : List ℕ). length (encode xs)) (numbers_are n l t) in
    let d : length (number n) ≤ 1 = in_groups 0 n (omega arith) in
    omega (arith, q, length_cons n (numbers_from n t (items n) 0), b)
