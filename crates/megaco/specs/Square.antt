-- The square of flows of one context (document 02, CR 6): "an eight by eight square of flows", member i to member j.
use Rattle.std.specs.Prelude.{ℕ, zero, suc, ◌+◌, ◌-◌, ◌*◌, ◌/◌, ◌%◌, Bool, true, false, not, ◌&&◌, ◌||◌, List, [], ◌∷◌, ◌++◌, get_or, set, take, drop, ltb, eqb}
use Rattle.base.specs.Pick.{pick}
use Rattle.megaco.specs.declared.Direction.{Direction}
use Rattle.megaco.specs.declared.Direction.TheVariants.{Isolate, Oneway, Bothway}

-- eight rows of eight: row i tells to whom member i flows
abbrev pub Square : Type 0
Square = List (List Bool)

-- ---- two words: "bit 8i + j set when member i flows to member j, both from 0"
-- the n lowest bits of a number, lowest first, and the number of such bits
unfoldable pub bits : ℕ → ℕ → List Bool
bits zero w = []
bits (suc n) w = eqb (w % 2) 1 ∷ bits n (w / 2)

unfoldable pub of_bits : List Bool → ℕ
of_bits [] = 0
of_bits (b ∷ bs) = pick b 1 0 + 2 * of_bits bs

-- the n lowest bytes of a number as rows, lowest first, and the number of such rows
unfoldable pub rows : ℕ → ℕ → Square
rows zero w = []
rows (suc n) w = bits 8 (w % 256) ∷ rows n (w / 256)

unfoldable pub of_rows : Square → ℕ
of_rows [] = 0
of_rows (r ∷ rs) = of_bits r + 256 * of_rows rs

-- "low half first": rows 0 to 3 in the first word
unfoldable pub square_of : ℕ → ℕ → Square
square_of low high = rows 4 low ++ rows 4 high

unfoldable pub low_of : Square → ℕ
low_of q = of_rows (take 4 (drop 0 q))

unfoldable pub high_of : Square → ℕ
high_of q = of_rows (take 4 (drop 4 q))

-- ---- what a square tells
-- whether member i flows to member j; past the square nobody does
unfoldable pub flow_at : Square → ℕ → ℕ → Bool
flow_at q i j = pick (ltb i 8) (pick (ltb j 8) (get_or (get_or q i []) j false) false) false

-- "the diagonal and unused places 0": of m members i may flow to j
unfoldable pub may_flow : ℕ → ℕ → ℕ → Bool
may_flow m i j = ltb i m && ltb j m && not (eqb i j)

-- row i from place j on, and the rows from row i on
unfoldable pub row_is_sound : ℕ → ℕ → ℕ → List Bool → Bool
row_is_sound m i j [] = true
row_is_sound m i j (b ∷ bs) = let r = row_is_sound m i (j + 1) bs in pick (b && not (may_flow m i j)) false r

unfoldable pub rows_are_sound : ℕ → ℕ → Square → Bool
rows_are_sound m i [] = true
rows_are_sound m i (r ∷ rs) = let q = rows_are_sound m (i + 1) rs in pick (row_is_sound m i 0 r) q false

unfoldable pub square_is_sound : ℕ → Square → Bool
square_is_sound m q = rows_are_sound m 0 q

-- ---- a pair
unfoldable pub flow_set : Square → ℕ → ℕ → Bool → Square
flow_set q i j v = set q i (set (get_or q i []) j v)

-- the pair of i and j, two places of the square: whether i flows to j, and j to i
unfoldable pub paired : Square → ℕ → ℕ → Bool → Bool → Square
paired q i j there back = let r = flow_set (flow_set q i j there) j i back in pick (ltb i 8) (pick (ltb j 8) r q) q

-- 7.1.18: "isolate means that .. T2 do not receive media from .. T1, nor vice versa", "Oneway of A, B: A flows to B and B doesn't to A",
-- "bothway means that .. T2 receive media from .. T1, and vice versa"
unfoldable pub directed : Direction → ℕ → ℕ → Square → Square
directed Isolate i j q = paired q i j false false
directed Oneway i j q = paired q i j true false
directed Bothway i j q = paired q i j true true

-- ---- a member joins or leaves; places move with the members' order
-- f at 0 to n − 1
unfoldable pub up_to {ℓ} : {A : Type ℓ} → ℕ → (ℕ → A) → List A
up_to zero f = []
up_to (suc n) f = f 0 ∷ up_to n (λ i. f (suc i))

-- number k of now m has joined: "a termination that joins is bothway with every other"; "Pairs not named stay"
unfoldable pub joined_flow : Square → ℕ → ℕ → ℕ → ℕ → Bool
joined_flow q m k i j =
    let there = flow_at q (pick (ltb k i) (i - 1) i) (pick (ltb k j) (j - 1) j) in
    pick (ltb i m && ltb j m) (pick (eqb i j) false (pick (eqb i k || eqb j k) true there)) false

unfoldable pub joined_row : Square → ℕ → ℕ → ℕ → List Bool
joined_row q m k i = up_to 8 (λ j. joined_flow q m k i j)

unfoldable pub joined : Square → ℕ → ℕ → Square
joined q m k = up_to 8 (λ i. joined_row q m k i)

-- number k has left: "one that leaves takes its pairs with it"
unfoldable pub parted_flow : Square → ℕ → ℕ → ℕ → Bool
parted_flow q k i j = flow_at q (pick (ltb i k) i (i + 1)) (pick (ltb j k) j (j + 1))

unfoldable pub parted_row : Square → ℕ → ℕ → List Bool
parted_row q k i = up_to 8 (λ j. parted_flow q k i j)

unfoldable pub parted : Square → ℕ → Square
parted q k = up_to 8 (λ i. parted_row q k i)
