-- The square of flows (specs/Square.antt): packing and unpacking undo each other; what a square tells after a pair is set, and after a member
-- has joined or left; squares that tell the same are the same.
use Prim.Native.Nat.{ℕ, zero, suc, ◌+◌, ◌-◌, ◌*◌, ◌/◌, ◌%◌, ◌<◌, ◌≤◌, ◌^◌}
use mathlib.Core.Path.{◌≡◌, refl, sym, ap, ◌∙◌}
use mathlib.Core.Logic.{◌≢◌}
use mathlib.Core.Bool.{Bool, true, false, ◌&&◌, ◌||◌}
use mathlib.Core.List.{List, [], ◌∷◌, ◌++◌}
use native.Mathlib.Omega.{arith}
use native.Mathlib.Nat.{pow-suc, pow-succ', div-one, div-div-eq-div-mul}
use native.Mathlib.Decide.{ℕ_discrete}
use lib.ListN.{length, get_or, set, take, drop, length-set, length-append, length-take, length-drop, take-append-drop, get_or-append}
use lib.Seq.{take_all, get_or-append-add, get_or-set_same, get_or-set_other}
use lib.Dec.{eqb, ltb}
use borrow.Author.Tests.{eq-eqb, ne_eqb, eqb-true, eqb-false, lt-ltb, le-ltb, ltb-true, ltb-false}
use Rattle.base.proofs.PickLaws.{pick_ind}
use Rattle.base.proofs.TestLaws.{clash}
use Rattle.base.specs.Pick.{pick}
use Rattle.megaco.specs.Square.{Square, bits, of_bits, rows, of_rows, square_of, low_of, high_of, flow_at, flow_set, paired, up_to, joined_flow, joined_row, joined, parted_flow, parted_row, parted}

-- ---- packing and unpacking undo each other
one : (w : ℕ) → pick (eqb (w % 2) 1) 1 0 ≡ w % 2
one w = pick_ind (λ (n : ℕ). n ≡ w % 2) (eqb (w % 2) 1) 1 0 (λ t. sym (eqb-true (w % 2) 1 t)) (λ t. let k = eqb-false (w % 2) 1 t in omega (arith, k))

of_bits_lem : (n w : ℕ) → w < 2 ^ n → of_bits (bits n w) ≡ w
unfolding bits of_bits
of_bits_lem zero w h = omega arith
of_bits_lem (suc n) w h = rw (one w, of_bits_lem n (w / 2) (omega (arith, pow-suc 2 n))) (omega arith)

bit_back : (b : Bool) (n : ℕ) → eqb ((pick b 1 0 + 2 * n) % 2) 1 ≡ b
unfolding pick
bit_back true n = let e : (1 + 2 * n) % 2 ≡ 1 = omega arith in eq-eqb ((1 + 2 * n) % 2) 1 e
bit_back false n = ne_eqb ((0 + 2 * n) % 2) 1 (λ e. omega arith)

half_back : (b : Bool) (n : ℕ) → (pick b 1 0 + 2 * n) / 2 ≡ n
unfolding pick
half_back true n = omega arith
half_back false n = omega arith

bits_back : (l : List Bool) → bits (length l) (of_bits l) ≡ l
unfolding bits of_bits
bits_back [] = refl
bits_back (b ∷ l) = rw (bit_back b (of_bits l), half_back b (of_bits l), bits_back l)

bits_below : (l : List Bool) → of_bits l < 2 ^ length l
unfolding of_bits
bits_below [] = omega arith
bits_below (b ∷ l) = let h = bits_below l in pick_ind (λ (n : ℕ). n + 2 * of_bits l < 2 ^ suc (length l)) b 1 0 (λ _. omega (arith, pow-suc 2 (length l))) (λ _. omega (arith, pow-suc 2 (length l)))

of_rows_lem : (n w : ℕ) → w < 256 ^ n → of_rows (rows n w) ≡ w
unfolding rows of_rows
of_rows_lem zero w h = omega arith
of_rows_lem (suc n) w h = rw (of_bits_lem 8 (w % 256) (omega arith), of_rows_lem n (w / 256) (omega (arith, pow-suc 256 n))) (omega arith)

-- a square: eight rows of eight
unfoldable pub AllEight : Square → Type 0
AllEight [] = Unit {0}
AllEight (r ∷ q) = (length r ≡ 8) × AllEight q

-- what every square of the code is
pub record Shape (q : Square) : Type 0 where
  pub long : length q ≡ 8
  pub eights : AllEight q

rows_back : (q : Square) → AllEight q → rows (length q) (of_rows q) ≡ q
unfolding rows of_rows AllEight
rows_back [] e = refl
rows_back (r ∷ q) e =
    let b : of_bits r < 2 ^ 8 = rw e.0 at (bits_below r) in
    let m : (of_bits r + 256 * of_rows q) % 256 ≡ of_bits r = omega arith in
    let d : (of_bits r + 256 * of_rows q) / 256 ≡ of_rows q = omega arith in
    let k : bits 8 (of_bits r) ≡ r = rw e.0 at (bits_back r) in
    rw (m, d, k, rows_back q e.1)

eight_take : (n : ℕ) (q : Square) → AllEight q → AllEight (take n q)
unfolding AllEight
eight_take zero q e = tt
eight_take (suc n) [] e = tt
eight_take (suc n) (r ∷ q) e = (e.0, eight_take n q e.1)

eight_drop : (n : ℕ) (q : Square) → AllEight q → AllEight (drop n q)
unfolding AllEight
eight_drop zero q e = e
eight_drop (suc n) [] e = tt
eight_drop (suc n) (r ∷ q) e = eight_drop n q e.1

pub low_back : (low high : ℕ) → low < 2 ^ 32 → low_of (square_of low high) ≡ low
unfolding low_of square_of rows
low_back low high h = of_rows_lem 4 low h

pub high_back : (low high : ℕ) → high < 2 ^ 32 → high_of (square_of low high) ≡ high
unfolding high_of square_of rows
high_back low high h = of_rows_lem 4 high h

half_rows : (k : ℕ) (q : Square) → k + 4 ≤ length q → AllEight q → rows 4 (of_rows (take 4 (drop k q))) ≡ take 4 (drop k q)
half_rows k q h e =
    let d : length (drop k q) ≡ length q - k = length-drop k q in
    let l : length (take 4 (drop k q)) ≡ 4 = length-take 4 (drop k q) ∙ omega arith in
    rw l at (rows_back (take 4 (drop k q)) (eight_take 4 (drop k q) (eight_drop k q e)))

pub square_back : (q : Square) → Shape q → square_of (low_of q) (high_of q) ≡ q
unfolding low_of high_of square_of
square_back q s =
    let l : length q ≡ 8 = s.long in
    let e = s.eights in
    let d : length (drop 4 q) ≡ length q - 4 = length-drop 4 q in
    rw (half_rows 0 q (omega arith) e, half_rows 4 q (omega arith) e, take_all 4 (drop 4 q) (omega arith)) (take-append-drop 4 q)

rows_below : (q : Square) → AllEight q → of_rows q < 256 ^ length q
unfolding of_rows AllEight
rows_below [] e = omega arith
rows_below (r ∷ q) e =
    let b : of_bits r < 2 ^ 8 = rw e.0 at (bits_below r) in
    let h = rows_below q e.1 in
    omega (arith, pow-suc 256 (length q))

half_below : (k : ℕ) (q : Square) → k + 4 ≤ length q → AllEight q → of_rows (take 4 (drop k q)) < 2 ^ 32
half_below k q h e =
    let d : length (drop k q) ≡ length q - k = length-drop k q in
    let l : length (take 4 (drop k q)) ≡ 4 = length-take 4 (drop k q) ∙ omega arith in
    rw l at (rows_below (take 4 (drop k q)) (eight_take 4 (drop k q) (eight_drop k q e)))

pub low_below : (q : Square) → Shape q → low_of q < 2 ^ 32
unfolding low_of
low_below q s = half_below 0 q (omega (arith, s.long)) s.eights

pub high_below : (q : Square) → Shape q → high_of q < 2 ^ 32
unfolding high_of
high_below q s = half_below 4 q (omega (arith, s.long)) s.eights

-- ---- shapes

length_bits : (n w : ℕ) → length (bits n w) ≡ n
unfolding bits
length_bits zero w = refl
length_bits (suc n) w = ap suc (length_bits n (w / 2))

length_rows : (n w : ℕ) → length (rows n w) ≡ n
unfolding rows
length_rows zero w = refl
length_rows (suc n) w = ap suc (length_rows n (w / 256))

eights_rows : (n w : ℕ) → AllEight (rows n w)
unfolding rows AllEight
eights_rows zero w = tt
eights_rows (suc n) w = (length_bits 8 (w % 256), eights_rows n (w / 256))

eights_append : (p q : Square) → AllEight p → AllEight q → AllEight (p ++ q)
unfolding AllEight
eights_append [] q e f = f
eights_append (r ∷ p) q e f = (e.0, eights_append p q e.1 f)

pub shape_of : (low high : ℕ) → Shape (square_of low high)
unfolding square_of
shape_of low high =
    record {
      long = length-append (rows 4 low) (rows 4 high) ∙ rw (length_rows 4 low, length_rows 4 high);
      eights = eights_append (rows 4 low) (rows 4 high) (eights_rows 4 low) (eights_rows 4 high);
    }

row_eight : (q : Square) (i : ℕ) → AllEight q → i < length q → length (get_or q i []) ≡ 8
unfolding AllEight
row_eight [] i e h = absurd (omega arith)
row_eight (r ∷ q) zero e h = e.0
row_eight (r ∷ q) (suc i) e h = row_eight q i e.1 (omega arith)

eights_set : (q : Square) (i : ℕ) (r : List Bool) → AllEight q → length r ≡ 8 → AllEight (set q i r)
unfolding AllEight
eights_set [] i r e h = tt
eights_set (x ∷ q) zero r e h = (h, e.1)
eights_set (x ∷ q) (suc i) r e h = (e.0, eights_set q i r e.1 h)

shape_row : (q : Square) (i : ℕ) → Shape q → i < 8 → length (get_or q i []) ≡ 8
shape_row q i s h = row_eight q i s.eights (omega (arith, s.long))

-- ---- what a square tells after a flow, and a pair, is set

shape_set : (q : Square) (i j : ℕ) (v : Bool) → Shape q → i < 8 → Shape (flow_set q i j v)
unfolding flow_set
shape_set q i j v s h =
    record {
      long = length-set q i _ ∙ s.long;
      eights = eights_set q i _ s.eights (length-set (get_or q i []) j v ∙ shape_row q i s h);
    }

-- the element of a square, of two places in it
abbrev cell : Square → ℕ → ℕ → Bool
cell q a b = get_or (get_or q a []) b false

pub flow_in : (q : Square) (a b : ℕ) → a < 8 → b < 8 → flow_at q a b ≡ cell q a b
unfolding flow_at pick
flow_in q a b h k = rw (lt-ltb a 8 h, lt-ltb b 8 k)

-- a flow stands in the square
pub flow_within : (q : Square) (a b : ℕ) → flow_at q a b ≡ true → (a < 8) × (b < 8)
unfolding flow_at pick
flow_within q a b e = by (ltb a 8) (ltb b 8) refl refl e
  where
    by : (x y : Bool) → ltb a 8 ≡ x → ltb b 8 ≡ y → pick x (pick y (cell q a b) false) false ≡ true → (a < 8) × (b < 8)
    by true true p r e = (ltb-true a 8 p, ltb-true b 8 r)
    by true false p r e = absurd (clash (sym e))
    by false y p r e = absurd (clash (sym e))

cell_set : (q : Square) (i j a b : ℕ) (v : Bool) → Shape q → i < 8 → j < 8 → cell (flow_set q i j v) a b ≡ pick (eqb a i && eqb b j) v (cell q a b)
unfolding flow_set pick
cell_set q i j a b v s h k = by (ℕ_discrete a i) (ℕ_discrete b j)
  where
    by : Dec (a ≡ i) → Dec (b ≡ j) → get_or (get_or (set q i (set (get_or q i []) j v)) a []) b false ≡ pick (eqb a i && eqb b j) v (cell q a b)
    by (yes e) (yes f) =
        rw (e, f, eq-eqb i i refl, eq-eqb j j refl, get_or-set_same q i (set (get_or q i []) j v) [] (omega (arith, s.long)))
        (get_or-set_same (get_or q i []) j v false (omega (arith, shape_row q i s h)))
    by (yes e) (no f) =
        rw (e, eq-eqb i i refl, ne_eqb b j f, get_or-set_same q i (set (get_or q i []) j v) [] (omega (arith, s.long)))
        (get_or-set_other (get_or q i []) j b v false f)
    by (no e) d = rw (ne_eqb a i e, get_or-set_other q i a (set (get_or q i []) j v) [] e)

pub shape_paired : (q : Square) (i j : ℕ) (x y : Bool) → Shape q → Shape (paired q i j x y)
unfolding paired pick
shape_paired q i j x y s = by (ltb i 8) (ltb j 8) refl refl
  where
    by : (a b : Bool) → ltb i 8 ≡ a → ltb j 8 ≡ b → Shape (pick a (pick b (flow_set (flow_set q i j x) j i y) q) q)
    by true true e f = shape_set (flow_set q i j x) j i y (shape_set q i j x s (ltb-true i 8 e)) (ltb-true j 8 f)
    by true false e f = s
    by false b e f = s

pub flow_paired : (q : Square) (i j a b : ℕ) (x y : Bool) → Shape q → i < 8 → j < 8 → a < 8 → b < 8
    → flow_at (paired q i j x y) a b ≡ pick (eqb a j && eqb b i) y (pick (eqb a i && eqb b j) x (flow_at q a b))
unfolding paired pick
flow_paired q i j a b x y s h k l m =
    flow_in _ a b l m
    ∙ rw (lt-ltb i 8 h, lt-ltb j 8 k)
    (cell_set (flow_set q i j x) j i a b y (shape_set q i j x s h) k h
    ∙ ap (λ (z : Bool). pick (eqb a j && eqb b i) y z) (cell_set q i j a b x s h k ∙ ap (λ (z : Bool). pick (eqb a i && eqb b j) x z) (sym (flow_in q a b l m))))

-- ---- squares that tell the same are the same

row_same : (p r : List Bool) → length p ≡ length r → ((b : ℕ) → b < length p → get_or p b false ≡ get_or r b false) → p ≡ r
row_same [] [] l f = refl
row_same [] (y ∷ r) l f = absurd (omega (arith, l))
row_same (x ∷ p) [] l f = absurd (omega (arith, l))
row_same (x ∷ p) (y ∷ r) l f =
    let e : x ≡ y = f 0 (omega arith) in
    let g : p ≡ r = row_same p r (omega (arith, l)) (λ b h. f (suc b) (omega arith)) in
    rw (e, g)

rows_same : (p q : Square) → length p ≡ length q → AllEight p → AllEight q → ((a : ℕ) → a < length p → (b : ℕ) → b < 8 → cell p a b ≡ cell q a b) → p ≡ q
unfolding AllEight
rows_same [] [] l e g f = refl
rows_same [] (y ∷ q) l e g f = absurd (omega (arith, l))
rows_same (x ∷ p) [] l e g f = absurd (omega (arith, l))
rows_same (x ∷ p) (y ∷ q) l e g f =
    let u : x ≡ y = row_same x y (e.0 ∙ sym g.0) (λ b h. f 0 (omega arith) b (omega (arith, e.0))) in
    let v : p ≡ q = rows_same p q (omega (arith, l)) e.1 g.1 (λ a h. f (suc a) (omega arith)) in
    rw (u, v)

pub squares_same : (p q : Square) → Shape p → Shape q → ((a b : ℕ) → a < 8 → b < 8 → flow_at p a b ≡ flow_at q a b) → p ≡ q
squares_same p q s t f =
    rows_same p q (s.long ∙ sym t.long) s.eights t.eights
    (λ a h b k. let l : a < 8 = omega (arith, s.long) in sym (flow_in p a b l k) ∙ f a b l k ∙ flow_in q a b l k)

-- ---- what a square tells after a member has joined or left

length_up_to : {A : Type 0} (n : ℕ) (f : ℕ → A) → length (up_to n f) ≡ n
unfolding up_to
length_up_to zero f = refl
length_up_to (suc n) f = ap suc (length_up_to n (λ i. f (suc i)))

up_to_at : {A : Type 0} (n : ℕ) (f : ℕ → A) (i : ℕ) (d : A) → i < n → get_or (up_to n f) i d ≡ f i
unfolding up_to
up_to_at zero f i d h = absurd (omega arith)
up_to_at (suc n) f zero d h = refl
up_to_at (suc n) f (suc i) d h = up_to_at n (λ k. f (suc k)) i d (omega arith)

eights_up_to : (n : ℕ) (f : ℕ → List Bool) → ((i : ℕ) → length (f i) ≡ 8) → AllEight (up_to n f)
unfolding up_to AllEight
eights_up_to zero f e = tt
eights_up_to (suc n) f e = (e 0, eights_up_to n (λ i. f (suc i)) (λ i. e (suc i)))

pub shape_joined : (q : Square) (m k : ℕ) → Shape (joined q m k)
unfolding joined joined_row
shape_joined q m k = record { long = length_up_to 8 _; eights = eights_up_to 8 _ (λ i. length_up_to 8 (λ j. joined_flow q m k i j)) }

pub shape_parted : (q : Square) (k : ℕ) → Shape (parted q k)
unfolding parted parted_row
shape_parted q k = record { long = length_up_to 8 _; eights = eights_up_to 8 _ (λ i. length_up_to 8 (λ j. parted_flow q k i j)) }

pub flow_joined : (q : Square) (m k a b : ℕ) → a < 8 → b < 8 → flow_at (joined q m k) a b ≡ joined_flow q m k a b
unfolding joined joined_row
flow_joined q m k a b h l =
    flow_in _ a b h l ∙ ap (λ (r : List Bool). get_or r b false) (up_to_at 8 (λ i. up_to 8 (λ j. joined_flow q m k i j)) a [] h) ∙ up_to_at 8 (λ j. joined_flow q m k a j) b false l

pub flow_parted : (q : Square) (k a b : ℕ) → a < 8 → b < 8 → flow_at (parted q k) a b ≡ parted_flow q k a b
unfolding parted parted_row
flow_parted q k a b h l =
    flow_in _ a b h l ∙ ap (λ (r : List Bool). get_or r b false) (up_to_at 8 (λ i. up_to 8 (λ j. parted_flow q k i j)) a [] h) ∙ up_to_at 8 (λ j. parted_flow q k a j) b false l

-- ---- "bit 8i + j set when member i flows to member j": bit j of byte i, 256 ^ i * 2 ^ j being 2 ^ (8i + j)

bits_at : (n w j : ℕ) → j < n → get_or (bits n w) j false ≡ eqb (w / 2 ^ j % 2) 1
unfolding bits
bits_at zero w j h = absurd (omega arith)
bits_at (suc n) w zero h = ap (λ (x : ℕ). eqb (x % 2) 1) (sym (div-one w))
bits_at (suc n) w (suc j) h =
    bits_at n (w / 2) j (omega arith) ∙ ap (λ (x : ℕ). eqb (x % 2) 1) (div-div-eq-div-mul w 2 (2 ^ j) ∙ ap (λ (x : ℕ). w / x) (sym (pow-succ' 2 j)))

rows_at : (n w i : ℕ) → i < n → get_or (rows n w) i [] ≡ bits 8 (w / 256 ^ i % 256)
unfolding rows
rows_at zero w i h = absurd (omega arith)
rows_at (suc n) w zero h = ap (λ (x : ℕ). bits 8 (x % 256)) (sym (div-one w))
rows_at (suc n) w (suc i) h =
    rows_at n (w / 256) i (omega arith) ∙ ap (λ (x : ℕ). bits 8 (x % 256)) (div-div-eq-div-mul w 256 (256 ^ i) ∙ ap (λ (x : ℕ). w / x) (sym (pow-succ' 256 i)))

byte_bit : (x j : ℕ) → j < 8 → x % 256 / 2 ^ j % 2 ≡ x / 2 ^ j % 2
byte_bit x zero h = omega arith
byte_bit x (suc zero) h = omega arith
byte_bit x (suc (suc zero)) h = omega arith
byte_bit x (suc (suc (suc zero))) h = omega arith
byte_bit x (suc (suc (suc (suc zero)))) h = omega arith
byte_bit x (suc (suc (suc (suc (suc zero))))) h = omega arith
byte_bit x (suc (suc (suc (suc (suc (suc zero)))))) h = omega arith
byte_bit x (suc (suc (suc (suc (suc (suc (suc zero))))))) h = omega arith
byte_bit x (suc (suc (suc (suc (suc (suc (suc (suc j)))))))) h = absurd (omega arith)

row_bit : (w i j : ℕ) → i < 4 → j < 8 → get_or (get_or (rows 4 w) i []) j false ≡ eqb (w / (256 ^ i * 2 ^ j) % 2) 1
row_bit w i j h k =
    ap (λ (r : List Bool). get_or r j false) (rows_at 4 w i h)
    ∙ bits_at 8 (w / 256 ^ i % 256) j k
    ∙ ap (λ (x : ℕ). eqb x 1) (byte_bit (w / 256 ^ i) j k ∙ ap (λ (x : ℕ). x % 2) (div-div-eq-div-mul w (256 ^ i) (2 ^ j)))

pub low_bit : (low high i j : ℕ) → i < 4 → j < 8 → flow_at (square_of low high) i j ≡ eqb (low / (256 ^ i * 2 ^ j) % 2) 1
unfolding square_of
low_bit low high i j h k =
    flow_in _ i j (omega arith) k
    ∙ ap (λ (r : List Bool). get_or r j false) (get_or-append (rows 4 low) (rows 4 high) [] i (omega (arith, length_rows 4 low)))
    ∙ row_bit low i j h k

pub high_bit : (low high i j : ℕ) → i < 4 → j < 8 → flow_at (square_of low high) (4 + i) j ≡ eqb (high / (256 ^ i * 2 ^ j) % 2) 1
unfolding square_of
high_bit low high i j h k =
    flow_in _ (4 + i) j (omega arith) k
    ∙ ap (λ (n : ℕ). get_or (get_or (rows 4 low ++ rows 4 high) (n + i) []) j false) (sym (length_rows 4 low))
    ∙ ap (λ (r : List Bool). get_or r j false) (get_or-append-add (rows 4 low) (rows 4 high) i [])
    ∙ row_bit high i j h k
