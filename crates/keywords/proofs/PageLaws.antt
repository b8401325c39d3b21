-- A word's bytes as three numbers tell a keyword of letters.
use Prim.Native.Nat.{ℕ, zero, suc, ◌+◌, ◌-◌, ◌*◌, ◌<◌, ◌≤◌, ◌^◌}
use mathlib.Core.Path.{◌≡◌, refl, sym, ap, ◌∙◌}
use mathlib.Core.Bool.{Bool, true, false, not, ◌&&◌, ◌||◌}
use mathlib.Core.List.{List, [], ◌∷◌}
use native.Mathlib.Numerals.{add-one}
use native.Mathlib.Omega.{arith}
use borrow.Author.Tests.{eqb-true, eqb-false, eq-eqb, ltb-true, ltb-false, leb-true}
use lib.ListN.{length, get_or, take, drop, length-drop}
use lib.Seq.{drop-cons, drop-drop, take_all}
use lib.Bits.{bit_and, and_block, and_zero_l, and_le_r}
use lib.Dec.{eqb, ltb, leb}
use Rattle.base.specs.Pick.{pick, picks}
use Rattle.base.specs.Lists.{same, every}
use Rattle.base.proofs.TestLaws.{clash, and_both, both_and, pick_both, same_is, not_holds}
use Rattle.megaco.specs.Bytes.{capital, capitals}
use Rattle.keywords.specs.Page.{packed, Packs, mask, reach, front_key, middle_key, back_key, alike, is_big, Formed}
use Rattle.text.proofs.ClassLaws.{below, below_at}

-- ---- bytes as one number

pub pair_packs : (w : List ℕ) (at a b : ℕ) → at + 2 ≤ length w → a ≡ get_or w at 0 → b ≡ get_or w (at + 1) 0 → a < 256 → b < 256 → Packs 2 w at (a + b * 256)
unfolding packed
pair_packs w at a b h e f m n =
    let p : at < length w = omega arith in
    let q : suc at < length w = omega arith in
    record {
      is = rw (drop-cons w at 0, drop-cons w (suc at) 0, ← e, ← add-one at, ← f) (omega arith);
      small = omega arith;
    }

two_twos : (l : List ℕ) → packed (take 4 l) ≡ packed (take 2 l) + packed (take 2 (drop 2 l)) * 65536
unfolding packed
two_twos [] = refl
two_twos (a ∷ []) = omega arith
two_twos (a ∷ b ∷ []) = omega arith
two_twos (a ∷ b ∷ c ∷ []) = omega arith
two_twos (a ∷ b ∷ c ∷ d ∷ l) = omega arith

two_fours : (l : List ℕ) → packed (take 8 l) ≡ packed (take 4 l) + packed (take 4 (drop 4 l)) * 4294967296
unfolding packed
two_fours [] = refl
two_fours (a ∷ []) = omega arith
two_fours (a ∷ b ∷ []) = omega arith
two_fours (a ∷ b ∷ c ∷ []) = omega arith
two_fours (a ∷ b ∷ c ∷ d ∷ []) = omega arith
two_fours (a ∷ b ∷ c ∷ d ∷ e ∷ []) = omega arith
two_fours (a ∷ b ∷ c ∷ d ∷ e ∷ f ∷ []) = omega arith
two_fours (a ∷ b ∷ c ∷ d ∷ e ∷ f ∷ g ∷ []) = omega arith
two_fours (a ∷ b ∷ c ∷ d ∷ e ∷ f ∷ g ∷ h ∷ l) = omega arith

pub quad_packs : (w : List ℕ) (at a b : ℕ) → Packs 2 w at a → Packs 2 w (at + 2) b → Packs 4 w at (a + b * 65536)
quad_packs w at a b p q =
    record {
      is = sym (two_twos (drop at w) ∙ rw (drop-drop 2 at w, ← p.is, ← q.is));
      small = omega (arith, p.small, q.small);
    }

pub octet_packs : (w : List ℕ) (at a b : ℕ) → Packs 4 w at a → Packs 4 w (at + 4) b → Packs 8 w at (a + b * 4294967296)
octet_packs w at a b p q =
    record {
      is = sym (two_fours (drop at w) ∙ rw (drop-drop 4 at w, ← p.is, ← q.is));
      small = omega (arith, p.small, q.small);
    }

-- ---- how far

pub reach_2 : (n : ℕ) → n < 4 → 2 ≡ reach n
unfolding reach
reach_2 n h = search picks

pub reach_4 : (n : ℕ) → 4 ≤ n → n < 8 → 4 ≡ reach n
unfolding reach
reach_4 n g h = search picks

pub reach_8 : (n : ℕ) → 8 ≤ n → 8 ≡ reach n
unfolding reach
reach_8 n h = let g : 4 ≤ n = omega arith in search picks

pub front_2 : (w : List ℕ) (x r : ℕ) → length w < 4 → Packs 2 w 0 x → r ≡ bit_and x mask → r ≡ front_key w
unfolding front_key
front_2 w x r h p e = rw (← reach_2 (length w) h, ← p.is) e

pub front_4 : (w : List ℕ) (x r : ℕ) → 4 ≤ length w → length w < 8 → Packs 4 w 0 x → r ≡ bit_and x mask → r ≡ front_key w
unfolding front_key
front_4 w x r g h p e = rw (← reach_4 (length w) g h, ← p.is) e

pub front_8 : (w : List ℕ) (x r : ℕ) → 8 ≤ length w → Packs 8 w 0 x → r ≡ bit_and x mask → r ≡ front_key w
unfolding front_key
front_8 w x r h p e = rw (← reach_8 (length w) h, ← p.is) e

pub back_2 : (w : List ℕ) (x r : ℕ) → length w < 4 → Packs 2 w (length w - 2) x → r ≡ bit_and x mask → r ≡ back_key w
unfolding back_key
back_2 w x r h p e = rw (← reach_2 (length w) h, ← p.is) e

pub back_4 : (w : List ℕ) (x r : ℕ) → 4 ≤ length w → length w < 8 → Packs 4 w (length w - 4) x → r ≡ bit_and x mask → r ≡ back_key w
unfolding back_key
back_4 w x r g h p e = rw (← reach_4 (length w) g h, ← p.is) e

pub back_8 : (w : List ℕ) (x r : ℕ) → 8 ≤ length w → Packs 8 w (length w - 8) x → r ≡ bit_and x mask → r ≡ back_key w
unfolding back_key
back_8 w x r h p e = rw (← reach_8 (length w) h, ← p.is) e

pub middle_none : (w : List ℕ) → length w < 17 → 0 ≡ middle_key w
unfolding middle_key
middle_none w h = search picks

pub middle_8 : (w : List ℕ) (x r : ℕ) → 17 ≤ length w → Packs 8 w 8 x → r ≡ bit_and x mask → r ≡ middle_key w
unfolding middle_key pick
middle_8 w x r h p e = rw (not_holds (ltb (length w) 17) (λ d. let m : length w < 17 = ltb-true _ _ d in absurd (omega arith)), ← p.is) e

-- ---- letter case aside

abbrev fold : ℕ → ℕ
fold b = bit_and b 0xdf

abbrev folds : List ℕ → List ℕ
folds [] = []
folds (b ∷ bs) = fold b ∷ folds bs

abbrev masks : ℕ → ℕ
masks zero = 0
masks (suc k) = masks k * 256 + 0xdf

abbrev Bytes : List ℕ → Type 0
Bytes w = (i : ℕ) → get_or w i 0 < 256

masked : (k : ℕ) (l : List ℕ) → Bytes l → length l ≤ k → bit_and (packed l) (masks k) ≡ packed (folds l)
unfolding packed
masked k [] b h = and_zero_l (masks k)
masked zero (x ∷ l) b h = absurd (omega arith)
masked (suc k) (x ∷ l) b h =
    and_block 8 (packed l) (masks k) x 0xdf (b 0) (omega arith) ∙ ap (λ (n : ℕ). n * 256 + fold x) (masked k l (λ i. b (suc i)) (omega arith))

fold_small : (b : ℕ) → fold b < 256
fold_small b = omega (arith, and_le_r b 0xdf)

digits_low : (p q a b : ℕ) → a < 256 → b < 256 → p * 256 + a ≡ q * 256 + b → a ≡ b
digits_low p q a b h g e = omega arith

digits_high : (p q a b : ℕ) → a < 256 → b < 256 → p * 256 + a ≡ q * 256 + b → p ≡ q
digits_high p q a b h g e = omega arith

cons_same : (x y : ℕ) (u v : List ℕ) → x ≡ y → u ≡ v → x ∷ u ≡ y ∷ v
cons_same x y u v q r i = q i ∷ r i

unpacked : (u v : List ℕ) → length u ≡ length v → packed (folds u) ≡ packed (folds v) → folds u ≡ folds v
unfolding packed
unpacked [] [] l e = refl
unpacked [] (y ∷ v) l e = absurd (omega arith)
unpacked (x ∷ u) [] l e = absurd (omega arith)
unpacked (x ∷ u) (y ∷ v) l e =
    cons_same _ _ _ _
    (digits_low (packed (folds u)) (packed (folds v)) (fold x) (fold y) (fold_small x) (fold_small y) e)
    (unpacked u v (omega arith) (digits_high (packed (folds u)) (packed (folds v)) (fold x) (fold y) (fold_small x) (fold_small y) e))

-- a capital letter folded is itself
unfoldable stays : ℕ → Bool
stays c = eqb (fold (65 + c)) (65 + c)

all_stay : below stays 26 ≡ true
unfolding below stays
all_stay = refl

big_stays : (c : ℕ) → is_big c ≡ true → fold c ≡ c
unfolding is_big stays
big_stays c g =
    let p : (leb 0x41 c ≡ true) × (leb c 0x5a ≡ true) = and_both _ _ g in
    let l : 65 ≤ c = leb-true _ _ p.0 in
    let m : c ≤ 90 = leb-true _ _ p.1 in
    let e : 65 + (c - 65) ≡ c = omega arith in
    rw e at (eqb-true (fold (65 + (c - 65))) (65 + (c - 65)) (below_at stays 26 all_stay (c - 65) (omega arith)))

-- a byte folded is the byte in capitals, or neither is a capital letter
unfoldable folds_right : ℕ → Bool
folds_right b = eqb (fold b) (capital b) || (not (is_big (fold b)) && not (is_big (capital b)))

all_right : below folds_right 256 ≡ true
unfolding below folds_right capital pick is_big
all_right = refl

not_big : (x c : ℕ) → not (is_big x) ≡ true → is_big c ≡ true → eqb x c ≡ false
not_big x c n g = not_holds (eqb x c) (λ d. let e : x ≡ c = eqb-true x c d in unlike (is_big x) n (rw e g))
  where
    unlike : (t : Bool) → not t ≡ true → t ≡ true → ⊥
    unlike true n h = clash (sym n)
    unlike false n h = clash (sym h)

big_fold : (b c : ℕ) → b < 256 → is_big c ≡ true → eqb (fold b) (fold c) ≡ eqb (capital b) c
unfolding folds_right
big_fold b c h g = rw (big_stays c g) (by (eqb (fold b) (capital b)) refl (below_at folds_right 256 all_right b h))
  where
    by : (t : Bool) → eqb (fold b) (capital b) ≡ t → t || (not (is_big (fold b)) && not (is_big (capital b))) ≡ true → eqb (fold b) c ≡ eqb (capital b) c
    by true e o = rw (eqb-true (fold b) (capital b) e)
    by false e o =
        let p : (not (is_big (fold b)) ≡ true) × (not (is_big (capital b)) ≡ true) = and_both _ _ o in
        not_big (fold b) c p.0 g ∙ sym (not_big (capital b) c p.1 g)

letters_same : (w f : List ℕ) → Bytes w → every is_big f ≡ true → same (folds w) (folds f) ≡ same (capitals w) f
unfolding same capitals every
letters_same [] [] b h = refl
letters_same [] (y ∷ f) b h = refl
letters_same (x ∷ w) [] b h = refl
letters_same (x ∷ w) (y ∷ f) b h =
    let p : (is_big y ≡ true) × (every is_big f ≡ true) = pick_both _ _ h in
    rw (big_fold x y (b 0) p.0, letters_same w f (λ i. b (suc i)) p.1)

-- ---- the parts cover the word

cover : (k m : ℕ) (u v : List ℕ) → length u ≡ length v → m ≤ k → take k u ≡ take k v → drop m u ≡ drop m v → u ≡ v
cover k zero u v l h t d = d
cover zero (suc m) u v l h t d = absurd (omega arith)
cover (suc k) (suc m) [] [] l h t d = refl
cover (suc k) (suc m) [] (y ∷ v) l h t d = absurd (omega arith)
cover (suc k) (suc m) (x ∷ u) [] l h t d = absurd (omega arith)
cover (suc k) (suc m) (x ∷ u) (y ∷ v) l h t d =
    cons_same x y u v (ap (λ (z : List ℕ). get_or z 0 0) t) (cover k m u v (omega arith) (omega arith) (ap (drop 1) t) d)

-- two parts of k letters
cover_two : (n k : ℕ) (u v : List ℕ) → length u ≡ n → length v ≡ n → k ≤ n → n ≤ k + k → take k u ≡ take k v → take k (drop (n - k) u) ≡ take k (drop (n - k) v) → u ≡ v
cover_two n k u v a c h o t d =
    cover k (n - k) u v (a ∙ sym c) (omega arith) t
    (sym (take_all k (drop (n - k) u) (omega (arith, length-drop (n - k) u))) ∙ d ∙ take_all k (drop (n - k) v) (omega (arith, length-drop (n - k) v)))

-- three parts of 8
cover_three : (n : ℕ) (u v : List ℕ) → length u ≡ n → length v ≡ n → 17 ≤ n → n ≤ 24 → take 8 u ≡ take 8 v → take 8 (drop 8 u) ≡ take 8 (drop 8 v)
    → take 8 (drop (n - 8) u) ≡ take 8 (drop (n - 8) v) → u ≡ v
cover_three n u v a c h o t m d =
    cover 8 8 u v (a ∙ sym c) (omega arith) t
    (cover_two (n - 8) 8 (drop 8 u) (drop 8 v) (omega (arith, length-drop 8 u)) (omega (arith, length-drop 8 v)) (omega arith) (omega arith) m (at n h u ∙ d ∙ sym (at n h v)))
  where
    at : (n : ℕ) → 17 ≤ n → (x : List ℕ) → take 8 (drop (n - 8 - 8) (drop 8 x)) ≡ take 8 (drop (n - 8) x)
    at n h x = let z : 8 + (n - 8 - 8) ≡ n - 8 = omega arith in ap (take 8) (drop-drop (n - 8 - 8) 8 x ∙ ap (λ (j : ℕ). drop j x) z)

folds_take : (k : ℕ) (w : List ℕ) → folds (take k w) ≡ take k (folds w)
folds_take zero w = refl
folds_take (suc k) [] = refl
folds_take (suc k) (x ∷ w) = ap (λ (z : List ℕ). fold x ∷ z) (folds_take k w)

folds_drop : (k : ℕ) (w : List ℕ) → folds (drop k w) ≡ drop k (folds w)
folds_drop zero w = refl
folds_drop (suc k) [] = refl
folds_drop (suc k) (x ∷ w) = folds_drop k w

folds_length : (w : List ℕ) → length (folds w) ≡ length w
folds_length [] = refl
folds_length (x ∷ w) = ap suc (folds_length w)

take_bytes : (k : ℕ) (w : List ℕ) → Bytes w → Bytes (take k w)
take_bytes zero w b i = omega arith
take_bytes (suc k) [] b i = b i
take_bytes (suc k) (x ∷ w) b zero = b 0
take_bytes (suc k) (x ∷ w) b (suc i) = take_bytes k w (λ j. b (suc j)) i

drop_bytes : (k : ℕ) (w : List ℕ) → Bytes w → Bytes (drop k w)
drop_bytes zero w b = b
drop_bytes (suc k) [] b = b
drop_bytes (suc k) (x ∷ w) b = drop_bytes k w (λ i. b (suc i))

same_self : (w : List ℕ) → same w w ≡ true
unfolding same pick
same_self [] = refl
same_self (x ∷ w) = rw (eq-eqb x x refl) (same_self w)

big_bytes : (f : List ℕ) → every is_big f ≡ true → Bytes f
unfolding every is_big
big_bytes [] h i = omega arith
big_bytes (y ∷ f) h zero =
    let p : ((leb 0x41 y && leb y 0x5a) ≡ true) × (every is_big f ≡ true) = pick_both _ _ h in
    let m : y ≤ 90 = leb-true _ _ (and_both (leb 0x41 y) (leb y 0x5a) p.0).1 in
    omega arith
big_bytes (y ∷ f) h (suc i) = let p : ((leb 0x41 y && leb y 0x5a) ≡ true) × (every is_big f ≡ true) = pick_both _ _ h in big_bytes f p.1 i

either_way : (x y : Bool) → (x ≡ true → y ≡ true) → (y ≡ true → x ≡ true) → x ≡ y
either_way true y f g = sym (f refl)
either_way false true f g = g refl
either_way false false f g = refl

pub record Reaches (n k : ℕ) : Type 0 where
  pub within : k ≤ n
  pub over : n < 17 → n ≤ k + k
  pub few : k ≤ 8

reaches : (n : ℕ) → 1 < n → Reaches n (reach n)
reaches n h = by (ltb n 4) (ltb n 8) refl refl
  where
    by : (s t : Bool) → ltb n 4 ≡ s → ltb n 8 ≡ t → Reaches n (reach n)
    by true t e d = let m : n < 4 = ltb-true _ _ e in rw (← reach_2 n m) (record { within = omega arith; over = λ g. omega arith; few = omega arith })
    by false true e d =
        let m : 4 ≤ n = ltb-false _ _ e in
        let l : n < 8 = ltb-true _ _ d in
        rw (← reach_4 n m l) (record { within = omega arith; over = λ g. omega arith; few = omega arith })
    by false false e d = let m : 8 ≤ n = ltb-false _ _ d in rw (← reach_8 n m) (record { within = omega arith; over = λ g. omega arith; few = omega arith })

-- the numbers by letters folded
front_folds : (k : ℕ) (w : List ℕ) → Bytes w → k ≤ 8 → bit_and (packed (take k w)) mask ≡ packed (folds (take k w))
front_folds k w b h = masked 8 (take k w) (take_bytes k w b) (omega (arith, length_take_most k w))
  where
    length_take_most : (k : ℕ) (l : List ℕ) → length (take k l) ≤ k
    length_take_most zero l = omega arith
    length_take_most (suc k) [] = omega arith
    length_take_most (suc k) (x ∷ l) = omega (arith, length_take_most k l)

takes : (k : ℕ) (u v : List ℕ) → length u ≡ length v → length (take k u) ≡ length (take k v)
takes zero u v l = refl
takes (suc k) [] [] l = refl
takes (suc k) [] (y ∷ v) l = absurd (omega arith)
takes (suc k) (x ∷ u) [] l = absurd (omega arith)
takes (suc k) (x ∷ u) (y ∷ v) l = ap suc (takes k u v (omega arith))

folds_part : (k m : ℕ) (w : List ℕ) → folds (take k (drop m w)) ≡ take k (drop m (folds w))
folds_part k m w = folds_take k (drop m w) ∙ ap (take k) (folds_drop m w)

module _ (w f : List ℕ) (b : Bytes w) (c : Bytes f) (l : length w ≡ length f) where
  part_is : (k m : ℕ) → k ≤ 8 → bit_and (packed (take k (drop m w))) mask ≡ bit_and (packed (take k (drop m f))) mask → take k (drop m (folds w)) ≡ take k (drop m (folds f))
  part_is k m h e =
      let x : packed (folds (take k (drop m w))) ≡ packed (folds (take k (drop m f))) =
      sym (front_folds k (drop m w) (drop_bytes m w b) h) ∙ e ∙ front_folds k (drop m f) (drop_bytes m f c) h in
      let v : folds (take k (drop m w)) ≡ folds (take k (drop m f)) =
      unpacked (take k (drop m w)) (take k (drop m f)) (takes k (drop m w) (drop m f) (length-drop m w ∙ ap (λ (z : ℕ). z - m) l ∙ sym (length-drop m f))) x in
      sym (folds_part k m w) ∙ v ∙ folds_part k m f

  part_eq : (k m : ℕ) → k ≤ 8 → folds w ≡ folds f → bit_and (packed (take k (drop m w))) mask ≡ bit_and (packed (take k (drop m f))) mask
  part_eq k m h q =
      front_folds k (drop m w) (drop_bytes m w b) h
      ∙ ap packed (folds_part k m w ∙ ap (λ (z : List ℕ). take k (drop m z)) q ∙ sym (folds_part k m f))
      ∙ sym (front_folds k (drop m f) (drop_bytes m f c) h)

  -- each number by the part of the word that it is made of
  front_part : (k : ℕ) → k ≡ reach (length w) → (front_key w ≡ bit_and (packed (take k w)) mask) × (front_key f ≡ bit_and (packed (take k f)) mask)
  unfolding front_key
  front_part k e = (rw e, rw (e, l))

  back_part : (k : ℕ) → k ≡ reach (length w)
      → (back_key w ≡ bit_and (packed (take k (drop (length w - k) w))) mask) × (back_key f ≡ bit_and (packed (take k (drop (length w - k) f))) mask)
  unfolding back_key
  back_part k e = (rw e, rw (e, l))

  middle_part : 17 ≤ length w → (middle_key w ≡ bit_and (packed (take 8 (drop 8 w))) mask) × (middle_key f ≡ bit_and (packed (take 8 (drop 8 f))) mask)
  unfolding middle_key pick
  middle_part h = (rw (far (length w) h), rw (far (length f) (omega arith)))
    where
      far : (n : ℕ) → 17 ≤ n → ltb n 17 ≡ false
      far n h = not_holds _ (λ d. let m : n < 17 = ltb-true _ _ d in absurd (omega arith))

  parts_folds : 1 < length w → length w ≤ 24 → front_key w ≡ front_key f → middle_key w ≡ middle_key f → back_key w ≡ back_key f → folds w ≡ folds f
  parts_folds h g x y z = by (ltb (length w) 17) refl
    where
      s : Reaches (length w) (reach (length w))
      s = reaches (length w) h

      by : (t : Bool) → ltb (length w) 17 ≡ t → folds w ≡ folds f
      by true e =
          let m : length w < 17 = ltb-true _ _ e in
          let p = front_part (reach (length w)) refl in
          let q = back_part (reach (length w)) refl in
          cover_two (length w) (reach (length w)) (folds w) (folds f) (folds_length w) (folds_length f ∙ sym l) s.within (s.over m)
          (part_is (reach (length w)) 0 s.few (sym p.0 ∙ x ∙ p.1))
          (part_is (reach (length w)) (length w - reach (length w)) s.few (sym q.0 ∙ z ∙ q.1))
      by false e =
          let m : 17 ≤ length w = ltb-false _ _ e in
          let r : 8 ≡ reach (length w) = reach_8 (length w) (omega arith) in
          let p = front_part 8 r in
          let q = back_part 8 r in
          let o = middle_part m in
          cover_three (length w) (folds w) (folds f) (folds_length w) (folds_length f ∙ sym l) m g
          (part_is 8 0 (omega arith) (sym p.0 ∙ x ∙ p.1)) (part_is 8 8 (omega arith) (sym o.0 ∙ y ∙ o.1)) (part_is 8 (length w - 8) (omega arith) (sym q.0 ∙ z ∙ q.1))

  folds_front : 1 < length w → folds w ≡ folds f → front_key w ≡ front_key f
  folds_front h q =
      let p = front_part (reach (length w)) refl in
      p.0 ∙ part_eq (reach (length w)) 0 (reaches (length w) h).few q ∙ sym p.1

  folds_back : 1 < length w → folds w ≡ folds f → back_key w ≡ back_key f
  folds_back h q =
      let p = back_part (reach (length w)) refl in
      p.0 ∙ part_eq (reach (length w)) (length w - reach (length w)) (reaches (length w) h).few q ∙ sym p.1

  folds_middle : folds w ≡ folds f → middle_key w ≡ middle_key f
  folds_middle q = by (ltb (length w) 17) refl
    where
      by : (t : Bool) → ltb (length w) 17 ≡ t → middle_key w ≡ middle_key f
      by true e = let m : length w < 17 = ltb-true _ _ e in sym (middle_none w m) ∙ middle_none f (omega arith)
      by false e = let p = middle_part (ltb-false _ _ e) in p.0 ∙ part_eq 8 8 (omega arith) q ∙ sym p.1

  alike_folds : 1 < length w → length w ≤ 24 → alike w f ≡ same (folds w) (folds f)
  unfolding alike
  alike_folds h g = either_way _ _ there back
    where
      there : (eqb (front_key w) (front_key f) && eqb (middle_key w) (middle_key f)) && eqb (back_key w) (back_key f) ≡ true → same (folds w) (folds f) ≡ true
      there e =
          let p : (eqb (front_key w) (front_key f) && eqb (middle_key w) (middle_key f) ≡ true) × (eqb (back_key w) (back_key f) ≡ true) = and_both _ _ e in
          let q : (eqb (front_key w) (front_key f) ≡ true) × (eqb (middle_key w) (middle_key f) ≡ true) = and_both _ _ p.0 in
          rw (parts_folds h g (eqb-true _ _ q.0) (eqb-true _ _ q.1) (eqb-true _ _ p.1)) (same_self (folds f))

      back : same (folds w) (folds f) ≡ true → (eqb (front_key w) (front_key f) && eqb (middle_key w) (middle_key f)) && eqb (back_key w) (back_key f) ≡ true
      back e =
          let q : folds w ≡ folds f = same_is _ _ e in
          both_and _ _ (both_and _ _ (eq-eqb _ _ (folds_front h q)) (eq-eqb _ _ (folds_middle q))) (eq-eqb _ _ (folds_back h q))

pub alike_same : (w f : List ℕ) (r : Bool) → Bytes w → Formed f → length w ≡ length f → 2 ≤ length f → r ≡ alike w f → r ≡ same (capitals w) f
alike_same w f r b h l g e =
    let i : every is_big f ≡ true = h.letters (omega arith) in
    e ∙ alike_folds w f b (big_bytes f i) l (omega arith) (omega (arith, h.few)) ∙ letters_same w f b i

-- one byte
true_pick : (t : Bool) → t ≡ pick t true false
unfolding pick
true_pick true = refl
true_pick false = refl

pub one_same : (w f : List ℕ) (r : Bool) → Formed f → length w ≡ length f → length f < 2 → r ≡ eqb (capital (get_or w 0 0)) (get_or f 0 0) → r ≡ same (capitals w) f
unfolding same capitals
one_same [] f r h l g e = absurd (omega (arith, h.some))
one_same (x ∷ w) [] r h l g e = absurd (omega arith)
one_same (x ∷ []) (y ∷ []) r h l g e = e ∙ true_pick (eqb (capital x) y)
one_same (x ∷ z ∷ w) (y ∷ f) r h l g e = absurd (omega arith)
one_same (x ∷ []) (y ∷ z ∷ f) r h l g e = absurd (omega arith)
