-- Parts of a buffer into which a text was put, and of a row that ends in zeros.
use Prim.Native.Nat.{ℕ, zero, suc, ◌+◌, ◌-◌, ◌≤◌}
use mathlib.Core.Path.{◌≡◌, refl, ap}
use mathlib.Core.List.{List, [], ◌∷◌, ◌++◌, map}
use native.Mathlib.Omega.{arith}
use lib.ListN.{length, get_or, take, drop, replicate, length-drop}
use Rattle.base.specs.Bytes.{put}
use Rattle.base.proofs.OutLaws.{take_put}

drop_at : (o : List ℕ) (p : ℕ) (bs : List ℕ) → drop p (put o p bs) ≡ put (drop p o) 0 bs
unfolding put
drop_at [] zero bs = refl
drop_at [] (suc p) bs = refl
drop_at (y ∷ o) zero bs = refl
drop_at (y ∷ o) (suc p) bs = drop_at o p bs

-- the text itself
pub part_own : (o : List ℕ) (p : ℕ) (bs : List ℕ) → p + length bs ≤ length o → take (length bs) (drop p (put o p bs)) ≡ bs
part_own o p bs h = rw (drop_at o p bs) (take_put (drop p o) bs (omega (arith, length-drop p o)))

take_before : (o : List ℕ) (p : ℕ) (bs : List ℕ) (s : ℕ) → s ≤ p → take s (put o p bs) ≡ take s o
unfolding put
take_before [] p bs s h = refl
take_before (y ∷ o) p bs zero h = refl
take_before (y ∷ o) zero bs (suc s) h = absurd (omega arith)
take_before (y ∷ o) (suc p) bs (suc s) h = ap (λ (l : List ℕ). y ∷ l) (take_before o p bs s (omega arith))

-- what ends before it
pub part_before : (o : List ℕ) (p : ℕ) (bs : List ℕ) (a s : ℕ) → a + s ≤ p → take s (drop a (put o p bs)) ≡ take s (drop a o)
unfolding put
part_before [] p bs a s h = refl
part_before (y ∷ o) p bs zero s h = take_before (y ∷ o) p bs s (omega arith)
part_before (y ∷ o) zero bs (suc a) s h = absurd (omega arith)
part_before (y ∷ o) (suc p) bs (suc a) s h = part_before o p bs a s (omega arith)

-- a word behind it
pub word_behind : (w l : List ℕ) (k : ℕ) → length l ≤ k → get_or (put w 0 l) k 0 ≡ get_or w k 0
unfolding put
word_behind [] l k h = refl
word_behind (y ∷ w) [] k h = refl
word_behind (y ∷ w) (b ∷ l) zero h = absurd (omega arith)
word_behind (y ∷ w) (b ∷ l) (suc k) h = word_behind w l k (omega arith)

-- the front of a buffer, after a text was put at its start
pub take_over : (k : ℕ) (o l : List ℕ) → length l ≤ k → k ≤ length o → take k (put o 0 l) ≡ l ++ drop (length l) (take k o)
unfolding put
take_over k [] [] h g = refl
take_over k (y ∷ o) [] h g = refl
take_over k [] (b ∷ l) h g = absurd (omega arith)
take_over zero (y ∷ o) (b ∷ l) h g = absurd (omega arith)
take_over (suc k) (y ∷ o) (b ∷ l) h g = ap (λ (x : List ℕ). b ∷ x) (take_over k o l (omega arith) (omega arith))

drop_replicate : (j d : ℕ) → drop d (replicate {A = ℕ} j 0) ≡ replicate (j - d) 0
drop_replicate j zero = let z : j - 0 ≡ j = omega arith in rw z
drop_replicate zero (suc d) = let z : 0 - suc d ≡ 0 = omega arith in rw z
drop_replicate (suc j) (suc d) = let z : suc j - suc d ≡ j - d = omega arith in rw z (drop_replicate j d)

-- what a row that ends in zeros has behind its front
pub drop_zeros : (h : List ℕ) (j d : ℕ) → length h ≤ d → drop d (h ++ replicate j 0) ≡ replicate (length h + j - d) 0
drop_zeros [] j d g = let z : 0 + j - d ≡ j - d = omega arith in rw z (drop_replicate j d)
drop_zeros (x ∷ h) j zero g = absurd (omega arith)
drop_zeros (x ∷ h) j (suc d) g = let z : suc (length h) + j - suc d ≡ length h + j - d = omega arith in rw z (drop_zeros h j d (omega arith))

pub map_append : {A B : Type 0} (f : A → B) (xs ys : List A) → map f (xs ++ ys) ≡ map f xs ++ map f ys
map_append f [] ys = refl
map_append f (x ∷ xs) ys = ap (λ (l : List _). f x ∷ l) (map_append f xs ys)

pub map_drop : {A B : Type 0} (f : A → B) (n : ℕ) (xs : List A) → map f (drop n xs) ≡ drop n (map f xs)
map_drop f zero xs = refl
map_drop f (suc n) [] = refl
map_drop f (suc n) (x ∷ xs) = map_drop f n xs
