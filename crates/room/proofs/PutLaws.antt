-- What the library's fills leave, as text that is put.
use Prim.Native.Nat.{ℕ, zero, suc, ◌+◌, ◌-◌, ◌<◌, ◌≤◌, min}
use mathlib.Core.Path.{◌≡◌, refl, sym, ap, ◌∙◌}
use mathlib.Core.List.{List, [], ◌∷◌, ◌++◌}
use native.Mathlib.Omega.{arith}
use lib.ListN.{length, take, drop, replicate, length-replicate}
use borrow.Rule.Slice.PartMut.{put_mid}
use Rattle.base.specs.Bytes.{put}

put_part : (o : List ℕ) (at : ℕ) (s : List ℕ) → at + length s ≤ length o → take at o ++ (s ++ drop (length s) (drop at o)) ≡ put o at s
unfolding put
put_part [] zero [] h = refl
put_part [] zero (b ∷ s) h = absurd (omega arith)
put_part [] (suc at) s h = absurd (omega arith)
put_part (y ∷ o) zero [] h = refl
put_part (y ∷ o) zero (b ∷ s) h = ap (λ (l : List ℕ). b ∷ l) (put_part o zero s (omega arith))
put_part (y ∷ o) (suc at) s h = ap (λ (l : List ℕ). y ∷ l) (put_part o at s (omega arith))

put_over : (o : List ℕ) (at k : ℕ) (s : List ℕ) → k ≡ length s → at + k ≤ length o → put_mid at k o s ≡ put o at s
put_over o at k s e h = rw e (put_part o at s (omega arith))

put_nothing : (o : List ℕ) (at : ℕ) → put o at [] ≡ o
unfolding put
put_nothing [] at = refl
put_nothing (y ∷ o) zero = refl
put_nothing (y ∷ o) (suc at) = ap (λ (l : List ℕ). y ∷ l) (put_nothing o at)

-- as many zeros as fit
zeros : (o : List ℕ) (at k j : ℕ) → min k (length o - at) ≡ min j (length o - at) → put o at (replicate k 0) ≡ put o at (replicate j 0)
unfolding put
zeros [] at k j h = refl
zeros (y ∷ o) zero zero zero h = refl
zeros (y ∷ o) zero zero (suc j) h = absurd (omega arith)
zeros (y ∷ o) zero (suc k) zero h = absurd (omega arith)
zeros (y ∷ o) zero (suc k) (suc j) h = ap (λ (l : List ℕ). 0 ∷ l) (zeros o zero k j (omega arith))
zeros (y ∷ o) (suc at) k j h = ap (λ (l : List ℕ). y ∷ l) (zeros o at k j (omega arith))

-- the row filled with zeros from a place to its end
module _ (w : List ℕ) (at e : ℕ) (f : e ≡ min (length w) 16) where
  pub cleared : at < e → (z : List ℕ) → z ≡ replicate (e - at) 0 → put_mid at (e - at) w z ≡ put w at (replicate (16 - at) 0)
  cleared h z g =
      let k : e - at ≡ length (replicate {A = ℕ} (e - at) 0) = sym (length-replicate {A = ℕ} (e - at) 0) in
      rw g (put_over w at (e - at) (replicate (e - at) 0) k (omega arith) ∙ zeros w at (e - at) (16 - at) (omega arith))

  pub none_cleared : e ≤ at → w ≡ put w at (replicate (16 - at) 0)
  none_cleared h = sym (zeros w at (16 - at) 0 (omega arith) ∙ put_nothing w at)
