-- The parts of a table from which its contexts are printed.
use Prim.Native.Nat.{ℕ, zero, suc, ◌-◌, min}
use mathlib.Core.Path.{◌≡◌, refl, ap, ◌∙◌}
use mathlib.Core.List.{List, [], ◌∷◌}
use native.Mathlib.Omega.{arith}
use lib.ListN.{length, take, drop, length-drop}
use lib.Seq.{take-nil, drop-nil}
use Rattle.base.specs.Out.{Appended}
use Rattle.base.proofs.OutLaws.{◌▸◌}
use Rattle.megaco.specs.Table.{start_of, region_words}
use Rattle.megaco.proofs.Regions.{region}
use Rattle.sessions.specs.Listing.{present, count_line, context_lines, parts_text, contexts_text}

-- a list taken or dropped up to a place, or to its end if that comes first
take_reach : (k : ℕ) (l : List ℕ) (n : ℕ) → n ≡ min k (length l) → take n l ≡ take k l
take_reach zero l n e = let z : n ≡ 0 = omega arith in rw z
take_reach (suc k) [] n e = take-nil n
take_reach (suc k) (x ∷ l) n e = let q : ℕ = min k (length l) in let z : n ≡ suc q = omega arith in rw z (ap (λ (l : List ℕ). x ∷ l) (take_reach k l q refl))

drop_reach : (k : ℕ) (l : List ℕ) (n : ℕ) → n ≡ min k (length l) → drop n l ≡ drop k l
drop_reach zero l n e = let z : n ≡ 0 = omega arith in rw z
drop_reach (suc k) [] n e = drop-nil n
drop_reach (suc k) (x ∷ l) n e = let q : ℕ = min k (length l) in let z : n ≡ suc q = omega arith in rw z (drop_reach k l q refl)

-- a region from its start to the next one's, as far as the table reaches
within_cut : (n k : ℕ) (t : List ℕ) (x y a e : ℕ) → x ≡ start_of n k → y ≡ start_of n (suc k) → a ≡ min x (length t) → e ≡ min y (length t) → take (e - a) (drop a t) ≡ region_words n k t
within_cut n k t x y a e p q l m =
    let u : take (e - a) (drop x t) ≡ take (y - x) (drop x t) = take_reach (y - x) (drop x t) (e - a) (omega (arith, l, m, length-drop x t)) in
    rw (drop_reach x t a l) (u ∙ (region n k t).cut x y p q)

module _ (o : List ℕ) (at : ℕ) (o' : List ℕ) (r lines : ℕ) where
  pub parts_are : (ws rs : List ℕ) (n : ℕ) (o₁ : List ℕ) (p : ℕ) → n ≡ present rs → Appended o at (count_line n) o₁ p → Appended o₁ p (context_lines lines ws rs) o' r
      → Appended o at (parts_text lines ws rs) o' r
  unfolding parts_text
  parts_are ws rs n o₁ p e f g = (rw e at f) ▸ g

  pub contexts_are : (t : List ℕ) (x y z a b e : ℕ) → x ≡ start_of lines 1 → y ≡ start_of lines 2 → z ≡ start_of lines 3
      → a ≡ min x (length t) → b ≡ min y (length t) → e ≡ min z (length t)
      → Appended o at (parts_text lines (take (a - 0) (drop 0 t)) (take (e - b) (drop b t))) o' r → Appended o at (contexts_text lines t) o' r
  unfolding contexts_text
  contexts_are t x y z a b e p q s l m n f = rw (within_cut lines 0 t 0 x 0 a refl p (omega arith) l, within_cut lines 2 t y z b e q s m n) at f
