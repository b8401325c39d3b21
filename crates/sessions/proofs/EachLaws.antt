-- The texts of a row one after another, as a loop writes them.
use Prim.Native.Nat.{ℕ, ◌+◌, ◌≤◌, ◌<◌}
use mathlib.Core.Path.{◌≡◌, refl, ◌∙◌}
use mathlib.Core.Bool.{Bool, true, false, cond, not}
use Rattle.std.specs.List.{count_by, fold}
use mathlib.Core.List.{List, [], ◌∷◌}
use native.Mathlib.Numerals.{add-one}
use native.Mathlib.Omega.{arith}
use Rattle.std.proofs.Common.{zero-add}
use lib.ListN.{length, get_or, drop, drop_of_length-le}
use lib.Seq.{drop-cons}
use lib.Dec.{eqb}
use Rattle.base.specs.Pick.{pick}
use Rattle.base.specs.Bytes.{text, decimal}
use Rattle.base.specs.Out.{Appended}
use Rattle.base.proofs.OutLaws.{none, ◌▸◌, same_length_by}
use Rattle.megaco.specs.Table.{priority_of, emergency_of}
use Rattle.sessions.specs.Listing.{each, present, properties_text}
use mir.Val.{bool_byte}

bit_pick : (b : Bool) → bool_byte (not b) ≡ pick b 0 1
unfolding pick
bit_pick true = refl
bit_pick false = refl

-- where `rest` is written next, the whole text bs stands
pub record Leads (o : List ℕ) (at : ℕ) (bs o₁ : List ℕ) (p : ℕ) (rest : List ℕ) : Type 0 where
  pub wide : length o₁ ≡ length o
  pub to : (o' : List ℕ) (r : ℕ) → Appended o₁ p rest o' r → Appended o at bs o' r

pub begin : (o : List ℕ) (at : ℕ) (bs : List ℕ) → Leads o at bs o at bs
begin o at bs = record { wide = refl; to = λ o' r f. f }

-- the elements from i on are left, and the next one has the number m
module _ (f : ℕ → ℕ → List ℕ) (s o : List ℕ) (at : ℕ) (bs o₁ : List ℕ) (p i m : ℕ) (inv : Leads o at bs o₁ p (each f m (drop i s))) where
  pub each_on : (o₂ : List ℕ) (q : ℕ) → i < length s → Appended o₁ p (f m (get_or s i 0)) o₂ q → Leads o at bs o₂ q (each f (m + 1) (drop (i + 1) s))
  unfolding each
  each_on o₂ q h g =
      record { wide = same_length_by _ _ _ _ _ g ∙ inv.wide; to = λ o' r k. inv.to o' r (rw (drop-cons s i 0) (g ▸ (rw (add-one i) at k))) }

  pub each_end : length s ≤ i → Appended o at bs o₁ p
  unfolding each
  each_end h = inv.to o₁ p (rw (drop_of_length-le s h) (none o₁ p))

-- ---- how many contexts there are

count_from : (n : ℕ) (rs : List ℕ) → fold (λ a r. a + cond (not (eqb r 0)) 1 0) n rs ≡ n + present rs
unfolding present pick
count_from n [] = omega arith
count_from n (r ∷ rs) = count_from (n + cond (not (eqb r 0)) 1 0) rs ∙ by (eqb r 0)
  where
    by : (t : Bool) → n + cond (not t) 1 0 + present rs ≡ n + (pick t 0 1 + present rs)
    by true = omega arith
    by false = omega arith

pub present_count : (rs : List ℕ) → count_by (λ r. not (eqb r 0)) rs ≡ present rs
present_count rs = count_from 0 rs ∙ zero-add (present rs)

-- ---- a context's properties

pub properties_is : (o : List ℕ) (at r x y : ℕ) (o₁ o₂ o₃ o₄ : List ℕ) (p q u v : ℕ) → x ≡ priority_of r → y ≡ emergency_of r
    → Appended o at (text " ") o₁ p → Appended o₁ p (decimal x) o₂ q → Appended o₂ q (text " ") o₃ u → Appended o₃ u (decimal y) o₄ v
    → Appended o at (properties_text r) o₄ v
unfolding properties_text
properties_is o at r x y o₁ o₂ o₃ o₄ p q u v e d f g h k = f ▸ (rw e at g) ▸ h ▸ (rw d at k)
