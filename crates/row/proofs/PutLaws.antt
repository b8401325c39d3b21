-- Writing a row, in the form in which `search` uses the laws.
use Prim.Native.Nat.{ℕ, suc, ◌+◌, ◌-◌, ◌<◌, ◌≤◌}
use mathlib.Core.Path.{◌≡◌, refl, sym, ◌∙◌}
use mathlib.Core.List.{List, [], ◌∷◌, ◌++◌, append-nil}
use native.Mathlib.Omega.{arith}
use lib.ListN.{length, get_or}
use borrow.Author.Tests.{eq-eqb, ne_eqb}
use Rattle.base.specs.Pick.{pick}
use Rattle.base.specs.Bytes.{◌then◌}
use Rattle.base.specs.Out.{Appended}
use Rattle.base.proofs.OutLaws.{none, after, same_length_by}
use Rattle.groups.specs.Groups.{number}
use Rattle.groups.specs.Rows.{encode}
use Rattle.groups.proofs.RowLaws.{encode_append}
use Rattle.row_laws.specs.Row.{item_numbers}
use Rattle.row_laws.specs.Filling.{items, item_at, numbers_from}
use Rattle.row_laws.specs.declared.Item.{Item}
use Rattle.row_laws.specs.declared.Item.TheVariants.{Word, Side}

one_row : (x : ℕ) → number x ≡ encode (x ∷ [])
unfolding encode
one_row x = sym (append-nil (number x))

-- numbers after numbers
pub join : (o : List ℕ) (at : ℕ) (a b o₁ o₂ : List ℕ) (p r : ℕ) → Appended o at (encode a) o₁ p → Appended o₁ p (encode b) o₂ r → Appended o at (encode (a ++ b)) o₂ r
unfolding ◌then◌
join o at a b o₁ o₂ p r f g = rw (encode_append a b) (after o at (encode a) (encode b) o₁ o₂ p r f g)

pub one_number : (o : List ℕ) (at x : ℕ) (o' : List ℕ) (r : ℕ) → Appended o at (number x) o' r → Appended o at (encode (x ∷ [])) o' r
one_number o at x o' r f = rw (← (one_row x)) f

pub three_numbers : (o : List ℕ) (at a p y : ℕ) (o₁ o₂ o₃ : List ℕ) (q₁ q₂ q₃ : ℕ) → Appended o at (number a) o₁ q₁ → Appended o₁ q₁ (number p) o₂ q₂ → Appended o₂ q₂ (number y) o₃ q₃
    → Appended o at (encode (a ∷ p ∷ y ∷ [])) o₃ q₃
three_numbers o at a p y o₁ o₂ o₃ q₁ q₂ q₃ f g h =
    join o at (a ∷ []) (p ∷ y ∷ []) o₁ o₃ q₁ q₃ (one_number o at a o₁ q₁ f) (join o₁ q₁ (p ∷ []) (y ∷ []) o₂ o₃ q₂ q₃ (one_number o₁ q₁ p o₂ q₂ g) (one_number o₂ q₂ y o₃ q₃ h))

module _ (o : List ℕ) (at : ℕ) (t : List ℕ) (k f : ℕ) (o₁ : List ℕ) (q : ℕ) (e : f ≡ get_or t k 0) (g : Appended o at (number f) o₁ q) where
  pub side_none : f ≡ 0 → Appended o at (encode (item_numbers t (Side k))) o₁ q
  unfolding item_numbers pick
  side_none z = rw (← e, eq-eqb f 0 z) (one_number o at 0 o₁ q (rw z at g))

  pub side_some : (a p y : ℕ) (o₂ : List ℕ) (r : ℕ) → (f ≡ 0 → ⊥) → a ≡ get_or t (k + 1) 0 → p ≡ get_or t (k + 2) 0 → y ≡ get_or t (k + 3) 0
      → Appended o₁ q (encode (a ∷ p ∷ y ∷ [])) o₂ r → Appended o at (encode (item_numbers t (Side k))) o₂ r
  unfolding item_numbers pick
  side_some a p y o₂ r n x₁ x₂ x₃ h =
      rw (← e, ne_eqb f 0 n, ← x₁, ← x₂, ← x₃) (join o at (f ∷ []) (a ∷ p ∷ y ∷ []) o₁ o₂ q r (one_number o at f o₁ q g) h)

module _ (n : ℕ) (t : List ℕ) (j k : ℕ) (s : Item) (e : s ≡ item_at n j) (o : List ℕ) (at : ℕ) (o' : List ℕ) (r : ℕ) where
  pub word_put : (w : ℕ) → s ≡ Word k → w ≡ get_or t k 0 → Appended o at (number w) o' r → Appended o at (encode (item_numbers t (item_at n j))) o' r
  unfolding item_numbers
  word_put w f g h = rw (← e, f, ← g) (one_number o at w o' r h)

  pub side_put : s ≡ Side k → Appended o at (encode (item_numbers t (Side k))) o' r → Appended o at (encode (item_numbers t (item_at n j))) o' r
  side_put f h = rw (← e, f) h

-- ---- the loop over the items: whatever the rest appends, the whole appends

pub record Leads (n : ℕ) (t o : List ℕ) (at : ℕ) (j : ℕ) (o₁ : List ℕ) (p : ℕ) : Type 0 where
  pub long : length o₁ ≡ length o
  pub to : (o' : List ℕ) (r : ℕ) → Appended o₁ p (encode (numbers_from n t (items n - j) j)) o' r → Appended o at (encode (numbers_from n t (items n) 0)) o' r

pub leads_start : (n : ℕ) (t o : List ℕ) (at : ℕ) → Leads n t o at 0 o at
leads_start n t o at = record { long = refl; to = λ o' r f. let z : items n - 0 ≡ items n = omega arith in rw z at f }

module _ (n : ℕ) (t o : List ℕ) (at j m : ℕ) (o₁ : List ℕ) (p : ℕ) (l : Leads n t o at j o₁ p) (i : m ≡ items n) where
  pub leads_on : (o₂ : List ℕ) (q : ℕ) → j < m → Appended o₁ p (encode (item_numbers t (item_at n j))) o₂ q → Leads n t o at (j + 1) o₂ q
  unfolding numbers_from
  leads_on o₂ q h f =
      record {
        long = same_length_by o₁ p (encode (item_numbers t (item_at n j))) o₂ q f ∙ l.long;
        to = λ o' r g. l.to o' r (step o' r g);
      }
    where
      step : (o' : List ℕ) (r : ℕ) → Appended o₂ q (encode (numbers_from n t (items n - (j + 1)) (j + 1))) o' r → Appended o₁ p (encode (numbers_from n t (items n - j) j)) o' r
      step o' r g =
          let k : items n - j ≡ suc (items n - (j + 1)) = omega arith in
          rw k (join o₁ p (item_numbers t (item_at n j)) (numbers_from n t (items n - (j + 1)) (j + 1)) o₂ o' q r f g)

  pub leads_end : m ≤ j → Appended o at (encode (numbers_from n t (items n) 0)) o₁ p
  unfolding numbers_from encode
  leads_end h = l.to o₁ p (let k : items n - j ≡ 0 = omega arith in rw k (none o₁ p))
