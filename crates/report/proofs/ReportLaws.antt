-- A context's properties as a text, and reports one after another.
use Prim.Native.Nat.{ℕ, ◌<◌, ◌≤◌}
use mathlib.Core.Path.{◌≡◌, refl, sym, ap, ◌∙◌, subst}
use mathlib.Core.List.{List, [], ◌∷◌, ◌++◌}
use mathlib.Core.Bool.{Bool, true, false}
use native.Mathlib.Omega.{arith}
use lib.Dec.{eqb}
use borrow.Author.Tests.{eq-eqb, ne_eqb}
use Rattle.base.specs.Bytes.{text, decimal, ◌then◌}
use Rattle.base.specs.Out.{Appended}
use Rattle.base.proofs.TextLaws.{then_assoc, none_then, then_none}
use Rattle.base.proofs.OutLaws.{◌▸◌}
use Rattle.base.specs.Pick.{pick}
use Rattle.base.proofs.OutLaws.{none}
use Rattle.megaco.specs.Table.{mode_of, state_of, priority_of, emergency_of}
use Rattle.megaco.specs.Attempt.{detail_of}
use Rattle.protocol.specs.Types.{Op}
use Rattle.megaco.specs.Reply.{Detail, nothing, media, Report, done, refused, standing, tried_text, detail_text, code_text, report_text, separator, reports_text}
use Rattle.report.specs.Rows.{emergency_text, first_after}

-- a record of at most 16 has no emergency
pub calm : (held : ℕ) → held < 17 → eqb (emergency_of held) 0 ≡ true
calm held h = let e : emergency_of held ≡ 0 = omega arith in eq-eqb _ _ e

pub urgent : (held : ℕ) → 17 ≤ held → eqb (emergency_of held) 0 ≡ false
urgent held h = let e : emergency_of held ≡ 0 → ⊥ = omega arith in ne_eqb _ _ e

pub standing_is : (o : List ℕ) (at held x : ℕ) (o₁ o₂ o₃ : List ℕ) (p q r : ℕ) → x ≡ priority_of held → Appended o at (text "PR=") o₁ p → Appended o₁ p (decimal x) o₂ q
    → Appended o₂ q (emergency_text held) o₃ r → Appended o at (report_text (standing held)) o₃ r
unfolding report_text emergency_text
standing_is o at held x o₁ o₂ o₃ p q r e f g h = f ▸ (rw e at g) ▸ h

-- ---- what an audit tells

module _ (o : List ℕ) (at word : ℕ) where
  pub detail_media : (audited : Bool) (o' : List ℕ) (r : ℕ) → audited ≡ true → Appended o at (detail_text (media (state_of word) (mode_of word))) o' r → Appended o at (detail_text (detail_of audited word)) o' r
  unfolding detail_of pick
  detail_media audited o' r e f = rw e f

  pub detail_nothing : (audited : Bool) → audited ≡ false → Appended o at (detail_text (detail_of audited word)) o at
  unfolding detail_of pick detail_text
  detail_nothing audited e = rw e (none o at)

-- reports after others
first_false : (xs : List Report) → first_after false xs ≡ false
unfolding first_after
first_false [] = refl
first_false (x ∷ xs) = refl

pub reports_split : (first : Bool) (xs ys : List Report) → reports_text first (xs ++ ys) ≡ reports_text first xs then reports_text (first_after first xs) ys
unfolding reports_text first_after
reports_split first [] ys = sym (none_then _)
reports_split first (r ∷ xs) ys = rw (reports_split false xs ys, first_false xs) (simp then_assoc)

pub reports_one : (first : Bool) (x : Report) → reports_text first (x ∷ []) ≡ separator first then report_text x
unfolding reports_text
reports_one first x = rw then_none

-- the same as they are written
module _ (o : List ℕ) (at : ℕ) (o₁ o₂ : List ℕ) (p r : ℕ) where
  pub report_is : (first : Bool) (x : Report) → Appended o at (separator first) o₁ p → Appended o₁ p (report_text x) o₂ r → Appended o at (reports_text first (x ∷ [])) o₂ r
  report_is first x f g = rw reports_one (f ▸ g)

  module _ (first : Bool) (op : Op) (name : List ℕ) where
    pub refused_is : (code : ℕ) → Appended o at (separator first then tried_text op name) o₁ p → Appended o₁ p (code_text code) o₂ r
        → Appended o at (reports_text first (refused op name code ∷ [])) o₂ r
    unfolding report_text
    refused_is code f g =
        subst (λ (b : List ℕ). Appended o at b o₂ r)
        (then_assoc (separator first) (tried_text op name) (code_text code) ∙ sym (reports_one first (refused op name code))) (f ▸ g)

    pub detail_is : (x : Detail) → Appended o at (separator first then tried_text op name) o₁ p → Appended o₁ p (detail_text x) o₂ r
        → Appended o at (reports_text first (done op name x ∷ [])) o₂ r
    unfolding report_text
    detail_is x f g =
        subst (λ (b : List ℕ). Appended o at b o₂ r) (then_assoc (separator first) (tried_text op name) (detail_text x) ∙ sym (reports_one first (done op name x))) (f ▸ g)

    pub done_is : Appended o at (separator first then tried_text op name) o₂ r → Appended o at (reports_text first (done op name nothing ∷ [])) o₂ r
    unfolding report_text detail_text
    done_is f =
        subst (λ (b : List ℕ). Appended o at b o₂ r)
        (ap (λ (b : List ℕ). separator first then b) (sym (then_none (tried_text op name))) ∙ sym (reports_one first (done op name nothing))) f
