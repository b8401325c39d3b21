-- Every case of an enum whose variants hold nothing: by one computed test, and told by its place.
use Prim.Native.Nat.{ℕ, suc}
use mathlib.Core.Path.{◌≡◌, refl, sym, ap, subst}
use mathlib.Core.Bool.{Bool, true, false, ◌&&◌}
use mathlib.Core.List.{List, [], ◌∷◌}
use mathlib.Core.Logic.{◌⊎◌, inl, inr}
use native.Mathlib.Omega.{arith}
use denote.Struct.Field.{Field}
use denote.Enum.Declared.{Choice, Record, declared, rowss, intoss, tag_of, values_one}
use denote.Enum.Enum.{tag}
use Rattle.base.proofs.TestLaws.{clash, and_both}

unfoldable pub every_choice : (Fss : List (List Field)) → (Choice Fss → Bool) → Bool
every_choice [] p = true
every_choice ([] ∷ Fss) p = p (inl tt) && every_choice Fss (λ c. p (inr c))
every_choice ((F ∷ Fs) ∷ Fss) p = false

every_choice_lem : (Fss : List (List Field)) (p : Choice Fss → Bool) → every_choice Fss p ≡ true → (c : Choice Fss) → p c ≡ true
unfolding every_choice
every_choice_lem [] p e c = absurd c
every_choice_lem ([] ∷ Fss) p e (inl v) = (and_both (p (inl tt)) (every_choice Fss (λ c. p (inr c))) e).0
every_choice_lem ([] ∷ Fss) p e (inr c) = every_choice_lem Fss (λ c. p (inr c)) (and_both (p (inl tt)) (every_choice Fss (λ c. p (inr c))) e).1 c
every_choice_lem ((F ∷ Fs) ∷ Fss) p e c = absurd (clash (sym e))

choice_one : (Fss : List (List Field)) → every_choice Fss (λ c. true) ≡ true → (c d : Choice Fss) → tag (rowss Fss) (intoss Fss c) ≡ tag (rowss Fss) (intoss Fss d) → c ≡ d
unfolding every_choice
choice_one [] h c d e = absurd c
choice_one ([] ∷ Fss) h (inl x) (inl y) e = refl
choice_one ([] ∷ Fss) h (inl x) (inr d) e = absurd (omega arith)
choice_one ([] ∷ Fss) h (inr c) (inl y) e = absurd (omega arith)
choice_one ([] ∷ Fss) h (inr c) (inr d) e = ap inr (choice_one Fss h c d (omega arith))
choice_one ((F ∷ Fs) ∷ Fss) h c d e = absurd (clash (sym h))

module _ (N : Record) where
  unfoldable pub every_case : (N.D → Bool) → Bool
  every_case p = every_choice N.parts (λ c. p (N.make c))

  -- what a test says of each case holds of any
  pub every_case_lem : (p : N.D → Bool) → every_case p ≡ true → (k : N.D) → p k ≡ true
  unfolding every_case
  every_case_lem p e k = subst (λ (j : N.D). p j ≡ true) (N.eta k) (every_choice_lem N.parts (λ c. p (N.make c)) e (N.as_values k))

  -- a case is told by its place
  pub case_one : every_case (λ k. true) ≡ true → (j k : N.D) → tag_of (declared N) j ≡ tag_of (declared N) k → j ≡ k
  unfolding every_case
  case_one h j k e = values_one N j k (choice_one N.parts h (N.as_values j) (N.as_values k) e)
