-- The contexts of a table as text, refused or written.
use Prim.Native.Nat.{ℕ, ◌*◌, ◌<◌, ◌≤◌}
use mathlib.Core.Path.{◌≡◌, refl, sym, ◌∙◌}
use mathlib.Core.Bool.{Bool, true, false}
use mathlib.Core.List.{List}
use lib.ListN.{length}
use lib.Dec.{ltb, leb}
use borrow.Author.Tests.{lt-ltb, le-ltb, ltb-true, leb-true, eq-eqb, ne_eqb}
use native.Mathlib.Omega.{arith}
use Rattle.base.specs.Pick.{pick}
use Rattle.base.specs.Out.{Appended}
use Rattle.base.proofs.TestLaws.{and_both}
use Rattle.megaco.specs.Table.{words, most_lines, sound}
use Rattle.megaco.specs.Names.{within}
use Rattle.sessions.specs.Listing.{contexts_text}
use Rattle.sessions.proofs.FitLaws.{contexts_fit}
use Rattle.row_laws.specs.Answers.{least_output}
use Rattle.cordafina.specs.Contexts.{written, contexts_of, Shown}

pub fitted_by : (x : Bool) (n : ℕ) → x ≡ within n most_lines → x ≡ true → within n most_lines ≡ true
fitted_by x n e f = sym e ∙ f

pub some_lines : (n : ℕ) → within n most_lines ≡ true → 0 < n
unfolding within
some_lines n w = ltb-true 0 n (and_both (ltb 0 n) (leb n most_lines) w).0

few_lines : (n : ℕ) → within n most_lines ≡ true → n ≤ most_lines
unfolding within
few_lines n w = leb-true n most_lines (and_both (ltb 0 n) (leb n most_lines) w).1

pub refused_8 : (n : ℕ) (t o : List ℕ) (x : Bool) → x ≡ within n most_lines → x ≡ false → Shown (contexts_of n t o) o (8 * 4294967296)
unfolding contexts_of pick
refused_8 n t o x e f = rw (sym e ∙ f) (record { answer = refl; out = refl })

module _ (n : ℕ) (t o : List ℕ) (w : within n most_lines ≡ true) where
  pub refused_11 : length o < least_output → Shown (contexts_of n t o) o (11 * 4294967296)
  unfolding contexts_of pick
  refused_11 h = rw (w, lt-ltb (length o) least_output h) (record { answer = refl; out = refl })

  module _ (h : least_output ≤ length o) where
    pub refused_2_size : (k : ℕ) → k ≡ words n → (length t ≡ k → ⊥) → Shown (contexts_of n t o) o (2 * 4294967296)
    unfolding contexts_of pick
    refused_2_size k e f = rw (w, le-ltb (length o) least_output h, ne_eqb (length t) (words n) (λ q. f (q ∙ sym e))) (record { answer = refl; out = refl })

    module _ (k : ℕ) (k_is : k ≡ words n) (long : length t ≡ k) where
      pub refused_2 : (x : Bool) → x ≡ sound t → x ≡ false → Shown (contexts_of n t o) o (2 * 4294967296)
      unfolding contexts_of pick
      refused_2 x e f = rw (w, le-ltb (length o) least_output h, eq-eqb (length t) (words n) (long ∙ k_is), sym e ∙ f) (record { answer = refl; out = refl })

      -- the text always fits into the output
      pub is_written : (x : Bool) → x ≡ sound t → x ≡ true → (o' : List ℕ) (r : ℕ) → Appended o 0 (contexts_text n t) o' r → Shown (contexts_of n t o) o' r
      unfolding contexts_of written pick
      is_written x e f o' r a =
          let l : length (contexts_text n t) ≤ 5645 = contexts_fit n t (few_lines n w) (long ∙ k_is) (sym e ∙ f) in
          let q : r ≡ length (contexts_text n t) = omega (arith, a.next) in
          rw (w, le-ltb (length o) least_output h, eq-eqb (length t) (words n) (long ∙ k_is), sym e ∙ f) (record { answer = omega arith; out = a.text })
