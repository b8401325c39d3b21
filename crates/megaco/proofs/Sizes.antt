-- The count of lines that a table's size tells.
use Prim.Native.Nat.{ℕ}
use mathlib.Core.Path.{◌≡◌}
use mathlib.Core.Bool.{true, ◌&&◌}
use mathlib.Core.List.{List}
use lib.ListN.{length}
use lib.Dec.{ltb, leb, eqb}
use borrow.Author.Tests.{ltb-true, lt-ltb, leb-true, le-leb, eqb-true, eq-eqb}
use native.Mathlib.Omega.{arith}
use Rattle.base.proofs.TestLaws.{and_both}
use Rattle.megaco.specs.Table.{most_lines, words, fitted, Sized, sized}

pub fitted_is : (n : ℕ) (t : List ℕ) → length t ≡ words n → fitted t ≡ n
unfolding fitted
fitted_is n t l = rw l (omega arith)

-- it follows from the length alone
pub fitted_same : (t u : List ℕ) → length t ≡ length u → fitted t ≡ fitted u
unfolding fitted
fitted_same t u l = rw l

pub sized_same : (t u : List ℕ) → length u ≡ length t → Sized t → Sized u
sized_same t u l s = let f = fitted_same u t l in record { some = rw f s.some; few = rw f s.few; long = rw f (omega (arith, s.long)) }

-- the record and the test say the same
pub sized_is : (t : List ℕ) → sized t ≡ true → Sized t
unfolding sized
sized_is t e =
    let b = and_both (ltb 0 (fitted t) && leb (fitted t) most_lines) (eqb (length t) (words (fitted t))) e in
    let a = and_both (ltb 0 (fitted t)) (leb (fitted t) most_lines) b.0 in
    record { some = ltb-true 0 (fitted t) a.0; few = leb-true (fitted t) most_lines a.1; long = eqb-true (length t) (words (fitted t)) b.1 }

pub is_sized : (t : List ℕ) → Sized t → sized t ≡ true
unfolding sized
is_sized t s = rw (lt-ltb 0 (fitted t) s.some, le-leb (fitted t) most_lines s.few) (eq-eqb (length t) (words (fitted t)) s.long)
