-- What stands in a list, and tests of lists.
use Rattle.std.specs.Prelude.{ℕ, Bool, true, not, ◌&&◌, ◌||◌, eqb}
use mathlib.Core.List.{List, [], ◌∷◌, Memᴰ}
use Rattle.std.proofs.Math.Option.{Option, none, some}
use Rattle.base.specs.Lists.{has}

infix 40 ◌∈◌
abbrev pub ◌∈◌ : {A : Type 0} → A → List A → Type 0
a ∈ l = Memᴰ a l

unfoldable pub all? : {A : Type 0} → (A → Bool) → List A → Bool
all? p [] = true
all? p (x ∷ xs) = p x && all? p xs

-- no number stands in both
unfoldable pub none_shared? : List ℕ → List ℕ → Bool
none_shared? xs ys = all? (λ c. not (has c ys)) xs

-- no number but 0 stands in both
unfoldable pub only_zero_shared? : List ℕ → List ℕ → Bool
only_zero_shared? xs ys = all? (λ c. eqb c 0 || not (has c ys)) xs

unfoldable pub ahead : Option ℕ → List ℕ → List ℕ
ahead none l = l
ahead (some i) l = i ∷ l

unfoldable pub collect : {A : Type 0} → (A → Option ℕ) → List A → List ℕ
collect f [] = []
collect f (x ∷ xs) = ahead (f x) (collect f xs)
