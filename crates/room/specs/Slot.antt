-- The slot that a number tells: the definition's 0 is none.
use Rattle.std.specs.Prelude.{◌≡◌, ◌≢◌, ℕ, Option, MatchOption}

abbrev pub IsSlot : Option ℕ → ℕ → Type 0
IsSlot o k = MatchOption o (k ≡ 0) (λ n. (n ≡ k) × (n ≢ 0))
