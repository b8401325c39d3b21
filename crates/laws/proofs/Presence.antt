-- A record that a context may have.
use Prim.Native.Nat.{ℕ, ◌≤◌, ◌<◌}

pub record Present (g : ℕ) : Type 0 where
  pub some : 0 < g
  pub low : g ≤ 32
