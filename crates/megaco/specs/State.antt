-- What the caller lends to a call and what lasts from one call to the next, as a transaction sees it.
use Rattle.std.specs.Prelude.{ℕ, List}
use Rattle.megaco.specs.Table.{Write, apply}
use Rattle.megaco.specs.Blocks.{cleared}

pub record State : Type 0 where
  pub table : List ℕ
  pub blocks : List ℕ

abbrev pub state : List ℕ → List ℕ → State
state t b = record { table = t; blocks = b }

-- the state after an attempt's, or an action's start's, writes: they go to the table
abbrev pub wrote : List Write → State → State
wrote ws st = state (apply ws st.table) st.blocks

-- the state with some blocks at zero
abbrev pub renewed : List ℕ → State → State
renewed ks st = state st.table (cleared ks st.blocks)
