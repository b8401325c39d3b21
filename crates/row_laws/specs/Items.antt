-- The items of a table's row in their order (document 02, CR 14).
use Rattle.std.specs.Prelude.{ℕ, zero, suc, ◌+◌, ◌≤◌, List, [], ◌∷◌, ◌++◌}
use Rattle.base.specs.Pick.{pick}
use Rattle.megaco.specs.Table.{most_lines, terminations, contexts, prop, rec, flow, speech, ctx, cell, address, low_flow, high_flow, speech_word, is_ephemeral}
use Rattle.row_laws.specs.declared.Item.{Item}
use Rattle.row_laws.specs.declared.Item.TheVariants.{Word, Side}

-- a count of lines that there can be
pub record Lines (n : ℕ) : Type 0 where
  pub some : 1 ≤ n
  pub few : n ≤ most_lines

-- Local, side 0, or Remote, side 1, of an ephemeral
abbrev pub side_item : ℕ → ℕ → ℕ → Item
side_item n i side = Side (address n (cell (speech (speech_word i side 0))))

-- "each termination's context and properties, for an ephemeral also .. Local .. then the same for Remote"
unfoldable pub termination_items : ℕ → ℕ → List Item
termination_items n i =
    Word (address n (ctx i))
    ∷ Word (address n (cell (prop i)))
    ∷ pick (is_ephemeral n i) (side_item n i 0 ∷ side_item n i 1 ∷ []) []

-- "last each context's record and two flow words"
unfoldable pub context_items : ℕ → ℕ → List Item
context_items n c =
    Word (address n (cell (rec c)))
    ∷ Word (address n (cell (flow (low_flow c))))
    ∷ Word (address n (cell (flow (high_flow c))))
    ∷ []

-- those of k numbers from i on
unfoldable pub each : ℕ → ℕ → (ℕ → List Item) → List Item
each zero i f = []
each (suc k) i f = f i ++ each k (i + 1) f

-- all items of a table of n lines
unfoldable pub plan : ℕ → List Item
plan n = each (terminations n) 0 (termination_items n) ++ each contexts 1 (context_items n)
