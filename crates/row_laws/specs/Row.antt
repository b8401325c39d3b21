-- A table as a row of numbers (document 02, CR 14): "Write the table as a row of numbers: the count of lines, each termination's context and properties, for an
-- ephemeral also 0 or 1 for Local and, after 1, its address, port and type, then the same for Remote, last each context's record and two flow words. The map
-- of CR 5 is worked out."
use Rattle.std.specs.Prelude.{ℕ, ◌+◌, List, [], ◌∷◌, ◌++◌, get_or, eqb}
use Rattle.base.specs.Pick.{pick}
use Rattle.groups.specs.Rows.{encode}
use Rattle.row_laws.specs.Items.{plan}
use Rattle.row_laws.specs.declared.Item.{Item}
use Rattle.row_laws.specs.declared.Item.TheVariants.{Word, Side}

-- one word; of Local or Remote "0 or 1 .. and, after 1, its address, port and type"
unfoldable pub item_numbers : List ℕ → Item → List ℕ
item_numbers t (Word k) = get_or t k 0 ∷ []
item_numbers t (Side k) =
    pick (eqb (get_or t k 0) 0) (0 ∷ []) (get_or t k 0 ∷ get_or t (k + 1) 0 ∷ get_or t (k + 2) 0 ∷ get_or t (k + 3) 0 ∷ [])

unfoldable pub numbers_in : List ℕ → List Item → List ℕ
numbers_in t [] = []
numbers_in t (s ∷ ss) = item_numbers t s ++ numbers_in t ss

-- the numbers of a table of n lines
unfoldable pub numbers_of : ℕ → List ℕ → List ℕ
numbers_of n t = n ∷ numbers_in t (plan n)

-- "Numbers are in groups of seven bits, low group first, the top bit set on all but the last, shortest form only"
unfoldable pub row_of : ℕ → List ℕ → List ℕ
row_of n t = encode (numbers_of n t)
