-- The table that bytes give: the way from a row back, item by item.
use Rattle.std.specs.Prelude.{ℕ, zero, suc, ◌+◌, ◌-◌, ◌*◌, ◌/◌, ◌%◌, List, [], ◌∷◌, ◌++◌, length, take, drop, set, ltb, eqb, Some, None}
use Rattle.base.specs.Pick.{pick}
use Rattle.megaco.specs.Map.{of_digits, marks}
use Rattle.megaco.specs.Table.{line_terminations, ephemerals, contexts, prop, rec, flow, speech, ctx, cell, address, low_flow, speech_word, map_start}
use Rattle.groups.specs.Groups.{take_at}
use Rattle.protocol.specs.Types.{Number}
use Rattle.row_laws.specs.Row.{item_numbers}
use Rattle.row_laws.specs.declared.Item.{Item}
use Rattle.row_laws.specs.declared.Item.TheVariants.{Word, Side}

-- ---- the items by their number

-- two for each termination of a line, four for each ephemeral, three for each context
abbrev pub of_lines : ℕ → ℕ
of_lines n = 2 * line_terminations n

abbrev pub of_terminations : ℕ → ℕ
of_terminations n = of_lines n + 4 * ephemerals

abbrev pub items : ℕ → ℕ
items n = of_terminations n + 3 * contexts

-- of termination i: 0 its context, 1 its properties, 2 Local, 3 Remote
unfoldable pub termination_item : ℕ → ℕ → ℕ → Item
termination_item n i k =
    pick (eqb k 0) (Word (address n (ctx i))) (pick (eqb k 1) (Word (address n (cell (prop i)))) (Side (address n (cell (speech (speech_word i (k - 2) 0))))))

-- of context c: 0 its record, 1 and 2 its flow words
unfoldable pub context_item : ℕ → ℕ → ℕ → Item
context_item n c k = pick (eqb k 0) (Word (address n (cell (rec c)))) (Word (address n (cell (flow (low_flow c + (k - 1))))))

-- item j of the plan
unfoldable pub item_at : ℕ → ℕ → Item
item_at n j =
    pick (ltb j (of_lines n)) (termination_item n (j / 2) (j % 2))
    (pick (ltb j (of_terminations n)) (termination_item n (line_terminations n + (j - of_lines n) / 4) ((j - of_lines n) % 4))
    (context_item n ((j - of_terminations n) / 3 + 1) ((j - of_terminations n) % 3)))

-- the words of an item
unfoldable pub words_of : Item → List ℕ
words_of (Word k) = k ∷ []
words_of (Side k) = k ∷ (k + 1) ∷ (k + 2) ∷ (k + 3) ∷ []

-- the numbers of k items from item j on
unfoldable pub numbers_from : ℕ → List ℕ → ℕ → ℕ → List ℕ
numbers_from n t zero j = []
numbers_from n t (suc k) j = item_numbers t (item_at n j) ++ numbers_from n t k (j + 1)

-- ---- from bytes to words

-- the place after the numbers of an item, and the table with its words
pub data Filled : Type 0 where
  at : ℕ → List ℕ → Filled
  unfit : Filled

unfoldable pub on_filled : Filled → (ℕ → List ℕ → Filled) → Filled
on_filled (at q u) f = f q u
on_filled unfit f = unfit

unfoldable pub on_number : Number → (ℕ → ℕ → Filled) → Filled
on_number (Some (v, q)) f = f v q
on_number None f = unfit

unfoldable pub set4 : List ℕ → ℕ → ℕ → ℕ → ℕ → ℕ → List ℕ
set4 t k f a p y = set (set (set (set t k f) (k + 1) a) (k + 2) p) (k + 3) y

-- address, port and type after a 1
unfoldable pub fill_three : ℕ → List ℕ → ℕ → List ℕ → Filled
fill_three k s p t = on_number (take_at s p) (λ a q. on_number (take_at s q) (λ b q₁. on_number (take_at s q₁) (λ c q₂. at q₂ (set4 t k 1 a b c))))

-- an item from the bytes s from place p on
unfoldable pub fill_item : Item → List ℕ → ℕ → List ℕ → Filled
fill_item (Word k) s p t = on_number (take_at s p) (λ v q. at q (set t k v))
fill_item (Side k) s p t = on_number (take_at s p) (λ f q. pick (eqb f 0) (at q (set4 t k 0 0 0 0)) (pick (eqb f 1) (fill_three k s q t) unfit))

-- k items from item j on, and no byte more
unfoldable pub fill_from : ℕ → List ℕ → ℕ → ℕ → ℕ → List ℕ → Filled
fill_from n s zero j p t = pick (eqb p (length s)) (at p t) unfit
fill_from n s (suc k) j p t = on_filled (fill_item (item_at n j) s p t) (λ q u. fill_from n s k (j + 1) q u)

-- ---- "The map of CR 5 is worked out": from the context words of 32 ephemerals

unfoldable pub map_word : List ℕ → ℕ
map_word cs = of_digits (marks cs)

abbrev pub low_map : ℕ → List ℕ → ℕ
low_map n t = map_word (take 32 (drop (line_terminations n) t))

abbrev pub high_map : ℕ → List ℕ → ℕ
high_map n t = map_word (take 32 (drop (line_terminations n + 32) t))

unfoldable pub mapped : ℕ → List ℕ → List ℕ
mapped n t = set (set t (map_start n) (low_map n t)) (map_start n + 1) (high_map n t)

-- ---- the table

pub data Table : Type 0 where
  table : List ℕ → Table
  no_table : Table

unfoldable pub finished : ℕ → Filled → Table
finished n (at q u) = table (mapped n u)
finished n unfit = no_table

-- after the first number
unfoldable pub table_after : ℕ → List ℕ → List ℕ → Number → Table
table_after n s z (Some (v, q)) = pick (eqb v n) (finished n (fill_from n s (items n) 0 q z)) no_table
table_after n s z None = no_table

-- the table that the bytes s give, laid over words z
unfoldable pub table_over : ℕ → List ℕ → List ℕ → Table
table_over n s z = table_after n s z (take_at s 0)
