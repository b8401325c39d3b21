-- What the listing program prints (document 01, 'Sessions to check').
use Rattle.std.specs.Prelude.{ℕ, ◌+◌, List, [], ◌∷◌, eqb}
use Rattle.base.specs.Pick.{pick}
use Rattle.base.specs.Bytes.{text, decimal, ◌then◌}
use Rattle.megaco.specs.Table.{region_words, priority_of, emergency_of}
use Rattle.megaco.specs.Names.{name_text}
use Rattle.sessions.specs.Lines.{line_end}

-- the listing program stays at eight lines
abbrev pub lines : ℕ
lines = 8

-- the texts of a row's elements one after another, each made of its number, counted from n, and the element
unfoldable pub each : (ℕ → ℕ → List ℕ) → ℕ → List ℕ → List ℕ
each f n [] = []
each f n (x ∷ xs) = f n x then each f (n + 1) xs

-- a termination's name, if it stands in the context; n is the count of lines
unfoldable pub member_text : ℕ → ℕ → ℕ → ℕ → List ℕ
member_text n c i word = pick (eqb word c) (text " " then name_text n i) []

-- "member names ascending", from the context words
abbrev pub members_text : ℕ → ℕ → List ℕ → List ℕ
members_text n c ws = each (member_text n c) 0 ws

-- "priority, emergency 0 or 1", from the context's record
unfoldable pub properties_text : ℕ → List ℕ
properties_text r = text " " then decimal (priority_of r) then text " " then decimal (emergency_of r)

-- "number, priority, emergency 0 or 1, member names ascending, one space between fields"; no line for an absent context
unfoldable pub context_line : ℕ → List ℕ → ℕ → ℕ → List ℕ
context_line n ws c r = pick (eqb r 0) [] (decimal c then properties_text r then members_text n c ws then (line_end ∷ []))

-- "a line per context ascending", from the records and the context words
abbrev pub context_lines : ℕ → List ℕ → List ℕ → List ℕ
context_lines n ws rs = each (context_line n ws) 1 rs

-- how many contexts there are
unfoldable pub present : List ℕ → ℕ
present [] = 0
present (r ∷ rs) = pick (eqb r 0) 0 1 + present rs

-- "Then `contexts` and their count"
unfoldable pub count_line : ℕ → List ℕ
count_line n = text "contexts " then decimal n then (line_end ∷ [])

-- "Then `contexts` and their count, and a line per context", from the context words and the records
unfoldable pub parts_text : ℕ → List ℕ → List ℕ → List ℕ
parts_text n ws rs = count_line (present rs) then context_lines n ws rs

-- the same of a table of n lines
unfoldable pub contexts_text : ℕ → List ℕ → List ℕ
contexts_text n t = parts_text n (region_words n 0 t) (region_words n 2 t)

abbrev pub report_text : List ℕ → List ℕ
report_text t = contexts_text lines t

-- "`refused 1`"
unfoldable pub refused_text : ℕ → List ℕ
refused_text n = text "refused " then decimal n then (line_end ∷ [])
