use Rattle.map_text.proofs.SymbolLaws.{symbol_fits, sign_fits, range_fits}
use Rattle.map_text.proofs.SelectorLaws.{span_range, span_open, span_one, span_none}
use lib.Dec.{lit<}
use Rattle.map_text.proofs.span_at.Goals as goal

pub overflow_add-at : goal.overflow_add-at
overflow_add-at c = search symbol_fits

pub overflow_add-at-then-is_at : goal.overflow_add-at-then-is_at
overflow_add-at-then-is_at c = search (sign_fits, lit<)

pub overflow_add-at-then-high-lt21 : goal.overflow_add-at-then-high-lt21
overflow_add-at-then-high-lt21 c = search range_fits

pub returns-then-high-lt21 : goal.returns-then-high-lt21
returns-then-high-lt21 c = search span_range

pub returns-then-is_at : goal.returns-then-is_at
returns-then-is_at c = search span_open

pub overflow_add-result : goal.overflow_add-result
overflow_add-result c = search symbol_fits

pub returns-then-low-lt21 : goal.returns-then-low-lt21
returns-then-low-lt21 c = search span_one

pub returns : goal.returns
returns c = search span_none
