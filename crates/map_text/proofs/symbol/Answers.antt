use Rattle.map_text.proofs.SymbolLaws.{digit_low, symbol_digit, symbol_letter}
use Rattle.map_text.proofs.symbol.Goals as goal

pub returns-then-is_digit : goal.returns-then-is_digit
returns-then-is_digit c = search symbol_digit

pub returns : goal.returns
returns c = search symbol_letter

pub overflow_sub-b : goal.overflow_sub-b
overflow_sub-b c = search digit_low
