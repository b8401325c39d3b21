use native.Mathlib.Omega.{arith}
use lib.Dec.{ltb}
use Rattle.std.proofs.Common.{rules, tests, ◌∙◌}
use Rattle.std.proofs.lemmas.Iterator.{YieldsList-from_slice}
use Rattle.std.proofs.lemmas.Iterator.Search.{all_from_yields_List}
use Rattle.digits.specs.Symbols.{symbol_of}
use Rattle.dialling.proofs.DialLaws.{dialled_long, dialled_all}
use Rattle.dialling.proofs.is_dialled.Goals as goal

pub returns-then-w-gt32 : goal.returns-then-w-gt32
returns-then-w-gt32 c = search dialled_long

pub returns : goal.returns
returns c = all_from_yields_List (λ b. ltb (symbol_of b) 21) _ _ c.all.result c.all.ensures.ran (YieldsList-from_slice c.args.w.now cc) (λ x b q k. search (rules, tests)) ∙ dialled_all c.args.w.now (omega arith)
