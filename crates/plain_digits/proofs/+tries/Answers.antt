use Rattle.std.proofs.Common.{rules, tests, ◌≡◌, length}
use Rattle.plain_digits.proofs.TryLaws.{tries_malformed, tries_end, pattern_falls, dotted_none, dotted_enough, dotted_with, dotted_without, plain_with, plain_without, plain_none}
use Rattle.plain_digits.proofs.+tries.Goals as goal

pub tries-without-requires : goal.tries-without-requires
tries-without-requires t c = (search pattern_falls, tt)

pub returns-then-is_empty : goal.returns-then-is_empty
returns-then-is_empty t c = search (dotted_none, rules, tests)

pub returns-then-without : goal.returns-then-without
returns-then-without t c = search (dotted_enough, rules, tests)

pub returns-then-takes_first : goal.returns-then-takes_first
returns-then-takes_first t c = search (dotted_with, rules, tests)

pub returns-then-dotted : goal.returns-then-dotted
returns-then-dotted t c = search (dotted_without, rules, tests)

pub returns-then-is_empty-2 : goal.returns-then-is_empty-2
returns-then-is_empty-2 t c = let z : length c.args.string.now ≡ 0 = search (rules, tests) in search plain_none

pub returns-then-takes_first-2 : goal.returns-then-takes_first-2
returns-then-takes_first-2 t c = search (plain_with, rules, tests)

pub returns-else-takes_first-2 : goal.returns-else-takes_first-2
returns-else-takes_first-2 t c = let z : length c.args.string.now ≡ 0 → ⊥ = search (rules, tests) in search plain_without

pub returns-in-Ok-None : goal.returns-in-Ok-None
returns-in-Ok-None t c = search tries_end

pub returns-in-Err : goal.returns-in-Err
returns-in-Err t c = search tries_malformed
