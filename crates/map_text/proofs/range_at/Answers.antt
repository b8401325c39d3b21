use Rattle.digits.specs.DigitMap.{range_at}
use Rattle.map_text.proofs.PartLaws.{parts, letters_within, letters_before}
use Rattle.map_text.proofs.range_at.Goals as goal

pub letters-requires : goal.letters-requires
letters-requires c = search letters_within

pub returns-then-x-eq0 : goal.returns-then-x-eq0
returns-then-x-eq0 c = unfold range_at in search (parts, c.in_ok-x.was) depth 12

pub close_at-requires : goal.close_at-requires
close_at-requires c = search (letters_before, c.in_ok-x.was)

pub returns : goal.returns
returns c = unfold range_at in search (parts, c.in_ok-x.was) depth 12
