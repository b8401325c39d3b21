use Rattle.digits.specs.DigitMap.{bracket_at}
use Rattle.map_text.proofs.PartLaws.{parts}
use Rattle.text.proofs.TextLaws.{within}
use lib.Dec.{lit<}
use Rattle.map_text.proofs.bracket.Goals as goal

pub returns-in_default : goal.returns-in_default
returns-in_default c = unfold bracket_at in search parts depth 12

pub range_at-requires : goal.range_at-requires
range_at-requires c = search (within, lit<)

pub returns-then-is_at : goal.returns-then-is_at
returns-then-is_at c = unfold bracket_at in search parts depth 12

pub returns : goal.returns
returns c = unfold bracket_at in search parts depth 12
