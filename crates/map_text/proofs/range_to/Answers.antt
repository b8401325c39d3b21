use Rattle.digits.specs.DigitMap.{range_to}
use Rattle.map_text.proofs.SelectorLaws.{range_right}
use Rattle.base.specs.Pick.{picks}
use Rattle.map_text.proofs.range_to.Goals as goal

pub returns-then-low-high : goal.returns-then-low-high
returns-then-low-high c = search range_right

pub returns : goal.returns
returns c = unfold range_to in search picks
