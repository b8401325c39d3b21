use Rattle.dialling.proofs.LiveLaws.{symbol_small}
use Rattle.plain_digits.proofs.takes_first.Goals as goal

pub takes-requires : goal.takes-requires
takes-requires c = search symbol_small
