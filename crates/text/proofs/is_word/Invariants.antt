use Rattle.std.proofs.Common.{◌≡◌}
use lib.ListN.{drop}
use Rattle.base.specs.Lists.{same}
use Rattle.megaco.specs.Bytes.{capitals}
use Rattle.text.proofs.is_word.Given as goal

abbrev pub invariant-loop-i : goal.invariant-loop-i
invariant-loop-i l = same (capitals l.w) l.form ≡ same (capitals (drop l.i l.w)) (drop l.i l.form)
