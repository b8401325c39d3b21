use Rattle.std.proofs.Common.{◌≡◌}
use lib.ListN.{drop}
use Rattle.megaco.specs.Tokens.{octets_from, octets_at}
use Rattle.text.proofs.octets.Given as goal

abbrev pub invariant-loop-i : goal.invariant-loop-i
invariant-loop-i l = octets_at l.s l.at ≡ octets_from (drop l.i l.s) l.i l.escaped
