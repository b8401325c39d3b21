use Rattle.std.proofs.Common.{◌≡◌, ◌<◌, ◌^◌, ◌-◌, ◌+◌, length}
use Rattle.read_command.specs.Places.{body_place}
use Rattle.read_action.proofs.body.Given as goal

-- what is left of the body from here is the body
abbrev pub invariant-loop-n : goal.invariant-loop-n
invariant-loop-n l = body_place (length l.s + 1 - l.n) l.s l.i ≡ body_place (length l.s + 1) l.s l.at
