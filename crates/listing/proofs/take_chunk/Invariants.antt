use Rattle.std.proofs.Common.{◌≡◌, ◌-◌, length, take, drop}
use Rattle.sessions.specs.Session.{taken_in}
use Rattle.listing.proofs.take_chunk.Given as goal

abbrev pub invariant-loop-from : goal.invariant-loop-from
invariant-loop-from g l =
    (length l.out ≡ length l.fn.out)
    × (taken_in (take l.fn.line.held l.fn.line.bytes) l.fn.lent l.chunk ≡ taken_in (take l.line.held l.line.bytes) l.lent (drop l.from l.chunk))

abbrev pub decreases-loop-from : goal.decreases-loop-from
decreases-loop-from g l = length l.chunk - l.from
