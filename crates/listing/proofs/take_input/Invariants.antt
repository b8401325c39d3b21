use Rattle.std.proofs.Common.{◌≡◌, length}
use Rattle.sessions.specs.Session.{Reads}
use Rattle.listing.proofs.take_input.Given as goal

abbrev pub invariant-loop : goal.invariant-loop
invariant-loop g l =
    (length l.out ≡ length l.fn.out) × Reads l.fn.lent l.counter l.line.bytes l.lent l.line.held
