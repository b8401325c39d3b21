use Rattle.std.proofs.Common.{◌+◌, drop}
use Rattle.sessions.specs.Listing.{each, context_line, context_lines}
use Rattle.sessions.proofs.EachLaws.{Leads}
use Rattle.sessions.proofs.put_lines.Given as goal

abbrev pub invariant-loop-i : goal.invariant-loop-i
invariant-loop-i l = Leads l.initial.out l.at (context_lines l.lines l.row l.records) l.out l.p (each (context_line l.lines l.row) (l.i + 1) (drop l.i l.records))
