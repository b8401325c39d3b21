use Rattle.std.proofs.Common.{drop}
use Rattle.sessions.specs.Listing.{each, member_text, members_text}
use Rattle.sessions.proofs.EachLaws.{Leads}
use Rattle.sessions.proofs.put_members.Given as goal

abbrev pub invariant-loop-i : goal.invariant-loop-i
invariant-loop-i l = Leads l.initial.out l.at (members_text l.lines l.c l.row) l.out l.p (each (member_text l.lines l.c) l.i (drop l.i l.row))
