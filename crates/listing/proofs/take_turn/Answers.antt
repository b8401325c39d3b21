use Rattle.std.proofs.Common.{rules, arith, refl}
use Rattle.sessions.proofs.SessionLaws.{turn_ended, turn_open, holds_by, holds_whole}
use Rattle.base.specs.Lists.{before}
use Rattle.sessions.specs.Session.{HoldsLine}
use Rattle.listing.proofs.take_turn.Goals as goal

pub returns-then-e-chunk : goal.returns-then-e-chunk
returns-then-e-chunk c =
    let hold : HoldsLine c.args.line.now.bytes c.args.line.now.held = holds_by _ _ (search rules) c.args.line.now.within c.args.line.now.unended in
    search turn_ended

pub returns : goal.returns
returns c =
    let hold : HoldsLine c.args.line.now.bytes c.args.line.now.held = holds_by _ _ (search rules) c.args.line.now.within c.args.line.now.unended in
    search turn_open

pub invariant_of-line : goal.invariant_of-line
unfolding before
invariant_of-line c = record { within = omega arith; unended = refl }

pub invariant_of-line-2 : goal.invariant_of-line-2
invariant_of-line-2 c =
    let hold : HoldsLine c.args.line.now.bytes c.args.line.now.held = holds_by _ _ (search rules) c.args.line.now.within c.args.line.now.unended in
    let t =
    turn_open c.args.chunk.now c.args.from c.line_end-e.result c.line_end-e.ensures c.args.line.now.bytes c.args.line.now.held hold c.take_part-h.new.line c.take_part-h.result c.take_part-h.ensures
    c.args.lent.now c.args.out.now c.requires.from_in_bounds c.if-e-chunk.false in
    record { within = t.holds.within; unended = holds_whole _ _ t.holds }
