use Rattle.std.proofs.Common.{rules, arith, refl, ◌≡◌, ◌≤◌, ◌<◌, length, None}
use Rattle.run_message.proofs.ServeLaws.{drop_begins, none_dropped, none_ends, last_dropped, last_ends, drops_more}
use Rattle.run_message.proofs.drop_acks.Goals as goal

pub loop-n-init : goal.loop-n-init
loop-n-init c = (refl, drop_begins _ _ _ _)

pub returns-in_default : goal.returns-in_default
returns-in_default c =
    let w : c.next_part.result ≡ None = search rules in
    let h : c.loop-n.n ≤ length c.args.s.now = omega arith in
    (search last_dropped, search last_ends)

pub loop-n-preserved : goal.loop-n-preserved
loop-n-preserved c =
    let h : c.loop-n.n ≤ length c.args.s.now = omega arith in
    (search rules, search drops_more)

pub returns : goal.returns
returns c =
    let h : length c.args.s.now < c.loop-n.n = omega arith in
    (search none_dropped, search none_ends)
