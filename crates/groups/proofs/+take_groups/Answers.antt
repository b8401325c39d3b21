use Rattle.std.proofs.Common.{arith, ◌-◌, ◌+◌, ◌*◌, ◌<◌, ◌≤◌, length, Fits, w32}
use Rattle.groups.proofs.TakeLaws.{more_fits, bytes}
use Rattle.groups.proofs.+take_groups.Goals as goal

pub overflow_mul-result : goal.overflow_mul-result
overflow_mul-result t c =
    let f : Fits w32 (c.wide-b.result - 128 + 128 * c.in_ok-v.v) = more_fits c.args.s.now c.args.at c.args.left c.wide-b.result (omega arith) c.wide-b.ensures c.take_groups.result c.if-left-eq0.false (omega arith) c.take_groups.ensures
    c.in_ok-v.v c.in_ok-v.q (bytes c.args.s.now c.type_inv.s) c.requires c.in_ok-v.was c.if-v-eq0.false in
    record { fits = omega (arith, f.fits) }

pub overflow_add-result-2 : goal.overflow_add-result-2
overflow_add-result-2 t c =
    more_fits c.args.s.now c.args.at c.args.left c.wide-b.result (omega arith) c.wide-b.ensures c.take_groups.result c.if-left-eq0.false (omega arith) c.take_groups.ensures
    c.in_ok-v.v c.in_ok-v.q (bytes c.args.s.now c.type_inv.s) c.requires c.in_ok-v.was c.if-v-eq0.false
