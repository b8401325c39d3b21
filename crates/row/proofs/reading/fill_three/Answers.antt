use Rattle.row.proofs.ReadLaws.{no_port_lem, no_kind}
use Rattle.row.proofs.reading.fill_three.Goals as goal

pub returns-in_err-b : goal.returns-in_err-b
returns-in_err-b c =
    rw (c.from_residual-in_err-b.ensures) (no_port_lem c.args.row.now c.args.p c.args.k c.args.table.now c.args.table.now c.take_number.result c.take_number.ensures
    c.in_ok-a.a c.in_ok-a.q c.in_ok-a.was c.take_number-2.result c.take_number-2.ensures c.in_err-b.was)

pub returns-in_err-c : goal.returns-in_err-c
returns-in_err-c c =
    rw (c.from_residual-in_err-c.ensures) (no_kind c.args.row.now c.args.p c.args.k c.args.table.now c.args.table.now c.take_number.result c.take_number.ensures
    c.in_ok-a.a c.in_ok-a.q c.in_ok-a.was c.take_number-2.result c.take_number-2.ensures c.in_ok-b.b c.in_ok-b.q1 c.in_ok-b.was c.take_number-3.result c.take_number-3.ensures c.in_err-c.was)
