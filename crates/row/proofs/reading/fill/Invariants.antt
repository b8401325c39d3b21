use Rattle.std.proofs.Common.{◌≡◌, ◌-◌, length}
use Rattle.row_laws.specs.Filling.{items, fill_from}
use Rattle.row.proofs.reading.fill.Given as goal

abbrev pub invariant-loop-j : goal.invariant-loop-j
invariant-loop-j l = record {
  long : length l.table ≡ length l.fn.table;
  same : fill_from l.lines l.fn.row (items l.lines) 0 l.fn.first l.fn.table ≡ fill_from l.lines l.fn.row (items l.lines - l.j) l.j l.at l.table;
}
