use Rattle.std.proofs.Common.{◌∙◌}
use Rattle.read_message.proofs.VerdictLaws.{range_fault, range_both}
use Rattle.read_message.proofs.range.Goals as goal

pub returns-in_err-end : goal.returns-in_err-end
returns-in_err-end c = c.from_residual-in_err-end.ensures ∙ range_fault c.args.s.now c.args.at c.in_ok-value.value c.in_ok-value.next c.in_ok-value.ensures c.is_at.result c.is_at.ensures c.if-is_at.true c.in_err-end.ensures

pub returns-then-is_at : goal.returns-then-is_at
returns-then-is_at c = range_both c.args.s.now c.args.at c.in_ok-value.value c.in_ok-value.next c.in_ok-value.ensures c.is_at.result c.is_at.ensures c.if-is_at.true c.in_ok-end.field-0-0 c.in_ok-end.end c.in_ok-end.ensures
