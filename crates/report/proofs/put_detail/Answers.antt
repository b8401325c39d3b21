use Rattle.std.proofs.Common.{rules}
use Rattle.report.proofs.ReportLaws.{detail_media}
use Rattle.report.proofs.ReportLaws.{detail_nothing}
use Rattle.report.proofs.put_detail.Goals as goal

pub returns-then-audited : goal.returns-then-audited
returns-then-audited c = search (detail_media, detail_nothing, rules)

pub returns : goal.returns
returns c = search (detail_media, detail_nothing, rules)
