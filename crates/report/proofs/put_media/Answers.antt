use Rattle.megaco.specs.Reply.{detail_text}
use Rattle.base.proofs.OutLaws.{three}
use Rattle.report.proofs.put_media.Goals as goal

pub returns : goal.returns
returns c = unfold detail_text in search three
