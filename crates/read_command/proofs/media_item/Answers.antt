use Rattle.read_command.proofs.ItemLaws.{media_item}
use Rattle.read_command.proofs.media_item.Goals as goal

pub returns : goal.returns
returns c = media_item c.args.s.now c.args.at c.word.result c.word.ensures c.in_ok-e.e c.in_ok-e.was c.head_from.result c.head_from.ensures c.speech_from.result c.in_ok-p.p c.in_ok-p.was c.braced_items.result c.speech_from.ensures c.if-speech_from.false c.braced_items.ensures
