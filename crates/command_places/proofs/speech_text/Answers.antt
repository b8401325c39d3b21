use Rattle.command_places.proofs.PlaceLaws.{text_within, text_is, text_begins}
use Rattle.command_places.proofs.speech_text.Goals as goal

pub text_of-requires : goal.text_of-requires
text_of-requires c = search text_within

pub returns-clause-result_value : goal.returns-clause-result_value
returns-clause-result_value c = search text_is

pub returns-clause-ref_ptr_value : goal.returns-clause-ref_ptr_value
returns-clause-ref_ptr_value c = search text_begins
