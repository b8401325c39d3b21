use Rattle.map_text.proofs.SelectorLaws.{letters_start, letters_size, letters_on, letters_end, letters_bad, letters_many}
use Rattle.map_text.proofs.letters.Goals as goal

pub loop-init : goal.loop-init
loop-init c = search letters_start

pub returns-in_err-more : goal.returns-in_err-more
returns-in_err-more c = search (letters_bad, c.in_err-more.was)

pub returns-in_default : goal.returns-in_default
returns-in_default c = search (letters_end, c.in_ok-more.was)

pub overflow_add-x : goal.overflow_add-x
overflow_add-x c = search (letters_size, c.in_ok-more.was)

pub loop-preserved : goal.loop-preserved
loop-preserved c = search (letters_on, c.in_ok-more.was)

pub returns : goal.returns
returns c = search letters_many
