use Rattle.base.specs.Pick.{pick_yes_by, pick_no_by}
use Rattle.megaco.specs.Names.{wildcard_name}
use Rattle.names.proofs.wildcard_name.Goals as goal

pub returns-then-is_word : goal.returns-then-is_word
returns-then-is_word c = unfold wildcard_name in search (pick_yes_by, pick_no_by) depth 12

pub returns-then-is_word-2 : goal.returns-then-is_word-2
returns-then-is_word-2 c = unfold wildcard_name in search (pick_yes_by, pick_no_by) depth 12

pub returns-then-is_word-3 : goal.returns-then-is_word-3
returns-then-is_word-3 c = unfold wildcard_name in search (pick_yes_by, pick_no_by) depth 12

pub returns : goal.returns
returns c = unfold wildcard_name in search (pick_yes_by, pick_no_by) depth 12
