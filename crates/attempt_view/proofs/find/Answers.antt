use Rattle.std.proofs.Common.{rules}
use Rattle.attempt_view.proofs.ViewLaws.{found_none}
use Rattle.table.proofs.TableLaws.{known_yes}
use Rattle.attempt_view.proofs.find.Goals as goal

pub returns-else-is_known : goal.returns-else-is_known
returns-else-is_known c = search (found_none, known_yes, rules)
