use Rattle.table_run.proofs.EightLaws.{eight}
use Rattle.table_run.proofs.report.Goals as goal

pub members-requires : goal.members-requires
members-requires g c = search eight

pub free_context-requires : goal.free_context-requires
free_context-requires g c = search eight
