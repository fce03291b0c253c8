use Rattle.trials_check.proofs.Functions.{calls_stored}
use Rattle.trials_check.proofs.tables.check_case.Goals as goal

pub check_changes-requires-clause-calls : goal.check_changes-requires-clause-calls
check_changes-requires-clause-calls g c = calls_stored _ _ c.known.ensures c.requires.functions
