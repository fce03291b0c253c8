use Rattle.abt_run.proofs.Judging.{fetches-none}
use Rattle.abt_run.proofs.checking.fetch_default.Goals as goal

pub returns-clause-stop : goal.returns-clause-stop
returns-clause-stop g c = λ file_of agree. fetches-none c.fetch_run.result _ _ (c.fetch_run.ensures.stop file_of agree)
