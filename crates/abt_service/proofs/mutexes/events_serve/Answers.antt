use Rattle.abt_service.proofs.Serving.{events-serve}
use Rattle.abt_service.proofs.mutexes.events_serve.Goals as goal

pub returns : goal.returns
returns c = events-serve
