use Rattle.abt_events.proofs.Forgotten.{looks-forget}
use Rattle.abt_events.proofs.requests.looks_forget.Goals as goal

pub returns : goal.returns
returns c = looks-forget
