use Rattle.abt_events.proofs.Events.{named-sites-are-called}
use Rattle.abt_events.proofs.steps.named_sites_are_called.Goals as goal

pub returns : goal.returns
returns c = named-sites-are-called
