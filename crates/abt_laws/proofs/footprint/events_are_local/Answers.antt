-- An event changes only its stream and its site.
use Rattle.std.proofs.Common.{sym, subst}
use Rattle.abt_laws.specs.Footprint.{ChangesOnly}
use Rattle.abt_laws.proofs.Local.{changes-only}
use Rattle.abt_laws.proofs.LocalEvents.{event-local}
use Rattle.abt_machine.specs.EventSites.{event_site}
use Rattle.abt_machine.specs.Events.{change}
use Rattle.abt_laws.proofs.footprint.events_are_local.Goals as goal

pub returns : goal.returns
returns c = λ W Z valid stored S T e sound step.
    subst (λ T. ChangesOnly W e.stream.0 (event_site W e) S T) (sym step.2)
    (changes-only W S e.stream.0 (event_site W e) (change W S e.stream.0 e.what) (event-local W valid Z S e.stream.0 e.what step.1))
