-- In the histories of a run a unit that ends or is suspended comes back to its own desk, which is out.
use Rattle.std.specs.Prelude.{ℕ, List}
use Rattle.abt_machine.specs.declared.events.Event.{Event}
use Rattle.abt_machine.specs.declared.events.Site.{Site}
use Rattle.abt_machine.specs.Stored.{Stored}
use Rattle.abt_machine.specs.declared.workload.Parts.{Parts}
use Rattle.abt_machine.specs.Valid.{IsValid}
use Rattle.abt_machine.specs.Rounds.{OrdersStored}
use Rattle.abt_machine.specs.State.{State}
use Rattle.abt_machine.specs.Sound.{Sound}
use Rattle.abt_machine.specs.Values.{Held, Object, part_of, object_of}
use Rattle.abt_machine.specs.Acts.{Act, Answer}
use Rattle.abt_machine.specs.Gives.{SiteGives}
use Rattle.abt_interleave.specs.Histories.{Legal}
use Rattle.abt_interleave.specs.Machines.{Gathered}
use Rattle.abt_simulation.specs.Merging.{StreamDeed, SiteEntry, IsJournalOf, machine_of}
use Rattle.abt_calls.specs.OwnDesks.{IsTakenBack}

-- an object gives an answer, and a unit that comes back with the act comes to its own desk, which is out
abbrev pub GivesOwn : Object → Act → Answer → Object → Type 0
GivesOwn old act answer new = SiteGives old act answer new × IsTakenBack act old

-- from a sound state, each history that all logs gather to is one in which units come back to their own desks alone
abbrev pub EntriesComeBack : Parts → Stored → Type 0
EntriesComeBack W Z = IsValid W → OrdersStored W Z.orders → (S : State) → Sound W Z S →
    (logs : ℕ → List StreamDeed) (histories : Site → List SiteEntry) (ends : ℕ → Held) (finals : Site → Object) (J : List Event) →
    Gathered (machine_of W Z) (part_of W S) (object_of W S) logs histories ends finals → IsJournalOf logs J →
    (x : Site) → Legal GivesOwn (object_of W S x) (histories x) (finals x)
