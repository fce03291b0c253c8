-- In the histories of a run a unit that ends or is suspended comes back to its own desk, which is out.
use Rattle.std.proofs.Common.{◌≡◌, Bool, true, false, List, [], ◌∷◌, Option, Some, None, refl}
use Rattle.abt_machine.specs.Stored.{Stored}
use Rattle.abt_machine.specs.declared.workload.Parts.{Parts}
use Rattle.abt_machine.specs.State.{State}
use Rattle.abt_machine.specs.Values.{Owned, Object, DeskIs, part_of, object_of}
use Rattle.abt_machine.specs.Acts.{Act, End, Suspend}
use Rattle.abt_machine.specs.Desks.{takes_back}
use Rattle.abt_machine.specs.Turns.{Heard}
use Rattle.abt_interleave.specs.Histories.{Leads, Legal}
use Rattle.abt_simulation.specs.Merging.{SiteEntry, machine_of}
use Rattle.abt_simulation.proofs.Merged.{deeds-of, is-simulated, tells-sites}
use Rattle.abt_calls.specs.OwnDesks.{BringsBack, IsTakenBack, TakesBack}
use Rattle.abt_calls.proofs.TakenBack.{steps-bring-back}
use Rattle.abt_interleave.specs.Passing.{CallPasses, GivesPassing, StepsPass}
use Rattle.abt_interleave.proofs.Noted.{entries-pass}
use Rattle.abt_calls.specs.Returns.{EntriesComeBack, GivesOwn}

-- the same, as a test

abbrev takes : Object → Owned → Bool
takes (DeskIs desk) o = takes_back desk o
takes object o = false

abbrev taken_back : Object → Act → Bool
taken_back object (End o cause) = takes object o
taken_back object (Suspend o) = takes object o
taken_back object act = true

to-takes : (object : Object) (o : Owned) → TakesBack object o → takes object o ≡ true
to-takes (DeskIs desk) o is = is
to-takes _ o is = absurd is

from-takes : (object : Object) (o : Owned) → takes object o ≡ true → TakesBack object o
from-takes (DeskIs desk) o is = is
from-takes _ o is = cc

to-test : (act : Act) (object : Object) → IsTakenBack act object → taken_back object act ≡ true
to-test (End o cause) object is = to-takes object o is
to-test (Suspend o) object is = to-takes object o is
to-test _ object is = refl

from-test : (act : Act) (object : Object) → taken_back object act ≡ true → IsTakenBack act object
from-test (End o cause) object is = from-takes object o is
from-test (Suspend o) object is = from-takes object o is
from-test _ object is = tt

module _ (W : Parts) (Z : Stored) where
  passes : (S : State) (heard : Option Heard) → BringsBack W S heard → CallPasses (machine_of W Z) taken_back S heard
  passes S None is = tt
  passes S (Some h) is = to-test h.1 (object_of W S h.0) is

  steps-pass : StepsPass (machine_of W Z) taken_back
  steps-pass S s w heard part sound declared steps = passes S heard (steps-bring-back W Z S s w heard part steps)

  comes-back : (o : Object) (es : List SiteEntry) (q : Object) → Leads (GivesPassing (machine_of W Z) taken_back) o es q → Leads GivesOwn o es q
  comes-back o [] q l = l
  comes-back o (e ∷ es) q l = (l.0, (l.1.0, from-test e.act o l.1.1), comes-back l.0 es q l.2)

pub entries-come-back : (W : Parts) (Z : Stored) → EntriesComeBack W Z
entries-come-back W Z valid stored S sound logs histories ends finals J gathered sorted x =
    let l = deeds-of W Z (part_of W S) (object_of W S) logs histories ends finals J gathered sorted in
    let pass : Legal (GivesPassing (machine_of W Z) taken_back) (object_of W S x) (histories x) (finals x) =
    entries-pass (machine_of W Z) (tells-sites W Z) (is-simulated W Z valid stored) taken_back (steps-pass W Z) S sound logs histories ends finals l.0 gathered l.1 x in
    (pass.0, comes-back W Z (object_of W S x) (histories x) (finals x) pass.1)
