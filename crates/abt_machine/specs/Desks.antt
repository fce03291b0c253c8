-- What a desk answers, and what it is afterwards.
use Rattle.std.specs.Prelude.{◌≡◌, ◌==◌, ◌&&◌, if◌then◌else◌, Bool, true, false, [], ◌∷◌, ◌++◌, Option, Some, None, option_map, IsTrue, IsFalse}
use Rattle.abt_machine.specs.declared.events.Cause.{Cause}
use Rattle.abt_machine.specs.declared.events.Code.TheVariants as code
use Rattle.abt_machine.specs.Values.{Owned, Phase, Unborn, Out, Suspended, Ended, DeskValue}
use Rattle.abt_machine.specs.Acts.{Act, Create, End, Join, AskCancel, AskMigrate, Look, Suspend, Resume, Revive, SetMigratable, Answer, Given, Woke, Rested, Asks, Coded, reborn}

-- the unit that a desk holds, by where it is

abbrev pub unborn_in : Phase → Option Owned
unborn_in (Unborn o) = Some o
unborn_in Out = None
unborn_in (Suspended o) = None
unborn_in (Ended o c) = None

abbrev pub suspended_in : Phase → Option Owned
suspended_in (Unborn o) = None
suspended_in Out = None
suspended_in (Suspended o) = Some o
suspended_in (Ended o c) = None

abbrev pub ended_in : Phase → Option Owned
ended_in (Unborn o) = None
ended_in Out = None
ended_in (Suspended o) = None
ended_in (Ended o c) = Some o

abbrev pub is_out : Phase → Bool
is_out (Unborn o) = false
is_out Out = true
is_out (Suspended o) = false
is_out (Ended o c) = false

abbrev pub has_ended : Phase → Bool
has_ended (Unborn o) = false
has_ended Out = false
has_ended (Suspended o) = false
has_ended (Ended o c) = true

-- neither unborn nor ended
abbrev pub is_living : Phase → Bool
is_living (Unborn o) = false
is_living Out = true
is_living (Suspended o) = true
is_living (Ended o c) = false

-- the desk is out, and the unit is its own
abbrev pub takes_back : DeskValue → Owned → Bool
takes_back desk o = is_out desk.phase && o.number == desk.number

abbrev pub with_phase : Phase → DeskValue → DeskValue
with_phase phase desk = record desk { phase = phase }

abbrev pub with_joiner : Owned → DeskValue → DeskValue
with_joiner o desk = record desk { joiners = desk.joiners ++ o ∷ [] }

-- nothing is asked of the unit
abbrev pub unasked : DeskValue → DeskValue
unasked desk = record desk { cancel = false; migrate = None }

-- nobody joins a unit that has ended, and nothing is asked of it
abbrev pub with_ended : Owned → Cause → DeskValue → DeskValue
with_ended o cause desk = record desk { phase = Ended o cause; joiners = []; cancel = false; migrate = None }

-- a desk's answer, and the desk afterwards; a unit that ends or is suspended at a desk that is not its own or not out is kept
-- as the last joiner
abbrev pub DeskGives : DeskValue → Act → Answer → DeskValue → Type 0
DeskGives old (Create p) (Given o) new = (option_map (reborn p) (unborn_in old.phase) ≡ Some o) × (new ≡ with_phase Out old)
DeskGives old (Create p) (Coded code.Exists) new = (unborn_in old.phase ≡ None) × (new ≡ old)
DeskGives old (End o cause) (Woke os) new =
    (os ≡ if takes_back old o then old.joiners else []) × (new ≡ if takes_back old o then with_ended o cause old else with_joiner o old)
DeskGives old (Join o) (Given b) new = IsTrue (has_ended old.phase) × (b ≡ o) × (new ≡ old)
DeskGives old (Join o) Rested new = IsFalse (has_ended old.phase) × (new ≡ with_joiner o old)
DeskGives old AskCancel (Coded code.Ok) new = IsTrue (is_living old.phase) × (new ≡ record old { cancel = true })
DeskGives old AskCancel (Coded code.UnitState) new = IsFalse (is_living old.phase) × (new ≡ old)
DeskGives old (AskMigrate p) (Coded code.Ok) new =
    IsTrue (is_living old.phase) × IsTrue old.migratable × (new ≡ record old { migrate = Some p })
DeskGives old (AskMigrate p) (Coded code.UnitState) new = IsFalse (is_living old.phase) × (new ≡ old)
DeskGives old (AskMigrate p) (Coded code.NotMigratable) new =
    IsTrue (is_living old.phase) × IsFalse old.migratable × (new ≡ old)
DeskGives old Look (Asks cancel migrate) new = (cancel ≡ old.cancel) × (migrate ≡ old.migrate) × (new ≡ unasked old)
DeskGives old (Suspend o) Rested new = new ≡ if takes_back old o then with_phase (Suspended o) old else with_joiner o old
DeskGives old Resume (Given o) new = (suspended_in old.phase ≡ Some o) × (new ≡ with_phase Out old)
DeskGives old Resume (Coded code.UnitState) new = (suspended_in old.phase ≡ None) × (new ≡ old)
DeskGives old (Revive p) (Given o) new = (option_map (reborn p) (ended_in old.phase) ≡ Some o) × (new ≡ with_phase Out old)
DeskGives old (Revive p) (Coded code.UnitState) new = (ended_in old.phase ≡ None) × (new ≡ old)
DeskGives old (SetMigratable allowed) (Coded code.Ok) new = IsFalse old.sched × (new ≡ record old { migratable = allowed })
DeskGives old (SetMigratable allowed) (Coded code.NotMigratable) new = IsTrue old.sched × (new ≡ old)
DeskGives old act answer new = ⊥
