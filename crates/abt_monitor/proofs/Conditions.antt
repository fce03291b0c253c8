-- How many conditions a monitor has.
use Rattle.std.proofs.Common.{◌≡◌, ℕ, List, [], ◌∷◌, ◌++◌, Option, None, Some, length, refl, ap, ◌∙◌}
use Rattle.std.proofs.lemmas.List.{length-set}
use Rattle.abt_machine.specs.declared.events.Code.TheVariants as code
use Rattle.abt_machine.specs.Acts.{Lock, TryLock, Unlock, Load, Store, Wait, Signal, Broadcast, Given, Rested, Number, Coded, Back}
use Rattle.abt_machine.specs.Monitors.{admitted, admitted_by, after_broadcast, after_signal, all_admitted, at_condition, rest, with_condition}
use Rattle.abt_machine.specs.Queues.{first_alone}
use Rattle.abt_machine.specs.Values.{MonitorValue, Owned}
use Rattle.abt_monitor.specs.Keeps.{MonitorsKeepTheirConditions}

length-admitted_by : (owner : Option ℕ) (o : Owned) (m : MonitorValue) → length (admitted_by owner o m).conds ≡ length m.conds
length-admitted_by None o m = refl
length-admitted_by (Some v) o m = refl

length-all_admitted : (os : List Owned) (m : MonitorValue) → length (all_admitted os m).conds ≡ length m.conds
length-all_admitted [] m = refl
length-all_admitted (o ∷ os) m = length-all_admitted os (admitted o m) ∙ length-admitted_by m.owner o m

pub length-after_signal : (k : ℕ) (m : MonitorValue) → length (after_signal k m).conds ≡ length m.conds
length-after_signal k m =
    length-all_admitted (first_alone (at_condition k m)) (with_condition k (rest (at_condition k m)) m) ∙ length-set m.conds k (rest (at_condition k m))

length-after_broadcast : (k : ℕ) (m : MonitorValue) → length (after_broadcast k m).conds ≡ length m.conds
length-after_broadcast k m = length-all_admitted (at_condition k m) (with_condition k [] m) ∙ length-set m.conds k []

abbrev conditions : MonitorValue → ℕ
conditions m = length m.conds

pub monitors-keep-their-conditions : MonitorsKeepTheirConditions
monitors-keep-their-conditions old (Lock o) (Given b) new gives = ap conditions gives.2
monitors-keep-their-conditions old (Lock o) Rested new gives = ap conditions gives.1
monitors-keep-their-conditions old (TryLock u) (Coded code.Ok) new gives = ap conditions gives.1
monitors-keep-their-conditions old (TryLock u) (Coded code.MutexLocked) new gives = ap conditions gives.1
monitors-keep-their-conditions old (Unlock u) (Given b) new gives = ap conditions gives.2
monitors-keep-their-conditions old (Unlock u) Rested new gives = ap conditions gives.2
monitors-keep-their-conditions old (Unlock u) (Coded code.NotOwner) new gives = ap conditions gives.1
monitors-keep-their-conditions old (Load u) (Number n) new gives = ap conditions gives.2
monitors-keep-their-conditions old (Load u) (Coded code.NotOwner) new gives = ap conditions gives.1
monitors-keep-their-conditions old (Store u n) (Coded code.Ok) new gives = ap conditions gives.1
monitors-keep-their-conditions old (Store u n) (Coded code.NotOwner) new gives = ap conditions gives.1
monitors-keep-their-conditions old (Wait k o) (Given b) new gives = ap conditions gives.2 ∙ length-set old.conds k (at_condition k old ++ o ∷ [])
monitors-keep-their-conditions old (Wait k o) Rested new gives = ap conditions gives.2 ∙ length-set old.conds k (at_condition k old ++ o ∷ [])
monitors-keep-their-conditions old (Wait k o) (Back b code.NotOwner) new gives = ap conditions gives.2
monitors-keep-their-conditions old (Signal k) (Given b) new gives = ap conditions gives.1 ∙ length-after_signal k old
monitors-keep-their-conditions old (Signal k) Rested new gives = ap conditions gives.1 ∙ length-after_signal k old
monitors-keep-their-conditions old (Broadcast k) (Given b) new gives = ap conditions gives.1 ∙ length-after_broadcast k old
monitors-keep-their-conditions old (Broadcast k) Rested new gives = ap conditions gives.1 ∙ length-after_broadcast k old
monitors-keep-their-conditions old act answer new gives = absurd gives
