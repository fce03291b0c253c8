-- What monitors keep.
use Rattle.std.proofs.Common.{◌≡◌, ℕ, zero, suc, List, [], ◌∷◌, ◌++◌, Option, None, Some, sym, subst, All}
use Rattle.std.proofs.lemmas.List.Elements.{All-append, All-cons, All-head, All-nil, All-set, All-tail}
use Rattle.std.specs.List.{flat_map}
use Rattle.std.specs.Prelude.{slice_get}
use Rattle.abt_machine.specs.declared.events.Code.TheVariants as code
use Rattle.abt_machine.specs.Acts.{Lock, TryLock, Unlock, Load, Store, Wait, Signal, Broadcast, Given, Rested, Number, Coded, Back}
use Rattle.abt_machine.specs.Monitors.{MonitorGives, admitted, admitted_by, after_broadcast, after_signal, after_wait, all_admitted, at_condition, handed_over, list_from, new_owner, rest, with_condition, with_owner}
use Rattle.abt_machine.specs.Queues.{first}
use Rattle.abt_machine.specs.Values.{MonitorValue, Owned}
use Rattle.abt_machine.proofs.Elements.{All-first_alone, All-left, All-rest, All-right}
use Rattle.abt_unit.specs.Fits.{Fits}
use Rattle.abt_chain.specs.Keeping.{Have, IsPoolOf, Keeps}
use Rattle.abt_chain.proofs.Kept.{Have-nothing, Have-unit, Have-units}
use Rattle.abt_monitor.specs.Keeps.{MonitorsKeepWhatFits, contents_of_monitor}

-- Facts of parts of lists.

All-of_flat : (F : Owned → Type 0) (cs : List (List Owned)) → All F (flat_map (λ os. os) cs) → All (All F) cs
All-of_flat F [] all = All-nil (All F)
All-of_flat F (os ∷ cs) all = All-cons (All F) os cs (All-left F os _ all) (All-of_flat F cs (All-right F os _ all))

All-flat : (F : Owned → Type 0) (cs : List (List Owned)) → All (All F) cs → All F (flat_map (λ os. os) cs)
All-flat F [] all = All-nil F
All-flat F (os ∷ cs) all =
    All-append F os (flat_map (λ qs. qs) cs) (All-head (All F) os cs all) (All-flat F cs (All-tail (All F) os cs all))

All-list_from : (F : Owned → Type 0) (cs : List (List Owned)) (k : ℕ) → All (All F) cs → All F (list_from (slice_get cs k))
All-list_from F [] k all = All-nil F
All-list_from F (os ∷ cs) zero all = All-head (All F) os cs all
All-list_from F (os ∷ cs) (suc k) all = All-list_from F cs k (All-tail (All F) os cs all)

first-has : (F : Owned → Type 0) (os : List Owned) (o : Owned) → All F os → first os ≡ Some o → F o
first-has F [] o all e = cc
first-has F (p ∷ os) o all e = let same : p ≡ o = cc in subst F same (All-head F p os all)

new_owner-has : (F : Owned → Type 0) (owner : Option ℕ) (os : List Owned) (o : Owned) → All F os → new_owner owner os ≡ Some o → F o
new_owner-has F None os o all e = first-has F os o all e
new_owner-has F (Some v) os o all e = cc

-- Facts of all units of a monitor.

record Holds (F : Owned → Type 0) (m : MonitorValue) : Type 0 where
  waiters : All F m.waiters
  conds : All (All F) m.conds

Holds-at_condition : (F : Owned → Type 0) (k : ℕ) (m : MonitorValue) → Holds F m → All F (at_condition k m)
Holds-at_condition F k m holds = All-list_from F m.conds k holds.conds

Holds-with_condition : (F : Owned → Type 0) (k : ℕ) (os : List Owned) (m : MonitorValue) → Holds F m → All F os → Holds F (with_condition k os m)
Holds-with_condition F k os m holds all = record { waiters = holds.waiters; conds = All-set (All F) m.conds k os all holds.conds }

Holds-with_owner : (F : Owned → Type 0) (owner : Option ℕ) (m : MonitorValue) → Holds F m → Holds F (with_owner owner m)
Holds-with_owner F owner m holds = record { waiters = holds.waiters; conds = holds.conds }

Holds-with_number : (F : Owned → Type 0) (n : ℕ) (m : MonitorValue) → Holds F m → Holds F (record m { number = n })
Holds-with_number F n m holds = record { waiters = holds.waiters; conds = holds.conds }

Holds-handed_over : (F : Owned → Type 0) (m : MonitorValue) → Holds F m → Holds F (handed_over m)
Holds-handed_over F m holds = record { waiters = All-rest F m.waiters holds.waiters; conds = holds.conds }

Holds-waiting : (F : Owned → Type 0) (o : Owned) (m : MonitorValue) → Holds F m → F o → Holds F (record m { waiters = m.waiters ++ o ∷ [] })
Holds-waiting F o m holds has = record { waiters = All-append F m.waiters (o ∷ []) holds.waiters (All-cons F o [] has (All-nil F)); conds = holds.conds }

Holds-admitted_by : (F : Owned → Type 0) (owner : Option ℕ) (o : Owned) (m : MonitorValue) → Holds F m → F o → Holds F (admitted_by owner o m)
Holds-admitted_by F None o m holds has = record { waiters = holds.waiters; conds = holds.conds }
Holds-admitted_by F (Some v) o m holds has = Holds-waiting F o m holds has

Holds-all_admitted : (F : Owned → Type 0) (os : List Owned) (m : MonitorValue) → Holds F m → All F os → Holds F (all_admitted os m)
Holds-all_admitted F [] m holds all = holds
Holds-all_admitted F (o ∷ os) m holds all =
    Holds-all_admitted F os (admitted o m) (Holds-admitted_by F m.owner o m holds (All-head F o os all)) (All-tail F o os all)

Holds-after_signal : (F : Owned → Type 0) (k : ℕ) (m : MonitorValue) → Holds F m → Holds F (after_signal k m)
Holds-after_signal F k m holds =
    let there = Holds-at_condition F k m holds in
    Holds-all_admitted F _ _ (Holds-with_condition F k (rest (at_condition k m)) m holds (All-rest F _ there)) (All-first_alone F _ there)

Holds-after_broadcast : (F : Owned → Type 0) (k : ℕ) (m : MonitorValue) → Holds F m → Holds F (after_broadcast k m)
Holds-after_broadcast F k m holds =
    Holds-all_admitted F _ _ (Holds-with_condition F k [] m holds (All-nil F)) (Holds-at_condition F k m holds)

Holds-after_wait : (F : Owned → Type 0) (k : ℕ) (o : Owned) (m : MonitorValue) → Holds F m → F o → Holds F (after_wait k o m)
Holds-after_wait F k o m holds has =
    Holds-handed_over F _ (Holds-with_condition F k _ m holds (All-append F (at_condition k m) (o ∷ []) (Holds-at_condition F k m holds) (All-cons F o [] has (All-nil F))))

-- Facts of what monitors hold, as the law says them.

holds-from : (F : Owned → Type 0) (D : ℕ → Type 0) (m : MonitorValue) → Have F D (contents_of_monitor m) → Holds F m
holds-from F D m have = record { waiters = All-left F m.waiters _ have.0; conds = All-of_flat F m.conds (All-right F m.waiters _ have.0) }

becomes : (F : Owned → Type 0) (D : ℕ → Type 0) (m new : MonitorValue) → new ≡ m → Holds F m → Have F D (contents_of_monitor new)
becomes F D m new same holds =
    let P : MonitorValue → Type 0 = λ x. Have F D (contents_of_monitor x) in
    subst P (sym same) (Have-units F D _ (All-append F m.waiters _ holds.waiters (All-flat F m.conds holds.conds)))

stays : (F : Owned → Type 0) (D : ℕ → Type 0) (old new : MonitorValue) → new ≡ old → Have F D (contents_of_monitor old) → Have F D (contents_of_monitor new)
stays F D old new same have = let P : MonitorValue → Type 0 = λ x. Have F D (contents_of_monitor x) in subst P (sym same) have

-- monitors keep any fact of units
pub monitors-keep : (F : Owned → Type 0) (D : ℕ → Type 0) → Keeps F D contents_of_monitor MonitorGives
monitors-keep F D old (Lock o) (Given b) new gives have asked =
    (Have-unit F D b (subst F (sym gives.1) (All-head F o [] asked.0)), becomes F D _ new gives.2 (Holds-with_owner F (Some o.number) old (holds-from F D old have)))
monitors-keep F D old (Lock o) Rested new gives have asked =
    (Have-nothing F D, becomes F D _ new gives.1 (Holds-waiting F o old (holds-from F D old have) (All-head F o [] asked.0)))
monitors-keep F D old (TryLock u) (Coded code.Ok) new gives have asked =
    (Have-nothing F D, becomes F D _ new gives.1 (Holds-with_owner F (Some u) old (holds-from F D old have)))
monitors-keep F D old (TryLock u) (Coded code.MutexLocked) new gives have asked = (Have-nothing F D, stays F D old new gives.1 have)
monitors-keep F D old (Unlock u) (Given b) new gives have asked =
    (Have-unit F D b (first-has F old.waiters b (holds-from F D old have).waiters gives.1), becomes F D _ new gives.2 (Holds-handed_over F old (holds-from F D old have)))
monitors-keep F D old (Unlock u) Rested new gives have asked =
    (Have-nothing F D, becomes F D _ new gives.2 (Holds-handed_over F old (holds-from F D old have)))
monitors-keep F D old (Unlock u) (Coded code.NotOwner) new gives have asked = (Have-nothing F D, stays F D old new gives.1 have)
monitors-keep F D old (Load u) (Number n) new gives have asked = (Have-nothing F D, stays F D old new gives.2 have)
monitors-keep F D old (Load u) (Coded code.NotOwner) new gives have asked = (Have-nothing F D, stays F D old new gives.1 have)
monitors-keep F D old (Store u n) (Coded code.Ok) new gives have asked =
    (Have-nothing F D, becomes F D _ new gives.1 (Holds-with_number F n old (holds-from F D old have)))
monitors-keep F D old (Store u n) (Coded code.NotOwner) new gives have asked = (Have-nothing F D, stays F D old new gives.1 have)
monitors-keep F D old (Wait k o) (Given b) new gives have asked =
    (Have-unit F D b (first-has F old.waiters b (holds-from F D old have).waiters gives.1), becomes F D _ new gives.2 (Holds-after_wait F k o old (holds-from F D old have) (All-head F o [] asked.0)))
monitors-keep F D old (Wait k o) Rested new gives have asked =
    (Have-nothing F D, becomes F D _ new gives.2 (Holds-after_wait F k o old (holds-from F D old have) (All-head F o [] asked.0)))
monitors-keep F D old (Wait k o) (Back b code.NotOwner) new gives have asked =
    (Have-unit F D b (subst F (sym gives.1) (All-head F o [] asked.0)), stays F D old new gives.2 have)
monitors-keep F D old (Signal k) (Given b) new gives have asked =
    (Have-unit F D b (new_owner-has F old.owner _ b (Holds-at_condition F k old (holds-from F D old have)) gives.0), becomes F D _ new gives.1 (Holds-after_signal F k old (holds-from F D old have)))
monitors-keep F D old (Signal k) Rested new gives have asked =
    (Have-nothing F D, becomes F D _ new gives.1 (Holds-after_signal F k old (holds-from F D old have)))
monitors-keep F D old (Broadcast k) (Given b) new gives have asked =
    (Have-unit F D b (new_owner-has F old.owner _ b (Holds-at_condition F k old (holds-from F D old have)) gives.0), becomes F D _ new gives.1 (Holds-after_broadcast F k old (holds-from F D old have)))
monitors-keep F D old (Broadcast k) Rested new gives have asked =
    (Have-nothing F D, becomes F D _ new gives.1 (Holds-after_broadcast F k old (holds-from F D old have)))
monitors-keep F D old act answer new gives have asked = absurd gives

pub monitors-keep-what-fits : MonitorsKeepWhatFits
monitors-keep-what-fits W = monitors-keep (Fits W) (IsPoolOf W)
