-- What admitting all waiters of a condition comes to: the first is admitted, and the others wait behind all that wait for the
-- mutex, which is held by then.
use Rattle.std.proofs.Common.{◌≡◌, ◌<◌, ℕ, List, [], ◌∷◌, ◌++◌, Option, None, Some, length, slice_set, ap, ◌∙◌, append_assoc, get_or, get_or-set_same}
use Rattle.std.proofs.lemmas.List.{append-nil, length-set, set-set}
use Rattle.std.proofs.lemmas.Option.{slice_get-get_or}
use Rattle.std.specs.Prelude.{slice_get}
use Rattle.abt_machine.specs.Acts.{Answer, Broadcast, Given, Rested, Signal}
use Rattle.abt_machine.specs.Monitors.{MonitorGives, after_broadcast, after_signal, all_admitted, at_condition, rest, with_condition}
use Rattle.abt_machine.specs.Queues.{first_alone}
use Rattle.abt_machine.specs.Values.{MonitorValue, Owned}
use Rattle.abt_monitor.proofs.Conditions.{length-after_signal}

-- units that are admitted at a held mutex wait behind the others
all_admitted-held : (os : List Owned) (v n : ℕ) (ws : List Owned) (cs : List (List Owned)) → all_admitted os (record { owner = Some v; number = n; waiters = ws; conds = cs }) ≡ record { owner = Some v; number = n; waiters = ws ++ os; conds = cs }
all_admitted-held [] v n ws cs = rw append-nil
all_admitted-held (o ∷ os) v n ws cs = rw (all_admitted-held os v n (ws ++ o ∷ []) cs, append_assoc)

-- what was written at a place is read there
slice_get-set : (cs : List (List Owned)) (k : ℕ) (os : List Owned) → k < length cs → slice_get (slice_set cs k os) k ≡ Some os
slice_get-set cs k os within =
    slice_get-get_or (slice_set cs k os) k os (rw length-set within) ∙ ap Some (get_or-set_same cs k os os within)

-- who waits at condition k is the last at the mutex, and at the condition no longer
abbrev drained : ℕ → MonitorValue → MonitorValue
drained k m = record m { waiters = m.waiters ++ at_condition k m; conds = slice_set m.conds k [] }

-- by who waits there and who the owner is
drained-by : (owner : Option ℕ) (os : List Owned) (n k : ℕ) (ws : List Owned) (cs : List (List Owned)) → k < length cs → (let m : MonitorValue = record { owner = owner; number = n; waiters = ws; conds = cs } in drained k (all_admitted (first_alone os) (with_condition k (rest os) m)) ≡ all_admitted os (with_condition k [] m))
drained-by owner [] n k ws cs within = rw (slice_get-set cs k [] within, set-set, append-nil)
drained-by None (o ∷ os) n k ws cs within =
    rw (slice_get-set cs k os within, set-set, all_admitted-held os o.number n ws (slice_set cs k []))
drained-by (Some v) (o ∷ os) n k ws cs within =
    rw (slice_get-set cs k os within, set-set, all_admitted-held os v n (ws ++ o ∷ []) (slice_set cs k []))

-- after a signal, the others that wait at the condition
drained-after_signal : (m : MonitorValue) (k : ℕ) → k < length m.conds → drained k (after_signal k m) ≡ after_broadcast k m
drained-after_signal m k within = drained-by m.owner (at_condition k m) m.number k m.waiters m.conds within

-- however a signal is answered, the monitor is afterwards what it makes of it
after_signal-is : (k : ℕ) (old new : MonitorValue) (answer : Answer) → MonitorGives old (Signal k) answer new → new ≡ after_signal k old
after_signal-is k old new (Given o) h = h.1
after_signal-is k old new Rested h = h.1
after_signal-is k old new answer h = absurd h

-- the monitor after a signal and the move of the others, by the parts that the move changes
after_broadcast-by : (k : ℕ) (old mid : MonitorValue) (others waiters left : List Owned) → mid ≡ after_signal k old → k < length old.conds → others ≡ get_or mid.conds k others → waiters ≡ mid.waiters ++ others → left ≡ [] → record mid { waiters = waiters; conds = slice_set mid.conds k left } ≡ after_broadcast k old
after_broadcast-by k old mid others waiters left signalled within there moved none =
    let short : k < length mid.conds = rw (signalled, length-after_signal k old) within in
    let at : at_condition k mid ≡ others = rw (slice_get-get_or mid.conds k others short, ← there) in
    rw (moved, none, ← at, signalled) (drained-after_signal old k within)

-- a broadcast wakes whom a signal wakes
broadcast-of : (k : ℕ) (old mid new : MonitorValue) (answer : Answer) → new ≡ after_broadcast k old → MonitorGives old (Signal k) answer mid → MonitorGives old (Broadcast k) answer new
broadcast-of k old mid new (Given o) after h = (h.0, after)
broadcast-of k old mid new Rested after h = (h.0, after)
broadcast-of k old mid new answer after h = absurd h

-- a signal, and then the move of the others
pub broadcast-is : (k : ℕ) (old mid seen : MonitorValue) (answer : Answer) (others waiters left : List Owned) → MonitorGives old (Signal k) answer mid → seen ≡ mid → k < length old.conds → others ≡ get_or seen.conds k others → waiters ≡ seen.waiters ++ others → left ≡ [] → MonitorGives old (Broadcast k) answer (record seen { waiters = waiters; conds = slice_set seen.conds k left })
broadcast-is k old mid seen answer others waiters left signalled is within there moved none =
    broadcast-of k old mid _ answer (after_broadcast-by k old seen others waiters left (is ∙ after_signal-is k old mid answer signalled) within there moved none) signalled
