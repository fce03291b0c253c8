-- The meeting at a barrier: what the laws suppose is computed, and what they say follows.
use Rattle.std.proofs.Common.{◌≡◌, ℕ, zero, suc, ◌<◌, ◌≤◌, true, false, List, [], ◌∷◌, slice_get, Option, Some, None, refl, sym, ◌∙◌, subst, arith, inl, inr}
use Rattle.std.specs.Prelude.{Contains, take, drop}
use Rattle.std.proofs.lemmas.List.Elements.{All-from_recursion}
use Rattle.abt_machine.specs.declared.events.Cause.TheVariants as cause
use Rattle.abt_machine.specs.declared.events.Event.{Event}
use Rattle.abt_machine.specs.declared.events.Site.{Site}
use Rattle.abt_machine.specs.declared.events.Site.TheVariants as site
use Rattle.abt_machine.specs.declared.operations.Body.TheVariants as body
use Rattle.abt_machine.specs.declared.operations.Kind.TheVariants as kind
use Rattle.abt_machine.specs.declared.operations.Op.TheVariants as op
use Rattle.abt_machine.specs.declared.operations.Thing.{Thing}
use Rattle.abt_machine.specs.Numbers.{object_no, pool_no}
use Rattle.abt_machine.specs.Operations.{IsDeclared}
use Rattle.abt_machine.specs.Valid.{IsThing, IsUnit, IsValid}
use Rattle.abt_machine.specs.Rounds.{OrdersStored}
use Rattle.abt_machine.specs.Workloads.{thing_at}
use Rattle.abt_machine.specs.Frames.{round_taken}
use Rattle.abt_machine.specs.Start.{start}
use Rattle.abt_machine.specs.Sound.{Sound}
use Rattle.abt_machine.specs.Values.{Owned, Held, Object, PoolIs, DeskIs, BarrierIs, PoolValue, DeskValue, BarrierValue, Out, Ended, part_of, object_of}
use Rattle.abt_machine.specs.Acts as act
use Rattle.abt_machine.specs.Acts.{moved}
use Rattle.abt_machine.specs.Gives.{SiteGives}
use Rattle.abt_machine.specs.Plans.{keeps, empties}
use Rattle.abt_machine.specs.Turns.{Heard, Steps, looked, stepped}
use Rattle.abt_laws.proofs.Lists.{EachOf}
use Rattle.abt_laws.proofs.Options.{none≢some, some-injective}
use Rattle.abt_laws.proofs.SoundStart.{start-is-sound}
use Rattle.abt_laws.proofs.TwoStreams.{no-order, sharing-is-valid, two-places}
use Rattle.abt_interleave.specs.Histories.{Legal}
use Rattle.abt_interleave.specs.Deeds.{Course}
use Rattle.abt_interleave.specs.Logs.{LeavesEntry, Matched, IsSooner, BeforeAll, InOrder}
use Rattle.abt_interleave.specs.Machines.{Gathered}
use Rattle.abt_interleave.specs.Stamps.{AllTimed}
use Rattle.abt_interleave.proofs.Members.{Among, to-among, from-among}
use Rattle.abt_simulation.specs.Merging.{machine_of, StreamDeed, SiteEntry, event_of, IsJournalOf, LeadsTo}
use Rattle.abt_simulation.specs.Meeting.{meeting, no_orders, fresh, takes, looks, arrives, puts, ends, logs, entry, pool_history, desk_history, barrier_history, histories, parts, pool_object, desk_object, barrier_object, objects, journal, MeetingMerges}
use Rattle.abt_simulation.proofs.Merged.{merging}
use Rattle.abt_simulation.proofs.MergedStamps.{merged-is-lamport}

-- The workload.

-- a unit with the one operation
program : IsUnit meeting (record { body = body.Ult (op.BarWait (object_no 0) ∷ []); start = Some (pool_no 0) })
program = record {
  kind = tt;
  few_ops = omega arith;
  ops = All-from_recursion (IsDeclared meeting) (op.BarWait (object_no 0) ∷ []) ((2, refl), tt);
  start = omega arith;
}

-- its one object is a barrier of two
thing : (x : ℕ) (t : Thing) → thing_at meeting x ≡ Some t → IsThing meeting.objects x t
thing zero t e = subst (IsThing meeting.objects 0) (some-injective e) (omega arith, omega arith)
thing (suc x) t e = absurd (none≢some e)

-- it is a workload
valid : IsValid meeting
valid = sharing-is-valid meeting.objects meeting.units two-places (omega arith) thing (omega arith) (All-from_recursion (IsUnit meeting) meeting.units (program, (program, tt))) (omega arith) refl

-- no order is asked for
stored : OrdersStored meeting no_orders.orders
stored = no-order meeting no_orders (pool_no 0 ∷ []) (pool_no 0 ∷ []) refl

-- Lists.

-- the item at a place is among the items
at : {A : Type 0} (xs : List A) (k : ℕ) (x : A) → slice_get xs k ≡ Some x → Among x xs
at [] k x e = absurd (none≢some e)
at (y ∷ ys) zero x e = inl (some-injective (sym e))
at (y ∷ ys) (suc k) x e = inr (at ys k x e)

-- what holds of each item holds of each that is among them
each : {A : Type 0} (P : A → Type 0) (xs : List A) (x : A) → EachOf P xs → Among x xs → P x
each P [] x a m = absurd m
each P (y ∷ ys) x a m = elim m [ inl e ↦ subst P (sym e) a.0 | inr later ↦ each P ys x a.1 later ]

-- Logs and histories fit each other.

-- the call of a deed, if it made one, is in its object's history
abbrev HasEntry : StreamDeed → Option Heard → Type 0
HasEntry d None = Unit {0}
HasEntry d (Some h) = Among (entry d.stamp d.stream h.1 h.2) (histories h.0)

-- an entry at x is a deed of its caller
abbrev HasDeed : Site → SiteEntry → Type 0
HasDeed x e = (d : StreamDeed) × Among d (logs e.caller) × LeavesEntry d x e

-- a call that is in the history of its object is the entry that the deed leaves
entry-is : (d : StreamDeed) (heard : Option Heard) (x : Site) (e : SiteEntry) → HasEntry d heard → d.stamp ≡ e.stamp → d.stream ≡ e.caller → heard ≡ Some (x, e.act, e.answer) → Among e (histories x)
entry-is d None x e has t s h = absurd (none≢some h)
entry-is d (Some h) x e has t s q =
    let same : h ≡ (x, e.act, e.answer) = some-injective q in
    subst (λ (k : Heard). Among (record { stamp = e.stamp; caller = e.caller; act = k.1; answer = k.2 }) (histories k.0)) same
    (subst (λ n. Among (entry n e.caller h.1 h.2) (histories h.0)) t (subst (λ n. Among (entry d.stamp n h.1 h.2) (histories h.0)) s has))

module _ (entries : (s : ℕ) → EachOf (λ d. HasEntry d d.heard) (logs s)) (deeds : (x : Site) → EachOf (HasDeed x) (histories x)) where
  -- so they fit each other
  matched-by : Matched logs histories
  matched-by = record {
    has_entry = λ d x e m leaves. from-among (histories x) e (entry-is d d.heard x e (each (λ f. HasEntry f f.heard) (logs d.stream) d (entries d.stream) (to-among (logs d.stream) d m)) leaves.0 leaves.1 leaves.2);
    has_deed = λ x e m. let has : HasDeed x e = each (HasDeed x) (histories x) e (deeds x) (to-among (histories x) e m) in (has.0, from-among (logs e.caller) has.0 has.1, has.2);
  }

-- each call is in the history of its object
entries : (s : ℕ) → EachOf (λ d. HasEntry d d.heard) (logs s)
entries zero = (
  at (pool_history 0) 0 _ refl,
  (at (desk_history 0) 0 _ refl, (at (barrier_history 0) 0 _ refl, (at (pool_history 0) 3 _ refl, (at (desk_history 0) 1 _ refl, (at (desk_history 0) 2 _ refl, tt))))),
)
entries (suc zero) = (at (pool_history 0) 1 _ refl, (at (desk_history 1) 0 _ refl, (at (barrier_history 0) 1 _ refl, (at (pool_history 0) 2 _ refl, (at (desk_history 1) 1 _ refl, tt)))))
entries (suc (suc s)) = tt

-- the deed at a place of a log
left : (s k : ℕ) (d : StreamDeed) (x : Site) (e : SiteEntry) → e.caller ≡ s → slice_get (logs s) k ≡ Some d → LeavesEntry d x e → HasDeed x e
left s k d x e same is leaves = (d, subst (λ n. Among d (logs n)) (sym same) (at (logs s) k d is), leaves)

-- each entry at the pool is a deed
pool-deeds : (p : ℕ) → EachOf (HasDeed (site.Pool (record { 0 = p }))) (pool_history p)
pool-deeds zero = (left 0 0 _ _ _ refl refl (refl, refl, refl), (left 1 0 _ _ _ refl refl (refl, refl, refl), (left 1 3 _ _ _ refl refl (refl, refl, refl), (left 0 3 _ _ _ refl refl (refl, refl, refl), tt))))
pool-deeds (suc p) = tt

-- each entry at a desk is one
desk-deeds : (u : ℕ) → EachOf (HasDeed (site.Desk (record { 0 = u }))) (desk_history u)
desk-deeds zero = (left 0 1 _ _ _ refl refl (refl, refl, refl), (left 0 4 _ _ _ refl refl (refl, refl, refl), (left 0 5 _ _ _ refl refl (refl, refl, refl), tt)))
desk-deeds (suc zero) = (left 1 1 _ _ _ refl refl (refl, refl, refl), (left 1 4 _ _ _ refl refl (refl, refl, refl), tt))
desk-deeds (suc (suc u)) = tt

-- each entry at the barrier is one
barrier-deeds : (x : ℕ) → EachOf (HasDeed (site.Barrier (record { 0 = x }))) (barrier_history x)
barrier-deeds zero = (left 0 2 _ _ _ refl refl (refl, refl, refl), (left 1 2 _ _ _ refl refl (refl, refl, refl), tt))
barrier-deeds (suc x) = tt

-- each entry is a deed
deeds : (x : Site) → EachOf (HasDeed x) (histories x)
deeds (site.Pool p) = pool-deeds p.0
deeds (site.Desk u) = desk-deeds u.0
deeds (site.Barrier x) = barrier-deeds x.0
deeds _ = tt

-- The courses of the streams.

-- what a stream has after a take, a look that finds nothing, and an arrival
abbrev taken : Held → Owned → Held
taken old o = record old { own = round_taken old.own; next = Some o }

-- the unit in hand waits
abbrev waiting : Held → Held
waiting old = stepped old (empties [])

-- what a stream has at the start
abbrev begins : ℕ → Held
begins s = part_of meeting (start meeting) s

-- unit o was taken, and looked at
abbrev in_hand : ℕ → Owned → Held → Held
in_hand s o old = looked (taken old o) o false None

-- stream 0 goes by its log
course-0 : Course (Steps meeting no_orders) 0 (begins 0) (logs 0) (parts 0)
course-0 = (
  (omega arith, (omega arith, (omega arith, (omega arith, (omega arith, (omega arith, tt)))))),
  (
    refl,
    taken (begins 0) (fresh 0),
    (refl, (0 ∷ [], refl, ([], refl)), fresh 0, refl, refl, refl),
    (
      refl,
      in_hand 0 (fresh 0) (begins 0),
      (refl, fresh 0, refl, refl, false, None, refl, refl),
      (
        refl,
        waiting (in_hand 0 (fresh 0) (begins 0)),
        (refl, fresh 0, refl, refl, refl, op.BarWait (object_no 0), refl, (act.Rested, refl, refl, refl), tt),
        (
          refl,
          taken (waiting (in_hand 0 (fresh 0) (begins 0))) (moved (fresh 0)),
          (refl, (0 ∷ [], refl, ([], refl)), moved (fresh 0), refl, refl, refl),
          (
            refl,
            in_hand 0 (moved (fresh 0)) (waiting (in_hand 0 (fresh 0) (begins 0))),
            (refl, moved (fresh 0), refl, refl, false, None, refl, refl),
            (refl, parts 0, (refl, moved (fresh 0), refl, refl, [], refl, refl), refl),
          ),
        ),
      ),
    ),
  ),
)

-- the unit goes through, with the one that waited on the tray
abbrev through : Held → Held
through old = stepped old (keeps (moved (fresh 1)) (moved (fresh 0) ∷ []))

-- stream 1 goes by its log
course-1 : Course (Steps meeting no_orders) 1 (begins 1) (logs 1) (parts 1)
course-1 = (
  (omega arith, (omega arith, (omega arith, (omega arith, (omega arith, tt))))),
  (
    refl,
    taken (begins 1) (fresh 1),
    (refl, (0 ∷ [], refl, ([], refl)), fresh 1, refl, refl, refl),
    (
      refl,
      in_hand 1 (fresh 1) (begins 1),
      (refl, fresh 1, refl, refl, false, None, refl, refl),
      (
        refl,
        through (in_hand 1 (fresh 1) (begins 1)),
        (refl, fresh 1, refl, refl, refl, op.BarWait (object_no 0), refl, (act.Through (moved (fresh 1)) (moved (fresh 0) ∷ []), refl, refl, refl), tt),
        (
          refl,
          record (through (in_hand 1 (fresh 1) (begins 1))) { tray = [] },
          (refl, moved (fresh 0), [], refl, refl, refl, refl, refl),
          (refl, parts 1, (refl, moved (fresh 1), refl, refl, [], refl, refl), refl),
        ),
      ),
    ),
  ),
)

-- each stream goes by its log
course : (s : ℕ) → s < 2 → Course (Steps meeting no_orders) s (begins s) (logs s) (parts s)
course zero l = course-0
course (suc zero) l = course-1
course (suc (suc s)) l = absurd (omega arith)

-- no other stream does anything
undeclared : (s : ℕ) → 2 ≤ s → logs s ≡ []
undeclared zero l = absurd (omega arith)
undeclared (suc zero) l = absurd (omega arith)
undeclared (suc (suc s)) l = refl

-- The histories of the objects.

-- an object at the start
abbrev first_object : Site → Object
first_object x = object_of meeting (start meeting) x

-- the pool with these units
abbrev pool_of_units : List Owned → PoolValue
pool_of_units os = record { kind = kind.Fifo; units = os }

-- the history of the pool is legal
legal-pool : (p : ℕ) → Legal SiteGives (first_object (site.Pool (record { 0 = p }))) (pool_history p) (pool_object p)
legal-pool zero = (
  (omega arith, (omega arith, (omega arith, (omega arith, tt)))),
  (
    PoolIs (pool_of_units (fresh 1 ∷ [])),
    (pool_of_units (fresh 1 ∷ []), refl, (tt, refl, refl)),
    (
      PoolIs (pool_of_units []),
      (pool_of_units [], refl, (tt, refl, refl)),
      (PoolIs (pool_of_units (moved (fresh 0) ∷ [])), (pool_of_units (moved (fresh 0) ∷ []), refl, refl), (PoolIs (pool_of_units []), (pool_of_units [], refl, (tt, refl, refl)), refl)),
    ),
  ),
)
legal-pool (suc p) = (tt, refl)

-- the desk of unit u, which is out
abbrev desk_out : ℕ → DeskValue
desk_out u = record { number = u; sched = false; phase = Out; joiners = []; cancel = false; migrate = None; migratable = true }

-- the desk of unit u, which has ended
abbrev desk_ended : ℕ → DeskValue
desk_ended u = record { number = u; sched = false; phase = Ended (moved (fresh u)) cause.Done; joiners = []; cancel = false; migrate = None; migratable = true }

-- the histories of the desks are legal
legal-desk : (u : ℕ) → Legal SiteGives (first_object (site.Desk (record { 0 = u }))) (desk_history u) (desk_object u)
legal-desk zero = (
  (omega arith, (omega arith, (omega arith, tt))),
  (
    DeskIs (desk_out 0),
    (desk_out 0, refl, (refl, refl, refl)),
    (DeskIs (desk_out 0), (desk_out 0, refl, (refl, refl, refl)), (DeskIs (desk_ended 0), (desk_ended 0, refl, (refl, refl)), refl)),
  ),
)
legal-desk (suc zero) = ((omega arith, (omega arith, tt)), (DeskIs (desk_out 1), (desk_out 1, refl, (refl, refl, refl)), (DeskIs (desk_ended 1), (desk_ended 1, refl, (refl, refl)), refl)))
legal-desk (suc (suc u)) = (tt, refl)

-- the barrier with these waiters
abbrev barrier_of : List Owned → BarrierValue
barrier_of os = record { size = 2; waiters = os }

-- the history of the barrier is legal
legal-barrier : (x : ℕ) → Legal SiteGives (first_object (site.Barrier (record { 0 = x }))) (barrier_history x) (barrier_object x)
legal-barrier zero = (
  (omega arith, (omega arith, tt)),
  (BarrierIs (barrier_of (moved (fresh 0) ∷ [])), (barrier_of (moved (fresh 0) ∷ []), refl, ((λ (e : 1 ≡ 2). absurd (omega arith)), refl)), (BarrierIs (barrier_of []), (barrier_of [], refl, (refl, refl, refl, refl)), refl)),
)
legal-barrier (suc x) = (tt, refl)

-- all histories are legal
legal : (x : Site) → Legal SiteGives (first_object x) (histories x) (objects x)
legal (site.Pool p) = legal-pool p.0
legal (site.Desk u) = legal-desk u.0
legal (site.Barrier x) = legal-barrier x.0
legal _ = (tt, refl)

-- so logs and histories are gathered from the start
gathered : Gathered (machine_of meeting no_orders) (part_of meeting (start meeting)) (object_of meeting (start meeting)) logs histories parts objects
gathered = record { courses = course; undeclared = undeclared; legal = legal; matched = matched-by entries deeds }

-- The journal.

-- first by stamp, then by stream
abbrev Sooner : Event → Event → Type 0
Sooner e f = IsSooner e.stamp e.stream.0 f.stamp f.stream.0

-- whoever comes before one that comes before another, comes before that
sooner-then : (e f g : Event) → Sooner e f → Sooner f g → Sooner e g
sooner-then e f g a b = by a b where
  by : Sooner e f → Sooner f g → Sooner e g
  by (inl l) (inl m) = let k : e.stamp < f.stamp = l in let n : f.stamp < g.stamp = m in inl (omega arith)
  by (inl l) (inr m) = let k : e.stamp < f.stamp = l in let n : f.stamp ≡ g.stamp = m.0 in inl (omega arith)
  by (inr l) (inl m) = let k : e.stamp ≡ f.stamp = l.0 in let n : f.stamp < g.stamp = m in inl (omega arith)
  by (inr l) (inr m) = let k : e.stream.0 < f.stream.0 = l.1 in let n : f.stream.0 < g.stream.0 = m.1 in inr (l.0 ∙ m.0, omega arith)

-- each comes before the next
abbrev AllNext : Event → List Event → Type 0
AllNext e [] = Unit {0}
AllNext e (f ∷ fs) = Sooner e f × AllNext f fs

-- then the first comes before all
before-all : (e f : Event) (fs : List Event) → Sooner e f → AllNext f fs → BeforeAll Sooner e (f ∷ fs)
before-all e f [] h n = (h, tt)
before-all e f (g ∷ gs) h n = (h, before-all e g gs (sooner-then e f g h n.0) n.1)

-- and they are in order
in-order : (e : Event) (es : List Event) → AllNext e es → InOrder Sooner (e ∷ es)
in-order e [] n = (tt, tt)
in-order e (f ∷ fs) n = (before-all e f fs n.0 n.1, in-order f fs n.1)

-- of a whole list
abbrev Adjacent : List Event → Type 0
Adjacent [] = Unit {0}
Adjacent (e ∷ es) = AllNext e es

-- such a list is in order
all-in-order : (es : List Event) → Adjacent es → InOrder Sooner es
all-in-order [] n = tt
all-in-order (e ∷ es) n = in-order e es n

-- the journal is in order
by-stamp : InOrder Sooner journal
by-stamp =
    all-in-order journal (
      inl (omega arith),
      (inr (refl, omega arith), (inl (omega arith), (inr (refl, omega arith), (inl (omega arith), (inl (omega arith), (inl (omega arith), (inr (refl, omega arith), (inl (omega arith), (inl (omega arith), tt))))))))),
    )

-- the journal has the event of each deed
logged : (s : ℕ) → EachOf (λ d. Among (event_of d) journal) (logs s)
logged zero = (at journal 0 _ refl, (at journal 1 _ refl, (at journal 3 _ refl, (at journal 7 _ refl, (at journal 9 _ refl, (at journal 10 _ refl, tt))))))
logged (suc zero) = (at journal 2 _ refl, (at journal 4 _ refl, (at journal 5 _ refl, (at journal 6 _ refl, (at journal 8 _ refl, tt)))))
logged (suc (suc s)) = tt

-- an event is that of a deed in a log
abbrev OfDeed : Event → Type 0
OfDeed e = (d : StreamDeed) × Contains (logs d.stream) d × (event_of d ≡ e)

-- the deed at a place of a log
of-log : (s k : ℕ) (d : StreamDeed) → d.stream ≡ s → slice_get (logs s) k ≡ Some d → OfDeed (event_of d)
of-log s k d same is = (d, from-among (logs d.stream) d (subst (λ n. Among d (logs n)) (sym same) (at (logs s) k d is)), refl)

-- each event of the journal is one
done : EachOf OfDeed journal
done = (
  of-log 0 0 (takes 1 0 (fresh 0)) refl refl,
  (
    of-log 0 1 (looks 2 0 0) refl refl,
    (
      of-log 1 0 (takes 2 1 (fresh 1)) refl refl,
      (
        of-log 0 2 (arrives 3 0 0 act.Rested) refl refl,
        (
          of-log 1 1 (looks 3 1 1) refl refl,
          (
            of-log 1 2 (arrives 4 1 1 (act.Through (moved (fresh 1)) (moved (fresh 0) ∷ []))) refl refl,
            (
              of-log 1 3 (puts 5 1 (moved (fresh 0))) refl refl,
              (
                of-log 0 3 (takes 6 0 (moved (fresh 0))) refl refl,
                (of-log 1 4 (ends 6 1 (moved (fresh 1))) refl refl, (of-log 0 4 (looks 7 0 0) refl refl, (of-log 0 5 (ends 8 0 (moved (fresh 0))) refl refl, tt))),
              ),
            ),
          ),
        ),
      ),
    ),
  ),
)

-- it is the journal of the logs
sorted : IsJournalOf logs journal
sorted = record {
  in_order = by-stamp;
  all = λ s d m. from-among journal (event_of d) (each (λ f. Among (event_of f) journal) (logs s) d (logged s) (to-among (logs s) d m));
  only = λ e m. each OfDeed journal e done (to-among journal e m);
}

-- each stamp is one more than the greater of the stream's last and the object's last
timed : (s : ℕ) → AllTimed histories 0 (logs s)
timed zero = (
  ([], drop 1 (pool_history 0), refl, refl),
  (
    ([], drop 1 (desk_history 0), refl, refl),
    (
      ([], drop 1 (barrier_history 0), refl, refl),
      ((take 3 (pool_history 0), [], refl, refl), ((take 1 (desk_history 0), drop 2 (desk_history 0), refl, refl), ((take 2 (desk_history 0), [], refl, refl), tt))),
    ),
  ),
)
timed (suc zero) = (
  (take 1 (pool_history 0), drop 2 (pool_history 0), refl, refl),
  (([], drop 1 (desk_history 1), refl, refl), ((take 1 (barrier_history 0), [], refl, refl), ((take 2 (pool_history 0), drop 3 (pool_history 0), refl, refl), ((take 1 (desk_history 1), [], refl, refl), tt)))),
)
timed (suc (suc s)) = tt

-- the laws hold of the meeting
pub meeting-merges : MeetingMerges
meeting-merges =
    let sound : Sound meeting no_orders (start meeting) = start-is-sound meeting no_orders valid stored in
    let leads : LeadsTo meeting no_orders (start meeting) journal parts objects = merging meeting no_orders valid stored (start meeting) sound logs histories parts objects journal gathered sorted in
    record {
      valid = valid;
      stored = stored;
      sound = sound;
      gathered = gathered;
      sorted = sorted;
      timed = timed;
      run = leads.run;
      leads = leads;
      lamport = merged-is-lamport meeting no_orders (part_of meeting (start meeting)) (object_of meeting (start meeting)) logs histories parts objects journal gathered timed sorted;
    }
