-- Each operation that goes through gives at most 3 to the size of its unit, or of another, and takes the others at most where they have as much as before.
use Rattle.std.proofs.Common.{◌≡◌, ◌≢◌, ℕ, suc, ◌≤◌, ◌+◌, ◌*◌, ◌==◌, if◌then◌else◌, Bool, true, false, List, [], ◌∷◌, ◌++◌, length, map, Option, Some, None, refl, sym, ◌∙◌, ap, subst, arith, inl, inr}
use Rattle.std.specs.Prelude.{is_some}
use Rattle.std.proofs.lemmas.Bool.{cases_eq, cond_both, false≢true}
use Rattle.abt_machine.specs.declared.events.Code.{Code}
use Rattle.abt_machine.specs.declared.events.Code.TheVariants as code
use Rattle.abt_machine.specs.declared.events.Place.{Place}
use Rattle.abt_machine.specs.declared.events.Place.TheVariants as place
use Rattle.abt_machine.specs.declared.events.Spot.TheVariants as spot
use Rattle.abt_machine.specs.declared.events.Wish.TheVariants as wish
use Rattle.abt_machine.specs.declared.operations.Op.{Op}
use Rattle.abt_machine.specs.declared.operations.Op.TheVariants as op
use Rattle.abt_machine.specs.declared.workload.Parts.{Parts}
use Rattle.abt_machine.specs.Workloads.{combine_of, mutex_of, size_of}
use Rattle.abt_machine.specs.Numbers.{stream_no, unit_no, object_no}
use Rattle.abt_machine.specs.Carrying.{refused}
use Rattle.abt_machine.specs.Queues.{first_alone}
use Rattle.abt_machine.specs.Holders.{is_free, read_by, written_by}
use Rattle.abt_machine.specs.Maps.{put_all, put_at}
use Rattle.abt_machine.specs.Monitors.{number_of}
use Rattle.abt_machine.specs.RwLocks.{left_by, may_read, wanting, woken}
use Rattle.abt_machine.specs.State.{State, Stream, Carried, Desk, Exited, Future, Mark, RwLock}
use Rattle.abt_machine.specs.Values.{rwlock_value}
use Rattle.abt_machine.specs.Frames.{marked}
use Rattle.abt_machine.specs.Lines.{InHand, standing, ticket_in, Waiting, tray_end}
use Rattle.abt_machine.specs.Operations.{nature_of}
use Rattle.abt_machine.specs.Outcomes.{IsOver}
use Rattle.abt_machine.specs.Codes.{code_of, is_ended, is_in_pool, is_suspended, is_unborn, reached_code}
use Rattle.abt_machine.specs.Changes.{Change, changed, no_change, goes_with, goes_on, to_tray, tray_moves, waiting_moves}
use Rattle.abt_machine.specs.Sound.{Sound}
use Rattle.abt_machine.specs.Steps.{asks, begins, wakes, joins, waits, locks, hands_over, releases, queues, passes, gives_all, awaits, ready_value, filled_by, fills, arrives, gives_up, op_row}
use Rattle.abt_machine.specs.Stored.{Stored}
use Rattle.abt_laws.specs.Measure.{request_weight}
use Rattle.abt_laws.proofs.Granted.{woken-each}
use Rattle.abt_laws.proofs.LineMoves.{tray_moves-each, waiting_moves-each}
use Rattle.abt_laws.proofs.Codes.{reached-ok, unless-ok}
use Rattle.abt_laws.proofs.Maps.{put_all-kept, put_at-other, put_at-same}
use Rattle.abt_laws.proofs.Marks.{marks-elsewhere}
use Rattle.abt_laws.proofs.Places.{same-self}
use Rattle.abt_laws.proofs.Standing.{StandsIn, each-stands}
use Rattle.abt_laws.proofs.Lists.{EachOf, EachOf-append, EachOf-then, EachOf-first_alone}
use Rattle.abt_bounds.proofs.Counting.{one_if}
use Rattle.abt_sizes.specs.Laws.{is_sched_birth}
use Rattle.abt_sizes.proofs.Sizes.{extra, extra-twice, marks_of, place_size, request-most, sched_at, size-grows, size-kept, state_size, unit_size, unit_size-kept}

module _ (W : Parts) (S : State) (s x : ℕ) (program : sched_at W x ≡ false) (held : S.place x ≡ place.Hand (stream_no s)) where
  -- what unit v has at a place
  abbrev size : ℕ → Place → ℕ
  size v pl = place_size (sched_at W v) (marks_of S) pl

  -- unit x may have 3 more there, and any other at most as much as before
  abbrev Fits : ℕ → Place → Type 0
  Fits v pl = (v ≢ x → size v pl ≤ size v (S.place v)) × (size v pl ≤ size v (S.place v) + 3)

  abbrev AllFit : List (ℕ × Place) → Type 0
  AllFit ms = EachOf (λ (m : ℕ × Place). Fits m.0 m.1) ms

  -- unit v waits
  abbrev HasWay : ℕ → Type 0
  HasWay v = 4 + extra (sched_at W v) ≤ size v (S.place v)

  abbrev AllWait : List ℕ → Type 0
  AllWait us = EachOf HasWay us

  waiters-wait : (y : ℕ) → AllWait (standing W S (Waiting y))
  waiters-wait y = EachOf-then (StandsIn W S (Waiting y)) HasWay (standing W S (Waiting y)) (λ v is. (let e : size v (S.place v) ≡ 4 + extra (sched_at W v) = ap (size v) is.at in omega arith)) (each-stands W S (Waiting y))

  fronts-wait : (y : ℕ) → AllWait (first_alone (standing W S (Waiting y)))
  fronts-wait y = EachOf-first_alone HasWay (standing W S (Waiting y)) (waiters-wait y)

  -- who waits may come to the tray, or wait elsewhere
  way-fits : (v : ℕ) (pl : Place) → size v pl ≡ 4 + extra (sched_at W v) → HasWay v → Fits v pl
  way-fits v pl e way = ((λ ne. omega arith), omega arith)

  -- so may unit x
  own-fits : (pl : Place) → size x pl ≡ 4 + extra (sched_at W x) → Fits x pl
  own-fits pl e =
      let was : size x (S.place x) ≡ 1 = ap (size x) held ∙ ap (λ b. place_size b (marks_of S) (place.Hand (stream_no s))) program in
      let none : extra (sched_at W x) ≡ 0 = ap extra program in ((λ ne. absurd (ne refl)), omega arith)

  tray-fits : (us : List ℕ) (i : ℕ) → AllWait us → AllFit (tray_moves s i us)
  tray-fits us i a = tray_moves-each (λ (m : ℕ × Place). Fits m.0 m.1) HasWay s i us (λ v t way. way-fits v (place.Tray (stream_no s) t) refl way) a

  waiting-fits : (m : ℕ) (us : List ℕ) (t : ℕ) → AllWait us → AllFit (waiting_moves m t us)
  waiting-fits m us t a = waiting_moves-each (λ (q : ℕ × Place). Fits q.0 q.1) HasWay m t us (λ v k b way. way-fits v (place.Blocked (spot.Object (object_no m)) k) refl way) a

  -- What is shown of rows.

  abbrev Row : Change → Type 0
  Row c = AllFit c.moves × (c.desks ≡ []) × (c.streams ≡ [])

  row-moves : (ms : List (ℕ × Place)) → AllFit ms → Row (record (goes_on S x) { moves = ms })
  row-moves ms h = (h, refl, refl)

  row-goes_on : Row (goes_on S x)
  row-goes_on = (tt, refl, refl)

  row-wakes : (us : List ℕ) → AllWait us → Row (wakes W S s x us)
  row-wakes us a = row-moves (to_tray W S s us) (tray-fits us (tray_end W S s) a)

  row-blocks : (pl : Place) → size x pl ≡ 4 + extra (sched_at W x) → Row (record (goes_on S x) { moves = (x, pl) ∷ [] })
  row-blocks pl e = row-moves ((x, pl) ∷ []) (own-fits pl e, tt)

  row-yields_to : (v p : ℕ) → is_in_pool p (S.place v) ≡ true → Row (record (goes_on S x) { moves = (v, place.Next (stream_no s)) ∷ to_tray W S s (x ∷ []) })
  row-yields_to v p in_pool =
      row-moves ((v, place.Next (stream_no s)) ∷ to_tray W S s (x ∷ []))
      (next-fits (S.place v) refl in_pool, (own-fits (place.Tray (stream_no s) (tray_end W S s)) refl, tt)) where
        next-fits : (pl : Place) → S.place v ≡ pl → is_in_pool p pl ≡ true → Fits v (place.Next (stream_no s))
        next-fits (place.Pool q t) e h = let was : size v (S.place v) ≡ 3 + extra (sched_at W v) = ap (size v) e in ((λ ne. omega arith), omega arith)
        next-fits _ e h = absurd (false≢true h)

  row-resumes : (v : ℕ) → is_suspended (S.place v) ≡ true → Row (wakes W S s x (v ∷ []))
  row-resumes v suspended = row-wakes (v ∷ []) (way (S.place v) refl suspended, tt) where
    way : (pl : Place) → S.place v ≡ pl → is_suspended pl ≡ true → HasWay v
    way (place.Blocked spot.Suspended t) e h = let was : size v (S.place v) ≡ 4 + extra (sched_at W v) = ap (size v) e in omega arith
    way _ e h = absurd (false≢true h)

  row-joins : (v : ℕ) (pl : Place) → Row (joins S x v pl)
  row-joins v (place.Ended c) = row-goes_on
  row-joins v _ = row-blocks (place.Blocked (spot.Join (unit_no v)) (S.join_next v)) refl

  row-waits : (y : ℕ) → Row (waits S x y)
  row-waits y = row-blocks (place.Blocked (spot.Object (object_no y)) (S.object_next y)) refl

  row-locks : (y : ℕ) (o : Option ℕ) → Row (locks S x y o)
  row-locks y None = row-goes_on
  row-locks y (Some v) = row-waits y

  row-hands_over : (m : ℕ) → Row (hands_over W S s x m)
  row-hands_over m = row-wakes (first_alone (standing W S (Waiting m))) (fronts-wait m)

  row-releases : (y m : ℕ) → Row (releases W S s x y m)
  row-releases y m =
      let pl : Place = place.Blocked (spot.Object (object_no y)) (S.object_next y) in
      row-moves ((x, pl) ∷ to_tray W S s (first_alone (standing W S (Waiting m)))) (own-fits pl refl, tray-fits (first_alone (standing W S (Waiting m))) (tray_end W S s) (fronts-wait m))

  row-queues : (m : ℕ) (us : List ℕ) → AllWait us → Row (queues S x m us)
  row-queues m us a = row-moves (waiting_moves m (S.object_next m) us) (waiting-fits m us (S.object_next m) a)

  row-passes : (m : ℕ) (o : Option ℕ) (us : List ℕ) → AllWait us → Row (passes W S s x m o us)
  row-passes m o [] a = row-goes_on
  row-passes m (Some v) (u ∷ us) a = row-queues m (u ∷ us) a
  row-passes m None (u ∷ us) a =
      row-moves (waiting_moves m (S.object_next m) us ++ to_tray W S s (u ∷ []))
      (EachOf-append (λ (q : ℕ × Place). Fits q.0 q.1) (waiting_moves m (S.object_next m) us) (to_tray W S s (u ∷ [])) (waiting-fits m us (S.object_next m) a.1) (tray-fits (u ∷ []) (tray_end W S s) (a.0, tt)))

  row-gives_all : (y value : ℕ) → Row (gives_all W S s x y value)
  row-gives_all y value = (tray-fits (standing W S (Waiting y)) (tray_end W S s) (waiters-wait y), refl, refl)

  row-awaits : (y : ℕ) (o : Option ℕ) → Row (awaits S x y o)
  row-awaits y None = row-waits y
  row-awaits y (Some value) = (tt, refl, refl)

  row-fills : (y : ℕ) (f : Future) → Row (fills W S s x y f)
  row-fills y f = cond_both (f.filled == size_of W y) (gives_all W S s x y f.value) (goes_on S x) Row (λ _. row-gives_all y f.value) (λ _. row-goes_on)

  row-arrives : (y : ℕ) → Row (arrives W S s x y)
  row-arrives y =
      cond_both (suc (length (standing W S (Waiting y))) == size_of W y) (wakes W S s x (standing W S (Waiting y))) (waits S x y) Row
      (λ _. row-wakes (standing W S (Waiting y)) (waiters-wait y)) (λ _. row-waits y)

  -- unit x has this lock, or waits for it
  row-goes_or_waits : (y : ℕ) (b : Bool) (given wanted : RwLock) → Row (if b then record (goes_on S x) { rwlocks = (y, given) ∷ [] } else record (waits S x y) { rwlocks = (y, wanted) ∷ [] })
  row-goes_or_waits y b given wanted =
      cond_both b (record (goes_on S x) { rwlocks = (y, given) ∷ [] }) (record (waits S x y) { rwlocks = (y, wanted) ∷ [] }) Row (λ _. row-goes_on) (λ _. row-waits y)

  row-gives_up : (y : ℕ) → Row (gives_up W S s x y (left_by x (rwlock_value W S y)))
  row-gives_up y = row-wakes (map number_of (woken (left_by x (rwlock_value W S y)))) (woken-each HasWay W S y x (waiters-wait y))

  unborn-over : (pl : Place) → is_unborn pl ≡ true → IsOver pl
  unborn-over place.Unborn h = tt
  unborn-over _ h = absurd (false≢true h)

  ended-over : (pl : Place) → is_ended pl ≡ true → IsOver pl
  ended-over (place.Ended c) h = tt
  ended-over _ h = absurd (false≢true h)

  -- An `exit` changes its stream, a birth begins a life, and some operations ask another unit.
  abbrev Goes : Op → Type 0
  Goes op.Exit = Unit {0}
  Goes (op.Create v p) = IsOver (S.place v.0)
  Goes (op.Revive v p) = IsOver (S.place v.0)
  Goes (op.Cancel v) = Unit {0}
  Goes (op.Migrate v p) = Unit {0}
  Goes (op.MigrateTo v r) = Unit {0}
  Goes (op.Migratable v b) = Unit {0}
  Goes o = Row (op_row W S s x o)

  op-goes : (o : Op) → reached_code W S x o ≡ code.Ok → Goes o
  op-goes op.Yield h = row-moves (to_tray W S s (x ∷ [])) (own-fits (place.Tray (stream_no s) (tray_end W S s)) refl, tt)
  op-goes (op.YieldTo v p) h = row-yields_to v.0 p.0 (unless-ok (is_in_pool p.0 (S.place v.0)) code.Absent _ tt h).0
  op-goes op.Suspend h = row-blocks (place.Blocked spot.Suspended 0) refl
  op-goes op.Exit h = tt
  op-goes (op.Resume v) h = row-resumes v.0 (unless-ok (is_suspended (S.place v.0)) code.UnitState code.Ok tt h).0
  op-goes (op.Create v p) h = unborn-over (S.place v.0) (unless-ok (is_unborn (S.place v.0)) code.Exists _ tt h).0
  op-goes (op.Join v) h = row-joins v.0 (S.place v.0)
  op-goes (op.Cancel v) h = tt
  op-goes (op.Migrate v p) h = tt
  op-goes (op.MigrateTo v r) h = tt
  op-goes (op.Migratable v b) h = tt
  op-goes (op.Revive v p) h = ended-over (S.place v.0) (unless-ok (is_ended (S.place v.0)) code.UnitState _ tt h).0
  op-goes (op.Lock y) h = row-locks y.0 (S.mutex y.0).owner
  op-goes (op.Unlock y) h = row-hands_over y.0
  op-goes (op.CondWait y) h = row-releases y.0 (mutex_of W y.0)
  op-goes (op.Signal y) h = row-passes (mutex_of W y.0) (S.mutex (mutex_of W y.0)).owner (first_alone (standing W S (Waiting y.0))) (fronts-wait y.0)
  op-goes (op.Broadcast y) h = row-passes (mutex_of W y.0) (S.mutex (mutex_of W y.0)).owner (standing W S (Waiting y.0)) (waiters-wait y.0)
  op-goes (op.EvWait y) h = row-awaits y.0 (S.eventual y.0)
  op-goes (op.EvSet y) h = row-gives_all y.0 (S.carried x).acc
  op-goes (op.FuWait y) h = row-awaits y.0 (ready_value W S y.0)
  op-goes (op.FuSet y) h = row-fills y.0 (filled_by (combine_of W y.0) (S.future y.0) (S.carried x).acc)
  op-goes (op.BarWait y) h = row-arrives y.0
  op-goes (op.ReadLock y) h = row-goes_or_waits y.0 (may_read x (rwlock_value W S y.0)) (read_by x (S.rwlock y.0)) (wanting x wish.Read (S.rwlock y.0))
  op-goes (op.WriteLock y) h = row-goes_or_waits y.0 (is_free (S.rwlock y.0)) (written_by x (S.rwlock y.0)) (wanting x wish.Write (S.rwlock y.0))
  op-goes (op.RwUnlock y) h = row-gives_up y.0
  -- nobody moves
  op-goes o h = (tt, refl, refl)

  -- What a change gives to the size.

  row-small : (c : Change) → Row c → state_size W (changed S c) ≤ state_size W S + 3
  row-small c row = size-grows W S (changed S c) 3 x (let own : size x (place_at x) ≤ size x (S.place x) + 3 = (each x).1 in omega (arith, sizes x)) (λ v ne. (let less : size v (place_at v) ≤ size v (S.place v) = (each v).0 ne in omega (arith, sizes v))) where
    place_at : ℕ → Place
    place_at = put_all S.place c.moves

    each : (v : ℕ) → Fits v (place_at v)
    each v = put_all-kept Fits S.place c.moves v row.0 ((λ ne. omega arith), omega arith)

    -- neither marks nor requests change
    sizes : (v : ℕ) → unit_size W (changed S c) v ≡ size v (place_at v) + request_weight (S.desk v).migrate
    sizes v =
        ap (λ (ss : List (ℕ × Stream)). place_size (sched_at W v) (λ r. (put_all S.stream ss r).mark) (place_at v) + request_weight (put_all S.desk c.desks v).migrate) row.2
        ∙ ap (λ (ds : List (ℕ × Desk)). size v (place_at v) + request_weight (put_all S.desk ds v).migrate) row.1

  -- unit v has another desk
  asks-small : (v : ℕ) (d : Desk) → state_size W (changed S (asks S x v d)) ≤ state_size W S + 3
  asks-small v d =
      size-grows W S (changed S (asks S x v d)) 3 v
      (let most : request_weight d.migrate ≤ 3 = request-most d.migrate in
      let here : request_weight (put_at S.desk v d v).migrate ≡ request_weight d.migrate = ap (λ (k : Desk). request_weight k.migrate) (put_at-same S.desk v d) in omega arith)
      (λ w ne. (let there : request_weight (put_at S.desk v d w).migrate ≡ request_weight (S.desk w).migrate = ap (λ (k : Desk). request_weight k.migrate) (put_at-other S.desk v d w ne) in omega arith))

  over-small : (v : ℕ) (pl : Place) → IsOver pl → size v pl ≡ 0
  over-small v place.Unborn h = refl
  over-small v (place.Ended c) h = refl
  over-small v _ h = absurd h

  -- unit v begins a life
  birth-small : (v p : ℕ) → IsOver (S.place v) → state_size W (changed S (begins W S s x v p)) ≤ state_size W S + (4 + extra (sched_at W v))
  birth-small v p over =
      let d : Desk = record (S.desk v) { life = suc (S.desk v).life } in
      let to : Place = place.Tray (stream_no s) (tray_end W S s) in
      size-grows W S (changed S (begins W S s x v p)) (4 + extra (sched_at W v)) v
      (let was : size v (S.place v) ≡ 0 = over-small v (S.place v) over in
      let now : size v (put_at S.place v to v) ≡ 4 + extra (sched_at W v) = ap (size v) (put_at-same S.place v to) in
      let asks : request_weight (put_at S.desk v d v).migrate ≡ request_weight (S.desk v).migrate = ap (λ (k : Desk). request_weight k.migrate) (put_at-same S.desk v d) in omega arith)
      (λ w ne.
      let at : size w (put_at S.place v to w) ≡ size w (S.place w) = ap (size w) (put_at-other S.place v to w ne) in
      let asks : request_weight (put_at S.desk v d w).migrate ≡ request_weight (S.desk w).migrate = ap (λ (k : Desk). request_weight k.migrate) (put_at-other S.desk v d w ne) in omega arith)

  -- unit x ends itself: only the mark of its hand changes
  exit-small : (Z : Stored) → Sound W Z S → state_size W (changed S (op_row W S s x op.Exit)) ≤ state_size W S
  exit-small Z sound =
      let own : Stream = marked Exited (S.stream s) in
      let T : State = changed S (op_row W S s x op.Exit) in
      size-kept W S T (λ v. elim (cases_eq v x) [
        | inl same ↦ subst (λ w. unit_size W T w ≡ unit_size W S w) (sym same) (ap (λ k. k + request_weight (S.desk x).migrate) (in-hand (marks_of T) ∙ sym (in-hand (marks_of S))))
        | inr other ↦ unit_size-kept W S T v refl refl (marks-elsewhere S s v own (λ at. other (sound.one_each (InHand s) v x 0 (ap (ticket_in (InHand s)) at ∙ same-self s 0) (ap (ticket_in (InHand s)) held ∙ same-self s 0))))
      ]) where
        in-hand : (marks : ℕ → Mark) → place_size (sched_at W x) marks (S.place x) ≡ 1
        in-hand marks = ap (place_size (sched_at W x) marks) held ∙ ap (λ b. place_size b marks (place.Hand (stream_no s))) program

  -- An operation that goes through, with more for a birth.

  abbrev Given : Op → Type 0
  Given o = state_size W (changed S (op_row W S s x o)) ≤ state_size W S + 3 + (one_if (is_some (nature_of o).birth) + 2 * one_if (is_sched_birth W (nature_of o).birth))

  given : (b c : Bool) (k : ℕ) → k ≤ state_size W S + 3 → k ≤ state_size W S + 3 + (one_if b + 2 * one_if c)
  given b c k l = omega arith

  born : (v k : ℕ) → k ≤ state_size W S + (4 + extra (sched_at W v)) → k ≤ state_size W S + 3 + (1 + 2 * one_if (sched_at W v))
  born v k l = let twice : extra (sched_at W v) ≡ 2 * one_if (sched_at W v) = extra-twice (sched_at W v) in omega arith

  module _ (Z : Stored) (sound : Sound W Z S) where
    goes-small : (o : Op) → Goes o → Given o
    goes-small op.Exit h = let kept : state_size W (changed S (op_row W S s x op.Exit)) ≤ state_size W S = exit-small Z sound in omega arith
    goes-small (op.Create v p) h = born v.0 _ (birth-small v.0 p.0 h)
    goes-small (op.Revive v p) h = born v.0 _ (birth-small v.0 p.0 h)
    goes-small (op.Cancel v) h = given false false _ (asks-small v.0 _)
    goes-small (op.Migrate v p) h = given false false _ (asks-small v.0 _)
    goes-small (op.MigrateTo v r) h = given false false _ (asks-small v.0 _)
    goes-small (op.Migratable v b) h = given false false _ (asks-small v.0 _)
    goes-small o h = given (is_some (nature_of o).birth) (is_sched_birth W (nature_of o).birth) _ (row-small (op_row W S s x o) h)

    pub op-small : (o : Op) → code_of W S s x o ≡ code.Ok → Given o
    op-small o ok = goes-small o (op-goes o (reached-ok W S s x o ok).1)

  pub refused-small : (c : Code) → state_size W (changed S (record no_change { carried = (x, refused c (S.carried x)) ∷ [] })) ≤ state_size W S + 3
  refused-small c = row-small (record no_change { carried = (x, refused c (S.carried x)) ∷ [] }) (tt, refl, refl)

  pub call-small : (c : Carried) → state_size W (changed S (goes_with x c)) ≤ state_size W S + 3
  call-small c = row-small (goes_with x c) (tt, refl, refl)
