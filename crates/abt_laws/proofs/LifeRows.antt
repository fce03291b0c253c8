-- Each operation that goes through takes its unit on, and moves other units only from outside to outside, except if it begins a life. It keeps every stream's frames.
use Rattle.std.proofs.Common.{◌≡◌, ◌≢◌, ℕ, suc, ◌==◌, if◌then◌else◌, Bool, true, List, [], ◌∷◌, ◌++◌, length, map, Option, Some, None, refl, sym, ap, subst, inl, inr}
use Rattle.std.proofs.lemmas.Bool.{cond_both, false≢true}
use Rattle.abt_machine.specs.declared.events.Code.{Code}
use Rattle.abt_machine.specs.declared.events.Code.TheVariants as code
use Rattle.abt_machine.specs.declared.events.Place.{Place}
use Rattle.abt_machine.specs.declared.events.Place.TheVariants as place
use Rattle.abt_machine.specs.declared.events.Spot.TheVariants as spot
use Rattle.abt_machine.specs.declared.events.Wish.TheVariants as wish
use Rattle.abt_machine.specs.declared.operations.Op.{Op}
use Rattle.abt_machine.specs.declared.operations.Op.TheVariants as op
use Rattle.abt_machine.specs.declared.workload.Parts.{Parts}
use Rattle.abt_machine.specs.Workloads.{combine_of, mutex_of, size_of}
use Rattle.abt_machine.specs.Numbers.{stream_no, unit_no, object_no}
use Rattle.abt_machine.specs.Carrying.{refused, with_acc}
use Rattle.abt_machine.specs.Queues.{first_alone}
use Rattle.abt_machine.specs.Holders.{is_free, read_by, written_by}
use Rattle.abt_machine.specs.Monitors.{number_of}
use Rattle.abt_machine.specs.RwLocks.{left_by, may_read, wanting, woken}
use Rattle.abt_machine.specs.State.{State, Stream, Carried, Desk, Future, RwLock}
use Rattle.abt_machine.specs.Values.{rwlock_value}
use Rattle.abt_machine.specs.Lines.{Line, standing, Waiting, tray_end}
use Rattle.abt_machine.specs.Outcomes.{IsOver}
use Rattle.abt_machine.specs.Codes.{code_of, is_ended, is_in_pool, is_suspended, is_unborn, reached_code}
use Rattle.abt_machine.specs.Changes.{Change, no_change, goes_with, goes_on, to_tray, tray_moves, waiting_moves}
use Rattle.abt_machine.specs.Steps.{wakes, joins, waits, locks, hands_over, releases, queues, passes, receives, gives_all, awaits, ready_value, filled_by, fills, arrives, gives_up, op_row}
use Rattle.abt_laws.proofs.Granted.{woken-each}
use Rattle.abt_laws.proofs.LineMoves.{tray_moves-each, waiting_moves-each}
use Rattle.abt_laws.proofs.Codes.{reached-ok, unless-ok}
use Rattle.abt_laws.proofs.Places.{place_in}
use Rattle.abt_laws.proofs.Standing.{StandsIn, each-stands}
use Rattle.abt_laws.proofs.Lists.{EachOf, EachOf-append, EachOf-map, EachOf-then, EachOf-first_alone, EachOf-same}
use Rattle.abt_laws.proofs.LifeTies.{IsOutside}
use Rattle.abt_laws.proofs.LifeStepShapes.{StaysOutside, Steps}

-- Who stands in a line.

abbrev pub AllOutside : State → List ℕ → Type 0
AllOutside S us = EachOf (λ u. IsOutside (S.place u)) us

-- if each place of a line is outside, so is each unit that stands there
pub line-outside : (W : Parts) (S : State) (l : Line) → ((t : ℕ) → IsOutside (place_in l t)) → AllOutside S (standing W S l)
line-outside W S l out = EachOf-then (StandsIn W S l) (λ u. IsOutside (S.place u)) (standing W S l) (λ u is. subst IsOutside (sym is.at) (out is.ticket)) (each-stands W S l)

waiters-outside : (W : Parts) (S : State) (x : ℕ) → AllOutside S (standing W S (Waiting x))
waiters-outside W S x = line-outside W S (Waiting x) (λ t. tt)

-- What is shown of rows.

-- a stream that is changed keeps its frames
abbrev pub KeepsFrames : State → Change → Type 0
KeepsFrames S c = EachOf (λ (m : ℕ × Stream). (m.1.top ≡ (S.stream m.0).top) × (m.1.below ≡ (S.stream m.0).below)) c.streams

-- what holds of an operation that goes through; an `exit` changes its stream, and a birth another unit's life
abbrev pub Goes : Parts → State → ℕ → ℕ → Op → Type 0
Goes W S s x op.Exit = Unit {0}
Goes W S s x (op.Create v p) = IsOver (S.place v.0)
Goes W S s x (op.Revive v p) = IsOver (S.place v.0)
Goes W S s x o = Steps S x (op_row W S s x o)

-- The shapes of rows, for unit x: if P then it is in a hand. Frames are kept also where P is not known.

module _ (W : Parts) (S : State) (s x : ℕ) (P : Type 0) (held : P → IsOutside (S.place x) → ⊥) where
  abbrev Row : Change → Type 0
  Row c = (P → Steps S x c) × KeepsFrames S c

  tray-stays : (us : List ℕ) (i : ℕ) → AllOutside S us → EachOf (StaysOutside S x) (tray_moves s i us)
  tray-stays us i a = tray_moves-each (StaysOutside S x) (λ u. IsOutside (S.place u)) s i us (λ u t out. (inr out, tt)) a

  waiting-stays : (m : ℕ) (us : List ℕ) (t : ℕ) → AllOutside S us → EachOf (StaysOutside S x) (waiting_moves m t us)
  waiting-stays m us t a = waiting_moves-each (StaysOutside S x) (λ u. IsOutside (S.place u)) m t us (λ u k b out. (inr out, tt)) a

  row-goes_with : (c : Carried) → c.position ≡ (S.carried x).position → Row (goes_with x c)
  row-goes_with c h = (λ k. record { stay_outside = tt; goes_on = (refl, ap (λ (n : ℕ). suc n) h, tt); same_lives = tt; same_streams = refl }, tt)

  row-goes_on : Row (goes_on S x)
  row-goes_on = row-goes_with (S.carried x) refl

  -- unit x goes on, with these moves
  row-moves : (ms : List (ℕ × Place)) → (P → EachOf (StaysOutside S x) ms) → Row (record (goes_on S x) { moves = ms })
  row-moves ms h = (λ k. record { stay_outside = h k; goes_on = (refl, refl, tt); same_lives = tt; same_streams = refl }, tt)

  row-wakes : (us : List ℕ) → (P → AllOutside S us) → Row (wakes W S s x us)
  row-wakes us a = row-moves (to_tray W S s us) (λ k. tray-stays us (tray_end W S s) (a k))

  row-yields : Row (wakes W S s x (x ∷ []))
  row-yields = row-moves (to_tray W S s (x ∷ [])) (λ k. ((inl refl, tt), tt))

  row-yields_to : (v : ℕ) (pl : Place) → (P → IsOutside (S.place v)) → IsOutside pl → Row (record (goes_on S x) { moves = (v, pl) ∷ to_tray W S s (x ∷ []) })
  row-yields_to v pl out to = row-moves ((v, pl) ∷ to_tray W S s (x ∷ [])) (λ k. ((inr (out k), to), ((inl refl, tt), tt)))

  -- unit x goes to such a place
  row-blocks : (pl : Place) → IsOutside pl → Row (record (goes_on S x) { moves = (x, pl) ∷ [] })
  row-blocks pl h = row-moves ((x, pl) ∷ []) (λ k. ((inl refl, h), tt))

  row-joins : (v : ℕ) (pl : Place) → Row (joins S x v pl)
  row-joins v (place.Ended c) = row-goes_on
  row-joins v _ = row-blocks (place.Blocked (spot.Join (unit_no v)) (S.join_next v)) tt

  row-waits : (y : ℕ) → Row (waits S x y)
  row-waits y = row-blocks (place.Blocked (spot.Object (object_no y)) (S.object_next y)) tt

  row-locks : (y : ℕ) (o : Option ℕ) → Row (locks S x y o)
  row-locks y None = row-goes_on
  row-locks y (Some v) = row-waits y

  front-outside : (y : ℕ) → AllOutside S (first_alone (standing W S (Waiting y)))
  front-outside y = EachOf-first_alone (λ u. IsOutside (S.place u)) (standing W S (Waiting y)) (waiters-outside W S y)

  row-hands_over : (m : ℕ) → Row (hands_over W S s x m)
  row-hands_over m = row-wakes (first_alone (standing W S (Waiting m))) (λ k. front-outside m)

  row-releases : (y m : ℕ) → Row (releases W S s x y m)
  row-releases y m =
      row-moves ((x, place.Blocked (spot.Object (object_no y)) (S.object_next y)) ∷ to_tray W S s (first_alone (standing W S (Waiting m))))
      (λ k. ((inl refl, tt), tray-stays (first_alone (standing W S (Waiting m))) (tray_end W S s) (front-outside m)))

  row-queues : (m : ℕ) (us : List ℕ) → AllOutside S us → Row (queues S x m us)
  row-queues m us a = row-moves (waiting_moves m (S.object_next m) us) (λ k. waiting-stays m us (S.object_next m) a)

  row-passes : (m : ℕ) (o : Option ℕ) (us : List ℕ) → AllOutside S us → Row (passes W S s x m o us)
  row-passes m o [] a = row-goes_on
  row-passes m (Some v) (u ∷ us) a = row-queues m (u ∷ us) a
  row-passes m None (u ∷ us) a =
      row-moves (waiting_moves m (S.object_next m) us ++ to_tray W S s (u ∷ []))
      (λ k. EachOf-append (StaysOutside S x) (waiting_moves m (S.object_next m) us) (to_tray W S s (u ∷ [])) (waiting-stays m us (S.object_next m) a.1) (tray-stays (u ∷ []) (tray_end W S s) (a.0, tt)))

  row-gives_all : (y value : ℕ) → Row (gives_all W S s x y value)
  row-gives_all y value =
      let us : List ℕ = standing W S (Waiting y) in
      let out : AllOutside S us = waiters-outside W S y in (
        λ k. record {
          stay_outside = tray-stays us (tray_end W S s) out;
          goes_on = (refl, refl, EachOf-map (λ (q : ℕ × Carried). (q.0 ≢ x) × (q.1.position ≡ (S.carried q.0).position)) (λ u. IsOutside (S.place u)) (receives S value) us (λ u h. (λ e. held k (subst (λ n. IsOutside (S.place n)) e h), refl)) out);
          same_lives = tt;
          same_streams = refl;
        },
        tt,
      )

  row-awaits : (y : ℕ) (o : Option ℕ) → Row (awaits S x y o)
  row-awaits y None = row-waits y
  row-awaits y (Some value) = row-goes_with (with_acc value (S.carried x)) refl

  row-fills : (y : ℕ) (f : Future) → Row (fills W S s x y f)
  row-fills y f = cond_both (f.filled == size_of W y) (gives_all W S s x y f.value) (goes_on S x) Row (λ _. row-gives_all y f.value) (λ _. row-goes_on)

  row-arrives : (y : ℕ) → Row (arrives W S s x y)
  row-arrives y =
      cond_both (suc (length (standing W S (Waiting y))) == size_of W y) (wakes W S s x (standing W S (Waiting y))) (waits S x y) Row
      (λ _. row-wakes (standing W S (Waiting y)) (λ k. waiters-outside W S y)) (λ _. row-waits y)

  -- unit x has this lock, or waits for it
  row-goes_or_waits : (y : ℕ) (b : Bool) (held wanted : RwLock) → Row (if b then record (goes_on S x) { rwlocks = (y, held) ∷ [] } else record (waits S x y) { rwlocks = (y, wanted) ∷ [] })
  row-goes_or_waits y b held wanted =
      cond_both b (record (goes_on S x) { rwlocks = (y, held) ∷ [] }) (record (waits S x y) { rwlocks = (y, wanted) ∷ [] }) Row (λ _. row-goes_on) (λ _. row-waits y)

  row-gives_up : (y : ℕ) → Row (gives_up W S s x y (left_by x (rwlock_value W S y)))
  row-gives_up y = row-wakes (map number_of (woken (left_by x (rwlock_value W S y)))) (λ k. woken-each (λ u. IsOutside (S.place u)) W S y x (waiters-outside W S y))

  -- What the code says of the other unit.

  suspended-outside : (pl : Place) → is_suspended pl ≡ true → IsOutside pl
  suspended-outside (place.Blocked spot.Suspended t) h = tt
  suspended-outside _ h = absurd (false≢true h)

  pooled-outside : (p : ℕ) (pl : Place) → is_in_pool p pl ≡ true → IsOutside pl
  pooled-outside p (place.Pool q t) h = tt
  pooled-outside p _ h = absurd (false≢true h)

  unborn-over : (pl : Place) → is_unborn pl ≡ true → IsOver pl
  unborn-over place.Unborn h = tt
  unborn-over _ h = absurd (false≢true h)

  ended-over : (pl : Place) → is_ended pl ≡ true → IsOver pl
  ended-over (place.Ended c) h = tt
  ended-over _ h = absurd (false≢true h)

  -- each operation, which goes through if P
  pub row-op : (o : Op) → (P → reached_code W S x o ≡ code.Ok) → (P → Goes W S s x o) × KeepsFrames S (op_row W S s x o)
  row-op op.Yield h = row-yields
  row-op (op.YieldTo v p) h =
      row-yields_to v.0 (place.Next (stream_no s)) (λ k. pooled-outside p.0 (S.place v.0) (unless-ok (is_in_pool p.0 (S.place v.0)) code.Absent _ tt (h k)).0) tt
  row-op op.Suspend h = row-blocks (place.Blocked spot.Suspended 0) tt
  row-op op.Exit h = (λ k. tt, ((refl, refl), tt))
  row-op (op.Resume v) h = row-wakes (v.0 ∷ []) (λ k. (suspended-outside (S.place v.0) (unless-ok (is_suspended (S.place v.0)) code.UnitState code.Ok tt (h k)).0, tt))
  row-op (op.Create v p) h = (λ k. unborn-over (S.place v.0) (unless-ok (is_unborn (S.place v.0)) code.Exists _ tt (h k)).0, tt)
  row-op (op.Join v) h = row-joins v.0 (S.place v.0)
  row-op (op.Revive v p) h = (λ k. ended-over (S.place v.0) (unless-ok (is_ended (S.place v.0)) code.UnitState _ tt (h k)).0, tt)
  row-op (op.Lock y) h = row-locks y.0 (S.mutex y.0).owner
  row-op (op.Unlock y) h = row-hands_over y.0
  row-op (op.CondWait y) h = row-releases y.0 (mutex_of W y.0)
  row-op (op.Signal y) h = row-passes (mutex_of W y.0) (S.mutex (mutex_of W y.0)).owner (first_alone (standing W S (Waiting y.0))) (front-outside y.0)
  row-op (op.Broadcast y) h = row-passes (mutex_of W y.0) (S.mutex (mutex_of W y.0)).owner (standing W S (Waiting y.0)) (waiters-outside W S y.0)
  row-op (op.EvWait y) h = row-awaits y.0 (S.eventual y.0)
  row-op (op.EvSet y) h = row-gives_all y.0 (S.carried x).acc
  row-op (op.FuWait y) h = row-awaits y.0 (ready_value W S y.0)
  row-op (op.FuSet y) h = row-fills y.0 (filled_by (combine_of W y.0) (S.future y.0) (S.carried x).acc)
  row-op (op.BarWait y) h = row-arrives y.0
  row-op (op.ReadLock y) h = row-goes_or_waits y.0 (may_read x (rwlock_value W S y.0)) (read_by x (S.rwlock y.0)) (wanting x wish.Read (S.rwlock y.0))
  row-op (op.WriteLock y) h = row-goes_or_waits y.0 (is_free (S.rwlock y.0)) (written_by x (S.rwlock y.0)) (wanting x wish.Write (S.rwlock y.0))
  row-op (op.RwUnlock y) h = row-gives_up y.0
  -- nobody moves
  row-op o h = (λ k. record { stay_outside = tt; goes_on = (refl, refl, tt); same_lives = EachOf-same (λ (d : ℕ × Desk). d.1.life) (λ (d : ℕ × Desk). (S.desk d.0).life) (op_row W S s x o).desks refl; same_streams = refl }, tt)

-- an operation that goes through
pub goes : (W : Parts) (S : State) (s x : ℕ) → (IsOutside (S.place x) → ⊥) → (o : Op) → code_of W S s x o ≡ code.Ok → Goes W S s x o
goes W S s x held o h = (row-op W S s x (Unit {0}) (λ _. held) o (λ _. (reached-ok W S s x o h).1)).0 tt

-- one that is refused
pub row-refused : (S : State) (x : ℕ) (c : Code) → Steps S x (record no_change { carried = (x, refused c (S.carried x)) ∷ [] })
row-refused S x c = record { stay_outside = tt; goes_on = (refl, refl, tt); same_lives = tt; same_streams = refl }
