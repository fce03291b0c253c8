-- A unit gets a home or a request to migrate only from a stream that may put into the pool, and leaves a pool only by one that may take from it.
use Rattle.std.proofs.Common.{◌≡◌, ℕ, suc, ◌==◌, if◌then◌else◌, Bool, true, false, List, [], ◌∷◌, length, map, Option, Some, None, refl, sym, ◌∙◌, ap, subst, ◌⊎◌, inl, inr}
use Rattle.std.specs.Prelude.{IfSome, IsTrue}
use Rattle.std.proofs.lemmas.Bool.{cond_both, eqb-true, false≢true}
use Rattle.abt_machine.specs.declared.events.Code.{Code}
use Rattle.abt_machine.specs.declared.events.Code.TheVariants as code
use Rattle.abt_machine.specs.declared.events.Place.{Place}
use Rattle.abt_machine.specs.declared.events.Place.TheVariants as place
use Rattle.abt_machine.specs.declared.events.What.{What}
use Rattle.abt_machine.specs.declared.events.What.TheVariants as what
use Rattle.abt_machine.specs.declared.events.Wish.TheVariants as wish
use Rattle.abt_machine.specs.declared.numbers.PoolNo.{PoolNo}
use Rattle.abt_machine.specs.declared.numbers.UnitNo.{UnitNo}
use Rattle.abt_machine.specs.declared.operations.Op.{Op}
use Rattle.abt_machine.specs.declared.operations.Op.TheVariants as op
use Rattle.abt_machine.specs.Stored.{Stored}
use Rattle.abt_machine.specs.declared.workload.Parts.{Parts}
use Rattle.abt_machine.specs.Access.{may_put, may_reach, may_take}
use Rattle.abt_machine.specs.Carrying.{advanced, newborn}
use Rattle.abt_machine.specs.Changes.{Change, goes_on, tray_moves, waiting_moves}
use Rattle.abt_machine.specs.Codes.{code_at, is_ended, is_in_pool, is_suspended, is_unborn, reached_code}
use Rattle.abt_machine.specs.Events.{May, after, change, look_row}
use Rattle.abt_machine.specs.Holders.{is_free, read_by, written_by}
use Rattle.abt_machine.specs.Lines.{InPool, InTray, Joining, Line, Waiting, standing, tray_end}
use Rattle.abt_machine.specs.Maps.{put_all, put_at}
use Rattle.abt_machine.specs.Monitors.{number_of}
use Rattle.abt_machine.specs.Numbers.{stream_no, unit_no}
use Rattle.abt_machine.specs.Queues.{first_alone}
use Rattle.abt_machine.specs.RwLocks.{left_by, may_read, wanting, woken}
use Rattle.abt_machine.specs.State.{Carried, Desk, Future, RwLock, State}
use Rattle.abt_machine.specs.Steps.{arrives, awaits, begins, filled_by, fills, gives_all, gives_up, hands_over, joins, locks, op_row, passes, ready_value, receives, releases, step_row, waits, wakes}
use Rattle.abt_machine.specs.Values.{rwlock_value}
use Rattle.abt_machine.specs.Workloads.{combine_of, mutex_of, op_at, size_of}
use Rattle.abt_laws.proofs.Codes.{reached-ok, unless-ok}
use Rattle.abt_laws.proofs.Granted.{woken-each}
use Rattle.abt_laws.proofs.LineMoves.{tray_moves-each, waiting_moves-each}
use Rattle.abt_laws.proofs.Lists.{EachOf, EachOf-append, EachOf-first_alone, EachOf-made, EachOf-map, EachOf-then}
use Rattle.abt_laws.proofs.Maps.{EachOf-key, KeyOf-cases, put_all-kept, put_all-other, put_at-same}
use Rattle.abt_laws.proofs.Places.{place_in}
use Rattle.abt_laws.proofs.Standing.{StandsIn, each-stands, first-stands, front-stands, hand-place, next-place}
use Rattle.abt_bounds.specs.Accesses.{KeepsAccess}
use Rattle.abt_bounds.specs.Laws.{BirthsNeedAccess, HomesNeedAccess, RequestsNeedAccess, TakersHaveAccess}
use Rattle.abt_bounds.proofs.Accesses.{events-keep-access}

-- What is shown of changes by stream s.

-- unit v had this home, or stream s may put into it
abbrev IsHomeGiven : Parts → State → ℕ → ℕ → ℕ → Type 0
IsHomeGiven W S s v p = (p ≡ (S.carried v).home) ⊎ IsTrue (may_put W s p)

-- unit v was in this life, or stream s may put into this home
abbrev IsLifeGiven : Parts → State → ℕ → ℕ → ℕ → ℕ → Type 0
IsLifeGiven W S s v n p = (n ≡ (S.desk v).life) ⊎ IsTrue (may_put W s p)

-- unit v had this request to migrate, or it is none, or stream s may put into its pool
abbrev IsRequestGiven : Parts → State → ℕ → ℕ → Option ℕ → Type 0
IsRequestGiven W S s v o = (o ≡ (S.desk v).migrate) ⊎ IfSome o (λ p. IsTrue (may_put W s p))

-- stream s may take from the pool of this place, if it is in one
abbrev MayLeave : Parts → ℕ → Place → Type 0
MayLeave W s (place.Pool p t) = IsTrue (may_take W s p.0)
MayLeave W s _ = Unit {0}

abbrev AllMayLeave : Parts → State → ℕ → List ℕ → Type 0
AllMayLeave W S s us = EachOf (λ u. MayLeave W s (S.place u)) us

-- the unit that moves may leave its place
abbrev MovesAway : Parts → State → ℕ → ℕ × Place → Type 0
MovesAway W S s m = MayLeave W s (S.place m.0)

-- so it is with each home, request, life and move of the change
abbrev GivesWithin : Parts → State → ℕ → Change → Type 0
GivesWithin W S s c =
    EachOf (λ (m : ℕ × Carried). IsHomeGiven W S s m.0 m.1.home) c.carried
    × EachOf (λ (m : ℕ × Desk). IsRequestGiven W S s m.0 m.1.migrate) c.desks
    × EachOf (λ (m : ℕ × Desk). IsLifeGiven W S s m.0 m.1.life (put_all S.carried c.carried m.0).home) c.desks
    × EachOf (MovesAway W S s) c.moves

-- Places that may be left.

-- a place that passes a test which fails at each pool
off-pools : (W : Parts) (s : ℕ) (test : Place → Bool) (at : Place) → ((p : PoolNo) (t : ℕ) → test (place.Pool p t) ≡ false) → test at ≡ true → MayLeave W s at
off-pools W s test (place.Pool p t) fails holds = absurd (false≢true (sym (fails p t) ∙ holds))
off-pools W s test _ fails holds = tt

-- a place in a pool that stream s may take from
pool-leaves : (W : Parts) (s p : ℕ) (at : Place) → is_in_pool p at ≡ true → IsTrue (may_take W s p) → MayLeave W s at
pool-leaves W s p (place.Pool q t) holds may = subst (λ n. IsTrue (may_take W s n)) (sym (eqb-true q.0 p holds)) may
pool-leaves W s p _ holds may = tt

-- the hand of stream s
hand-leaves : (W : Parts) (S : State) (s u : ℕ) → S.place u ≡ place.Hand (stream_no s) → MayLeave W s (S.place u)
hand-leaves W S s u is = subst (MayLeave W s) (sym is) tt

-- units in a line whose places may be left
line-leaves : (W : Parts) (S : State) (s : ℕ) (l : Line) → ((t : ℕ) → MayLeave W s (place_in l t)) → AllMayLeave W S s (standing W S l)
line-leaves W S s l may = EachOf-then (StandsIn W S l) (λ u. MayLeave W s (S.place u)) (standing W S l) (λ u is. subst (MayLeave W s) (sym is.at) (may is.ticket)) (each-stands W S l)

waiters-leave : (W : Parts) (S : State) (s x : ℕ) → AllMayLeave W S s (standing W S (Waiting x))
waiters-leave W S s x = line-leaves W S s (Waiting x) (λ t. tt)

first-leaves : (W : Parts) (S : State) (s x : ℕ) → AllMayLeave W S s (first_alone (standing W S (Waiting x)))
first-leaves W S s x = EachOf-first_alone (λ u. MayLeave W s (S.place u)) (standing W S (Waiting x)) (waiters-leave W S s x)

to-tray : (W : Parts) (S : State) (s i : ℕ) (us : List ℕ) → AllMayLeave W S s us → EachOf (MovesAway W S s) (tray_moves s i us)
to-tray W S s i us each = tray_moves-each (MovesAway W S s) (λ u. MayLeave W s (S.place u)) s i us (λ u t may. may) each

to-mutex : (W : Parts) (S : State) (s m t : ℕ) (us : List ℕ) → AllMayLeave W S s us → EachOf (MovesAway W S s) (waiting_moves m t us)
to-mutex W S s m t us each = waiting_moves-each (MovesAway W S s) (λ u. MayLeave W s (S.place u)) m t us (λ u k below may. may) each

-- The shapes of rows, for unit u in the hand of stream s.

module _ (W : Parts) (S : State) (s u : ℕ) (in_hand : S.place u ≡ place.Hand (stream_no s)) where
  own-leaves : MayLeave W s (S.place u)
  own-leaves = hand-leaves W S s u in_hand

  -- unit u goes on
  within-goes_on : GivesWithin W S s (goes_on S u)
  within-goes_on = ((inl refl, tt), tt, tt, tt)

  -- unit u goes on, and goes to a line
  within-waits : (x : ℕ) → GivesWithin W S s (waits S u x)
  within-waits x = ((inl refl, tt), tt, tt, (own-leaves, tt))

  within-joins : (v : ℕ) (at : Place) → GivesWithin W S s (joins S u v at)
  within-joins v (place.Ended c) = within-goes_on
  within-joins v _ = ((inl refl, tt), tt, tt, (own-leaves, tt))

  within-wakes : (us : List ℕ) → AllMayLeave W S s us → GivesWithin W S s (wakes W S s u us)
  within-wakes us each = ((inl refl, tt), tt, tt, to-tray W S s (tray_end W S s) us each)

  -- unit v begins a life with a home that stream s may put into
  within-begins : (v p : ℕ) → IsTrue (may_put W s p) → MayLeave W s (S.place v) → GivesWithin W S s (begins W S s u v p)
  within-begins v p may leaves =
      let lands : put_all S.carried ((u, advanced (S.carried u)) ∷ (v, newborn p (S.carried v)) ∷ []) v ≡ newborn p (S.carried v) = put_at-same (put_at S.carried u (advanced (S.carried u))) v (newborn p (S.carried v)) in
      ((inl refl, (inr may, tt)), (inl refl, tt), (inr (subst (λ (c : Carried). IsTrue (may_put W s c.home)) (sym lands) may), tt), to-tray W S s (tray_end W S s) (v ∷ []) (leaves, tt))

  within-locks : (x : ℕ) (o : Option ℕ) → GivesWithin W S s (locks S u x o)
  within-locks x None = within-goes_on
  within-locks x (Some v) = within-waits x

  within-hands_over : (m : ℕ) → GivesWithin W S s (hands_over W S s u m)
  within-hands_over m = within-wakes (first_alone (standing W S (Waiting m))) (first-leaves W S s m)

  within-releases : (x m : ℕ) → GivesWithin W S s (releases W S s u x m)
  within-releases x m = ((inl refl, tt), tt, tt, (own-leaves, to-tray W S s (tray_end W S s) (first_alone (standing W S (Waiting m))) (first-leaves W S s m)))

  within-passes : (m : ℕ) (o : Option ℕ) (us : List ℕ) → AllMayLeave W S s us → GivesWithin W S s (passes W S s u m o us)
  within-passes m o [] each = within-goes_on
  within-passes m (Some w) (v ∷ vs) each = ((inl refl, tt), tt, tt, to-mutex W S s m (S.object_next m) (v ∷ vs) each)
  within-passes m None (v ∷ vs) each = (
    (inl refl, tt),
    tt,
    tt,
    EachOf-append (MovesAway W S s) (waiting_moves m (S.object_next m) vs) (tray_moves s (tray_end W S s) (v ∷ [])) (to-mutex W S s m (S.object_next m) vs each.1) (each.0, tt),
  )

  within-gives_all : (x value : ℕ) → GivesWithin W S s (gives_all W S s u x value)
  within-gives_all x value =
      let us : List ℕ = standing W S (Waiting x) in
      let homes : EachOf (λ (m : ℕ × Carried). IsHomeGiven W S s m.0 m.1.home) (map (receives S value) us) = EachOf-map (λ (m : ℕ × Carried). IsHomeGiven W S s m.0 m.1.home) (λ v. MayLeave W s (S.place v)) (receives S value) us (λ v may. inl refl) (waiters-leave W S s x) in
      ((inl refl, homes), tt, tt, to-tray W S s (tray_end W S s) us (waiters-leave W S s x))

  within-awaits : (x : ℕ) (o : Option ℕ) → GivesWithin W S s (awaits S u x o)
  within-awaits x None = within-waits x
  within-awaits x (Some value) = ((inl refl, tt), tt, tt, tt)

  within-fills : (x : ℕ) (f : Future) → GivesWithin W S s (fills W S s u x f)
  within-fills x f = cond_both (f.filled == size_of W x) (gives_all W S s u x f.value) (goes_on S u) (GivesWithin W S s) (λ _. within-gives_all x f.value) (λ _. within-goes_on)

  within-arrives : (x : ℕ) → GivesWithin W S s (arrives W S s u x)
  within-arrives x =
      let us : List ℕ = standing W S (Waiting x) in
      cond_both (suc (length us) == size_of W x) (wakes W S s u us) (waits S u x) (GivesWithin W S s) (λ _. within-wakes us (waiters-leave W S s x)) (λ _. within-waits x)

  -- unit u has this lock, or waits for it
  within-goes_or_waits : (x : ℕ) (b : Bool) (held wanted : RwLock) → GivesWithin W S s (if b then record (goes_on S u) { rwlocks = (x, held) ∷ [] } else record (waits S u x) { rwlocks = (x, wanted) ∷ [] })
  within-goes_or_waits x b held wanted =
      cond_both b (record (goes_on S u) { rwlocks = (x, held) ∷ [] }) (record (waits S u x) { rwlocks = (x, wanted) ∷ [] }) (GivesWithin W S s) (λ _. within-goes_on) (λ _. within-waits x)

  within-gives_up : (x : ℕ) → GivesWithin W S s (gives_up W S s u x (left_by u (rwlock_value W S x)))
  within-gives_up x = within-wakes (map number_of (woken (left_by u (rwlock_value W S x)))) (woken-each (λ v. MayLeave W s (S.place v)) W S x u (waiters-leave W S s x))

  -- each operation that goes through
  op-within : (o : Op) → (may_reach W s o ≡ true) × (reached_code W S u o ≡ code.Ok) → GivesWithin W S s (op_row W S s u o)
  op-within op.Yield h = within-wakes (u ∷ []) (own-leaves, tt)
  op-within (op.YieldTo v p) h = ((inl refl, tt), tt, tt, (pool-leaves W s p.0 (S.place v.0) (unless-ok (is_in_pool p.0 (S.place v.0)) code.Absent _ tt h.1).0 h.0, (own-leaves, tt)))
  op-within op.Suspend h = ((inl refl, tt), tt, tt, (own-leaves, tt))
  op-within (op.Resume v) h = within-wakes (v.0 ∷ []) (off-pools W s is_suspended (S.place v.0) (λ p t. refl) (unless-ok (is_suspended (S.place v.0)) code.UnitState code.Ok tt h.1).0, tt)
  op-within (op.Create v p) h = within-begins v.0 p.0 h.0 (off-pools W s is_unborn (S.place v.0) (λ q t. refl) (unless-ok (is_unborn (S.place v.0)) code.Exists _ tt h.1).0)
  op-within (op.Join v) h = within-joins v.0 (S.place v.0)
  op-within (op.Migrate v p) h = ((inl refl, tt), (inr h.0, tt), (inl refl, tt), tt)
  op-within (op.MigrateTo v r) h = ((inl refl, tt), (inr h.0, tt), (inl refl, tt), tt)
  op-within (op.Revive v p) h = within-begins v.0 p.0 h.0 (off-pools W s is_ended (S.place v.0) (λ q t. refl) (unless-ok (is_ended (S.place v.0)) code.UnitState _ tt h.1).0)
  op-within (op.Lock x) h = within-locks x.0 (S.mutex x.0).owner
  op-within (op.Unlock x) h = within-hands_over x.0
  op-within (op.CondWait x) h = within-releases x.0 (mutex_of W x.0)
  op-within (op.Signal x) h = within-passes (mutex_of W x.0) (S.mutex (mutex_of W x.0)).owner (first_alone (standing W S (Waiting x.0))) (first-leaves W S s x.0)
  op-within (op.Broadcast x) h = within-passes (mutex_of W x.0) (S.mutex (mutex_of W x.0)).owner (standing W S (Waiting x.0)) (waiters-leave W S s x.0)
  op-within (op.EvWait x) h = within-awaits x.0 (S.eventual x.0)
  op-within (op.EvSet x) h = within-gives_all x.0 (S.carried u).acc
  op-within (op.FuWait x) h = within-awaits x.0 (ready_value W S x.0)
  op-within (op.FuSet x) h = within-fills x.0 (filled_by (combine_of W x.0) (S.future x.0) (S.carried u).acc)
  op-within (op.BarWait x) h = within-arrives x.0
  op-within (op.ReadLock x) h = within-goes_or_waits x.0 (may_read u (rwlock_value W S x.0)) (read_by u (S.rwlock x.0)) (wanting u wish.Read (S.rwlock x.0))
  op-within (op.WriteLock x) h = within-goes_or_waits x.0 (is_free (S.rwlock x.0)) (written_by u (S.rwlock x.0)) (wanting u wish.Write (S.rwlock x.0))
  op-within (op.RwUnlock x) h = within-gives_up x.0
  -- nobody moves, and home, life and request stay
  op-within o h =
      let ds : List (ℕ × Desk) = (op_row W S s u o).desks in (
        (inl refl, tt),
        EachOf-made (λ (m : ℕ × Desk). IsRequestGiven W S s m.0 m.1.migrate) (λ (m : ℕ × Desk). m.1.migrate) (λ (m : ℕ × Desk). (S.desk m.0).migrate) ds (λ m e. inl e) refl,
        EachOf-made (λ (m : ℕ × Desk). IsLifeGiven W S s m.0 m.1.life (put_all S.carried (op_row W S s u o).carried m.0).home) (λ (m : ℕ × Desk). m.1.life) (λ (m : ℕ × Desk). (S.desk m.0).life) ds (λ m e. inl e) refl,
        tt,
      )

  -- what there is at a position, by its code
  step-within : (o : Option Op) (c : Code) → code_at W S s u o ≡ c → GivesWithin W S s (step_row W S s u o c)
  step-within None c e = (tt, tt, tt, tt)
  step-within (Some o) code.Ok e = op-within o (reached-ok W S s u o e)
  step-within (Some o) c e = ((inl refl, tt), tt, tt, tt)

-- What each event makes of a unit.

-- the home that unit v has after event w: that of before, or one as the law says
abbrev IsHomeAfter : Parts → State → ℕ → What → UnitNo → ℕ → Type 0
IsHomeAfter W S s w v p = (p ≡ (S.carried v.0).home) ⊎ (IsTrue (may_put W s p) ⊎ ((w ≡ what.Look v) × ((S.desk v.0).migrate ≡ Some p)))

-- unit u has the home that it was asked to migrate to, if any other
look-homes : (W : Parts) (S : State) (s u : ℕ) (cancel : Bool) (migrate : Option ℕ) → (S.desk u).migrate ≡ migrate →
    EachOf (λ (m : ℕ × Carried). (m.1.home ≡ (S.carried m.0).home) ⊎ ((u ≡ m.0) × ((S.desk m.0).migrate ≡ Some m.1.home))) (look_row W S s u cancel migrate).carried
look-homes W S s u true migrate is = tt
look-homes W S s u false (Some p) is = (inr (refl, is), tt)
look-homes W S s u false None is = tt

look-requests : (W : Parts) (S : State) (s u : ℕ) (cancel : Bool) (migrate : Option ℕ) → EachOf (λ (m : ℕ × Desk). IsRequestGiven W S s m.0 m.1.migrate) (look_row W S s u cancel migrate).desks
look-requests W S s u true migrate = (inr tt, tt)
look-requests W S s u false (Some p) = (inr tt, tt)
look-requests W S s u false None = (inr tt, tt)

look-lives : (W : Parts) (S : State) (s u : ℕ) (cancel : Bool) (migrate : Option ℕ) → EachOf (λ (m : ℕ × Desk). m.1.life ≡ (S.desk m.0).life) (look_row W S s u cancel migrate).desks
look-lives W S s u true migrate = (refl, tt)
look-lives W S s u false (Some p) = (refl, tt)
look-lives W S s u false None = (refl, tt)

look-leaves : (W : Parts) (S : State) (s u : ℕ) (cancel : Bool) (migrate : Option ℕ) → MayLeave W s (S.place u) → EachOf (MovesAway W S s) (look_row W S s u cancel migrate).moves
look-leaves W S s u true migrate may = (may, tt)
look-leaves W S s u false (Some p) may = (may, tt)
look-leaves W S s u false None may = (may, tt)

module _ (W : Parts) (Z : Stored) (S : State) (s : ℕ) where
  stepped-within : (u : UnitNo) (k : ℕ) (c : Code) → May W Z S s (what.Step u k c) → GivesWithin W S s (step_row W S s u.0 (op_at W u.0 k) c)
  stepped-within u k c may = step-within W S s u.0 (hand-place W S s u.0 may.1) (op_at W u.0 k) c (sym may.3)

  home-after : (v : UnitNo) (w : What) → May W Z S s w → IsHomeAfter W S s w v ((after W S s w).carried v.0).home
  home-after v (what.Look u) may =
      let cs : List (ℕ × Carried) = (change W S s (what.Look u)).carried in
      elim (put_all-kept (λ n (c : Carried). (c.home ≡ (S.carried n).home) ⊎ ((u.0 ≡ n) × ((S.desk n).migrate ≡ Some c.home))) S.carried cs v.0
      (look-homes W S s u.0 (S.desk u.0).cancel (S.desk u.0).migrate refl) (inl refl)) [
        | inl same ↦ inl same
        | inr asked ↦ inr (inr (ap (λ (n : ℕ). what.Look (unit_no n)) asked.0, asked.1))
      ]
  home-after v (what.Step u k c) may =
      elim (put_all-kept (λ n (d : Carried). IsHomeGiven W S s n d.home) S.carried (step_row W S s u.0 (op_at W u.0 k) c).carried v.0 (stepped-within u k c may).0 (inl refl)) [
        | inl same ↦ inl same
        | inr given ↦ inr (inl given)
      ]
  home-after v (what.Call u k n) may = inl (put_all-kept (λ i (d : Carried). d.home ≡ (S.carried i).home) S.carried (change W S s (what.Call u k n)).carried v.0 (refl, tt) refl)
  home-after v _ may = inl refl

  request-after : (v : ℕ) (w : What) → May W Z S s w → IsRequestGiven W S s v ((after W S s w).desk v).migrate
  request-after v (what.Look u) may =
      put_all-kept (λ n (d : Desk). IsRequestGiven W S s n d.migrate) S.desk (change W S s (what.Look u)).desks v (look-requests W S s u.0 (S.desk u.0).cancel (S.desk u.0).migrate) (inl refl)
  request-after v (what.Step u k c) may =
      put_all-kept (λ n (d : Desk). IsRequestGiven W S s n d.migrate) S.desk (step_row W S s u.0 (op_at W u.0 k) c).desks v (stepped-within u k c may).1 (inl refl)
  request-after v (what.End u c) may =
      put_all-kept (λ n (d : Desk). IsRequestGiven W S s n d.migrate) S.desk (change W S s (what.End u c)).desks v (inr tt, tt) (inl refl)
  request-after v _ may = inl refl

  life-after : (v : ℕ) (w : What) → May W Z S s w → IsLifeGiven W S s v ((after W S s w).desk v).life ((after W S s w).carried v).home
  life-after v (what.Look u) may =
      inl (put_all-kept (λ n (d : Desk). d.life ≡ (S.desk n).life) S.desk (change W S s (what.Look u)).desks v (look-lives W S s u.0 (S.desk u.0).cancel (S.desk u.0).migrate) refl)
  life-after v (what.Step u k c) may =
      let row : Change = step_row W S s u.0 (op_at W u.0 k) c in
      put_all-kept (λ n (d : Desk). IsLifeGiven W S s n d.life (put_all S.carried row.carried n).home) S.desk row.desks v (stepped-within u k c may).2 (inl refl)
  life-after v (what.End u c) may = inl (put_all-kept (λ n (d : Desk). d.life ≡ (S.desk n).life) S.desk (change W S s (what.End u c)).desks v (refl, tt) refl)
  life-after v _ may = inl refl

  -- an event that keeps to the access of pools
  event-leaves : (w : What) → KeepsAccess W s w → May W Z S s w → EachOf (MovesAway W S s) (change W S s w).moves
  event-leaves (what.Miss p) keeps may = tt
  event-leaves (what.Take p u) keeps may = (let is : StandsIn W S (InPool p.0) u.0 = front-stands W S s p.0 u.0 may.1 in subst (MayLeave W s) (sym is.at) keeps, tt)
  event-leaves (what.Look u) keeps may = look-leaves W S s u.0 (S.desk u.0).cancel (S.desk u.0).migrate (subst (MayLeave W s) (sym (next-place W S s u.0 may.1)) tt)
  event-leaves (what.Step u k c) keeps may = (stepped-within u k c may).3
  event-leaves (what.Call u k n) keeps may = tt
  event-leaves (what.Put u p) keeps may = (let is : StandsIn W S (InTray s) u.0 = first-stands W S (InTray s) u.0 may.1 in subst (MayLeave W s) (sym is.at) tt, tt)
  event-leaves (what.End u c) keeps may = (hand-leaves W S s u.0 (hand-place W S s u.0 may.1), to-tray W S s (tray_end W S s) (standing W S (Joining u.0)) (line-leaves W S s (Joining u.0) (λ t. tt)))
  event-leaves (what.Enter u) keeps may = (hand-leaves W S s u.0 (hand-place W S s u.0 may.1), tt)
  event-leaves (what.Leave u) keeps may = (subst (MayLeave W s) (sym may.1) tt, tt)

-- The laws.

pub homes-need-access : (W : Parts) (Z : Stored) → HomesNeedAccess W Z
homes-need-access W Z S T e v came new =
    let is : IsHomeAfter W S e.stream.0 e.what v (T.carried v.0).home =
    subst (λ (U : State). IsHomeAfter W S e.stream.0 e.what v (U.carried v.0).home) (sym came.2) (home-after W Z S e.stream.0 v e.what came.1) in
    elim is [ inl same ↦ absurd (new same) | inr given ↦ given ]

pub births-need-access : (W : Parts) (Z : Stored) → BirthsNeedAccess W Z
births-need-access W Z S T e v came new =
    let is : IsLifeGiven W S e.stream.0 v.0 (T.desk v.0).life (T.carried v.0).home =
    subst (λ (U : State). IsLifeGiven W S e.stream.0 v.0 (U.desk v.0).life (U.carried v.0).home) (sym came.2) (life-after W Z S e.stream.0 v.0 e.what came.1) in
    elim is [ inl same ↦ absurd (new same) | inr given ↦ given ]

pub requests-need-access : (W : Parts) (Z : Stored) → RequestsNeedAccess W Z
requests-need-access W Z S T e v p came asked new =
    let found : IsRequestGiven W S e.stream.0 v.0 (T.desk v.0).migrate =
    subst (λ (U : State). IsRequestGiven W S e.stream.0 v.0 (U.desk v.0).migrate) (sym came.2) (request-after W Z S e.stream.0 v.0 e.what came.1) in
    let is : IsRequestGiven W S e.stream.0 v.0 (Some p) = subst (IsRequestGiven W S e.stream.0 v.0) asked found in
    elim is [ inl same ↦ absurd (new (sym same)) | inr given ↦ given ]

pub takers-have-access : (W : Parts) (Z : Stored) → TakersHaveAccess W Z
takers-have-access W Z S T e v p t has came at moved =
    let moves : List (ℕ × Place) = (change W S e.stream.0 e.what).moves in
    let keeps : KeepsAccess W e.stream.0 e.what = (events-keep-access W Z S T e has came).0 in
    elim (KeyOf-cases v.0 moves) [
      | inl moves_it ↦ subst (MayLeave W e.stream.0) at (EachOf-key (λ n. MayLeave W e.stream.0 (S.place n)) moves v.0 (event-leaves W Z S e.stream.0 e.what keeps came.1) moves_it)
      | inr out ↦ absurd (moved (ap (λ (U : State). U.place v.0) came.2 ∙ put_all-other S.place moves v.0 out))
    ]
