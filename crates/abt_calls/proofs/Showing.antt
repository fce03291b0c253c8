-- What a report shows of units, read off from who holds them.
use Rattle.std.proofs.Common.{◌≡◌, ℕ, List, [], ◌∷◌, ◌++◌, map, Option, Some, refl, sym, ◌∙◌, ap, ap₂, All}
use Rattle.std.specs.List.{flat_map}
use Rattle.std.proofs.lemmas.List.{map-append}
use Rattle.std.proofs.lemmas.List.Elements.{All-append, All-cons, All-head, All-map, All-nil}
use Rattle.abt_machine.specs.declared.events.Place.{Place}
use Rattle.abt_machine.specs.declared.events.Place.TheVariants as place
use Rattle.abt_machine.specs.declared.events.Shown.{Shown}
use Rattle.abt_machine.specs.declared.events.Shown.TheVariants as shows
use Rattle.abt_machine.specs.declared.events.Site.TheVariants as site
use Rattle.abt_machine.specs.declared.events.Spot.TheVariants as spot
use Rattle.abt_machine.specs.declared.numbers.ObjectNo.{ObjectNo}
use Rattle.abt_machine.specs.declared.operations.Thing.{Thing}
use Rattle.abt_machine.specs.declared.operations.Thing.TheVariants as thing
use Rattle.abt_machine.specs.declared.workload.Parts.{Parts}
use Rattle.abt_machine.specs.Numbers.{object_no, stream_no}
use Rattle.abt_machine.specs.Workloads.{thing_at}
use Rattle.abt_machine.specs.Queues.{first}
use Rattle.abt_machine.specs.State.{State}
use Rattle.abt_machine.specs.Texts.{shown}
use Rattle.abt_machine.specs.Lines.{Line, InPool, InTray, InHand, InNext, InFrames, Joining, Waiting, standing}
use Rattle.abt_machine.specs.Values.{Owned, Phase, Unborn, Out, Suspended, Ended, barrier_at, conditions_of, eventual_at, future_at, monitor_at, owned_at, owned_in, phase_at, rwlock_at, waiters_at}
use Rattle.abt_laws.proofs.Lists.{EachOf}
use Rattle.abt_laws.proofs.Places.{place_in}
use Rattle.abt_laws.proofs.Standing.{StandsIn, each-stands}
use Rattle.abt_desk.specs.Keeps.{held_in}
use Rattle.abt_calls.specs.Keeps.{contents_of}
use Rattle.abt_calls.specs.Effects.{unit_in}
use Rattle.abt_laws.specs.Footprint.{OfStream, OfSite}
use Rattle.abt_calls.specs.Showing.{IsRowOf, Row, RowsAreTheStates, UnitsHaveRows, rows_as, rows_at, rows_at_desk, rows_of_object}

-- Units of rows.

abbrev unit_of : Row → Owned
unit_of row = row.1

units-as : (x : Shown) (os : List Owned) → map unit_of (rows_as x os) ≡ os
units-as x [] = refl
units-as x (o ∷ os) = ap (λ qs. o ∷ qs) (units-as x os)

units-at_desk : (phase : Phase) → map unit_of (rows_at_desk phase) ≡ held_in phase
units-at_desk (Unborn o) = refl
units-at_desk Out = refl
units-at_desk (Suspended o) = refl
units-at_desk (Ended o c) = refl

units-at : (f : ℕ → List Owned) (cs : List ℕ) → map unit_of (rows_at cs (map f cs)) ≡ flat_map (λ os. os) (map f cs)
units-at f [] = refl
units-at f (c ∷ cs) =
    map-append unit_of (rows_as (shows.Object (object_no c)) (f c)) (rows_at cs (map f cs)) ∙ ap₂ (λ xs ys. xs ++ ys) (units-as (shows.Object (object_no c)) (f c)) (units-at f cs)

module _ (W : Parts) (S : State) where
  monitor-units : (x : ObjectNo) (t : Option Thing) → map unit_of (rows_of_object W (site.Monitor x) (monitor_at W S x.0 t)) ≡ (contents_of (monitor_at W S x.0 t)).units
  monitor-units x (Some thing.Mutex) =
      map-append unit_of (rows_as (shows.Object x) (waiters_at W S x.0)) (rows_at (conditions_of W x.0) (map (waiters_at W S) (conditions_of W x.0)))
      ∙ ap₂ (λ xs ys. xs ++ ys) (units-as (shows.Object x) (waiters_at W S x.0)) (units-at (waiters_at W S) (conditions_of W x.0))
  monitor-units x _ = refl

  eventual-units : (x : ObjectNo) (t : Option Thing) → map unit_of (rows_of_object W (site.Eventual x) (eventual_at W S x.0 t)) ≡ (contents_of (eventual_at W S x.0 t)).units
  eventual-units x (Some thing.Eventual) = units-as (shows.Object x) (waiters_at W S x.0)
  eventual-units x _ = refl

  future-units : (x : ObjectNo) (t : Option Thing) → map unit_of (rows_of_object W (site.Future x) (future_at W S x.0 t)) ≡ (contents_of (future_at W S x.0 t)).units
  future-units x (Some (thing.Future n c)) = units-as (shows.Object x) (waiters_at W S x.0)
  future-units x _ = refl

  barrier-units : (x : ObjectNo) (t : Option Thing) → map unit_of (rows_of_object W (site.Barrier x) (barrier_at W S x.0 t)) ≡ (contents_of (barrier_at W S x.0 t)).units
  barrier-units x (Some (thing.Barrier n)) = units-as (shows.Object x) (waiters_at W S x.0)
  barrier-units x _ = refl

  rwlock-units : (x : ObjectNo) (t : Option Thing) → map unit_of (rows_of_object W (site.Rw x) (rwlock_at W S x.0 t)) ≡ (contents_of (rwlock_at W S x.0 t)).units
  rwlock-units x (Some thing.RwLock) = units-as (shows.Object x) (waiters_at W S x.0)
  rwlock-units x _ = refl

pub units-have-rows : UnitsHaveRows
units-have-rows W S (OfStream s) = units-as (shows.Stream (stream_no s)) _
units-have-rows W S (OfSite (site.Pool p)) = units-as (shows.Pool p) (owned_in W S (InPool p.0))
units-have-rows W S (OfSite (site.Desk u)) =
    map-append unit_of (rows_at_desk (phase_at (owned_at S u.0) (S.place u.0))) (rows_as (shows.Join u) (owned_in W S (Joining u.0)))
    ∙ ap₂ (λ xs ys. xs ++ ys) (units-at_desk (phase_at (owned_at S u.0) (S.place u.0))) (units-as (shows.Join u) (owned_in W S (Joining u.0)))
units-have-rows W S (OfSite (site.Monitor x)) = monitor-units W S x (thing_at W x.0)
units-have-rows W S (OfSite (site.Eventual x)) = eventual-units W S x (thing_at W x.0)
units-have-rows W S (OfSite (site.Future x)) = future-units W S x (thing_at W x.0)
units-have-rows W S (OfSite (site.Barrier x)) = barrier-units W S x (thing_at W x.0)
units-have-rows W S (OfSite (site.Rw x)) = rwlock-units W S x (thing_at W x.0)

-- Rows of a state.

module _ (W : Parts) (S : State) where
  -- the unit is shown so in the state
  abbrev IsShown : Shown → Owned → Type 0
  IsShown x o = IsRowOf S (x, o)

  rows-from : (x : Shown) (os : List Owned) → All (IsShown x) os → All (IsRowOf S) (rows_as x os)
  rows-from x os all = All-map (IsRowOf S) (λ o. (x, o)) os all

  line-by : (x : Shown) (l : Line) → ((t : ℕ) → shown (place_in l t) ≡ x) → (us : List ℕ) → EachOf (StandsIn W S l) us → All (IsShown x) (map (owned_at S) us)
  line-by x l is [] each = All-nil (IsShown x)
  line-by x l is (u ∷ us) each =
      All-cons (IsShown x) (owned_at S u) (map (owned_at S) us) (sym (ap shown each.0.at ∙ is each.0.ticket), refl) (line-by x l is us each.1)

  -- all of a line are shown alike
  line-shown : (x : Shown) (l : Line) → ((t : ℕ) → shown (place_in l t) ≡ x) → All (IsShown x) (owned_in W S l)
  line-shown x l is = line-by x l is (standing W S l) (each-stands W S l)

  first-shown : (x : Shown) (os : List Owned) → All (IsShown x) os → All (IsShown x) (unit_in (first os))
  first-shown x [] all = All-nil (IsShown x)
  first-shown x (o ∷ os) all = All-cons (IsShown x) o [] (All-head (IsShown x) o os all) (All-nil (IsShown x))

  waiting-shown : (x : ObjectNo) → All (IsRowOf S) (rows_as (shows.Object x) (waiters_at W S x.0))
  waiting-shown x = rows-from (shows.Object x) (waiters_at W S x.0) (line-shown (shows.Object x) (Waiting x.0) (λ t. refl))

  conditions-shown : (cs : List ℕ) → All (IsRowOf S) (rows_at cs (map (waiters_at W S) cs))
  conditions-shown [] = All-nil (IsRowOf S)
  conditions-shown (c ∷ cs) =
      All-append (IsRowOf S) (rows_as (shows.Object (object_no c)) (waiters_at W S c)) (rows_at cs (map (waiters_at W S) cs)) (waiting-shown (object_no c)) (conditions-shown cs)

  desk-one : (x : Shown) (u : ℕ) (pl : Place) → S.place u ≡ pl → x ≡ shown pl → All (IsRowOf S) ((x, owned_at S u) ∷ [])
  desk-one x u pl at is = All-cons (IsRowOf S) (x, owned_at S u) [] (is ∙ ap shown (sym at), refl) (All-nil (IsRowOf S))

  desk-shown : (u : ℕ) (pl : Place) → S.place u ≡ pl → All (IsRowOf S) (rows_at_desk (phase_at (owned_at S u) pl))
  desk-shown u place.Unborn at = desk-one shows.Unborn u place.Unborn at refl
  desk-shown u (place.Blocked spot.Suspended t) at = desk-one shows.Suspended u (place.Blocked spot.Suspended t) at refl
  desk-shown u (place.Ended c) at = desk-one (shows.Ended c) u (place.Ended c) at refl
  desk-shown u _ at = All-nil (IsRowOf S)

  monitor-shown : (x : ObjectNo) (t : Option Thing) → All (IsRowOf S) (rows_of_object W (site.Monitor x) (monitor_at W S x.0 t))
  monitor-shown x (Some thing.Mutex) =
      All-append (IsRowOf S) (rows_as (shows.Object x) (waiters_at W S x.0)) (rows_at (conditions_of W x.0) (map (waiters_at W S) (conditions_of W x.0))) (waiting-shown x) (conditions-shown (conditions_of W x.0))
  monitor-shown x _ = All-nil (IsRowOf S)

  eventual-shown : (x : ObjectNo) (t : Option Thing) → All (IsRowOf S) (rows_of_object W (site.Eventual x) (eventual_at W S x.0 t))
  eventual-shown x (Some thing.Eventual) = waiting-shown x
  eventual-shown x _ = All-nil (IsRowOf S)

  future-shown : (x : ObjectNo) (t : Option Thing) → All (IsRowOf S) (rows_of_object W (site.Future x) (future_at W S x.0 t))
  future-shown x (Some (thing.Future n c)) = waiting-shown x
  future-shown x _ = All-nil (IsRowOf S)

  barrier-shown : (x : ObjectNo) (t : Option Thing) → All (IsRowOf S) (rows_of_object W (site.Barrier x) (barrier_at W S x.0 t))
  barrier-shown x (Some (thing.Barrier n)) = waiting-shown x
  barrier-shown x _ = All-nil (IsRowOf S)

  rwlock-shown : (x : ObjectNo) (t : Option Thing) → All (IsRowOf S) (rows_of_object W (site.Rw x) (rwlock_at W S x.0 t))
  rwlock-shown x (Some thing.RwLock) = waiting-shown x
  rwlock-shown x _ = All-nil (IsRowOf S)

  stream-shown : (s : ℕ) → All (IsShown (shows.Stream (stream_no s))) (unit_in (first (owned_in W S (InHand s))) ++ unit_in (first (owned_in W S (InNext s))) ++ owned_in W S (InTray s) ++ owned_in W S (InFrames s))
  stream-shown s =
      let x : Shown = shows.Stream (stream_no s) in
      let hand : List Owned = unit_in (first (owned_in W S (InHand s))) in
      let next : List Owned = unit_in (first (owned_in W S (InNext s))) in
      All-append (IsShown x) (hand ++ next ++ owned_in W S (InTray s)) (owned_in W S (InFrames s))
      (All-append (IsShown x) (hand ++ next) (owned_in W S (InTray s))
      (All-append (IsShown x) hand next
      (first-shown x (owned_in W S (InHand s)) (line-shown x (InHand s) (λ t. refl)))
      (first-shown x (owned_in W S (InNext s)) (line-shown x (InNext s) (λ t. refl))))
      (line-shown x (InTray s) (λ t. refl)))
      (line-shown x (InFrames s) (λ t. refl))

pub rows-are-the-states : RowsAreTheStates
rows-are-the-states W S (OfStream s) = rows-from W S (shows.Stream (stream_no s)) _ (stream-shown W S s)
rows-are-the-states W S (OfSite (site.Pool p)) = rows-from W S (shows.Pool p) (owned_in W S (InPool p.0)) (line-shown W S (shows.Pool p) (InPool p.0) (λ t. refl))
rows-are-the-states W S (OfSite (site.Desk u)) =
    All-append (IsRowOf S) (rows_at_desk (phase_at (owned_at S u.0) (S.place u.0))) (rows_as (shows.Join u) (owned_in W S (Joining u.0)))
    (desk-shown W S u.0 (S.place u.0) refl)
    (rows-from W S (shows.Join u) (owned_in W S (Joining u.0)) (line-shown W S (shows.Join u) (Joining u.0) (λ t. refl)))
rows-are-the-states W S (OfSite (site.Monitor x)) = monitor-shown W S x (thing_at W x.0)
rows-are-the-states W S (OfSite (site.Eventual x)) = eventual-shown W S x (thing_at W x.0)
rows-are-the-states W S (OfSite (site.Future x)) = future-shown W S x (thing_at W x.0)
rows-are-the-states W S (OfSite (site.Barrier x)) = barrier-shown W S x (thing_at W x.0)
rows-are-the-states W S (OfSite (site.Rw x)) = rwlock-shown W S x (thing_at W x.0)
