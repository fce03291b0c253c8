-- What holds of every state that the machine reaches.
use Rattle.std.specs.Prelude.{ℕ, ◌≡◌, ◌<◌, ◌≤◌, ◌-◌, false, List, [], ◌∷◌, ◌++◌, length, Option, Some, None, slice_get, IfSome, IsSome, IsTrue, IsFalse}
use Rattle.std.specs.List.{sum}
use Rattle.abt_machine.specs.declared.events.Place.{Place}
use Rattle.abt_machine.specs.declared.events.Place.TheVariants as place
use Rattle.abt_machine.specs.declared.events.Spot.TheVariants as spot
use Rattle.abt_machine.specs.declared.operations.Body.{Body}
use Rattle.abt_machine.specs.declared.operations.Body.TheVariants as body
use Rattle.abt_machine.specs.declared.operations.OrderShape.{OrderShape}
use Rattle.abt_machine.specs.Stored.{Stored}
use Rattle.abt_machine.specs.declared.operations.Thing.{Thing}
use Rattle.abt_machine.specs.declared.operations.Thing.TheVariants as thing
use Rattle.abt_machine.specs.declared.workload.Parts.{Parts}
use Rattle.abt_machine.specs.Numbers.{stream_no}
use Rattle.abt_machine.specs.Workloads.{body_at, ops_of, main_of, thing_at, size_of}
use Rattle.abt_machine.specs.Codes.{is_ended}
use Rattle.abt_machine.specs.Holders.{is_free}
use Rattle.abt_machine.specs.Queues.{last}
use Rattle.abt_machine.specs.RwLocks.{reader_is_first}
use Rattle.abt_machine.specs.State.{State, Stream, Frame, Desk, RwLock}
use Rattle.abt_machine.specs.Lines.{Line, ticket_in, standing, Waiting}
use Rattle.abt_machine.specs.Rounds.{IsOrder}

-- Frames.

-- what the frame has seen is a proper prefix of a list that its round may visit
abbrev pub IsUnderWay : Parts → List OrderShape → Frame → Type 0
IsUnderWay W Z f = (order : List ℕ) × IsOrder W Z f.sched f.round order × (p : ℕ) × (rest : List ℕ) × (f.seen ++ p ∷ rest ≡ order)

abbrev pub AllUnderWay : Parts → List OrderShape → List Frame → Type 0
AllUnderWay W Z [] = Unit {0}
AllUnderWay W Z (f ∷ fs) = IsUnderWay W Z f × AllUnderWay W Z fs

-- nothing is seen, and no stacked frame has ended a round empty; the last frame is the main scheduler's and is not stacked
abbrev pub AllAtRest : List Frame → Type 0
AllAtRest [] = Unit {0}
AllAtRest (f ∷ []) = f.seen ≡ []
AllAtRest (f ∷ g ∷ fs) = (f.seen ≡ []) × (f.empty ≡ false) × AllAtRest (g ∷ fs)

-- all frames of a stream, the top one first
abbrev pub frames_of : Stream → List Frame
frames_of own = own.top ∷ own.below

-- a stream that holds a unit has no round under way and no stacked frame to leave
abbrev pub IsAtRest : Stream → Type 0
IsAtRest own = AllAtRest (frames_of own)

-- stacked frame d, counted from 0 from the lowest stacked one: the frames stand top first, the main scheduler's last
abbrev pub stacked_frame : Stream → ℕ → Option Frame
stacked_frame own d = slice_get (frames_of own) ((length own.below - 1) - d)

-- the unit's scheduler is the frame's
abbrev pub RunsSched : Body → Option Frame → Type 0
RunsSched (body.Sched g) (Some f) = f.sched ≡ g.0
RunsSched b f = ⊥

-- Units.

abbrev pub HasNoRequest : Desk → Type 0
HasNoRequest d = (d.cancel ≡ false) × (d.migrate ≡ None)

-- a unit of this place may have joiners: it has not ended
abbrev pub HasNotEnded : Place → Type 0
HasNotEnded p = IsFalse (is_ended p)

-- why a unit may wait at this object: a mutex is held, an eventual isn't ready, a future isn't full
abbrev pub HoldsUp : Parts → State → ℕ → Option Thing → Type 0
HoldsUp W S x None = ⊥
HoldsUp W S x (Some thing.Mutex) = IsSome (S.mutex x).owner
HoldsUp W S x (Some (thing.Cond m)) = Unit {0}
HoldsUp W S x (Some thing.Eventual) = S.eventual x ≡ None
HoldsUp W S x (Some (thing.Future n c)) = (S.future x).filled < n
HoldsUp W S x (Some (thing.Barrier n)) = Unit {0}
HoldsUp W S x (Some thing.RwLock) = Unit {0}

-- what holds of a reader-writer lock at which these units wait
pub record IsKept (lock : RwLock) (waiters : List ℕ) : Type 0 where
  -- a lock with a writer has no reader
  pub alone : IsSome lock.writer → sum lock.counts ≡ 0
  -- nobody waits for a free lock
  pub served : IsTrue (is_free lock) → waiters ≡ []
  -- if a unit reads, the first waiter, if there is one, wants to write
  pub writer_first : 0 < sum lock.counts → IsFalse (reader_is_first lock.wishes waiters)

-- what holds of unit u by its place, whose numbers are declared
abbrev pub IsPlaced : Parts → State → ℕ → Place → Type 0
IsPlaced W S u place.Unborn = HasNoRequest (S.desk u)
IsPlaced W S u (place.Pool p t) = (p.0 < length W.pools) × (t < S.pool_next p.0)
IsPlaced W S u (place.Hand s) = (s.0 < W.streams) × IsAtRest (S.stream s.0)
IsPlaced W S u (place.Next s) = (s.0 < W.streams) × IsAtRest (S.stream s.0)
IsPlaced W S u (place.Tray s t) = (s.0 < W.streams) × IsAtRest (S.stream s.0)
IsPlaced W S u (place.Frame s d) = (s.0 < W.streams) × (d < length (S.stream s.0).below) × RunsSched (body_at W u) (stacked_frame (S.stream s.0) d)
IsPlaced W S u (place.Blocked spot.Suspended t) = Unit {0}
IsPlaced W S u (place.Blocked (spot.Join v) t) = (v.0 < length W.units) × (t < S.join_next v.0) × HasNotEnded (S.place v.0)
IsPlaced W S u (place.Blocked (spot.Object x) t) = (t < S.object_next x.0) × HoldsUp W S x.0 (thing_at W x.0)
IsPlaced W S u (place.Ended c) = HasNoRequest (S.desk u)

-- Z being the stored orders and functions
pub record Sound (W : Parts) (Z : Stored) (S : State) : Type 0 where
  -- two units do not share a ticket in a line, so a hand and a Next hold one unit at most
  pub one_each : (l : Line) (u v t : ℕ) → ticket_in l (S.place u) ≡ Some t → ticket_in l (S.place v) ≡ Some t → u ≡ v
  -- a stream does not have one unit in its hand and one in Next
  pub hand_or_next : (s u v : ℕ) → S.place u ≡ place.Hand (stream_no s) → S.place v ≡ place.Next (stream_no s) → ⊥
  -- a unit that is not declared is unborn
  pub undeclared : (u : ℕ) → length W.units ≤ u → S.place u ≡ place.Unborn
  -- what must hold of a unit at its place
  pub placed : (u : ℕ) → IsPlaced W S u (S.place u)
  -- each stacked frame holds a unit
  pub frames_hold : (s d : ℕ) → d < length (S.stream s).below → (u : ℕ) × (S.place u ≡ place.Frame (stream_no s) d)
  -- the lowest frame of a stream runs its main scheduler
  pub lowest : (s : ℕ) → s < W.streams → IfSome (last (frames_of (S.stream s))) (λ f. f.sched ≡ main_of W s)
  -- what each frame has seen is a proper prefix of a list that its round may visit
  pub under_way : (s : ℕ) → s < W.streams → AllUnderWay W Z.orders (frames_of (S.stream s))
  -- only the top frame has a round under way or an empty round behind it
  pub below_rest : (s : ℕ) → s < W.streams → AllAtRest ((S.stream s).below)
  -- no future has more compartments filled than it has
  pub filled : (x : ℕ) → (S.future x).filled ≤ size_of W x
  -- a barrier has fewer waiters than parties
  pub waiting : (x n : ℕ) → thing_at W x ≡ Some (thing.Barrier n) → length (standing W S (Waiting x)) < n
  -- a reader-writer lock has a count for each unit
  pub counts : (x : ℕ) → length (S.rwlock x).counts ≡ length W.units
  -- and a wish
  pub wishes : (x : ℕ) → length (S.rwlock x).wishes ≡ length W.units
  -- what holds of a reader-writer lock and its waiters
  pub locks : (x : ℕ) → thing_at W x ≡ Some thing.RwLock → IsKept (S.rwlock x) (standing W S (Waiting x))
  -- a unit has the workload's keys
  pub keys : (u : ℕ) → length (S.carried u).keys ≡ W.keys
  -- its home is a declared pool
  pub homes : (u : ℕ) → (S.carried u).home < length W.pools
  -- it is asked to migrate only to a declared pool
  pub requests : (u : ℕ) → IfSome (S.desk u).migrate (λ p. p < length W.pools)
  -- its position is not past the end of its operations
  pub positions : (u : ℕ) → (S.carried u).position ≤ length (ops_of (body_at W u))
