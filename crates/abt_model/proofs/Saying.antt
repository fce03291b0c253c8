-- What the units of a run put out is the workload's.
use Rattle.std.proofs.Common.{◌≡◌, ◌==◌, ℕ, suc, Bool, true, false, if◌then◌else◌, List, [], ◌∷◌, ◌++◌, Option, Some, None, All, length, refl}
use Rattle.std.proofs.lemmas.List.Elements.{All-append, All-cons, All-nil}
use Rattle.abt_machine.specs.declared.events.Code.{Code}
use Rattle.abt_machine.specs.declared.events.Code.TheVariants as code
use Rattle.abt_machine.specs.declared.events.Event.{Event}
use Rattle.abt_machine.specs.declared.events.Piece.{Piece}
use Rattle.abt_machine.specs.declared.events.Piece.TheVariants as piece
use Rattle.abt_machine.specs.declared.events.Place.{Place}
use Rattle.abt_machine.specs.declared.events.Place.TheVariants as place
use Rattle.abt_machine.specs.declared.events.What.{What}
use Rattle.abt_machine.specs.declared.events.What.TheVariants as what
use Rattle.abt_machine.specs.declared.events.Wish.TheVariants as wish
use Rattle.abt_machine.specs.declared.operations.Op.{Op}
use Rattle.abt_machine.specs.declared.operations.Op.TheVariants as op
use Rattle.abt_machine.specs.declared.workload.Parts.{Parts}
use Rattle.abt_machine.specs.Changes.{Change, goes_on}
use Rattle.abt_machine.specs.Events.{after, change, look_row}
use Rattle.abt_machine.specs.Holders.{is_free, read_by, written_by}
use Rattle.abt_machine.specs.Lines.{Waiting, standing}
use Rattle.abt_machine.specs.Operations.{IsDeclared}
use Rattle.abt_machine.specs.Pieces.{IsPieceOf}
use Rattle.abt_machine.specs.Queues.{first_alone}
use Rattle.abt_machine.specs.Runs.{state_after}
use Rattle.abt_machine.specs.RwLocks.{may_read, wanting}
use Rattle.abt_machine.specs.Start.{start}
use Rattle.abt_machine.specs.State.{Carried, Future, State}
use Rattle.abt_machine.specs.Steps.{awaits, filled_by, gives_all, joins, locks, op_row, passes, reads_or_waits, ready_value, receives, step_row, waits, wakes, writes_or_waits}
use Rattle.abt_machine.specs.Valid.{IsValid}
use Rattle.abt_machine.specs.Values.{RwLockValue, rwlock_value}
use Rattle.abt_machine.specs.Workloads.{combine_of, mutex_of, op_at, size_of}
use Rattle.abt_machine.proofs.Declared.{op-declared}
use Rattle.abt_laws.proofs.Lists.{EachOf, EachOf-all, EachOf-map}
use Rattle.abt_laws.proofs.Maps.{put_all-kept}
use Rattle.abt_model.specs.Pictures.{RunsSayOwnWords, SaysOwnWords}

module _ (W : Parts) (S : State) (s : ℕ) (says : SaysOwnWords W S) where
  -- what a unit carries has put out pieces of the workload alone
  abbrev Says : ℕ × Carried → Type 0
  Says m = All (IsPieceOf W) m.1.output

  -- so does all that a change gives units to carry
  abbrev ChangeSays : Change → Type 0
  ChangeSays c = EachOf Says c.carried

  -- one piece more
  one-more : (u : ℕ) (x : Piece) → IsPieceOf W x → All (IsPieceOf W) ((S.carried u).output ++ x ∷ [])
  one-more u x is = All-append (IsPieceOf W) (S.carried u).output (x ∷ []) (says u) (All-cons (IsPieceOf W) x [] is (All-nil (IsPieceOf W)))

  -- one of two changes
  either : (b : Bool) (c d : Change) → ChangeSays c → ChangeSays d → ChangeSays (if b then c else d)
  either true c d first other = first
  either false c d first other = other

  -- Operations by what they find.

  gives-says : (u x value : ℕ) → ChangeSays (gives_all W S s u x value)
  gives-says u x value = (says u, EachOf-map Says (λ _. Unit {0}) (receives S value) (standing W S (Waiting x)) (λ v _. says v) (EachOf-all (λ _. Unit {0}) (standing W S (Waiting x)) (λ v. tt)))

  joins-says : (u v : ℕ) (pl : Place) → ChangeSays (joins S u v pl)
  joins-says u v (place.Ended c) = (says u, tt)
  joins-says u v _ = (says u, tt)

  locks-says : (u x : ℕ) (owner : Option ℕ) → ChangeSays (locks S u x owner)
  locks-says u x None = (says u, tt)
  locks-says u x (Some v) = (says u, tt)

  passes-says : (u m : ℕ) (owner : Option ℕ) (vs : List ℕ) → ChangeSays (passes W S s u m owner vs)
  passes-says u m owner [] = (says u, tt)
  passes-says u m (Some v) (w ∷ ws) = (says u, tt)
  passes-says u m None (w ∷ ws) = (says u, tt)

  awaits-says : (u x : ℕ) (value : Option ℕ) → ChangeSays (awaits S u x value)
  awaits-says u x None = (says u, tt)
  awaits-says u x (Some value) = (says u, tt)

  reads-says : (u x : ℕ) (old : RwLockValue) → ChangeSays (reads_or_waits S u x old)
  reads-says u x old =
      either (may_read u old) (record (goes_on S u) { rwlocks = (x, read_by u old.lock) ∷ [] }) (record (waits S u x) { rwlocks = (x, wanting u wish.Read old.lock) ∷ [] }) (says u, tt) (says u, tt)

  writes-says : (u x : ℕ) (old : RwLockValue) → ChangeSays (writes_or_waits S u x old)
  writes-says u x old =
      either (is_free old.lock) (record (goes_on S u) { rwlocks = (x, written_by u old.lock) ∷ [] })
      (record (waits S u x) { rwlocks = (x, wanting u wish.Write old.lock) ∷ [] }) (says u, tt) (says u, tt)

  look-says : (u : ℕ) (cancel : Bool) (migrate : Option ℕ) → ChangeSays (look_row W S s u cancel migrate)
  look-says u true migrate = tt
  look-says u false (Some p) = (says u, tt)
  look-says u false None = tt

  -- an operation puts out a piece of the workload, or none
  op-says : (u : ℕ) (o : Op) → IsDeclared W o → ChangeSays (op_row W S s u o)
  op-says u (op.Say w) declared = (one-more u (piece.Said w) declared, tt)
  op-says u op.Print declared = (one-more u (piece.Number (S.carried u).acc) tt, tt)
  op-says u (op.Create v p) declared = (says u, (says v.0, tt))
  op-says u (op.Revive v p) declared = (says u, (says v.0, tt))
  op-says u (op.Join v) declared = joins-says u v.0 (S.place v.0)
  op-says u (op.Lock x) declared = locks-says u x.0 (S.mutex x.0).owner
  op-says u (op.Signal x) declared = passes-says u (mutex_of W x.0) (S.mutex (mutex_of W x.0)).owner (first_alone (standing W S (Waiting x.0)))
  op-says u (op.Broadcast x) declared = passes-says u (mutex_of W x.0) (S.mutex (mutex_of W x.0)).owner (standing W S (Waiting x.0))
  op-says u (op.EvWait x) declared = awaits-says u x.0 (S.eventual x.0)
  op-says u (op.EvSet x) declared = gives-says u x.0 (S.carried u).acc
  op-says u (op.FuWait x) declared = awaits-says u x.0 (ready_value W S x.0)
  op-says u (op.FuSet x) declared =
      let f : Future = filled_by (combine_of W x.0) (S.future x.0) (S.carried u).acc in
      either (f.filled == size_of W x.0) (gives_all W S s u x.0 f.value) (goes_on S u) (gives-says u x.0 f.value) (says u, tt)
  op-says u (op.BarWait x) declared =
      let waiters : List ℕ = standing W S (Waiting x.0) in
      either (suc (length waiters) == size_of W x.0) (wakes W S s u waiters) (waits S u x.0) (says u, tt) (says u, tt)
  op-says u (op.ReadLock x) declared = reads-says u x.0 (rwlock_value W S x.0)
  op-says u (op.WriteLock x) declared = writes-says u x.0 (rwlock_value W S x.0)
  op-says u o declared = (says u, tt)

  -- a refusal is a piece too
  step-says : (u : ℕ) (o : Option Op) (c : Code) → ((p : Op) → o ≡ Some p → IsDeclared W p) → ChangeSays (step_row W S s u o c)
  step-says u None c declared = tt
  step-says u (Some o) code.Ok declared = op-says u o (declared o refl)
  step-says u (Some o) c declared = (one-more u (piece.Refused c) tt, tt)

  -- other events put out nothing
  change-says : (w : What) → IsValid W → ChangeSays (change W S s w)
  change-says (what.Look u) valid = look-says u.0 (S.desk u.0).cancel (S.desk u.0).migrate
  change-says (what.Step u k c) valid = step-says u.0 (op_at W u.0 k) c (λ p is. op-declared W u.0 k p valid is)
  change-says (what.Call u k n) valid = (says u.0, tt)
  change-says _ valid = tt

  -- what was put out in the next state is the workload's
  pub after-says : (w : What) → IsValid W → SaysOwnWords W (after W S s w)
  after-says w valid u = put_all-kept (λ n (c : Carried). All (IsPieceOf W) c.output) S.carried (change W S s w).carried u (change-says w valid) (says u)

-- so it is in each state that events lead to
states-say : (W : Parts) (S : State) (J : List Event) → IsValid W → SaysOwnWords W S → SaysOwnWords W (state_after W S J)
states-say W S [] valid says = says
states-say W S (e ∷ es) valid says = states-say W (after W S e.stream.0 e.what) es valid (after-says W S e.stream.0 says e.what valid)

pub runs-say-own-words : RunsSayOwnWords
runs-say-own-words W Z valid J run = states-say W (start W) J valid (λ u. All-nil (IsPieceOf W))
