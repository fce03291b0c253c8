-- What an event changes does not depend on the numbers of rounds.
use mathlib.Core.Path.{fun_ext}
use Rattle.std.proofs.Common.{◌≡◌, ℕ, Bool, true, false, List, [], ◌∷◌, map, Option, Some, None, refl, ap, sym, ◌∙◌}
use Rattle.std.proofs.lemmas.List.{length-map}
use Rattle.abt_machine.specs.declared.events.Code.{Code}
use Rattle.abt_machine.specs.declared.events.Code.TheVariants as code
use Rattle.abt_machine.specs.declared.events.Place.{Place}
use Rattle.abt_machine.specs.declared.events.Place.TheVariants as place
use Rattle.abt_machine.specs.declared.events.What.{What}
use Rattle.abt_machine.specs.declared.events.What.TheVariants as what
use Rattle.abt_machine.specs.declared.operations.Op.{Op}
use Rattle.abt_machine.specs.declared.operations.Op.TheVariants as op
use Rattle.abt_machine.specs.declared.workload.Parts.{Parts}
use Rattle.abt_machine.specs.Changes.{Change, changed, goes_on, no_change}
use Rattle.abt_machine.specs.Codes.{code_at, reached_code, unless}
use Rattle.abt_machine.specs.Access.{may_reach}
use Rattle.abt_machine.specs.Events.{after, change, look_row}
use Rattle.abt_machine.specs.Frames.{sched_of}
use Rattle.abt_machine.specs.Lines.{Waiting, standing}
use Rattle.abt_machine.specs.Numbers.{stream_no}
use Rattle.abt_machine.specs.Queues.{first_alone}
use Rattle.abt_machine.specs.State.{Asked, Exited, Plain, State, Stream}
use Rattle.abt_machine.specs.Steps.{awaits, joins, locks, op_row, passes, ready_value, step_row}
use Rattle.abt_machine.specs.Workloads.{body_at, mutex_of, op_at}
use Rattle.abt_replay.specs.Unnumbered.{unnumbered, unnumbered_frame}
use Rattle.abt_explore.specs.Unnumbered.{unnumbered_state}
use Rattle.abt_explore.proofs.Forgotten.{entered-forgotten, left-forgotten, marked-forgotten, missed-forgotten, put-forgotten, taken-forgotten, twice-state}

-- the change, the numbers of rounds forgotten
abbrev pub unnumbered_change : Change → Change
unnumbered_change c = record c { streams = map (λ p. (p.0, unnumbered p.1)) c.streams }

-- a change that is made and then forgotten
forgotten-changed : (S : State) (c : Change) → unnumbered_state (changed S c) ≡ changed (unnumbered_state S) (unnumbered_change c)
forgotten-changed S c = ap (λ (f : ℕ → Stream). record (changed S c) { stream = f }) (fun_ext (λ r. put-forgotten S.stream (λ s. unnumbered (S.stream s)) (λ n. refl) c.streams r))

module _ (W : Parts) (S : State) (s : ℕ) where
  -- the state without numbers of rounds
  abbrev bare : State
  bare = unnumbered_state S

  -- Codes.

  reached-same : (u : ℕ) (o : Op) → reached_code W bare u o ≡ reached_code W S u o
  reached-same u (op.Set n) = refl
  reached-same u o = refl

  pub code-same : (u : ℕ) (o : Option Op) → code_at W bare s u o ≡ code_at W S s u o
  code-same u None = refl
  code-same u (Some o) = ap (unless (may_reach W s o) code.PoolAccess) (reached-same u o)

  -- Operations.

  joins-same : (u v : ℕ) (pl : Place) → joins bare u v pl ≡ joins S u v pl
  joins-same u v (place.Ended c) = refl
  joins-same u v pl = refl

  locks-same : (u x : ℕ) (o : Option ℕ) → locks bare u x o ≡ locks S u x o
  locks-same u x None = refl
  locks-same u x (Some v) = refl

  passes-same : (u m : ℕ) (o : Option ℕ) (vs : List ℕ) → passes W bare s u m o vs ≡ passes W S s u m o vs
  passes-same u m o [] = refl
  passes-same u m (Some v) (w ∷ ws) = refl
  passes-same u m None (w ∷ ws) = refl

  awaits-same : (u x : ℕ) (o : Option ℕ) → awaits bare u x o ≡ awaits S u x o
  awaits-same u x None = refl
  awaits-same u x (Some n) = refl

  op-same : (u : ℕ) (o : Op) → unnumbered_change (op_row W bare s u o) ≡ unnumbered_change (op_row W S s u o)
  op-same u (op.Join v) = ap unnumbered_change (joins-same u v.0 (S.place v.0))
  op-same u (op.Lock x) = ap unnumbered_change (locks-same u x.0 (S.mutex x.0).owner)
  op-same u (op.Signal x) = ap unnumbered_change (passes-same u (mutex_of W x.0) (S.mutex (mutex_of W x.0)).owner (first_alone (standing W S (Waiting x.0))))
  op-same u (op.Broadcast x) = ap unnumbered_change (passes-same u (mutex_of W x.0) (S.mutex (mutex_of W x.0)).owner (standing W S (Waiting x.0)))
  op-same u (op.EvWait x) = ap unnumbered_change (awaits-same u x.0 (S.eventual x.0))
  op-same u (op.FuWait x) = ap unnumbered_change (awaits-same u x.0 (ready_value W S x.0))
  op-same u op.Exit = ap (λ (own : Stream). record (goes_on S u) { streams = (s, own) ∷ [] }) (marked-forgotten Exited (S.stream s))
  op-same u o = refl

  step-same : (u : ℕ) (o : Option Op) (c : Code) → unnumbered_change (step_row W bare s u o c) ≡ unnumbered_change (step_row W S s u o c)
  step-same u None c = refl
  step-same u (Some o) code.Ok = op-same u o
  step-same u (Some o) c = refl

  -- Events.

  look-same : (u : ℕ) (b : Bool) (m : Option ℕ) → unnumbered_change (look_row W bare s u b m) ≡ unnumbered_change (look_row W S s u b m)
  look-same u true m = ap (λ (own : Stream). record (look_row W S s u true m) { streams = (s, own) ∷ [] }) (marked-forgotten Asked (S.stream s))
  look-same u false (Some p) = refl
  look-same u false None = ap (λ (own : Stream). record (look_row W S s u false None) { streams = (s, own) ∷ [] }) (marked-forgotten Plain (S.stream s))

  -- a change of the stream alone, or with moves
  stream-same : (c : Change) (a b : Stream) → a ≡ b → ◌≡◌ {A = Change} (record c { streams = (s, a) ∷ [] }) (record c { streams = (s, b) ∷ [] })
  stream-same c a b e = ap (λ (own : Stream). record c { streams = (s, own) ∷ [] }) e

  change-same : (w : What) → unnumbered_change (change W bare s w) ≡ unnumbered_change (change W S s w)
  change-same (what.Miss p) = stream-same no_change _ _ (missed-forgotten W p.0 (S.stream s))
  change-same (what.Take p u) = stream-same (change W S s (what.Take p u)) _ _ (taken-forgotten (S.stream s))
  change-same (what.Look u) = look-same u.0 (S.desk u.0).cancel (S.desk u.0).migrate
  change-same (what.Step u k c) = step-same u.0 (op_at W u.0 k) c
  change-same (what.Call u k n) = refl
  change-same (what.Put u p) = refl
  change-same (what.End u c) = refl
  change-same (what.Enter u) = λ i. record no_change {
    moves = (u.0, place.Frame (stream_no s) (length-map (S.stream s).below unnumbered_frame i)) ∷ [];
    streams = (s, entered-forgotten (sched_of (body_at W u.0)) (S.stream s) i) ∷ [];
  }
  change-same (what.Leave u) = stream-same (change W S s (what.Leave u)) _ _ (left-forgotten (S.stream s))

  -- what follows, the numbers of rounds forgotten, does not depend on them
  pub after-same : (w : What) → unnumbered_state (after W bare s w) ≡ unnumbered_state (after W S s w)
  after-same w =
      forgotten-changed bare (change W bare s w)
      ∙ (ap (λ (T : State). changed T (unnumbered_change (change W bare s w))) (twice-state S)
      ∙ (ap (changed bare) (change-same w)
      ∙ sym (forgotten-changed S (change W S s w))))
