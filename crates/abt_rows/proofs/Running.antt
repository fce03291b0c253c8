-- A run, computed event by event, each with why it may come.
use Rattle.std.proofs.Common.{ℕ, suc, ◌≡◌, ◌<◌, ◌-◌, ◌%◌, ◌^◌, ◌++◌, List, [], ◌∷◌, length, Option, Some, None, refl, ap, sym, subst, ◌∙◌, arith}
use Rattle.abt_machine.specs.declared.events.Event.{Event}
use Rattle.abt_machine.specs.declared.events.Place.{Place}
use Rattle.abt_machine.specs.declared.events.Place.TheVariants as place
use Rattle.abt_machine.specs.declared.events.What.{What}
use Rattle.abt_machine.specs.declared.events.What.TheVariants as what
use Rattle.abt_machine.specs.declared.operations.Op.{Op}
use Rattle.abt_machine.specs.declared.operations.Op.TheVariants as op
use Rattle.abt_machine.specs.declared.workload.Parts.{Parts}
use Rattle.abt_machine.specs.Numbers.{stream_no, pool_no, unit_no}
use Rattle.abt_machine.specs.Workloads.{op_at, pools_of}
use Rattle.abt_machine.specs.Queues.{first, last}
use Rattle.abt_machine.specs.State.{State, Frame}
use Rattle.abt_machine.specs.Stored.{Stored, IsNoCall, IsReturned, Returns}
use Rattle.abt_machine.specs.Lines.{standing, hand, next, InTray, InFrames}
use Rattle.abt_machine.specs.Next.{Due, due, PutDue, LookDue, EndDue, EnterDue, StepDue, LeaveDue, RoundDue}
use Rattle.abt_machine.specs.Fronts.{front}
use Rattle.abt_machine.specs.Rounds.{Choice, Only, AnyOrder, NoOrder, choice_of, IsChosen, IsPrefixOf, IsNextPool}
use Rattle.abt_machine.specs.Codes.{code_at}
use Rattle.abt_machine.specs.Events.{May, after}
use Rattle.abt_machine.specs.Runs.{RunFrom}
use Rattle.abt_rows.proofs.Deciding.{found, given, is_less, same}

-- an event that may come
abbrev pub Coming : Parts → Stored → State → ℕ → Type 0
Coming W Z S s = (w : What) × May W Z S s w

-- The next pool of a round.

abbrev Following : List ℕ → List ℕ → Type 0
Following seen order = (p : ℕ) × IsPrefixOf (seen ++ p ∷ []) order

abbrev following : (seen order : List ℕ) → Option (Following seen order)
following [] [] = None
following [] (p ∷ ps) = Some (p, (ps, refl))
following (x ∷ xs) [] = None
following (x ∷ xs) (y ∷ ys) =
    given (same x y) (λ e. given (following xs ys) (λ f. Some (f.0, (f.1.0, ap (λ zs. x ∷ zs) f.1.1 ∙ ap (λ z. z ∷ ys) e))))

abbrev NextPool : Parts → Stored → Frame → Type 0
NextPool W Z f = (p : ℕ) × IsNextPool W Z.orders f p

abbrev by_choice : (W : Parts) (Z : Stored) (f : Frame) (c : Choice) → choice_of W Z.orders f.sched f.round ≡ c → Option (NextPool W Z f)
by_choice W Z f (Only one) e =
    given (following f.seen one) (λ p. Some (p.0, (one, subst (λ (c : Choice). IsChosen c (pools_of W f.sched) one) (sym e) refl, p.1)))
by_choice W Z f AnyOrder e = None
by_choice W Z f NoOrder e = None

abbrev next_pool : (W : Parts) (Z : Stored) (f : Frame) → Option (NextPool W Z f)
next_pool W Z f = by_choice W Z f (choice_of W Z.orders f.sched f.round) refl

-- The next event, by what is due.

abbrev by_front : (W : Parts) (Z : Stored) (S : State) (s : ℕ) → due W S s ≡ RoundDue → (p : ℕ) → IsNextPool W Z.orders (S.stream s).top p → (o : Option ℕ) → front W S s p ≡ o → Coming W Z S s
by_front W Z S s d p n None e = (what.Miss (pool_no p), (d, e, n))
by_front W Z S s d p n (Some u) e = (what.Take (pool_no p) (unit_no u), (d, e, n))

abbrev is_framed : (s d : ℕ) (q : Place) → Option (q ≡ place.Frame (stream_no s) d)
is_framed s d (place.Frame r e) =
    given (same r.0 s) (λ a. given (same e d) (λ b. Some (ap (λ q. place.Frame q e) (ap stream_no a) ∙ ap (λ t. place.Frame (stream_no s) t) b)))
is_framed s d _ = None

-- A call returns the word that its function is said to return, and else 0.

abbrev returned_word : Option ℕ → ℕ
returned_word (Some m) = m % 2 ^ 64
returned_word None = 0

pub may-return : (o : Option ℕ) → IsReturned o (returned_word o)
may-return (Some m) = refl
may-return None = omega arith

abbrev by_step : (W : Parts) (Z : Stored) (S : State) (s u : ℕ) → due W S s ≡ StepDue → hand W S s ≡ Some u → IsNoCall (op_at W u (S.carried u).position) → Coming W Z S s
by_step W Z S s u d e is =
    (what.Step (unit_no u) (S.carried u).position (code_at W S s u (op_at W u (S.carried u).position)), (d, e, refl, refl, is))

abbrev by_call : (W : Parts) (Z : Stored) (S : State) (s u f : ℕ) → due W S s ≡ StepDue → hand W S s ≡ Some u → op_at W u (S.carried u).position ≡ Some (op.Call f) → Coming W Z S s
by_call W Z S s u f d e is = (
  what.Call (unit_no u) (S.carried u).position (returned_word (Z.returns f u (S.carried u).acc (S.carried u).keys)),
  (d, e, refl, subst (λ o. Returns Z o u (S.carried u) (returned_word (Z.returns f u (S.carried u).acc (S.carried u).keys))) (sym is) (may-return (Z.returns f u (S.carried u).acc (S.carried u).keys))),
)

abbrev by_op : (W : Parts) (Z : Stored) (S : State) (s u : ℕ) → due W S s ≡ StepDue → hand W S s ≡ Some u → (o : Option Op) → op_at W u (S.carried u).position ≡ o → Coming W Z S s
by_op W Z S s u d e (Some (op.Call f)) is = by_call W Z S s u f d e is
by_op W Z S s u d e o is = by_step W Z S s u d e (subst IsNoCall (sym is) tt)

abbrev by_due : (W : Parts) (Z : Stored) (S : State) (s : ℕ) (k : Due) → due W S s ≡ k → Option (Coming W Z S s)
by_due W Z S s PutDue d = found (first (standing W S (InTray s))) (λ u e. (what.Put (unit_no u) (pool_no (S.carried u).home), (d, e, refl)))
by_due W Z S s LookDue d = found (next W S s) (λ u e. (what.Look (unit_no u), (d, e)))
by_due W Z S s (EndDue c) d = found (hand W S s) (λ u e. (what.End (unit_no u) c, (d, e)))
by_due W Z S s EnterDue d = found (hand W S s) (λ u e. (what.Enter (unit_no u), (d, e)))
by_due W Z S s StepDue d = found (hand W S s) (λ u e. by_op W Z S s u d e (op_at W u (S.carried u).position) refl)
by_due W Z S s LeaveDue d =
    given (last (standing W S (InFrames s))) (λ u. given (is_framed s (length (S.stream s).below - 1) (S.place u)) (λ e. Some (what.Leave (unit_no u), (d, e))))
by_due W Z S s RoundDue d = given (next_pool W Z (S.stream s).top) (λ n. Some (by_front W Z S s d n.0 n.1 (front W S s n.0) refl))

abbrev pub coming : (W : Parts) (Z : Stored) (S : State) (s : ℕ) → Option (Coming W Z S s)
coming W Z S s = by_due W Z S s (due W S s) refl

-- The run.

abbrev pub Ran : Parts → Stored → State → Type 0
Ran W Z S = (J : List Event) × RunFrom W Z S J

abbrev stamped : ℕ → ℕ → What → Event
stamped t s w = record { stamp = t; stream = stream_no s; what = w }

abbrev ran_on : (W : Parts) (Z : Stored) (S : State) (s : ℕ) → s < W.streams → ℕ → (c : Coming W Z S s) → Ran W Z (after W S s c.0) → Ran W Z S
ran_on W Z S s is t c rest = (stamped t s c.0 ∷ rest.0, (is, c.1, rest.1))

abbrev pub ran_from : (W : Parts) (Z : Stored) (S : State) (s : ℕ) → Option (s < W.streams) → ℕ → Option (Coming W Z S s) → ((c : Coming W Z S s) → Ran W Z (after W S s c.0)) → Ran W Z S
ran_from W Z S s (Some is) t (Some c) rest = ran_on W Z S s is t c (rest c)
ran_from W Z S s (Some is) t None rest = ([], tt)
ran_from W Z S s None t o rest = ([], tt)

-- the events that these streams make in turn from S on, with stamps from t, up to the first that can't come
abbrev pub ran_by : (W : Parts) (Z : Stored) → List ℕ → ℕ → (S : State) → Ran W Z S
ran_by W Z [] t S = ([], tt)
ran_by W Z (s ∷ ss) t S = ran_from W Z S s (is_less s W.streams) t (coming W Z S s) (λ c. ran_by W Z ss (suc t) (after W S s c.0))
