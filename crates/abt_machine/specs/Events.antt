-- The step relation: when an event may come, and the state after it.
use Rattle.std.specs.Prelude.{ℕ, suc, ◌≡◌, ◌<◌, ◌-◌, Bool, true, false, [], ◌∷◌, length, Option, Some, None}
use Rattle.abt_machine.specs.declared.events.Event.{Event}
use Rattle.abt_machine.specs.declared.events.Place.TheVariants as place
use Rattle.abt_machine.specs.declared.events.What.{What}
use Rattle.abt_machine.specs.declared.events.What.TheVariants as what
use Rattle.abt_machine.specs.declared.operations.Op.TheVariants as op
use Rattle.abt_machine.specs.Stored.{Stored, IsNoCall, Returns}
use Rattle.abt_machine.specs.declared.workload.Parts.{Parts}
use Rattle.abt_machine.specs.Numbers.{stream_no}
use Rattle.abt_machine.specs.Workloads.{body_at, op_at}
use Rattle.abt_machine.specs.Queues.{first}
use Rattle.abt_machine.specs.Carrying.{with_home}
use Rattle.abt_machine.specs.State.{State, Desk, Plain, Asked}
use Rattle.abt_machine.specs.Lines.{standing, hand, next, InTray, Joining}
use Rattle.abt_machine.specs.Next.{due, PutDue, LookDue, EndDue, EnterDue, StepDue, LeaveDue, RoundDue}
use Rattle.abt_machine.specs.Fronts.{front}
use Rattle.abt_machine.specs.Rounds.{IsNextPool}
use Rattle.abt_machine.specs.Frames.{marked, round_taken, round_missed, entered, sched_of, left}
use Rattle.abt_machine.specs.Codes.{code_at}
use Rattle.abt_machine.specs.Changes.{Change, no_change, changed, to_tray}
use Rattle.abt_machine.specs.Steps.{op_row, step_row}

abbrev pub without_requests : Desk → Desk
without_requests d = record d { cancel = false; migrate = None }

-- by the requests that the look finds: a cancel goes before a migrate, and both are forgotten
abbrev pub look_row : Parts → State → ℕ → ℕ → Bool → Option ℕ → Change
look_row W S s u true m = record no_change { moves = (u, place.Hand (stream_no s)) ∷ []; desks = (u, without_requests (S.desk u)) ∷ []; streams = (s, marked Asked (S.stream s)) ∷ [] }
look_row W S s u false (Some p) = record no_change { moves = to_tray W S s (u ∷ []); carried = (u, with_home p (S.carried u)) ∷ []; desks = (u, without_requests (S.desk u)) ∷ [] }
look_row W S s u false None = record no_change { moves = (u, place.Hand (stream_no s)) ∷ []; desks = (u, without_requests (S.desk u)) ∷ []; streams = (s, marked Plain (S.stream s)) ∷ [] }

-- what stream s changes by an event
abbrev pub change : Parts → State → ℕ → What → Change
change W S s (what.Miss p) = record no_change { streams = (s, round_missed W p.0 (S.stream s)) ∷ [] }
change W S s (what.Take p u) = record no_change { moves = (u.0, place.Next (stream_no s)) ∷ []; streams = (s, round_taken (S.stream s)) ∷ [] }
change W S s (what.Look u) = look_row W S s u.0 (S.desk u.0).cancel (S.desk u.0).migrate
change W S s (what.Step u k c) = step_row W S s u.0 (op_at W u.0 k) c
-- as the operation that sets the returned number
change W S s (what.Call u k n) = op_row W S s u.0 (op.Set n)
change W S s (what.Put u p) = record no_change { moves = (u.0, place.Pool p (S.pool_next p.0)) ∷ []; pool_next = (p.0, suc (S.pool_next p.0)) ∷ [] }
change W S s (what.End u c) = record no_change { moves = (u.0, place.Ended c) ∷ to_tray W S s (standing W S (Joining u.0)); desks = (u.0, without_requests (S.desk u.0)) ∷ [] }
change W S s (what.Enter u) = record no_change { moves = (u.0, place.Frame (stream_no s) (length (S.stream s).below)) ∷ []; streams = (s, entered (sched_of (body_at W u.0)) (S.stream s)) ∷ [] }
change W S s (what.Leave u) = record no_change { moves = (u.0, place.Hand (stream_no s)) ∷ []; streams = (s, left (S.stream s)) ∷ [] }

-- the state after an event of stream s
abbrev pub after : Parts → State → ℕ → What → State
after W S s w = changed S (change W S s w)

-- when an event of stream s may come: its kind is due, and its row says of whom, where and with which code
abbrev pub May : Parts → Stored → State → ℕ → What → Type 0
May W Z S s (what.Miss p) = (due W S s ≡ RoundDue) × (front W S s p.0 ≡ None) × IsNextPool W Z.orders (S.stream s).top p.0
May W Z S s (what.Take p u) = (due W S s ≡ RoundDue) × (front W S s p.0 ≡ Some u.0) × IsNextPool W Z.orders (S.stream s).top p.0
May W Z S s (what.Look u) = (due W S s ≡ LookDue) × (next W S s ≡ Some u.0)
May W Z S s (what.Step u k c) = (due W S s ≡ StepDue) × (hand W S s ≡ Some u.0) × ((S.carried u.0).position ≡ k) × (c ≡ code_at W S s u.0 (op_at W u.0 k)) × IsNoCall (op_at W u.0 k)
May W Z S s (what.Call u k n) = (due W S s ≡ StepDue) × (hand W S s ≡ Some u.0) × ((S.carried u.0).position ≡ k) × Returns Z (op_at W u.0 k) u.0 (S.carried u.0) n
May W Z S s (what.Put u p) = (due W S s ≡ PutDue) × (first (standing W S (InTray s)) ≡ Some u.0) × ((S.carried u.0).home ≡ p.0)
May W Z S s (what.End u c) = (due W S s ≡ EndDue c) × (hand W S s ≡ Some u.0)
May W Z S s (what.Enter u) = (due W S s ≡ EnterDue) × (hand W S s ≡ Some u.0)
May W Z S s (what.Leave u) = (due W S s ≡ LeaveDue) × (S.place u.0 ≡ place.Frame (stream_no s) (length (S.stream s).below - 1))

-- event e of a declared stream may come in state S, and leads to T
abbrev pub After : Parts → Stored → State → Event → State → Type 0
After W Z S e T = (e.stream.0 < W.streams) × May W Z S e.stream.0 e.what × (T ≡ after W S e.stream.0 e.what)
