-- An event of a stream as a change of what the stream holds, with the call that it made.
use Rattle.std.specs.Prelude.{ℕ, ◌≡◌, Bool, true, false, List, [], ◌∷◌, ◌++◌, Option, Some, None, option_map}
use Rattle.abt_interleave.specs.Deeds as of
use Rattle.abt_machine.specs.declared.events.Code.{Code}
use Rattle.abt_machine.specs.declared.events.Code.TheVariants as code
use Rattle.abt_machine.specs.declared.events.Site.{Site}
use Rattle.abt_machine.specs.declared.events.Site.TheVariants as site
use Rattle.abt_machine.specs.declared.events.What.{What}
use Rattle.abt_machine.specs.declared.events.What.TheVariants as what
use Rattle.abt_machine.specs.declared.operations.Op.{Op}
use Rattle.abt_machine.specs.Stored.{Stored, IsNoCall, Returns}
use Rattle.abt_machine.specs.declared.workload.Parts.{Parts}
use Rattle.abt_machine.specs.Workloads.{body_at, op_at}
use Rattle.abt_machine.specs.Carrying.{with_home}
use Rattle.abt_machine.specs.State.{Plain, Asked, Exited}
use Rattle.abt_machine.specs.Next.{Due, due_by, PutDue, LookDue, EndDue, EnterDue, StepDue, LeaveDue, RoundDue}
use Rattle.abt_machine.specs.Fronts.{side_of}
use Rattle.abt_machine.specs.Rounds.{IsNextPool}
use Rattle.abt_machine.specs.Frames.{marked, round_taken, round_missed, entered, sched_of, left}
use Rattle.abt_machine.specs.Values.{Owned, Held}
use Rattle.abt_machine.specs.Acts.{Act, Answer, carrying, moved, received}
use Rattle.abt_machine.specs.Acts as act
use Rattle.abt_machine.specs.Plans.{Effect, Plan, Does, Calls, Exits, keeps, plan_of}

abbrev pub number_and_position : Owned → ℕ × ℕ
number_and_position o = (o.number, o.carried.position)

-- what a stream does next, decided by what it holds
abbrev pub due_of : Parts → ℕ → Held → Due
due_of W s held = due_by W s held.own held.tray held.next (option_map number_and_position held.hand)

-- Looks.

-- by the answered requests: a cancel goes before a migrate, by which the unit goes to its new home
abbrev pub looked : Held → Owned → Bool → Option ℕ → Held
looked held o true migrate = record held { own = marked Asked held.own; hand = Some o; next = None }
looked held o false (Some p) = record held { next = None; tray = held.tray ++ carrying (with_home p) o ∷ [] }
looked held o false None = record held { own = marked Plain held.own; hand = Some o; next = None }

-- Steps.

abbrev pub stepped : Held → Effect → Held
stepped held e = record held { hand = e.hand; next = e.next; tray = held.tray ++ e.wakes }

-- a thread stays in the hand, to be ended
abbrev pub exited : Held → Owned → Held
exited held o = record held { own = marked Exited held.own; hand = Some o; next = None }

-- a call on an object and its answer, in this order: site, act, answer
abbrev pub Heard : Type 0
Heard = of.Heard Site Act Answer

-- an operation by its plan: what was heard, its code, and what the stream holds afterwards
abbrev pub Performs : Held → Plan → Option Heard → Code → Held → Type 0
Performs old (Does e) heard c new = (heard ≡ None) × (c ≡ e.code) × (new ≡ stepped old e)
Performs old (Calls x asked brings) heard c new =
    (answer : Answer) × (heard ≡ Some (x, asked, answer)) × (c ≡ (brings answer).code) × (new ≡ stepped old (brings answer))
Performs old (Exits o) heard c new = (heard ≡ None) × (c ≡ code.Ok) × (new ≡ exited old o)

-- an event of stream s: when it comes, what was heard, and what the stream holds afterwards
abbrev pub Steps : Parts → Stored → ℕ → Held → What → Option Heard → Held → Type 0
Steps W Z s old (what.Miss p) heard new =
    (due_of W s old ≡ RoundDue) × IsNextPool W Z.orders old.own.top p.0
    × (heard ≡ Some (site.Pool p, act.Take (side_of W s p.0), act.Miss))
    × (new ≡ record old { own = round_missed W p.0 old.own })
Steps W Z s old (what.Take p u) heard new =
    (due_of W s old ≡ RoundDue) × IsNextPool W Z.orders old.own.top p.0
    × (o : Owned) × (o.number ≡ u.0)
    × (heard ≡ Some (site.Pool p, act.Take (side_of W s p.0), act.Given o))
    × (new ≡ record old { own = round_taken old.own; next = Some o })
Steps W Z s old (what.Look u) heard new =
    (due_of W s old ≡ LookDue)
    × (o : Owned) × (old.next ≡ Some o) × (o.number ≡ u.0)
    × (cancel : Bool) × (migrate : Option ℕ) × (heard ≡ Some (site.Desk u, act.Look, act.Asks cancel migrate))
    × (new ≡ looked old o cancel migrate)
Steps W Z s old (what.Step u k c) heard new =
    (due_of W s old ≡ StepDue)
    × (o : Owned) × (old.hand ≡ Some o) × (o.number ≡ u.0) × (o.carried.position ≡ k)
    × (a : Op) × (op_at W u.0 k ≡ Some a) × Performs old (plan_of W s a o) heard c new × IsNoCall (Some a)
Steps W Z s old (what.Call u k n) heard new =
    (due_of W s old ≡ StepDue)
    × (o : Owned) × (old.hand ≡ Some o) × (o.number ≡ u.0) × (o.carried.position ≡ k)
    × Returns Z (op_at W u.0 k) o.number o.carried n
    × (heard ≡ None)
    × (new ≡ stepped old (keeps (received n (moved o)) []))
Steps W Z s old (what.Put u p) heard new =
    (due_of W s old ≡ PutDue)
    × (o : Owned) × (os : List Owned) × (old.tray ≡ o ∷ os) × (o.number ≡ u.0) × (o.carried.home ≡ p.0)
    × (heard ≡ Some (site.Pool p, act.Put o, act.Rested))
    × (new ≡ record old { tray = os })
Steps W Z s old (what.End u cause) heard new =
    (due_of W s old ≡ EndDue cause)
    × (o : Owned) × (old.hand ≡ Some o) × (o.number ≡ u.0)
    × (os : List Owned) × (heard ≡ Some (site.Desk u, act.End o cause, act.Woke os))
    × (new ≡ record old { hand = None; tray = old.tray ++ os })
Steps W Z s old (what.Enter u) heard new =
    (due_of W s old ≡ EnterDue)
    × (o : Owned) × (old.hand ≡ Some o) × (o.number ≡ u.0)
    × (heard ≡ None)
    × (new ≡ record old { own = entered (sched_of (body_at W u.0)) old.own; hand = None; framed = old.framed ++ o ∷ [] })
Steps W Z s old (what.Leave u) heard new =
    (due_of W s old ≡ LeaveDue)
    × (o : Owned) × (os : List Owned) × (old.framed ≡ os ++ o ∷ []) × (o.number ≡ u.0)
    × (heard ≡ None)
    × (new ≡ record old { own = left old.own; hand = Some o; framed = os })
