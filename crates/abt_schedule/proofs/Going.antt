-- A run under way, one event more.
use Rattle.std.proofs.Common.{◌≡◌, ℕ, suc, ◌<◌, ◌≤◌, ◌+◌, true, List, [], ◌∷◌, ◌++◌, arith, inl, inr, length, subst, sym}
use Rattle.std.proofs.lemmas.Bool.{cases_lt}
use Rattle.abt_machine.specs.declared.events.Event.{Event}
use Rattle.abt_machine.specs.declared.events.What.{What}
use Rattle.abt_machine.specs.declared.events.What.TheVariants as what
use Rattle.abt_machine.specs.declared.numbers.StreamNo.{StreamNo}
use Rattle.abt_machine.specs.Stored.{Stored}
use Rattle.abt_machine.specs.declared.workload.Parts.{Parts}
use Rattle.abt_machine.specs.Events.{May}
use Rattle.abt_machine.specs.Next.{StepDue, due}
use Rattle.abt_machine.specs.Outcomes.{Spent, is_step, steps_of}
use Rattle.abt_machine.specs.Runs.{RunFrom, last_state}
use Rattle.abt_machine.specs.Start.{start}
use Rattle.abt_machine.specs.State.{State}
use Rattle.abt_explore.specs.Laws.{AreCounted, next_event}
use Rattle.abt_explore.proofs.Counting.{counts-push}
use Rattle.abt_laws.proofs.RunParts.{run-rest}
use Rattle.abt_outcomes.specs.Rotations.{IsWithin}
use Rattle.abt_schedule.specs.declared.course.Course.{Course}
use Rattle.abt_schedule.specs.Courses.{IsCourse}
use Rattle.abt_schedule.specs.Reaching.{IsReached}
use Rattle.abt_schedule.proofs.Counting.{within-more}

-- a step comes where one is due
step-due : (W : Parts) (Z : Stored) (S : State) (s : ℕ) (w : What) → May W Z S s w → is_step w ≡ true → due W S s ≡ StepDue
step-due W Z S s (what.Step u k c) may step = may.0
step-due W Z S s (what.Call u k n) may step = may.0
step-due W Z S s _ may step = cc

-- a stream that makes a step, and is not spent, made fewer than it may
fewer-steps : (W : Parts) (Z : Stored) (n s : ℕ) (J : List Event) (w : What) → IsWithin W n J → s < W.streams → May W Z (last_state W J) s w → (Spent W n J s → ⊥) → is_step w ≡ true → steps_of s J < n
fewer-steps W Z n s J w within declared may able step = elim (cases_lt (steps_of s J) n) [
  | inl less ↦ less
  | inr above ↦ (let few : steps_of s J ≤ n = within s declared in let all : steps_of s J ≡ n = omega arith in absurd (able (declared, all, step-due W Z (last_state W J) s w may step)))
]

-- an event that was pushed with this stamp is the next
pub pushed-next : (J K : List Event) (stamp : ℕ) (s : StreamNo) (w : What) → stamp ≡ suc (length J) → K ≡ J ++ record { stamp = stamp; stream = s; what = w } ∷ [] → K ≡ J ++ next_event J s.0 w ∷ []
pushed-next J K stamp s w is pushed = subst (λ n. K ≡ J ++ record { stamp = n; stream = s; what = w } ∷ []) is pushed

-- an event of a stream that is not spent
pub course-more : (W : Parts) (Z : Stored) (s : ℕ) (w : What) (old new : Course) → IsCourse W Z old → (Spent W old.steps old.events.items s → ⊥) → new.events.items ≡ old.events.items ++ next_event old.events.items s w ∷ []
    → IsReached W Z (old.events.items ++ next_event old.events.items s w ∷ []) new.reached → new.steps ≡ old.steps → IsCourse W Z new
course-more W Z s w old new is able pushed reached steps =
    let J : List Event = old.events.items in
    let e : Event = next_event J s w in
    let last : RunFrom W Z (last_state W J) (e ∷ []) = run-rest W Z (start W) J (e ∷ []) reached.run in
    let stamp : suc (length J) ≡ length J + 1 = omega arith in
    record {
      reached = subst (λ K. IsReached W Z K new.reached) (sym pushed) reached;
      counted = subst AreCounted (sym pushed) (counts-push 1 J e is.counted stamp);
      within = subst (λ n. IsWithin W n new.events.items) (sym steps)
          (subst (IsWithin W old.steps) (sym pushed) (within-more W J e old.steps is.within (fewer-steps W Z old.steps s J w is.within last.0 last.1 able)));
    }
