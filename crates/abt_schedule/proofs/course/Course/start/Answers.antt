-- No event was made.
use Rattle.std.proofs.Common.{◌≡◌, ◌≤◌, List, [], arith, subst, sym}
use Rattle.abt_machine.specs.declared.events.Event.{Event}
use Rattle.abt_machine.specs.Outcomes.{steps_of}
use Rattle.abt_explore.specs.Laws.{AreCounted}
use Rattle.abt_outcomes.specs.Rotations.{IsWithin}
use Rattle.abt_schedule.specs.Reaching.{IsReached}
use Rattle.abt_schedule.proofs.Counting.{few-steps}
use Rattle.abt_schedule.proofs.course.Course.start.Goals as goal

pub returns-clause-course : goal.returns-clause-course
returns-clause-course c Z stored =
    let none : c.new.result.items ≡ [] = c.new.ensures.items in
    record {
      reached = subst (λ (J : List Event). IsReached c.args.w.now Z J c.in_ok-reached.reached) (sym none) (c.in_ok-reached.ensures Z stored);
      counted = subst AreCounted (sym none) tt;
      within = subst (IsWithin c.args.w.now c.args.steps) (sym none) (λ s declared. let few : steps_of s [] ≤ 0 = few-steps s [] in omega arith);
    }
