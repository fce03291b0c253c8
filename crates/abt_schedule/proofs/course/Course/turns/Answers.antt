-- One turn more, and all.
use Rattle.std.proofs.Common.{◌≡◌, ◌∙◌, ◌||◌, ◌+◌, ℕ, List, [], ◌∷◌, ap, drop, get_or, subst, sym}
use Rattle.std.proofs.lemmas.List.{drop_all, drop_more}
use Rattle.abt_machine.specs.declared.events.Event.{Event}
use Rattle.abt_schedule.specs.Courses.{HasTurned}
use Rattle.abt_schedule.proofs.Turning.{AreOn, are-all, are-more}
use Rattle.abt_schedule.proofs.course.Course.turns.Goals as goal
use Rattle.abt_schedule.proofs.course.Course.turns.Goals.{else-stepped, then-stepped}

pub loop-s-preserved : goal.loop-s-preserved
loop-s-preserved g c =
    let W = c.args.w.now in
    let n = c.args.self.now.steps in
    let streams : List ℕ = c.args.streams.now in
    let at = c.loop-s.s-index in
    let s = get_or streams at 0 in
    let J : List Event = c.args.self.now.events.items in
    let K : List Event = c.loop-s.self.events.items in
    let L : List Event = c.turn.new.self.events.items in
    let is : (c.loop-s.stepped || c.in_ok-step.step) ≡ c.if-stepped.stepped = elim c.if-stepped.branch [
      | then-stepped w ↦ ap (λ a. a || c.in_ok-step.step) w.if-stepped.true ∙ (sym w.if-stepped.true ∙ sym w.stepped-is)
      | else-stepped w ↦ ap (λ a. a || c.in_ok-step.step) w.if-stepped.false ∙ sym w.stepped-is
    ] in
    let left : drop at streams ≡ s ∷ drop (at + 1) streams = drop_more streams at 0 c.loop-s-test.true in
    let turned : HasTurned W n s K c.in_ok-step.step L = subst (λ m. HasTurned W m s K c.in_ok-step.step L) c.loop-s.invariant.steps c.in_ok-step.ensures.turned in
    record {
      course = c.in_ok-step.ensures.course;
      steps = c.in_ok-step.ensures.steps ∙ c.loop-s.invariant.steps;
      on = subst (λ b. AreOn W n streams (drop (at + 1) streams) J b L) is
          (are-more W n s streams (drop (at + 1) streams) J K L c.loop-s.stepped c.in_ok-step.step (subst (λ others. AreOn W n streams others J c.loop-s.stepped K) left c.loop-s.invariant.on) turned);
    }

pub returns-clause-turned : goal.returns-clause-turned
returns-clause-turned g c =
    let W = c.args.w.now in
    let n = c.args.self.now.steps in
    let streams : List ℕ = c.args.streams.now in
    let J : List Event = c.args.self.now.events.items in
    let K : List Event = c.loop-s.self.events.items in
    let none : drop c.loop-s.s-index streams ≡ [] = drop_all c.loop-s.s-index streams c.loop-s-test.false in
    are-all W n streams J K c.loop-s.stepped (subst (λ others. AreOn W n streams others J c.loop-s.stepped K) none c.loop-s.invariant.on)
