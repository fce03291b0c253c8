-- Rotations from the start to the stop.
use Rattle.std.proofs.Common.{◌≡◌, ◌∙◌, IfOk, ap, length, subst, sym}
use Rattle.std.proofs.lemmas.Result.{IfOk-weaker}
use Rattle.abt_machine.specs.Rounds.{OrdersStored, generator_at}
use Rattle.abt_machine.specs.Stored.{Stored}
use Rattle.abt_model.specs.Stored.{stored_with}
use Rattle.abt_outcomes.proofs.Stored.{orders-stored}
use Rattle.abt_schedule.specs.Runs.{HasStopped, LeavesSeeded}
use Rattle.rand_pcg.specs.Lcg.{increment_of, started}
use Rattle.rand_pcg.specs.Pcg.{multiplier_64}
use Rattle.abt_schedule.proofs.seeding.run.Goals as goal

pub rotate-requires-clause-stored : goal.rotate-requires-clause-stored
rotate-requires-clause-stored g c = orders-stored c.args.w.now (stored_with c.args.z.now (g.P.Work.returns c.args.work.now)) c.known.ensures c.requires.orders

pub rotate-requires-clause-course : goal.rotate-requires-clause-course
rotate-requires-clause-course g c =
    let Z : Stored = stored_with c.args.z.now (g.P.Work.returns c.args.work.now) in
    c.in_ok-course.ensures.course Z (orders-stored c.args.w.now Z c.known.ensures c.requires.orders)

pub returns : goal.returns
returns g c =
    let W = c.args.w.now in
    let Z : Stored = stored_with c.args.z.now (g.P.Work.returns c.args.work.now) in
    let stored : OrdersStored W Z.orders = orders-stored W Z c.known.ensures c.requires.orders in
    let many : c.from.result ≡ length W.scheds = c.from.ensures ∙ c.scheds.ensures in
    let begun : c.new-words.result ≡ generator_at c.args.seed (length W.scheds) 0 = c.new-words.ensures ∙ ap (λ n. started 64 multiplier_64 c.args.seed (increment_of 64 n)) many in
    let steps : c.rotate.new.course.steps ≡ c.args.steps = c.in_ok-outcome.ensures.steps ∙ c.in_ok-course.ensures.steps in
    let stopped : HasStopped W c.args.seed c.rotate.new.course.steps c.rotate.new.course.events.items c.in_ok-outcome.outcome =
    subst (λ n. HasStopped W c.args.seed n c.rotate.new.course.events.items c.in_ok-outcome.outcome) (sym c.in_ok-outcome.ensures.steps) (c.in_ok-outcome.ensures.stopped c.args.seed begun) in
    subst (λ n. IfOk c.end.result (LeavesSeeded W Z c.args.seed n)) steps
    (IfOk-weaker c.end.result _ (LeavesSeeded W Z c.args.seed c.rotate.new.course.steps) (λ left leaves. leaves Z c.args.seed stored c.in_ok-outcome.ensures.course stopped) c.end.ensures)
