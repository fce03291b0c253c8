-- The run of all streams.
use Rattle.std.proofs.Common.{ℕ, ◌≡◌, ◌<◌, ◌∙◌, subst}
use Rattle.abt_machine.specs.Stored.{CallsStored}
use Rattle.abt_order.specs.Stored.{IsAnsweredOrder, stored_of}
use Rattle.abt_drain.specs.Answers.{AllAnswered}
use Rattle.abt_drain.specs.Crews.{HaveStopped, IsCrew, moment_in}
use Rattle.abt_drain.specs.Ends.{LeavesLogs, LeavesRotation}
use Rattle.abt_drain.specs.Rotations.{HaveRotated, HasSeenNone, IsAwake}
use Rattle.abt_drain.proofs.Answering.{rotation-answers}
use Rattle.abt_drain.proofs.Crewed.{crew-own, from-own, if-ok}
use Rattle.abt_drain.proofs.run.drain_with.Goals as goal

pub run-requires-clause-calls : goal.run-requires-clause-calls
run-requires-clause-calls g c =
    let Z = stored_of c.args.orders.now (g.P.Work.returns c.args.work.now) in
    crew-own c.args.w.now Z c.args.steps c.in_ok-crew.crew (c.in_ok-crew.ensures.crew Z.returns) (λ V k. CallsStored V (g.P.Work.count c.args.work.now)) c.requires.calls

pub run-requires-clause-crew : goal.run-requires-clause-crew
run-requires-clause-crew g c =
    let Z = stored_of c.args.orders.now (g.P.Work.returns c.args.work.now) in
    let is = c.in_ok-crew.ensures.crew Z.returns in
    crew-own c.args.w.now Z c.args.steps c.in_ok-crew.crew is (λ V k. IsCrew V Z k c.in_ok-crew.crew) is

pub run-requires-clause-fresh : goal.run-requires-clause-fresh
run-requires-clause-fresh g c =
    let Z = stored_of c.args.orders.now (g.P.Work.returns c.args.work.now) in
    crew-own c.args.w.now Z c.args.steps c.in_ok-crew.crew (c.in_ok-crew.ensures.crew Z.returns)
    (λ V k. (s : ℕ) → s < V.streams → HasSeenNone (moment_in V c.in_ok-crew.crew) s) c.in_ok-crew.ensures.fresh

pub run-requires-clause-awake : goal.run-requires-clause-awake
run-requires-clause-awake g c =
    let Z = stored_of c.args.orders.now (g.P.Work.returns c.args.work.now) in
    crew-own c.args.w.now Z c.args.steps c.in_ok-crew.crew (c.in_ok-crew.ensures.crew Z.returns) (λ V k. IsAwake V (moment_in V c.in_ok-crew.crew)) c.in_ok-crew.ensures.awake

pub run-requires-clause-rotated : goal.run-requires-clause-rotated
run-requires-clause-rotated g c =
    let Z = stored_of c.args.orders.now (g.P.Work.returns c.args.work.now) in
    crew-own c.args.w.now Z c.args.steps c.in_ok-crew.crew (c.in_ok-crew.ensures.crew Z.returns)
    (λ V k. HaveRotated V Z k (moment_in V c.in_ok-crew.crew)) (c.in_ok-crew.ensures.rotated Z.returns)

pub returns : goal.returns
returns g c =
    let Z = stored_of c.args.orders.now (g.P.Work.returns c.args.work.now) in
    let crew = c.in_ok-crew.crew in
    let later = c.run.new.self in
    let o = c.in_ok-outcome.outcome in
    let is = c.in_ok-outcome.ensures.crew in
    let stopped = crew-own crew.workload Z crew.steps later is (λ V k. HaveStopped V Z k (moment_in V later) o) c.in_ok-outcome.ensures.stopped in
    let keeps : later.keeps ≡ c.args.keeps = c.in_ok-outcome.ensures.keeps ∙ c.in_ok-crew.ensures.keeps in
    let Answered = IsAnsweredOrder c.args.w.now c.args.orders.now in
    let answers : AllAnswered c.args.w.now Answered later.streams =
    from-own (λ V k. AllAnswered V (IsAnsweredOrder V c.args.orders.now) crew.streams → AllAnswered V (IsAnsweredOrder V c.args.orders.now) later.streams) c.args.w.now Z c.args.steps crew
    (c.in_ok-crew.ensures.crew Z.returns) c.in_ok-outcome.ensures.answers c.in_ok-crew.ensures.answers in
    record {
      run = if-ok c.end.result c.end.ensures (λ run leaves. subst (λ b. LeavesRotation c.args.w.now Z Answered c.args.steps b run) keeps
          (rotation-answers c.args.w.now Answered Z c.args.steps later.keeps later.streams run (λ s stream e. (is.streams.own s stream e).number) answers
          (from-own (λ V k. LeavesLogs V Z k later.keeps later.streams run) c.args.w.now Z c.args.steps crew (c.in_ok-crew.ensures.crew Z.returns)
          (from-own (λ V k. LeavesLogs V Z k later.keeps later.streams run) crew.workload Z crew.steps later is
          (leaves Z (crew-own crew.workload Z crew.steps later is (λ V k. IsCrew V Z k later) is) stopped)))));
    }
