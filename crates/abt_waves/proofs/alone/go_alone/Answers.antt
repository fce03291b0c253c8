-- All its turns.
use Rattle.std.proofs.Common.{◌∙◌, sym, subst}
use Rattle.std.proofs.lemmas.Result.{IfOk-weaker}
use Rattle.abt_order.specs.Stored.{IsAnsweredOrder, stored_of}
use Rattle.abt_stream.specs.Answers.{FitsAnswers}
use Rattle.abt_waves.specs.Staying.{BeginsAnew, StaysCrew}
use Rattle.abt_waves.proofs.alone.go_alone.Goals as goal

pub closed-requires : goal.closed-requires
closed-requires g c = c.in_ok-turns.ensures.pass ∙ sym (c.make-plain.ensures.workload ∙ c.requires.objects)

pub returns-clause-stays : goal.returns-clause-stays
returns-clause-stays g c =
    let Z = stored_of c.args.orders.now (g.P.Work.returns c.args.work.now) in
    let stays = subst (λ start. StaysCrew c.args.w.now Z c.args.stream.now start c.turns.new.stream c.turns.new.pass) c.make-plain.ensures.pass c.in_ok-turns.ensures.stays in
    IfOk-weaker c.closed.result _ _ (λ left same. subst (λ objects. StaysCrew c.args.w.now Z c.args.stream.now c.args.objects c.turns.new.stream objects) (sym same) stays) c.closed.ensures

pub returns-clause-fresh : goal.returns-clause-fresh
returns-clause-fresh g c =
    let Z = stored_of c.args.orders.now (g.P.Work.returns c.args.work.now) in
    IfOk-weaker c.closed.result _ _ (λ left same. subst (λ start. BeginsAnew c.args.w.now Z c.args.stream.now start c.turns.new.stream) c.make-plain.ensures.pass c.in_ok-turns.ensures.fresh) c.closed.ensures

pub returns-clause-answers : goal.returns-clause-answers
returns-clause-answers g c =
    IfOk-weaker c.closed.result _ (λ left. FitsAnswers c.args.w.now (IsAnsweredOrder c.args.w.now c.args.orders.now) c.args.stream.now → FitsAnswers c.args.w.now (IsAnsweredOrder c.args.w.now c.args.orders.now) c.turns.new.stream)
    (λ left same. c.in_ok-turns.ensures.answers) c.closed.ensures
