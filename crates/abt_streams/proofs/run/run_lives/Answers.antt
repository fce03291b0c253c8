-- The whole run.
use Rattle.std.proofs.Common.{subst, sym}
use Rattle.abt_order.specs.Stored.{stored_of}
use Rattle.abt_report.specs.Pictures.{IsPictureOf}
use Rattle.abt_streams.specs.Waves.{HasRunOn}
use Rattle.abt_streams.proofs.Journeys.{has-run-on}
use Rattle.abt_streams.proofs.run.run_lives.Goals as goal

pub go-requires-clause-under_way : goal.go-requires-clause-under_way
go-requires-clause-under_way g c = λ lifetimes outlive. c.in_ok-journey.ensures c.items.result.now (g.P.Work.returns c.args.work.now)

pub returns-clause-run : goal.returns-clause-run
returns-clause-run g c =
    let W = c.args.w.now in
    let Z = stored_of c.args.orders.now (g.P.Work.returns c.args.work.now) in
    let j = c.in_ok-journey-2.journey in
    let under = c.in_ok-journey-2.ensures.under_way in
    let run = has-run-on W Z c.args.steps c.items.result.now j.objects j.streams.items j.journal.items j.waves.items under c.in_ok-journey-2.outcome c.in_ok-journey-2.ensures.some_wave c.in_ok-journey-2.ensures.ended in
    subst (λ lives. HasRunOn W Z c.args.steps lives c.new.result c.new-2.result c.in_ok-journey-2.outcome) c.items.ensures
    (subst (λ J. HasRunOn W Z c.args.steps c.items.result.now J c.new-2.result c.in_ok-journey-2.outcome) (sym c.new.ensures)
    (subst (λ waves. HasRunOn W Z c.args.steps c.items.result.now j.journal.items waves c.in_ok-journey-2.outcome) (sym c.new-2.ensures) run))

pub returns-clause-picture : goal.returns-clause-picture
returns-clause-picture g c =
    let j = c.in_ok-journey-2.journey in
    let under = c.in_ok-journey-2.ensures.under_way in
    subst (λ J. IsPictureOf c.args.w.now J c.in_ok-picture.picture) (sym c.new.ensures)
    (record { shown = c.in_ok-picture.ensures.shown (stored_of c.args.orders.now (g.P.Work.returns c.args.work.now)) j.journal.items under.fleet.stored under.lead; words = c.in_ok-picture.ensures.words })
