-- All turns of a stream in a wave.
use Rattle.std.proofs.Common.{◌≡◌, true, false, refl, sym, ◌∙◌, subst}
use Rattle.abt_stream.specs.Answers.{FitsAnswers}
use Rattle.abt_stream.specs.Streams.{StreamValue}
use Rattle.abt_waves.specs.declared.voyages.Stop.TheVariants as stop
use Rattle.abt_waves.specs.Jobs.{HasReturned, JobValue, MayGo}
use Rattle.abt_waves.specs.Stops.{StopsBy}
use Rattle.abt_waves.proofs.Going.{none-gone}
use Rattle.abt_waves.specs.Storing.{stored_by}
use Rattle.abt_waves.proofs.voyages.voyage.Goals as goal

differ : true ≡ false → ⊥
differ e = cc

pub returns-then-not-live : goal.returns-then-not-live
returns-then-not-live g c =
    let Z = stored_by (g.O.Orders.shapes c.args.orders.now) (g.P.Work.returns c.args.work.now) in
    let own : JobValue _ _ = record { locks = c.job.inside.locks.now; stream = c.job.inside.stream; pass = c.job.inside.pass; live = c.job.inside.live } in
    let fresh = subst (MayGo g.C.Locked.is_of g.C.Locked.locks c.args.w.now Z) (sym c.job.view_is) c.requires.may in
    let Answers : StreamValue → Type 0 = FitsAnswers c.args.w.now (g.O.Orders.answered c.args.orders.now c.args.w.now) in
    record {
      answers = subst (λ (j : JobValue _ _). Answers j.stream → Answers own.stream) c.job.view_is (λ fits. fits);
      returned = subst (λ j. HasReturned g.C.Locked.is_of g.C.Locked.locks g.C.Locked.lock c.args.w.now Z j (record { stream = own.stream; pass = own.pass; stop = stop.Idle })) c.job.view_is (record {
        has = fresh.has;
        gone = none-gone (g.C.Locked.locks own.locks) g.C.Locked.lock c.args.w.now Z own.stream own.pass fresh.fresh;
        stops = λ lives. absurd (differ (sym lives ∙ c.if-not-live.true));
        still = λ dead. refl;
      });
    }

pub returns : goal.returns
returns g c =
    let Z = stored_by (g.O.Orders.shapes c.args.orders.now) (g.P.Work.returns c.args.work.now) in
    let own : JobValue _ _ = record { locks = c.job.inside.locks.now; stream = c.job.inside.stream; pass = c.job.inside.pass; live = c.job.inside.live } in
    let fresh = subst (MayGo g.C.Locked.is_of g.C.Locked.locks c.args.w.now Z) (sym c.job.view_is) c.requires.may in
    let Answers : StreamValue → Type 0 = FitsAnswers c.args.w.now (g.O.Orders.answered c.args.orders.now c.args.w.now) in
    record {
      answers = subst (λ (j : JobValue _ _). Answers j.stream → Answers c.turns-stop.new.stream) c.job.view_is c.turns-stop.ensures.answers;
      returned = subst (λ j. HasReturned g.C.Locked.is_of g.C.Locked.locks g.C.Locked.lock c.args.w.now Z j (record { stream = c.turns-stop.new.stream; pass = c.turns-stop.new.pass; stop = c.turns-stop.result })) c.job.view_is (record {
        has = c.turns-stop.ensures.has;
        gone = c.turns-stop.ensures.gone own.stream (none-gone (g.C.Locked.locks own.locks) g.C.Locked.lock c.args.w.now Z own.stream own.pass fresh.fresh);
        stops = subst (λ live. StopsBy (g.C.Locked.locks own.locks) g.C.Locked.lock c.args.w.now live own.stream.log c.turns-stop.new.stream c.turns-stop.new.pass c.turns-stop.result) (sym c.if-not-live.false)
            (c.turns-stop.ensures.stops own.stream (none-gone (g.C.Locked.locks own.locks) g.C.Locked.lock c.args.w.now Z own.stream own.pass fresh.fresh));
        still = λ dead. absurd (differ (sym c.if-not-live.false ∙ dead));
      });
    }
