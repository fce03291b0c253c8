-- One stream more.
use Rattle.std.proofs.Common.{List, sym, subst}
use Rattle.abt_stream.specs.Streams.{StreamValue}
use Rattle.abt_drain.specs.Crews.{AllKeep, AreStarted, IsStarted}
use Rattle.abt_drain.proofs.Started.{keep-push, started-push}
use Rattle.abt_drain.proofs.streams.start_streams.Goals as goal

pub streams-preserved : goal.streams-preserved
streams-preserved c =
    let next : IsStarted c.args.w.now c.args.steps c.streams.s c.in_ok-new.field-0 = record {
      number = c.in_ok-new.ensures.number;
      budget = c.in_ok-new.ensures.budget;
      clock = c.in_ok-new.ensures.clock;
      held = c.in_ok-new.ensures.held;
      log = c.in_ok-new.ensures.log;
      order = c.in_ok-new.ensures.order;
      fits = c.in_ok-new.ensures.fits;
    } in (
      subst (AreStarted c.args.w.now c.args.steps _) (sym {A = List StreamValue} c.in_ok-push.ensures.items) (started-push c.args.w.now c.args.steps c.streams.s c.streams.streams.items c.in_ok-new.field-0 c.streams.invariant.0 next),
      subst (AllKeep c.args.keeps) (sym {A = List StreamValue} c.in_ok-push.ensures.items) (keep-push c.args.w.now c.args.steps c.args.keeps c.streams.streams.items c.in_ok-new.field-0 c.streams.invariant.1 c.in_ok-new.ensures.keeps),
    )
