-- A wave more, and the last.
use Rattle.std.proofs.Common.{ℕ, List, Some, subst, sym}
use Rattle.abt_order.specs.Stored.{stored_of}
use Rattle.abt_stream.specs.Streams.{StreamValue}
use Rattle.abt_drain.specs.Looks.{AreStreams}
use Rattle.abt_streams.specs.Looks.{IsOutcomeOnLives}
use Rattle.abt_streams.specs.Runs.{HasLedTo}
use Rattle.abt_streams.proofs.Journeys.{has-ended-on}
use Rattle.abt_streams.proofs.journey.go.Goals as goal

pub advance-requires-clause-under_way : goal.advance-requires-clause-under_way
advance-requires-clause-under_way g c =
    let under : (n : ℕ) × HasLedTo c.args.w.now (stored_of c.args.orders.now (g.P.Work.returns c.args.work.now)) n c.args.lives.now c.waves.journey.objects c.waves.journey.streams.items c.waves.journey.journal.items c.waves.journey.waves.items =
    (c.args.steps, c.waves.invariant.under_way) in
    λ lifetimes outlive. under

pub outcome_on-requires-clause-objects : goal.outcome_on-requires-clause-objects
outcome_on-requires-clause-objects g c = (c.in_ok-journey.ensures.under_way c.args.steps c.waves.invariant.under_way).fleet.workload

pub outcome_on-requires-clause-streams : goal.outcome_on-requires-clause-streams
outcome_on-requires-clause-streams g c =
    subst (λ (streams : List StreamValue). AreStreams c.args.w.now c.args.steps streams) (sym c.deref.ensures.value) (c.in_ok-journey.ensures.under_way c.args.steps c.waves.invariant.under_way).fleet.streams_are

pub returns-in-Some-outcome_on-clause-under_way : goal.returns-in-Some-outcome_on-clause-under_way
returns-in-Some-outcome_on-clause-under_way g c = c.in_ok-journey.ensures.under_way c.args.steps c.waves.invariant.under_way

pub returns-in-Some-outcome_on-clause-ended : goal.returns-in-Some-outcome_on-clause-ended
returns-in-Some-outcome_on-clause-ended g c =
    let W = c.args.w.now in
    let j = c.in_ok-journey.journey in
    has-ended-on W (stored_of c.args.orders.now (g.P.Work.returns c.args.work.now)) c.args.steps c.args.lives.now j.objects j.streams.items j.journal.items j.waves.items (c.in_ok-journey.ensures.under_way c.args.steps c.waves.invariant.under_way) c.in-Some-outcome_on.outcome
    (subst (λ (streams : List StreamValue). IsOutcomeOnLives W c.args.lives.now c.args.steps streams j.objects (Some c.in-Some-outcome_on.outcome)) c.deref.ensures.value c.in-Some-outcome_on.ensures)

pub waves-preserved : goal.waves-preserved
waves-preserved g c = record { next = tt; finite = tt; under_way = c.in_ok-journey.ensures.under_way c.args.steps c.waves.invariant.under_way }
