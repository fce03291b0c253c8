-- The wave begins at the start.
use Rattle.std.proofs.Common.{◌≤◌, false, Option, None, sym, subst}
use Rattle.std.proofs.lemmas.List.{length-map}
use Rattle.abt_machine.specs.Stored.{Stored}
use Rattle.abt_order.specs.Stored.{stored_of}
use Rattle.abt_outcomes.proofs.Stored.{orders-stored}
use Rattle.abt_drain.proofs.Started.{crew-started}
use Rattle.abt_waves.proofs.Fleets.{crew-is-fleet}
use Rattle.run_bench.proofs.calls.first_wave.Goals as goal

pub run_wave-requires-clause-fleet : goal.run_wave-requires-clause-fleet
run_wave-requires-clause-fleet g c κs within =
    let W = c.args.w.now in
    let Z : Stored = stored_of c.args.orders.now (λ f u acc keys. None) in
    let n = c.args.steps in
    let stored = orders-stored W Z c.known.ensures (subst (λ k. 2 ≤ k) (sym (length-map c.args.orders.now _)) c.requires.orders) in (
      n,
      crew-is-fleet W Z n (record { workload = W; steps = n; keeps = false; objects = c.in_ok-objects.objects; streams = c.in_ok-streams.streams.items })
          (crew-started W n c.in_ok-streams.streams.items c.in_ok-objects.objects c.in_ok-streams.ensures.streams c.in_ok-objects.ensures Z false c.known.ensures stored c.in_ok-streams.ensures.keeps),
    )
