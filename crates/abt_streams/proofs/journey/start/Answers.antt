-- The start.
use Rattle.std.proofs.Common.{◌≤◌, sym, subst}
use Rattle.std.proofs.lemmas.List.{length-map}
use Rattle.abt_order.specs.Stored.{stored_of}
use Rattle.abt_outcomes.proofs.Stored.{orders-stored}
use Rattle.abt_streams.specs.Runs.{HasLedTo}
use Rattle.abt_streams.proofs.Journeys.{under-way-at-start}
use Rattle.abt_streams.proofs.journey.start.Goals as goal

pub returns : goal.returns
returns g c = λ lives. λ returns.
    let W = c.args.w.now in
    let Z = stored_of c.args.orders.now returns in
    let stored = orders-stored W Z c.known.ensures (subst (λ k. 2 ≤ k) (sym (length-map c.args.orders.now _)) c.requires.orders) in
    let under = under-way-at-start W Z c.args.steps lives c.in_ok-objects.objects c.in_ok-streams.streams.items c.known.ensures stored c.in_ok-streams.ensures.streams c.in_ok-streams.ensures.keeps c.in_ok-objects.ensures in
    subst (λ J. HasLedTo W Z c.args.steps lives c.in_ok-objects.objects c.in_ok-streams.streams.items J c.new-2.result.items) (sym c.new.ensures.items)
    (subst (λ waves. HasLedTo W Z c.args.steps lives c.in_ok-objects.objects c.in_ok-streams.streams.items _ waves) (sym c.new-2.ensures.items) under)
