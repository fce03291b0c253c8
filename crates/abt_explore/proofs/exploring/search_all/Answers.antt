-- A whole search.
use Rattle.std.proofs.Common.{◌≡◌, ◌∙◌, ◌+◌, Option, None, Some, arith, length, subst, sym}
use Rattle.abt_machine.specs.Rounds.{OrdersStored}
use Rattle.abt_outcomes.proofs.Stored.{orders-stored}
use Rattle.abt_model.specs.Stored.{stored_with}
use Rattle.abt_explore.specs.declared.search.Found.{Found}
use Rattle.abt_explore.specs.Explored.{AreEnds}
use Rattle.abt_explore.specs.Searches.{Takes}
use Rattle.abt_explore.proofs.Finding.{are-ends, finished-explored, met-taken, searching-taken}
use Rattle.abt_explore.proofs.exploring.search_all.Goals as goal

pub loop-states-init : goal.loop-states-init
loop-states-init g c = let begun = c.in_ok-search.ensures (stored_with c.args.z.now (g.P.Work.returns c.args.work.now)) in record { begins = begun.0; count = omega (arith, begun.2); searching = begun.1 }

pub returns-in-None : goal.returns-in-None
returns-in-None g c =
    let W = c.args.w.now in
    let Z = stored_with c.args.z.now (g.P.Work.returns c.args.work.now) in
    let old = c.loop-states.search in
    let new = c.take.new.self in
    let stored : OrdersStored W Z.orders = orders-stored W Z c.known.ensures c.requires.orders in
    let taken : Takes old None new = subst (λ (o : Option Found). Takes old o new) c.in-None.is c.take.ensures in (
      subst (λ v. AreEnds W Z v.items) (sym (c.into_ends-ends.ensures ∙ taken.1))
          (are-ends W Z c.known.ensures stored c.requires.keeps_order old c.loop-states.invariant.searching taken.0 c.loop-states.invariant.begins),
      omega (arith, c.loop-states-test.true),
    )

pub expand-requires-clause-stored : goal.expand-requires-clause-stored
expand-requires-clause-stored g c = orders-stored c.args.w.now (stored_with c.args.z.now (g.P.Work.returns c.args.work.now)) c.known.ensures c.requires.orders

pub expand-requires-clause-met : goal.expand-requires-clause-met
expand-requires-clause-met g c =
    let W = c.args.w.now in
    let Z = stored_with c.args.z.now (g.P.Work.returns c.args.work.now) in
    let old = c.loop-states.search in
    let new = c.take.new.self in
    let found = c.in-Some.found in
    let stored : OrdersStored W Z.orders = orders-stored W Z c.known.ensures c.requires.orders in
    let taken : Takes old (Some found) new = subst (λ (o : Option Found). Takes old o new) c.in-Some.is c.take.ensures in
    met-taken W Z c.known.ensures stored c.requires.keeps_order old found taken.0 new taken.1 taken.2 taken.3 taken.4 taken.5 c.loop-states.invariant.searching

pub expand-requires-clause-searching : goal.expand-requires-clause-searching
expand-requires-clause-searching g c =
    let W = c.args.w.now in
    let Z = stored_with c.args.z.now (g.P.Work.returns c.args.work.now) in
    let old = c.loop-states.search in
    let new = c.take.new.self in
    let found = c.in-Some.found in
    let stored : OrdersStored W Z.orders = orders-stored W Z c.known.ensures c.requires.orders in
    let taken : Takes old (Some found) new = subst (λ (o : Option Found). Takes old o new) c.in-Some.is c.take.ensures in
    searching-taken W Z c.known.ensures stored c.requires.keeps_order old found taken.0 new taken.1 taken.2 taken.3 taken.4 taken.5 c.loop-states.invariant.searching

pub returns : goal.returns
returns g c =
    let W = c.args.w.now in
    let Z = stored_with c.args.z.now (g.P.Work.returns c.args.work.now) in
    let stored : OrdersStored W Z.orders = orders-stored W Z c.known.ensures c.requires.orders in
    let count : length c.loop-states.search.paths ≡ c.args.most + length c.loop-states.search.waiting.items = omega (arith, c.loop-states.invariant.count, c.loop-states-test.false, c.loop-states.auto.states-end) in
    finished-explored W Z c.known.ensures stored c.requires.keeps_order c.loop-states.search c.loop-states.invariant.searching c.loop-states.invariant.begins c.args.most count c.finished.result c.finished.ensures
