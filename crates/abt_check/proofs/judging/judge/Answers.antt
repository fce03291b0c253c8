use Rattle.std.proofs.Common.{◌≡◌, ◌∙◌, ◌+◌, ◌++◌, [], ◌∷◌, List, ap, subst, sym, take}
use Rattle.abt_machine.specs.declared.events.Event.{Event}
use Rattle.abt_outcomes.proofs.Stored.{orders-stored}
use Rattle.abt_check.specs.Judges.{HasJudged, Judges}
use Rattle.abt_model.specs.Stored.{stored_with}
use Rattle.abt_check.proofs.Judged.{all-judged, bad-at, first-long, first-more}
use Rattle.abt_check.proofs.judging.judge.Goals as goal

pub loop-at-init : goal.loop-at-init
loop-at-init g c =
    let Z = stored_with c.args.z.now (g.P.Work.returns c.args.work.now) in
    c.in_ok-judge.ensures Z (orders-stored c.args.w.now Z c.known.ensures c.requires.orders)

pub follow-requires-clause-stored : goal.follow-requires-clause-stored
follow-requires-clause-stored g c = orders-stored c.args.w.now (stored_with c.args.z.now (g.P.Work.returns c.args.work.now)) c.known.ensures c.requires.orders

pub follow-requires-clause-judged : goal.follow-requires-clause-judged
follow-requires-clause-judged g c =
    (take c.loop-at.at c.args.journal.now, first-long c.args.journal.now c.items-event-items.result.now c.loop-at.at c.items-event-items.ensures c.loop-at-test.true c.items-event-items.type_inv.0, c.loop-at.invariant)

pub returns-then-not-branch : goal.returns-then-not-branch
returns-then-not-branch g c =
    let J : List Event = c.args.journal.now in
    let Z = stored_with c.args.z.now (g.P.Work.returns c.args.work.now) in
    let at = c.loop-at.at in
    let e : Event = c.event-item.result in
    let more = first-more J c.items-event-items.result.now at e c.items-event-items.ensures c.loop-at-test.true in
    let next : take (at + 1) J ≡ take at J ++ e ∷ [] = more.1 ∙ ap (λ (x : Event). take at J ++ x ∷ []) (sym c.event-item.is) in
    bad-at c.args.w.now Z J at e more.0 next (c.loop-at.invariant.run, c.loop-at.invariant.stamped)
    (subst (λ b. Judges c.args.w.now Z (take at J ++ e ∷ []) b c.follow.new.self) c.if-not-branch.true (c.in_ok-follow.ensures (take at J) c.loop-at.invariant))

pub loop-at-preserved : goal.loop-at-preserved
loop-at-preserved g c =
    let J : List Event = c.args.journal.now in
    let Z = stored_with c.args.z.now (g.P.Work.returns c.args.work.now) in
    let at = c.loop-at.at in
    let e : Event = c.event-item.result in
    let more = first-more J c.items-event-items.result.now at e c.items-event-items.ensures c.loop-at-test.true in
    let next : take (at + 1) J ≡ take at J ++ e ∷ [] = more.1 ∙ ap (λ (x : Event). take at J ++ x ∷ []) (sym c.event-item.is) in
    subst (λ K. HasJudged c.args.w.now Z K c.follow.new.self) (sym next)
    (subst (λ b. Judges c.args.w.now Z (take at J ++ e ∷ []) b c.follow.new.self) c.if-not-branch.false (c.in_ok-follow.ensures (take at J) c.loop-at.invariant))

pub returns : goal.returns
returns g c = all-judged c.args.w.now (stored_with c.args.z.now (g.P.Work.returns c.args.work.now)) c.args.journal.now c.items-event-items.result.now c.loop-at.at c.loop-at.judge c.items-event-items.ensures c.loop-at.auto.at-end c.loop-at-test.false c.loop-at.invariant
