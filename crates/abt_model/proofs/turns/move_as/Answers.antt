use Rattle.std.proofs.Common.{rules, ◌≡◌, ◌∙◌, ◌<◌, None, ap, length, refl, subst, sym}
use Rattle.std.proofs.lemmas.Result.{IfOk-weaker}
use Rattle.abt_laws.proofs.Rounds.{order-declared}
use Rattle.abt_machine.specs.Next.{RoundDue}
use Rattle.abt_machine.specs.Rounds.{IsNextPool}
use Rattle.abt_machine.specs.State.{Frame}
use Rattle.abt_machine.specs.Turns.{due_of}
use Rattle.abt_machine.specs.Values.{Held}
use Rattle.abt_replay.specs.Events.{Runs, Visits}
use Rattle.abt_model.specs.Turns.{IsOfWorkload}
use Rattle.abt_model.specs.Stored.{stored_with}
use Rattle.abt_model.proofs.Moving.{first-of, look-allowed, look-moves, next-declared, put-allowed, put-moves, run-moves, some-of, take-allowed, visit-moves}
use Rattle.abt_model.proofs.turns.move_as.Goals as goal

pub put-requires : goal.put-requires
put-requires g c =
    let of : IsOfWorkload c.args.w.now c.in-Some.unit = first-of c.args.w.now c.args.lane.now.tray c.take_from_tray.new.self.tray c.in-Some.unit c.in-Some.ensures.first c.requires.lane.tray in
    put-allowed c.args.w.now c.args.objects.now c.in-Some.unit c.requires.objects of.home

pub returns-in-Some : goal.returns-in-Some
returns-in-Some g c =
    put-moves c.args.w.now (stored_with c.args.z.now (g.P.Work.returns c.args.work.now)) c.args.s.0 c.args.lane.now c.args.objects.now c.args.named.now c.in_ok-made.made c.take_from_tray.new.self c.put.new.objects c.in-Some.unit c.in-Some.ensures.first c.in-Some.ensures.others c.in_ok-made.ensures

pub look-requires-clause-allowed : goal.look-requires-clause-allowed
look-requires-clause-allowed g c =
    let same : c.take_from_tray.new.self ≡ c.args.lane.now = c.in_default.ensures.none.1 in
    let next = ap (λ (held : Held). held.next) (sym same) ∙ (sym c.take_next.ensures.next ∙ c.in-Some-take_next.is) in
    let of : IsOfWorkload c.args.w.now c.in-Some-take_next.unit = some-of c.args.w.now c.args.lane.now.next c.in-Some-take_next.unit next c.requires.lane.next in
    look-allowed c.args.w.now c.args.objects.now c.in-Some-take_next.unit c.requires.objects of.number

pub returns-in-Some-take_next : goal.returns-in-Some-take_next
returns-in-Some-take_next g c =
    let same : c.take_from_tray.new.self ≡ c.args.lane.now = c.in_default.ensures.none.1 in
    look-moves c.args.w.now (stored_with c.args.z.now (g.P.Work.returns c.args.work.now)) c.args.s.0 c.args.lane.now c.args.objects.now c.args.named.now c.in_ok-made-2.made c.look.new.self c.look.new.objects c.in-Some-take_next.unit c.take_next.new.self c.in_default.ensures.none.0
    (ap (λ (held : Held). held.next) (sym same) ∙ (sym c.take_next.ensures.next ∙ c.in-Some-take_next.is)) (c.take_next.ensures.others ∙ ap (λ (held : Held). record held { next = None }) same) c.in_ok-made-2.ensures

pub returns-in-Some-take_hand : goal.returns-in-Some-take_hand
returns-in-Some-take_hand g c =
    let W = c.args.w.now in
    let Z = stored_with c.args.z.now (g.P.Work.returns c.args.work.now) in
    let next : c.args.lane.now.next ≡ None = search rules in
    let same : c.take_next.new.self ≡ c.args.lane.now = search rules in
    IfOk-weaker c.run.result _ _ (λ made runs. run-moves W Z c.args.s.0 c.args.lane.now c.args.objects.now c.args.named.now c.run.new.self c.run.new.objects made c.in-Some-take_hand.unit c.take_hand.new.self c.in_default.ensures.none.0 next
    (ap (λ (held : Held). held.hand) (sym same) ∙ (sym c.take_hand.ensures.hand ∙ c.in-Some-take_hand.is)) (c.take_hand.ensures.others ∙ ap (λ (held : Held). record held { hand = None }) same)
    (subst (λ said. Runs W Z c.args.s.0 c.in-Some-take_hand.unit c.take_hand.new.self c.args.objects.now said made c.run.new.self c.run.new.objects) c.returned.ensures (runs Z refl))) c.run.ensures

pub visit-requires-clause-pool : goal.visit-requires-clause-pool
visit-requires-clause-pool g c = next-declared c.args.w.now (stored_with c.args.z.now (g.P.Work.returns c.args.work.now)) c.top-2.result.now c.in-Some-next_visited.p.0 c.requires.valid c.in-Some-next_visited.ensures.next

pub visit-requires-clause-sched : goal.visit-requires-clause-sched
visit-requires-clause-sched g c =
    let same : c.take_hand.new.self ≡ c.args.lane.now = search rules in
    subst (λ (held : Held). held.own.top.sched < length c.args.w.now.scheds) (sym same)
    (order-declared c.args.w.now (stored_with c.args.z.now (g.P.Work.returns c.args.work.now)) c.args.lane.now.own.top.sched c.args.lane.now.own.top.round c.requires.lane.round.0 c.requires.lane.round.1)

pub visit-requires-clause-allowed : goal.visit-requires-clause-allowed
visit-requires-clause-allowed g c = take-allowed c.args.w.now c.args.objects.now c.args.s.0 c.in-Some-next_visited.p c.requires.objects (visit-requires-clause-pool g c)

pub returns : goal.returns
returns g c =
    let same : c.take_hand.new.self ≡ c.args.lane.now = search rules in
    let due : due_of c.args.w.now c.args.s.0 c.args.lane.now ≡ RoundDue = search rules in
    let here : IsNextPool c.args.w.now c.args.z.now c.args.lane.now.own.top c.in-Some-next_visited.p.0 =
    subst (λ (f : Frame). IsNextPool c.args.w.now c.args.z.now f c.in-Some-next_visited.p.0) (c.top-2.ensures ∙ ap (λ (held : Held). held.own.top) same) c.in-Some-next_visited.ensures.next in
    visit-moves c.args.w.now (stored_with c.args.z.now (g.P.Work.returns c.args.work.now)) c.args.s.0 c.args.lane.now c.args.objects.now c.args.named.now c.in-Some-next_visited.p c.in_ok-made-3.made c.visit.new.self c.visit.new.objects due here c.in-Some-next_visited.ensures.named
    (subst (λ (held : Held). Visits c.args.w.now c.args.s.0 held c.args.objects.now c.in-Some-next_visited.p c.in_ok-made-3.made c.visit.new.self c.visit.new.objects) same c.in_ok-made-3.ensures)
