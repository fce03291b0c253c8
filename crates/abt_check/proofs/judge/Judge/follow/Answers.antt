use Rattle.std.proofs.Common.{◌≡◌, ◌<◌, ◌≤◌, List, arith, length, subst, sym}
use Rattle.abt_machine.specs.declared.events.Event.{Event}
use Rattle.abt_machine.specs.Runs.{last_state}
use Rattle.abt_check.specs.Judges.{HasJudged, JudgeValue}
use Rattle.abt_model.specs.Models.{MayBeDone, IsDone}
use Rattle.abt_model.specs.Stored.{stored_with}
use Rattle.abt_check.proofs.Judged.{judged-by, may-not, names-declared, not-declared}
use Rattle.abt_check.proofs.judge.Judge.follow.Goals.{Else-not-branch}
use Rattle.abt_check.proofs.judge.Judge.follow.Goals as goal

pub returns-then-event-streams : goal.returns-then-event-streams
returns-then-event-streams g c J judged =
    let W = c.args.w.now in
    let count : c.streams.result ≡ W.streams = c.streams.ensures.count in
    let other : c.streams.result ≤ c.args.event.now.stream.0 = c.if-event-streams.true in
    not-declared W (stored_with c.args.z.now (g.P.Work.returns c.args.work.now)) J c.args.event.now (λ l. omega arith)

pub returns-then-not-branch : goal.returns-then-not-branch
returns-then-not-branch g c J judged =
    let W = c.args.w.now in
    let Z = stored_with c.args.z.now (g.P.Work.returns c.args.work.now) in
    let judge : JudgeValue = record { model = c.self.inside.model; clocks = c.self.inside.clocks } in
    let here : HasJudged W Z J judge = subst (HasJudged W Z J) (sym c.self.view_is) judged in
    may-not W Z J c.args.event.now (subst (λ b. MayBeDone W Z (length J) (last_state W J) c.args.event.now.stream.0 c.args.event.now.what b c.follow.new.self) c.if-not-branch.true (c.in_ok-follow.ensures (length J) (last_state W J) here.state here.stands))

-- What the streams and objects have followed is done.

pub follow-requires-2-clause-names : goal.follow-requires-2-clause-names
follow-requires-2-clause-names g c =
    let p : Else-not-branch g = (goal.at.follow-requires-2-clause-names g c).Else-not-branch in
    let W = c.args.w.now in
    let Z = stored_with c.args.z.now (g.P.Work.returns c.args.work.now) in
    let J : List Event = c.requires.judged.0 in
    let judged = c.requires.judged.2 in
    let e = c.args.event.now in
    let here : HasJudged W Z J (record { model = p.self.inside.model; clocks = p.self.inside.clocks }) = subst (HasJudged W Z J) (sym p.self.view_is) judged in
    let done : IsDone W Z (length J) (last_state W J) e.stream.0 e.what p.follow.new.self =
    subst (λ b. MayBeDone W Z (length J) (last_state W J) e.stream.0 e.what b p.follow.new.self) p.if-not-branch.false (p.in_ok-follow.ensures (length J) (last_state W J) here.state here.stands) in
    let count : p.streams.result ≡ W.streams = p.streams.ensures.count in
    let declared : e.stream.0 < W.streams = omega arith in
    names-declared W Z J e c.requires.valid c.requires.stored here.run declared done.may

pub follow-requires-2-clause-site : goal.follow-requires-2-clause-site
follow-requires-2-clause-site g c =
    let p : Else-not-branch g = (goal.at.follow-requires-2-clause-site g c).Else-not-branch in
    let W = c.args.w.now in
    let Z = stored_with c.args.z.now (g.P.Work.returns c.args.work.now) in
    let J : List Event = c.requires.judged.0 in
    let judged = c.requires.judged.2 in
    let e = c.args.event.now in
    let here : HasJudged W Z J (record { model = p.self.inside.model; clocks = p.self.inside.clocks }) = subst (HasJudged W Z J) (sym p.self.view_is) judged in
    let done : IsDone W Z (length J) (last_state W J) e.stream.0 e.what p.follow.new.self =
    subst (λ b. MayBeDone W Z (length J) (last_state W J) e.stream.0 e.what b p.follow.new.self) p.if-not-branch.false (p.in_ok-follow.ensures (length J) (last_state W J) here.state here.stands) in
    done.site

pub returns : goal.returns
returns g c J judged =
    let p : Else-not-branch g = (goal.at.returns g c).Else-not-branch in
    let W = c.args.w.now in
    let Z = stored_with c.args.z.now (g.P.Work.returns c.args.work.now) in
    let e = c.args.event.now in
    let here : HasJudged W Z J (record { model = p.self.inside.model; clocks = p.self.inside.clocks }) = subst (HasJudged W Z J) (sym p.self.view_is) judged in
    let done : IsDone W Z (length J) (last_state W J) e.stream.0 e.what p.follow.new.self =
    subst (λ b. MayBeDone W Z (length J) (last_state W J) e.stream.0 e.what b p.follow.new.self) p.if-not-branch.false (p.in_ok-follow.ensures (length J) (last_state W J) here.state here.stands) in
    let count : p.streams.result ≡ W.streams = p.streams.ensures.count in
    let declared : e.stream.0 < W.streams = omega arith in
    judged-by W Z J e c.follow-2.result c.follow.new.self c.follow-2.new.self here.run declared done (c.follow-2.ensures J here.clocks here.stamped)
