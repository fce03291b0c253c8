-- A call of a split.
use Rattle.std.proofs.Common.{rules, ◌≡◌, ◌≤◌, ◌<◌, ◌^◌, ℕ, length, get_or, sym, ◌∙◌, subst, arith}
use Rattle.std.proofs.lemmas.List.{get_or_default}
use Rattle.abt_booth.specs.declared.booth.Called.{Called}
use Rattle.abt_calls.specs.Asking.{MayCall}
use Rattle.abt_commons.specs.declared.acts.Act.{Act}
use Rattle.abt_commons.specs.declared.acts.Answer.{Answer}
use Rattle.abt_commons.specs.declared.acts.Reply.{Reply}
use Rattle.abt_commons.specs.declared.acts.Reply.TheVariants as reply
use Rattle.abt_commons.specs.declared.split.SplitPass.{SplitPass}
use Rattle.abt_commons.specs.Acts.{act_of}
use Rattle.abt_commons.specs.Held.{OneValue}
use Rattle.abt_commons.specs.Replies.{Answers, told_by}
use Rattle.abt_commons.specs.Sights.{Shows}
use Rattle.abt_commons.specs.Splits.{AreTurns, AsksAt, IsPassOf, SplitMoves, SplitValue, carried_to, own_lock, sights, sights_of}
use Rattle.abt_commons.specs.Turns.{TurnValue}
use Rattle.abt_commons.proofs.SplitSights.{Tells, may-ask-booth, clock-low, answers-well, turns-after, split-shows, within}
use Rattle.abt_commons.proofs.split.SplitCommons.call.Goals.{After-call_at}
use Rattle.abt_commons.proofs.split.SplitCommons.call.Goals as goal

pub call_at-requires-clause-number : goal.call_at-requires-clause-number
call_at-requires-clause-number g c =
    let s = c.self.inside in
    subst (λ (v : SplitValue). c.site_number-number.result < length v.booths) c.self.view_is
    (within s.w.now s.streams s.booths.items s.clocks.items c.self.invariant.0 c.args.site c.site_number-number.result c.site_number-number.ensures)

pub call_at-requires-clause-act : goal.call_at-requires-clause-act
call_at-requires-clause-act g c =
    let s = c.self.inside in
    let may = subst (λ (v : SplitValue). MayCall v.workload c.args.site (act_of c.args.act)) (sym c.self.view_is) c.requires.may in
    may-ask-booth s.w.now s.streams s.booths.items s.clocks.items c.self.invariant.0 c.args.site c.site_number-number.result c.site_number-number.ensures c.index-2.result.now c.args.act c.index-2.ensures
    c.requires.free may

pub call_at-requires-clause-at : goal.call_at-requires-clause-at
call_at-requires-clause-at g c =
    let s = c.self.inside in
    let low : c.index.result.now ≤ 2 ^ 62 = clock-low s.w.now s.streams s.booths.items s.clocks.items c.self.invariant.0 c.args.site c.site_number-number.result c.site_number-number.ensures c.index.result.now c.index.ensures in
    omega (arith, low, c.requires.at, c.max-raised.ensures)

-- what follows, whatever the booth replies
module _ (g : _) (c : After-call_at g) (called : Called OneValue Act Answer) (asks : AsksAt c.index-2.result.now c.site_number-number.result c.heed.new.pass c.max-raised.result c.args.act called c.call_at.new.pass) where
  abbrev before : SplitPass
  before = c.heed.new.pass

  abbrev after : SplitPass
  after = c.call_at.new.pass

  abbrev i : ℕ
  i = c.site_number-number.result

  abbrev old : TurnValue
  old = get_or before.turns.items i asks.turn

  its : AreTurns before.stream c.self.inside.booths.items before.turns.items
  its = subst (λ (v : SplitValue). IsPassOf v before) (sym c.self.view_is) (subst (IsPassOf c.args.self.now) (sym c.heed.ensures.same) c.requires.pass)

  here : old ≡ get_or before.turns.items i old
  here =
      let s = c.self.inside in
      let lt = within s.w.now s.streams s.booths.items s.clocks.items c.self.invariant.0 c.args.site i c.site_number-number.ensures in
      get_or_default before.turns.items i asks.turn old (subst (λ n. i < n) (sym its.many) lt)

  pass-after : IsPassOf c.args.self.now after
  pass-after =
      let s = c.self.inside in
      let turns = turns-after s.w.now s.streams s.booths.items s.clocks.items c.self.invariant.0 c.args.site i c.site_number-number.ensures before.turns.items before.stream its
      old asks.turn here c.index-2.result.now c.index-2.ensures asks.its asks.numbered in
      subst (λ (v : SplitValue). IsPassOf v after) c.self.view_is
      (subst (λ n. AreTurns n s.booths.items after.turns.items) (sym asks.stream) (subst (λ ts. AreTurns before.stream s.booths.items ts) (sym asks.turns) turns))

  moves-after : (r : Reply) → Tells c.index-2.result.now old asks.turn c.max-raised.result c.args.act r → SplitMoves c.args.self.now c.args.pass.now c.args.site c.args.at (act_of c.args.act) (told_by r) after
  moves-after r tells =
      let s = c.self.inside in
      let split : SplitValue = record { workload = s.w.now; streams = s.streams; booths = s.booths.items; clocks = s.clocks.items } in
      let shows = split-shows s.w.now s.streams s.booths.items s.clocks.items c.self.invariant.0 c.args.site i c.site_number-number.ensures before.turns.items before.stream its
      old asks.turn here c.index-2.result.now c.args.at c.max-raised.result c.index.result.now c.args.act c.index-2.ensures c.index.ensures c.max-raised.ensures r tells in
      subst (λ p. SplitMoves c.args.self.now p c.args.site c.args.at (act_of c.args.act) (told_by r) after) c.heed.ensures.same
      (subst (λ (v : SplitValue). SplitMoves v before c.args.site c.args.at (act_of c.args.act) (told_by r) after) c.self.view_is
      (subst (λ ts. Shows split.workload own_lock (carried_to split) before.stream (sights_of split before) c.args.site c.args.at (act_of c.args.act) (told_by r) (sights split.workload ts)) (sym asks.turns) shows))

  number-after : after.stream ≡ c.args.pass.now.stream
  number-after = asks.stream ∙ (λ k. (c.heed.ensures.same k).stream)

pub returns-in-Done : goal.returns-in-Done
returns-in-Done g c =
    let s = c.self.inside in
    let path = (goal.at.returns-in-Done g c).After-call_at in
    let asks = c.in-Done.ensures.asks in
    let old = get_or c.heed.new.pass.turns.items c.site_number-number.result asks.turn in
    record {
      pass = pass-after g path _ asks;
      number = number-after g path _ asks;
      replies = subst (λ (v : SplitValue). (c.args.at < c.in-Done.stamp) × (c.in-Done.stamp ≤ 2 ^ 62) × Answers v.workload c.args.act c.in-Done.answer) c.self.view_is
          (answers-well s.w.now s.streams s.booths.items s.clocks.items c.self.invariant.0 c.args.site c.site_number-number.result c.site_number-number.ensures c.index-2.result.now c.index-2.ensures
          old.number old.seen asks.turn.seen c.args.at c.max-raised.result c.args.act c.in-Done.stamp c.in-Done.answer (omega (arith, c.max-raised.ensures)) asks.reply);
      moves = moves-after g path _ asks (reply.Done c.in-Done.stamp c.in-Done.answer) asks.reply;
    }

pub returns-in-Worn : goal.returns-in-Worn
returns-in-Worn g c =
    let path = (goal.at.returns-in-Worn g c).After-call_at in
    let asks = c.in-Worn.ensures.asks in
    record { pass = pass-after g path _ asks; number = number-after g path _ asks; replies = search rules; moves = moves-after g path _ asks (reply.Worn c.in-Worn.act) asks.reply }
