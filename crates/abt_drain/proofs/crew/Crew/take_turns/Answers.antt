-- The turns of one stream.
use Rattle.std.proofs.Common.{false, refl, sym, ◌∙◌, subst}
use Rattle.abt_order.specs.Stored.{IsAnsweredOrder, stored_of}
use Rattle.abt_stream.specs.declared.turns.Turn.TheVariants as turn
use Rattle.abt_drain.specs.Answers.{AllAnswered}
use Rattle.abt_drain.specs.Crews.{TurnBy, moment_in}
use Rattle.abt_drain.specs.Rotations.{HasTurned}
use Rattle.abt_drain.proofs.Crewed.{from-own, own-awake, own-crew, own-turn}
use Rattle.abt_drain.proofs.Taking.{move-lowers, move-more, none-moved, turned-by-round, turned-by-step, turned-spent}
use Rattle.abt_drain.proofs.crew.Crew.take_turns.Goals as goal

pub turns-smaller : goal.turns-smaller
turns-smaller g c =
    let Z = stored_of c.args.orders.now (g.P.Work.returns c.args.work.now) in
    move-lowers c.args.self.now.workload Z c.turns.invariant.crew.valid c.turns.invariant.crew.stored c.args.self.now.steps c.args.s
    (moment_in c.args.self.now.workload c.turns.self) (moment_in c.args.self.now.workload c.turn.new.self) c.turns.invariant.crew.reached
    (own-turn c.args.self.now.workload Z c.args.self.now.steps c.turns.self c.turn.new.self c.turns.invariant.crew c.args.s c.in_ok-turn.field-0 turn.Moved c.in-Moved.is c.in_ok-turn.ensures.turn)

pub turns-init : goal.turns-init
turns-init g c =
    let Z = stored_of c.args.orders.now (g.P.Work.returns c.args.work.now) in
    record {
      crew = c.requires.crew;
      keeps = refl;
      answers = λ all. all;
      moves = none-moved c.args.self.now.workload Z c.args.s (moment_in c.args.self.now.workload c.args.self.now);
      awake = c.requires.awake;
    }

pub turns-preserved : goal.turns-preserved
turns-preserved g c =
    let Z = stored_of c.args.orders.now (g.P.Work.returns c.args.work.now) in
    record {
      crew = own-crew c.args.self.now.workload Z c.args.self.now.steps c.turns.self c.turn.new.self c.turns.invariant.crew c.in_ok-turn.ensures.crew;
      keeps = c.in_ok-turn.ensures.keeps ∙ c.turns.invariant.keeps;
      answers = λ all. from-own (λ V k. AllAnswered V (IsAnsweredOrder V c.args.orders.now) c.turns.self.streams → AllAnswered V (IsAnsweredOrder V c.args.orders.now) c.turn.new.self.streams) c.args.self.now.workload Z c.args.self.now.steps c.turns.self c.turns.invariant.crew c.in_ok-turn.ensures.answers (c.turns.invariant.answers all);
      moves = move-more c.args.self.now.workload Z c.turns.invariant.crew.valid c.turns.invariant.crew.stored c.args.self.now.steps c.args.s
          (moment_in c.args.self.now.workload c.args.self.now) (moment_in c.args.self.now.workload c.turns.self) (moment_in c.args.self.now.workload c.turn.new.self) c.turns.invariant.moves
          (own-turn c.args.self.now.workload Z c.args.self.now.steps c.turns.self c.turn.new.self c.turns.invariant.crew c.args.s c.in_ok-turn.field-0 turn.Moved c.in-Moved.is c.in_ok-turn.ensures.turn);
      awake = own-awake c.args.self.now.workload Z c.args.self.now.steps c.turns.self c.turn.new.self c.turns.invariant.crew c.in_ok-turn.field-0 turn.Moved c.in-Moved.is c.in_ok-turn.ensures.awake;
    }

pub returns-in-Stepped-clause-turned : goal.returns-in-Stepped-clause-turned
returns-in-Stepped-clause-turned g c =
    let Z = stored_of c.args.orders.now (g.P.Work.returns c.args.work.now) in
    turned-by-step c.args.self.now.workload Z c.turns.invariant.crew.valid c.turns.invariant.crew.stored c.args.self.now.steps c.args.s
    (moment_in c.args.self.now.workload c.args.self.now) (moment_in c.args.self.now.workload c.turns.self) (moment_in c.args.self.now.workload c.turn.new.self) c.turns.invariant.moves c.turns.invariant.crew.reached
    (own-turn c.args.self.now.workload Z c.args.self.now.steps c.turns.self c.turn.new.self c.turns.invariant.crew c.args.s c.in_ok-turn.field-0 turn.Stepped c.in-Stepped.is c.in_ok-turn.ensures.turn)

pub returns-in-Stepped-clause-awake : goal.returns-in-Stepped-clause-awake
returns-in-Stepped-clause-awake g c =
    let Z = stored_of c.args.orders.now (g.P.Work.returns c.args.work.now) in
    λ stepped. own-awake c.args.self.now.workload Z c.args.self.now.steps c.turns.self c.turn.new.self c.turns.invariant.crew c.in_ok-turn.field-0 turn.Stepped c.in-Stepped.is c.in_ok-turn.ensures.awake

pub returns-in-EmptyRound-clause-turned : goal.returns-in-EmptyRound-clause-turned
returns-in-EmptyRound-clause-turned g c =
    let Z = stored_of c.args.orders.now (g.P.Work.returns c.args.work.now) in
    turned-by-round c.args.self.now.workload Z c.turns.invariant.crew.valid c.turns.invariant.crew.stored c.args.self.now.steps c.args.s
    (moment_in c.args.self.now.workload c.args.self.now) (moment_in c.args.self.now.workload c.turns.self) (moment_in c.args.self.now.workload c.turn.new.self) c.turns.invariant.moves c.turns.invariant.crew.reached
    (own-turn c.args.self.now.workload Z c.args.self.now.steps c.turns.self c.turn.new.self c.turns.invariant.crew c.args.s c.in_ok-turn.field-0 turn.EmptyRound c.in-EmptyRound.is c.in_ok-turn.ensures.turn)

pub returns-in-Spent-clause-turned : goal.returns-in-Spent-clause-turned
returns-in-Spent-clause-turned g c =
    let Z = stored_of c.args.orders.now (g.P.Work.returns c.args.work.now) in
    let spent : TurnBy c.args.self.now.workload Z c.args.self.now.steps c.args.s (moment_in c.args.self.now.workload c.turns.self) turn.Spent (moment_in c.args.self.now.workload c.turn.new.self) =
    own-turn c.args.self.now.workload Z c.args.self.now.steps c.turns.self c.turn.new.self c.turns.invariant.crew c.args.s c.in_ok-turn.field-0 turn.Spent c.in-Spent.is c.in_ok-turn.ensures.turn in
    subst (HasTurned c.args.self.now.workload Z c.args.self.now.steps c.args.s (moment_in c.args.self.now.workload c.args.self.now) false) (sym spent.1)
    (turned-spent c.args.self.now.workload Z c.turns.invariant.crew.valid c.turns.invariant.crew.stored c.args.self.now.steps c.args.s
    (moment_in c.args.self.now.workload c.args.self.now) (moment_in c.args.self.now.workload c.turns.self) c.turns.invariant.moves c.turns.invariant.crew.reached spent.0)

pub returns-in-Stepped-clause-answers : goal.returns-in-Stepped-clause-answers
returns-in-Stepped-clause-answers g c =
    let Z = stored_of c.args.orders.now (g.P.Work.returns c.args.work.now) in
    λ all. from-own (λ V k. AllAnswered V (IsAnsweredOrder V c.args.orders.now) c.turns.self.streams → AllAnswered V (IsAnsweredOrder V c.args.orders.now) c.turn.new.self.streams) c.args.self.now.workload Z c.args.self.now.steps c.turns.self c.turns.invariant.crew c.in_ok-turn.ensures.answers (c.turns.invariant.answers all)

pub returns-in-EmptyRound-clause-answers : goal.returns-in-EmptyRound-clause-answers
returns-in-EmptyRound-clause-answers g c =
    let Z = stored_of c.args.orders.now (g.P.Work.returns c.args.work.now) in
    λ all. from-own (λ V k. AllAnswered V (IsAnsweredOrder V c.args.orders.now) c.turns.self.streams → AllAnswered V (IsAnsweredOrder V c.args.orders.now) c.turn.new.self.streams) c.args.self.now.workload Z c.args.self.now.steps c.turns.self c.turns.invariant.crew c.in_ok-turn.ensures.answers (c.turns.invariant.answers all)

pub returns-in-Spent-clause-answers : goal.returns-in-Spent-clause-answers
returns-in-Spent-clause-answers g c =
    let Z = stored_of c.args.orders.now (g.P.Work.returns c.args.work.now) in
    λ all. from-own (λ V k. AllAnswered V (IsAnsweredOrder V c.args.orders.now) c.turns.self.streams → AllAnswered V (IsAnsweredOrder V c.args.orders.now) c.turn.new.self.streams) c.args.self.now.workload Z c.args.self.now.steps c.turns.self c.turns.invariant.crew c.in_ok-turn.ensures.answers (c.turns.invariant.answers all)
