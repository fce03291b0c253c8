-- A call of a hall.
use Rattle.std.proofs.Common.{◌≡◌, max, ◌∙◌, ap, subst}
use Rattle.abt_booth.specs.Calls.{IsAnswered, IsWorn}
use Rattle.abt_booth.specs.Seats.{opening_of, number_of, seen_of}
use Rattle.abt_commons.specs.AsksAll.{AllDo}
use Rattle.abt_commons.specs.Halls.{HallValue}
use Rattle.abt_commons.proofs.HallSights.{hall-shows, hall-worn, hall-answers}
use Rattle.abt_commons.proofs.hall.HallCommons.call.Goals.{After-max-raised, In-Done}
use Rattle.abt_commons.proofs.hall.HallCommons.call.Goals as goal

-- the clock that the hall raises
raise : (g : _) (c : After-max-raised g) → c.max-raised.result ≡ max c.args.at c.args.self.now.clock
raise g c = c.max-raised.ensures ∙ ap (λ (h : HallValue). max c.args.at h.clock) c.self.view_is

-- what the booth answers
reply : (g : _) (c : In-Done g) → IsAnswered AllDo (opening_of c.args.self.now.booth) (number_of c.args.pass.now) (seen_of c.args.pass.now) (seen_of c.call.new.seat) c.max-raised.result
    (record { site = c.args.site; act = c.args.act }) c.in-Done.stamp c.in-Done.answer
reply g c =
    subst (λ (h : HallValue). IsAnswered AllDo (opening_of h.booth) (number_of c.args.pass.now) (seen_of c.args.pass.now) (seen_of c.call.new.seat) c.max-raised.result
    (record { site = c.args.site; act = c.args.act }) c.in-Done.stamp c.in-Done.answer) c.self.view_is c.in-Done.ensures.reply

pub returns-in-Done-clause-replies : goal.returns-in-Done-clause-replies
returns-in-Done-clause-replies g c =
    let hall = c.args.self.now in
    hall-answers (opening_of hall.booth) hall.clock (number_of c.args.pass.now) (seen_of c.args.pass.now) (seen_of c.call.new.seat) c.args.at c.max-raised.result (record { site = c.args.site; act = c.args.act })
    (raise g (goal.at.returns-in-Done-clause-replies g c).After-max-raised) c.in-Done.stamp c.in-Done.answer (reply g (goal.at.returns-in-Done-clause-replies g c).In-Done)

pub returns-in-Done-clause-moves : goal.returns-in-Done-clause-moves
returns-in-Done-clause-moves g c =
    let hall = c.args.self.now in
    hall-shows (opening_of hall.booth) hall.clock (number_of c.args.pass.now) (seen_of c.args.pass.now) (seen_of c.call.new.seat) c.args.at c.max-raised.result (record { site = c.args.site; act = c.args.act })
    (raise g (goal.at.returns-in-Done-clause-moves g c).After-max-raised) c.in-Done.stamp c.in-Done.answer (reply g (goal.at.returns-in-Done-clause-moves g c).In-Done)

pub returns-in-Worn-clause-moves : goal.returns-in-Worn-clause-moves
returns-in-Worn-clause-moves g c =
    let hall = c.args.self.now in
    let reply = subst (λ (h : HallValue). IsWorn AllDo (opening_of h.booth) (number_of c.args.pass.now) (seen_of c.args.pass.now) (seen_of c.call.new.seat) c.max-raised.result
    (record { site = c.args.site; act = c.args.act }) c.in-Worn.field-0) c.self.view_is c.in-Worn.ensures.reply in
    hall-worn (opening_of hall.booth) hall.clock (number_of c.args.pass.now) (seen_of c.args.pass.now) (seen_of c.call.new.seat) c.args.at c.max-raised.result
    (record { site = c.args.site; act = c.args.act }) (raise g (goal.at.returns-in-Worn-clause-moves g c).After-max-raised) c.in-Worn.field-0 reply
