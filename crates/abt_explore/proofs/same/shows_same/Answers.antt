use Rattle.std.proofs.Common.{◌≡◌, ◌∙◌, ap, rules, sym}
use Rattle.abt_machine.specs.Texts.{ShownUnit}
use Rattle.abt_explore.proofs.same.shows_same.Goals as goal

pub returns-then-same_place : goal.returns-then-same_place
returns-then-same_place c =
    let places : c.args.one.now.shown ≡ c.args.two.now.shown = search rules in
    let first : c.items.result.now ≡ c.args.one.now.output = c.items.ensures in
    let second : c.items-then-same_place.result.now ≡ c.args.two.now.output = c.items-then-same_place.ensures in (
      (λ h. let outputs : c.args.one.now.output ≡ c.args.two.now.output = sym first ∙ (c.are_same.ensures.0 h ∙ second) in cc),
      (λ h. c.are_same.ensures.1 (first ∙ (ap (λ (unit : ShownUnit). unit.output) h ∙ sym second))),
    )
