-- Both passes are the split's.
use Rattle.std.proofs.Common.{◌∙◌, ap, refl, sym, subst, Some}
use Rattle.std.specs.List.{All}
use Rattle.std.proofs.lemmas.List.Elements.{All-nil, All-pop}
use Rattle.abt_unit.specs.Fits.{Fits}
use Rattle.abt_commons.specs.Held.{ObjectsValue}
use Rattle.abt_commons.specs.Splits.{IsPassOf}
use Rattle.commons_caller.proofs.tests.take_in_turns.Goals as goal

pub take_some-requires : goal.take_some-requires
take_some-requires g c κs =
    let workload = ap (λ (o : ObjectsValue). o.workload) c.in-Ok.ensures.objects ∙ c.requires in
    let split = c.in-Ok.split in
    let others = All-pop (IsPassOf split) c.in-Ok.passes.items c.pop.new.self.items (Some c.in-Some.second) c.in-Some.ensures.items c.in-Ok.ensures.passes.each in
    let pass = All-pop (IsPassOf split) c.pop.new.self.items c.pop-2.new.self.items (Some c.in-Some-pop.first) c.in-Some-pop.ensures.items others.0 in
    let none = subst (All (Fits c.args.w.now)) (sym c.new-hand.ensures.units) (All-nil (Fits c.args.w.now)) in
    ((refl, tt), (workload, (pass.1, none)))

pub take_some-requires-2 : goal.take_some-requires-2
take_some-requires-2 g c κs =
    let workload = ap (λ (o : ObjectsValue). o.workload) c.in-Ok.ensures.objects ∙ c.requires in
    let pass = All-pop (IsPassOf c.in-Ok.split) c.in-Ok.passes.items c.pop.new.self.items (Some c.in-Some.second) c.in-Some.ensures.items c.in-Ok.ensures.passes.each in
    ((refl, tt), (workload, (pass.1, c.take_some.ensures.hand)))
