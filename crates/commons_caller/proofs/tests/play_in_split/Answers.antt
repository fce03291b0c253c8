use Rattle.std.proofs.Common.{◌∙◌, ap, refl, Some}
use Rattle.std.proofs.lemmas.List.Elements.{All-pop}
use Rattle.abt_commons.specs.Held.{ObjectsValue}
use Rattle.abt_commons.specs.Splits.{IsPassOf}
use Rattle.commons_caller.proofs.tests.play_in_split.Goals as goal

pub play_every_kind-requires : goal.play_every_kind-requires
play_every_kind-requires g c κs =
    let workload = ap (λ (o : ObjectsValue). o.workload) c.in-Ok.ensures.objects ∙ c.requires in
    let passes = All-pop (IsPassOf c.in-Ok.split) c.in-Ok.passes.items c.pop.new.self.items (Some c.in-Some.pass) c.in-Some.ensures.items c.in-Ok.ensures.passes.each in
    ((refl, tt), (workload, passes.1))
