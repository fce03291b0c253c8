use Rattle.std.proofs.Common.{sym, subst}
use Rattle.abt_model.specs.Models.{ModelValue, StandsFor}
use Rattle.abt_model.proofs.Ending.{ended-shown}
use Rattle.abt_model.proofs.model.Model.has_ended.Goals as goal

pub returns : goal.returns
returns c Z S sound stands =
    let W = c.args.w.now in
    let model : ModelValue = record { lanes = c.self.inside.lanes.items; objects = c.self.inside.objects } in
    let here : StandsFor W S model = subst (StandsFor W S) (sym c.self.view_is) stands in
    let shown = ended-shown W S model here Z sound in
    (λ yes. shown.0 (c.are_over.ensures.0 yes), λ ended. c.are_over.ensures.1 (shown.1 ended))
