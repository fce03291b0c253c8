use Rattle.std.proofs.Common.{sym, subst}
use Rattle.std.specs.List.{All}
use Rattle.abt_outcomes.specs.Values.{IsIdle}
use Rattle.abt_model.specs.Models.{ModelValue, StandsFor}
use Rattle.abt_model.proofs.Ending.{quiet-shown}
use Rattle.abt_model.proofs.model.Model.is_quiet.Goals as goal

pub returns : goal.returns
returns c S stands =
    let W = c.args.w.now in
    let model : ModelValue = record { lanes = c.self.inside.lanes.items; objects = c.self.inside.objects } in
    let here : StandsFor W S model = subst (StandsFor W S) (sym c.self.view_is) stands in
    let idle : All IsIdle c.self.inside.lanes.items = subst (All IsIdle) c.deref.ensures.value (c.are_idle.ensures.0 c.if-not-are_idle.false) in
    let shown = quiet-shown W S model here c.known.ensures in (
      λ yes. shown.0 (idle, c.are_empty.ensures.0 yes),
      λ quiet. c.are_empty.ensures.1 (shown.1 quiet).1,
    )
