use Rattle.std.proofs.Common.{◌∙◌, ◌++◌, ap}
use Rattle.std.proofs.lemmas.Result.{IfOk-weaker}
use Rattle.abt_model.specs.Models.{ModelValue}
use Rattle.abt_why.specs.Held.{waits_held}
use Rattle.abt_why.specs.Texts.{text_of_waits}
use Rattle.abt_why.proofs.Holding.{shown-right, waits-right}
use Rattle.abt_why.proofs.why.append_held.Goals as goal

pub returns : goal.returns
returns c =
    let W = c.args.w.now in
    let model : ModelValue = c.args.model.now in
    let picture = c.in_ok-picture.picture in
    IfOk-weaker c.append_waits.result _ _ (λ _ text Z S sound stands.
    text ∙ ap (λ waits. c.args.out.now.items ++ text_of_waits waits)
    (c.deref.ensures.value ∙ c.in_ok-waits.ensures ∙ ap (λ rows. waits_held W c.slots.result.now rows) c.items.ensures
    ∙ ap (λ slots. waits_held W slots picture) (c.slots.ensures ∙ ap (λ objects. objects.slots) c.objects.ensures)
    ∙ waits-right W S picture (λ v. shown-right W S picture Z v sound (c.in_ok-picture.ensures.shown Z S sound stands)) model stands)) c.append_waits.ensures
