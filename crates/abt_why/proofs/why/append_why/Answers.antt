use Rattle.std.proofs.Common.{◌≡◌, ◌++◌}
use Rattle.std.proofs.lemmas.Result.{IfOk-weaker}
use Rattle.abt_machine.specs.State.{State}
use Rattle.abt_why.specs.Texts.{why_text}
use Rattle.abt_why.proofs.Following.{of-last}
use Rattle.abt_why.proofs.why.append_why.Goals as goal

pub returns : goal.returns
returns g c =
    let W = c.args.w.now in
    let Is : State → Type 0 = λ S. c.append_held.new.out.items ≡ c.args.out.now.items ++ why_text W S in
    IfOk-weaker c.append_held.result _ _ (λ _ text. of-last W _ c.args.journal.now c.in_ok-model.model Is c.in_ok-model.ensures text) c.append_held.ensures
