-- The pass is seen as before.
use Rattle.std.proofs.Common.{◌∙◌}
use Rattle.abt_commons.proofs.SameVec.{same-vec}
use Rattle.abt_commons.proofs.split.Split.settle_at.Goals as goal

pub returns : goal.returns
returns g c =
    let pass = c.may_keep.new.pass in
    let same = same-vec pass.turns c.args.number c.index_mut.result.now c.rest.new.self c.index_mut.ensures.value c.rest.ensures in
    record { same = (λ i. record pass { turns = same i }) ∙ c.may_keep.ensures.same }
