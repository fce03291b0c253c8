-- The pass is seen as before.
use Rattle.abt_commons.proofs.SameVec.{same-vec}
use Rattle.abt_commons.proofs.split.Split.rest_at.Goals as goal

pub returns-then-number-len : goal.returns-then-number-len
returns-then-number-len g c =
    let pass = c.args.pass.now in
    let same = same-vec pass.turns c.args.number c.index_mut.result.now c.rest.new.self c.index_mut.ensures.value c.rest.ensures in
    record { same = λ i. record pass { turns = same i } }
