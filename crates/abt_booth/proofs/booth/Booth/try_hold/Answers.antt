use Rattle.std.proofs.Common.{ap, ◌∙◌}
use Rattle.abt_booth.specs.Holders.{HasTurn, IsHolderOf}
use Rattle.abt_booth.proofs.booth.Booth.try_hold.Goals as goal

pub returns-clause-turn : goal.returns-clause-turn
unfolding HasTurn IsHolderOf
returns-clause-turn g c taken =
    let begun = c.try_begin.ensures in
    let its = c.requires.holder in
    ((begun.same.0 ∙ its.0, ap (λ v. v.opening) (begun.view taken) ∙ its.1), begun.turn taken)
