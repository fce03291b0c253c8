use Rattle.abt_view.proofs.Beginning.{same-ways}
use Rattle.abt_view.proofs.arrows.Ways.start.Goals as goal

pub returns : goal.returns
returns c = same-ways _ _ _ _ _ _ (rw c.stream_limit.ensures at c.in_ok-no_senders.ensures) c.in_ok-no_arrows.ensures c.new.ensures.items
