-- Two orders are stored.
use Rattle.std.proofs.Common.{◌<◌, sym, subst}
use Rattle.trials_runs.proofs.turns.events.Goals as goal

pub drive-requires-clause-stored : goal.drive-requires-clause-stored
drive-requires-clause-stored g c = λ h k is. subst (λ n. k < n) (sym c.type_inv.orders) (c.check_orders.ensures h k is)
