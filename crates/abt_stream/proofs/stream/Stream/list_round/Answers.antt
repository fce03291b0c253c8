use Rattle.std.proofs.Common.{rules}
use Rattle.abt_order.specs.Schedulers.{pool_numbers}
use Rattle.abt_stream.proofs.Rounding.{answered-same}
use Rattle.abt_stream.proofs.stream.Stream.list_round.Goals as goal

pub returns-clause-answered : goal.returns-clause-answered
returns-clause-answered g c =
    answered-same c.args.orders.now c.args.w.now _ c.args.self.now.top.scheduler.number _ c.args.self.now.top.scheduler.round (pool_numbers c.round_into.new.order.items) (search rules) (search rules)
    c.in_ok-round_into.ensures.asked
