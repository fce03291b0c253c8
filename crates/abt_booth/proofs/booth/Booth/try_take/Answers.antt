use Rattle.std.proofs.Common.{rules}
use Rattle.abt_booth.proofs.Keeps.{takes-turn}
use Rattle.abt_booth.proofs.booth.Booth.try_take.Goals as goal

pub compare_exchange-requires : goal.compare_exchange-requires
compare_exchange-requires g c = (
  search rules,
  search rules,
  takes-turn g.O.Object.does c.args.self.now.table.shared.key.object.value c.args.self.now.table.shared.key.seats c.args.self.now.table.shared.table_id.slots c.args.seat.now.id c.args.seat.now.me c.peek-found.result c.if-found-eq0.true (search rules),
)
