use Rattle.std.proofs.Common.{◌≡◌, ◌≤◌, [], vec_len, vec_capacity, length}
use Rattle.std.specs.List.{All}
use Rattle.abt_booth.specs.Rule.{keeping}
use Rattle.abt_booth.specs.Seats.{opening_of, seen_of, IsSeatOf, AreInOrder}
use Rattle.abt_booth.proofs.booth.Booth.deal.Given as goal

abbrev pub invariant-loop-i : goal.invariant-loop-i
invariant-loop-i g l = record {
  table : l.first.table_id ≡ l.fn.self.table.shared.table_id;
  left : l.first.me ≡ (keeping (opening_of l.fn.self) l.i l.fn.seats, []);
  many : length l.room.items ≡ l.i;
  len : vec_len l.room ≡ l.i;
  roomy : l.fn.seats ≤ vec_capacity l.room;
  each : All (IsSeatOf l.fn.self) l.room.items;
  in_order : AreInOrder l.room.items;
  fresh : All (λ s. seen_of s ≡ []) l.room.items;
}
