-- If the object may go to another thread, so may a seat, a holder and a booth, and a booth may be shared.
use denote.RattleType.{RattleType}
use denote.Struct.Declared.{shape}
use denote.Param.Send.{IsSend, IsSync, recorded_sync, sendable, struct_sync}
use Rattle.std.proofs.sync.atomic.AtomicU64.TheSendSync as word
use Rattle.std.proofs.alloc.Global.TheSendSync as heap
use Rattle.std.proofs.Crossing.{frees}
use Rattle.atomic_table.proofs.shared.Seat.TheSendSync as raw
use Rattle.atomic_table.proofs.shared.Shared.TheSendSync as shared
use Rattle.atomic_table.proofs.send_lease.SendLease.TheSendSync as lease
use Rattle.abt_booth.specs.declared.object.Object.{Ghosts}
use Rattle.abt_booth.specs.contracts.rule.Lot as Lot
use Rattle.abt_booth.specs.contracts.booth.Seat as Seat
use Rattle.abt_booth.specs.contracts.booth.Gathered as Gathered
use Rattle.abt_booth.specs.contracts.booth.Booth as Booth
use Rattle.abt_booth.specs.contracts.holder.Holder as Holder

Lot-send : (O A R : RattleType) → IsSend O → IsSend (Lot.the_row O A R)
Lot-send O A R s = search sendable depth 20

module _ (O A R : RattleType) (g : Ghosts O.Denot A.Denot R.Denot) where
  pub Seat-send : IsSend O → IsSend (Seat.the_row O A R g)
  Seat-send s = search (sendable, raw.the_send, Lot-send) depth 20

  pub Gathered-send : IsSend O → IsSend (Gathered.the_row O A R g)
  Gathered-send s = search (sendable, raw.the_send, Lot-send) depth 20

  pub Booth-send : IsSend O → IsSend (Booth.the_row O A R g)
  Booth-send s = search (sendable, shared.the_send, lease.the_send, word.the_send, heap.the_send, frees, Lot-send) depth 40

  pub Holder-send : IsSend O → IsSend (Holder.the_row O A R g)
  Holder-send s = search (sendable, raw.the_send, Lot-send) depth 20

  -- the same, as a field of another struct
  pub Seat-field-send : IsSend O → IsSend (Seat.the_field O A R g).row
  Seat-field-send s = search (sendable, raw.the_send, Lot-send) depth 20

  pub Holder-field-send : IsSend O → IsSend (Holder.the_field O A R g).row
  Holder-field-send s = search (sendable, raw.the_send, Lot-send) depth 20

  pub Gathered-field-send : IsSend O → IsSend (Gathered.the_field O A R g).row
  Gathered-field-send s = search (sendable, raw.the_send, Lot-send) depth 20

  pub Booth-field-send : IsSend O → IsSend (Booth.the_field O A R g).row
  Booth-field-send s = search (sendable, shared.the_send, lease.the_send, word.the_send, heap.the_send, frees, Lot-send) depth 40

  pub Booth-field-sync : IsSend O → IsSync (Booth.the_field O A R g).row
  Booth-field-sync s = search (sendable, shared.the_sync, lease.the_sync, word.the_sync, heap.the_sync, heap.the_send, frees, Lot-send) depth 40

  pub Booth-sync : IsSend O → IsSync (Booth.the_row O A R g)
  Booth-sync s =
      recorded_sync _ _ _ (Booth.the_type O A R g).to_one
      (struct_sync (shape (Booth.the_type O A R g)) (search (sendable, shared.the_sync, lease.the_sync, heap.the_sync, heap.the_send, frees, Lot-send) depth 20, (word.the_sync, tt)))

-- all of these, for `search`
pub ruleset booth_crosses = (Seat-send, Gathered-send, Holder-send, Booth-send, Booth-sync, Seat-field-send, Gathered-field-send, Holder-field-send, Booth-field-send, Booth-field-sync)
