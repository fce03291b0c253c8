-- A stream with its pass may go to another thread, with what came of it.
use denote.RattleType.{RattleType}
use denote.Param.Send.{IsSend, IsSync, sendable}
use denote.Ref.{NamedLft}
use denote.Param.Members.{Shared}
use denote.Param.Object.{Ghosts, Vt, table_of}
use denote.Param.Table.{Table}
use mir.Syntax.{Dict, Slots}
use denote.Param.Sent.{Syncs}
use denote.Struct.Field.{u32-field, u64-field}
use Rattle.std.proofs.Crossing.{Box-send, crosses, dyn_box_sync}
use Rattle.abt_machine.specs.contracts.events.Code as Code
use Rattle.abt_machine.specs.contracts.events.Event as Event
use Rattle.abt_machine.specs.contracts.events.What as What
use Rattle.abt_unit.specs.contracts.unit.Unit as Unit
use Rattle.abt_unit.proofs.Crosses.{Unit-send}
use Rattle.abt_chain.proofs.Crosses.{Chain-send}
use Rattle.abt_order.specs.contracts.rounds.Scheduler as Scheduler
use Rattle.abt_order.specs.contracts.stored.StoredOrder as StoredOrder
use Rattle.abt_record.specs.contracts.record.Record as Record
use Rattle.abt_stream.specs.contracts.parts.Frame as Frame
use Rattle.abt_stream.specs.contracts.stream.Stream as Stream
use Rattle.abt_waves.specs.contracts.locks.StoredOrders as StoredOrders
use Rattle.abt_waves.specs.contracts.voyages.Job as Job
use Rattle.abt_waves.specs.contracts.voyages.Returned as Returned

-- An event, from what it is made of, since one search for all of it is too long.
Code-send : IsSend (Code.the_field).row
Code-send = search sendable depth 60 fits 20000

What-send : IsSend (What.the_field).row
What-send = search (sendable, Code-send) depth 60 fits 20000

Event-send : IsSend Event.the_row
Event-send = search (sendable, What-send) depth 60 fits 20000

Record-send : IsSend Record.the_row
Record-send = search (sendable, crosses, Event-send) depth 60 fits 20000

Scheduler-send : IsSend Scheduler.the_row
Scheduler-send = search (sendable, crosses) depth 60 fits 20000

Frame-send : IsSend Frame.the_row
Frame-send = search (sendable, Scheduler-send) depth 30

Stream-send : IsSend Stream.the_row
Stream-send = let box = Box-send Unit.the_row Unit-send in search (sendable, crosses, Record-send, Frame-send, Chain-send) depth 60 fits 20000

-- What goes to a thread, and what comes back.

pub Job-send : (a : NamedLft) (C X : RattleType) → IsSync C → IsSend X → IsSend (Job.the_row a C X)
Job-send a C X shared own = search (sendable, Stream-send) depth 30

pub Returned-send : (X : RattleType) → IsSend X → IsSend (Returned.the_row X)
Returned-send X own = search (sendable, Stream-send) depth 30

-- Stored orders may be shared by threads, as their functions may.
module _ (D : RattleType) (own : Ghosts D.Denot) (f : Shared ((x : D.Denot) × (own.1.0 x).0.Denot) (u64-field.Value × (u32-field.Value × (u32-field.Value × Unit {0}))) u32-field.Value) where
  StoredOrder-sync : Syncs (table_of D.Denot own) → IsSync D → IsSync (StoredOrder.the_row D own f)
  StoredOrder-sync all d = let box = dyn_box_sync D own all d in search sendable depth 30

  pub StoredOrders-sync : (a : NamedLft) → Syncs (table_of D.Denot own) → IsSync D → IsSync (StoredOrders.the_row a D own f)
  StoredOrders-sync a all d = let order = StoredOrder-sync all d in search sendable depth 30

-- What names the function of a stored order may be.
pub vtable-sync : {G : Type 0 → Type 1} (slots : Dict → Slots) (T : Table G Dict) → IsSync (Vt slots T)
vtable-sync slots T = search sendable depth 20
