-- A unit may go to another thread, with the units behind it, and the workload that it steps by may be shared with that thread.
use denote.RattleType.{RattleType}
use denote.Param.Send.{IsSend, IsSync, sendable}
use denote.Param.SendFields.{as_row_send}
use Rattle.std.proofs.Crossing.{Arc-sync, Box-send, Vec-send, Vec-sync, crosses}
use Rattle.abt_machine.specs.contracts.items.Items as Items
use Rattle.abt_machine.specs.contracts.operations.Body as Body
use Rattle.abt_machine.specs.contracts.operations.Calc as Calc
use Rattle.abt_machine.specs.contracts.operations.Op as Op
use Rattle.abt_machine.specs.contracts.ops.Ops as Ops
use Rattle.abt_machine.specs.contracts.workload.Parts as Parts
use Rattle.abt_machine.specs.contracts.workload.SchedPart as SchedPart
use Rattle.abt_machine.specs.contracts.workload.UnitPart as UnitPart
use Rattle.abt_machine.specs.contracts.workload.Workload as Workload
use Rattle.abt_unit.specs.contracts.unit.UnitBody as UnitBody
use Rattle.abt_unit.specs.contracts.unit.Unit as Unit
use Rattle.abt_unit.proofs.unit.Unit.TheLaws.TheKnot.{send-Unit}

UnitBody-send : IsSend UnitBody.the_row
UnitBody-send = search (sendable, crosses) depth 90 fits 20000

-- Of one layer of units, if those that it links are so.
pub Unit-send : IsSend Unit.the_row
Unit-send = send-Unit (as_row_send UnitBody.the_field UnitBody-send) (λ h s. let box = Box-send h s in search sendable depth 20)

-- The workload's parts, from those within, since one search for all of them is too long.
Calc-sync : IsSync (Calc.the_field).row
Calc-sync = search sendable depth 30

Calc-send : IsSend (Calc.the_field).row
Calc-send = search sendable depth 30

Op-sync : IsSync Op.the_row
Op-sync = search (sendable, Calc-sync) depth 90 fits 20000

Op-send : IsSend Op.the_row
Op-send = search (sendable, Calc-send) depth 90 fits 20000

Ops-sync : IsSync Ops.the_row
Ops-sync = search (sendable, Vec-send, Vec-sync, Arc-sync, Op-send, Op-sync) depth 30

Items-sync : (T : RattleType) → IsSync T → IsSync (Items.the_row T)
Items-sync T s = search (sendable, Vec-sync) depth 30

Body-sync : IsSync (Body.the_field).row
Body-sync = search (sendable, Ops-sync) depth 30

UnitPart-sync : IsSync UnitPart.the_row
UnitPart-sync = search (sendable, Body-sync) depth 30

SchedPart-sync : IsSync SchedPart.the_row
SchedPart-sync = search (sendable, Items-sync) depth 30

Parts-sync : IsSync (Parts.the_field).row
Parts-sync = search (sendable, crosses, Items-sync, UnitPart-sync, SchedPart-sync) depth 90 fits 20000

pub Workload-sync : IsSync Workload.the_row
Workload-sync = search (sendable, Vec-sync, Parts-sync) depth 30
