-- Objects may go to another thread, and so may the passes of a hall and of a split, which may be shared with it.
use denote.RattleType.{RattleType}
use denote.Param.Send.{IsSend, IsSync, sendable}
use denote.Param.SendFields.{as_row_sync}
use denote.Ref.{NamedLft}
use Rattle.std.proofs.Crossing.{Box-send, Box-sync, Vec-send, Vec-sync, crosses}
use Rattle.abt_unit.specs.contracts.unit.UnitBody as UnitBody
use Rattle.abt_unit.specs.contracts.unit.Unit as Unit
use Rattle.abt_unit.proofs.unit.Unit.TheLaws.TheKnot.{sync-Unit}
use Rattle.abt_unit.proofs.Crosses.{Unit-send, Workload-sync}
use Rattle.abt_chain.specs.contracts.chain.Chain as Chain
use Rattle.abt_chain.proofs.Crosses.{Chain-send}
use Rattle.abt_booth.proofs.Crosses.{Booth-field-sync, Booth-sync, Holder-field-send, Seat-send}
use Rattle.abt_commons.specs.contracts.acts.Act as Act
use Rattle.abt_commons.specs.contracts.acts.Answer as Answer
use Rattle.abt_commons.specs.contracts.shared.Shared as Shared
use Rattle.abt_commons.specs.contracts.one.One as One
use Rattle.abt_commons.specs.contracts.one.OneObject.TheImpl as OneObject
use Rattle.abt_commons.specs.contracts.objects.Objects as Objects
use Rattle.abt_commons.specs.contracts.hall.Hall as Hall
use Rattle.abt_commons.specs.contracts.hall.ObjectsObject.TheImpl as ObjectsObject
use Rattle.abt_commons.specs.contracts.acts.Ask as Ask
use Rattle.abt_commons.specs.contracts.split.Split as Split
use Rattle.abt_commons.specs.contracts.split.SplitPass as SplitPass
use Rattle.abt_commons.specs.contracts.turn.Turn as Turn
use Rattle.abt_commons.specs.contracts.owners.Owner as Owner
use Rattle.abt_booth.specs.contracts.booth.Seat as Seat
use Rattle.std.proofs.sync.atomic.AtomicU64.TheSendSync as word

UnitBody-sync : IsSync UnitBody.the_row
UnitBody-sync = search (sendable, crosses) depth 90 fits 20000

Unit-sync : IsSync Unit.the_row
Unit-sync = sync-Unit (as_row_sync UnitBody.the_field UnitBody-sync) (λ h s. let box = Box-sync h s in search sendable depth 20)

Chain-sync : IsSync Chain.the_row
Chain-sync = let box = Box-sync Unit.the_row Unit-sync in search sendable depth 30

-- An object of any kind.

Shared-send : IsSend Shared.the_row
Shared-send = search (sendable, crosses, Chain-send, Unit-send) depth 60 fits 20000

Shared-sync : IsSync Shared.the_row
Shared-sync = search (sendable, crosses, Vec-sync, Chain-sync, Unit-sync) depth 60 fits 20000

pub One-send : (a : NamedLft) → IsSend (One.the_row a)
One-send a = let shared = Box-send Shared.the_row Shared-send in search (sendable, Workload-sync) depth 30

pub One-sync : (a : NamedLft) → IsSync (One.the_row a)
One-sync a = let shared = Box-sync Shared.the_row Shared-sync in search (sendable, Workload-sync) depth 30

pub Objects-send : (a : NamedLft) → IsSend (Objects.the_row a)
Objects-send a = search (sendable, crosses, Workload-sync, One-send) depth 30

-- Locks round them.

pub HallPass-send : (a : NamedLft) → IsSend (Seat.the_row (Objects.the_row a) Ask.the_row Answer.the_row ObjectsObject.ghosts)
HallPass-send a = Seat-send (Objects.the_row a) Ask.the_row Answer.the_row ObjectsObject.ghosts (Objects-send a)

pub Hall-sync : (a : NamedLft) (R : RattleType) → IsSync R → IsSync (Hall.the_row a R)
Hall-sync a R s =
    let booth = Booth-field-sync (Objects.the_row a) Ask.the_row Answer.the_row ObjectsObject.ghosts (Objects-send a) in
    search sendable depth 30

Turn-send : (a : NamedLft) → IsSend (Turn.the_row a)
Turn-send a =
    let holder = Holder-field-send (One.the_row a) Act.the_row Answer.the_row OneObject.ghosts (One-send a) in
    search (sendable, crosses) depth 30

pub SplitPass-send : (a : NamedLft) → IsSend (SplitPass.the_row a)
SplitPass-send a =
    let turns = Vec-send (Turn.the_row a) (Turn-send a) in
    search (sendable, crosses) depth 30

-- the same, as a field of another struct
pub SplitPass-field-send : (a : NamedLft) → IsSend (SplitPass.the_field a).row
SplitPass-field-send a =
    let turns = Vec-send (Turn.the_row a) (Turn-send a) in
    search (sendable, crosses) depth 30

Owner-sync : IsSync Owner.the_row
Owner-sync = search (sendable, word.the_sync) depth 20

pub Split-sync : (a : NamedLft) (R : RattleType) → IsSync R → IsSync (Split.the_row a R)
Split-sync a R s =
    let booth = Booth-sync (One.the_row a) Act.the_row Answer.the_row OneObject.ghosts (One-send a) in
    search (sendable, crosses, Vec-sync, Workload-sync, One-sync, Owner-sync, word.the_sync) depth 40

-- all of these of passes and locks, for `search`
pub ruleset commons_crosses = (Objects-send, HallPass-send, Hall-sync, SplitPass-send, SplitPass-field-send, Split-sync)
