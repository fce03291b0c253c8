-- The bytes as which values are written. A number below 254 is one byte, and any other that 64 bits hold is 254 and eight bytes, the lowest first;
-- a list has its length before it, and a choice among several forms a byte that tells which.
use Rattle.std.specs.Prelude.{ℕ, ◌≡◌, ◌^◌, ◌++◌, if◌then◌else◌, nat_lt, Bool, true, false, List, [], ◌∷◌, length, reverse, Option, Some, None}
use Rattle.std.specs.Int.{to_le_bytes, w64}
use Rattle.std.specs.List.{flat_map}
use Rattle.abt_machine.specs.declared.events.Cause.{Cause}
use Rattle.abt_machine.specs.declared.events.Cause.TheVariants as cause
use Rattle.abt_machine.specs.declared.events.Code.{Code}
use Rattle.abt_machine.specs.declared.events.Code.TheVariants as code
use Rattle.abt_machine.specs.declared.events.Piece.{Piece}
use Rattle.abt_machine.specs.declared.events.Piece.TheVariants as piece
use Rattle.abt_machine.specs.declared.events.Wish.{Wish}
use Rattle.abt_machine.specs.declared.events.Wish.TheVariants as wish
use Rattle.abt_machine.specs.declared.operations.Combine.{Combine}
use Rattle.abt_machine.specs.declared.operations.Combine.TheVariants as combine
use Rattle.abt_machine.specs.declared.operations.Kind.{Kind}
use Rattle.abt_machine.specs.declared.operations.Kind.TheVariants as kind
use Rattle.abt_machine.specs.State.{Carried, Frame, Mark, Plain, Asked, Left, Exited, Stream}
use Rattle.abt_machine.specs.Values.{Owned, Held, PoolValue, Phase, Unborn, Out, Suspended, Ended, DeskValue, MonitorValue, EventualValue, FutureValue, BarrierValue, RwLockValue}
use Rattle.abt_machine.specs.Values.{Object, PoolIs, DeskIs, MonitorIs, EventualIs, FutureIs, BarrierIs, RwLockIs, NotHere}
use Rattle.abt_replay.specs.Objects.{ObjectsValue}

-- what is written tells the value, and where it ends: two texts that begin with the keys of two values are the same only if
-- the values are the same, and what follows is too
pub record IsPrefixCode {A : Type 0} (key : A → List ℕ) : Type 0 where
  pub tells : (a b : A) (xs ys : List ℕ) → key a ++ xs ≡ key b ++ ys → (a ≡ b) × (xs ≡ ys)

-- Numbers, lists and options.

-- a number that is no byte of its own; what 64 bits do not hold is never written, and stands whole
abbrev pub long_key : ℕ → List ℕ
long_key n = if nat_lt n (2 ^ 64) then 254 ∷ to_le_bytes w64 n else 255 ∷ n ∷ []

-- a number: itself if it is below 254
unfoldable pub number_key : ℕ → List ℕ
number_key n = if nat_lt n 254 then n ∷ [] else long_key n

-- whether there is a value, and then the value
abbrev pub option_key : {A : Type 0} → (A → List ℕ) → Option A → List ℕ
option_key key None = 0 ∷ []
option_key key (Some a) = 1 ∷ key a

-- how many there are, and then each in order
unfoldable pub list_key : {A : Type 0} → (A → List ℕ) → List A → List ℕ
list_key key items = number_key (length items) ++ flat_map key items

-- Choices without parts.

-- which form it is
abbrev pub tag_key : {A : Type 0} → (A → ℕ) → A → List ℕ
tag_key tag a = tag a ∷ []

abbrev pub bool_tag : Bool → ℕ
bool_tag false = 0
bool_tag true = 1

abbrev pub code_tag : Code → ℕ
code_tag code.Ok = 0
code_tag code.PoolAccess = 1
code_tag code.Exists = 2
code_tag code.UnitState = 3
code_tag code.NotMigratable = 4
code_tag code.Absent = 5
code_tag code.MutexLocked = 6
code_tag code.NotOwner = 7
code_tag code.EventualSet = 8
code_tag code.FutureFull = 9
code_tag code.RwHeld = 10
code_tag code.RwFull = 11
code_tag code.NotHolder = 12

abbrev pub cause_tag : Cause → ℕ
cause_tag cause.Done = 0
cause_tag cause.Asked = 1
cause_tag cause.Access = 2
cause_tag cause.Own = 3

abbrev pub wish_tag : Wish → ℕ
wish_tag wish.Read = 0
wish_tag wish.Write = 1

abbrev pub kind_tag : Kind → ℕ
kind_tag kind.Fifo = 0
kind_tag kind.Deque = 1

abbrev pub combine_tag : Combine → ℕ
combine_tag combine.Sum = 0
combine_tag combine.Max = 1
combine_tag combine.Count = 2

abbrev pub mark_tag : Mark → ℕ
mark_tag Plain = 0
mark_tag Asked = 1
mark_tag Left = 2
mark_tag Exited = 3

-- Units.

-- what a unit has printed
abbrev pub piece_key : Piece → List ℕ
piece_key (piece.Said word) = 0 ∷ number_key word
piece_key (piece.Number n) = 1 ∷ number_key n
piece_key (piece.Refused c) = 2 ∷ tag_key code_tag c

-- what a unit carries
abbrev pub carried_key : Carried → List ℕ
carried_key c = number_key c.position ++ number_key c.acc ++ list_key number_key c.keys ++ number_key c.home ++ list_key piece_key c.output

-- a unit: its number, and what it carries
abbrev pub unit_key : Owned → List ℕ
unit_key o = number_key o.number ++ carried_key o.carried

-- Streams.

-- a scheduler that runs
unfoldable pub frame_key : Frame → List ℕ
frame_key f = number_key f.sched ++ number_key f.round ++ list_key number_key f.seen ++ tag_key bool_tag f.empty

-- the mark and the frames: the top one, and then those below it, the main scheduler's first
unfoldable pub stream_key : Stream → List ℕ
stream_key own = tag_key mark_tag own.mark ++ frame_key own.top ++ list_key frame_key (reverse own.below)

-- what a stream holds
abbrev pub lane_key : Held → List ℕ
lane_key h = stream_key h.own ++ option_key unit_key h.hand ++ option_key unit_key h.next ++ list_key unit_key h.tray ++ list_key unit_key h.framed

-- Objects.

abbrev pub pool_key : PoolValue → List ℕ
pool_key p = tag_key kind_tag p.kind ++ list_key unit_key p.units

-- where a desk's own unit is
abbrev pub phase_key : Phase → List ℕ
phase_key (Unborn o) = 0 ∷ unit_key o
phase_key Out = 1 ∷ []
phase_key (Suspended o) = 2 ∷ unit_key o
phase_key (Ended o c) = 3 ∷ (unit_key o ++ tag_key cause_tag c)

abbrev pub desk_key : DeskValue → List ℕ
desk_key d =
    number_key d.number ++ tag_key bool_tag d.sched ++ phase_key d.phase ++ list_key unit_key d.joiners ++ tag_key bool_tag d.cancel ++ option_key number_key d.migrate
    ++ tag_key bool_tag d.migratable

abbrev pub monitor_key : MonitorValue → List ℕ
monitor_key m = option_key number_key m.owner ++ number_key m.number ++ list_key unit_key m.waiters ++ list_key (list_key unit_key) m.conds

abbrev pub eventual_key : EventualValue → List ℕ
eventual_key e = option_key number_key e.value ++ list_key unit_key e.waiters

abbrev pub future_key : FutureValue → List ℕ
future_key f = number_key f.size ++ tag_key combine_tag f.combine ++ number_key f.filled ++ number_key f.value ++ list_key unit_key f.waiters

abbrev pub barrier_key : BarrierValue → List ℕ
barrier_key b = number_key b.size ++ list_key unit_key b.waiters

abbrev pub rwlock_key : RwLockValue → List ℕ
rwlock_key l =
    option_key number_key l.lock.writer ++ list_key number_key l.lock.counts ++ list_key (tag_key wish_tag) l.lock.wishes ++ number_key l.lock.number
    ++ list_key unit_key l.waiters

-- which kind of object it is, and then the object
abbrev pub object_key : Object → List ℕ
object_key (PoolIs pool) = 0 ∷ pool_key pool
object_key (DeskIs desk) = 1 ∷ desk_key desk
object_key (MonitorIs monitor) = 2 ∷ monitor_key monitor
object_key (EventualIs eventual) = 3 ∷ eventual_key eventual
object_key (FutureIs future) = 4 ∷ future_key future
object_key (BarrierIs barrier) = 5 ∷ barrier_key barrier
object_key (RwLockIs lock) = 6 ∷ rwlock_key lock
object_key NotHere = 7 ∷ []

-- all pools, all desks and all declared objects, each in order of number
abbrev pub objects_key : ObjectsValue → List ℕ
objects_key o = list_key pool_key o.pools ++ list_key desk_key o.desks ++ list_key object_key o.slots
