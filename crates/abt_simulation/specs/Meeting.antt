-- A workload that shows the laws at work: two streams share a pool, and their two units meet at a barrier.
use Rattle.std.specs.Prelude.{ℕ, zero, suc, true, false, List, [], ◌∷◌, Some, None}
use Rattle.abt_machine.specs.declared.events.Cause.TheVariants as cause
use Rattle.abt_machine.specs.declared.events.Code.TheVariants as code
use Rattle.abt_machine.specs.declared.events.Event.{Event}
use Rattle.abt_machine.specs.declared.events.Site.{Site}
use Rattle.abt_machine.specs.declared.events.Site.TheVariants as site
use Rattle.abt_machine.specs.declared.events.What.{What}
use Rattle.abt_machine.specs.declared.events.What.TheVariants as what
use Rattle.abt_machine.specs.declared.operations.Body.TheVariants as body
use Rattle.abt_machine.specs.declared.operations.Kind.TheVariants as kind
use Rattle.abt_machine.specs.declared.operations.Op.TheVariants as op
use Rattle.abt_machine.specs.Stored.{Stored}
use Rattle.abt_machine.specs.declared.operations.Side.TheVariants as side
use Rattle.abt_machine.specs.declared.operations.Thing.TheVariants as thing
use Rattle.abt_machine.specs.declared.workload.Parts.{Parts}
use Rattle.abt_machine.specs.Numbers.{stream_no, pool_no, unit_no, object_no}
use Rattle.abt_machine.specs.Valid.{IsValid}
use Rattle.abt_machine.specs.Rounds.{OrdersStored}
use Rattle.abt_machine.specs.State.{Plain}
use Rattle.abt_machine.specs.Frames.{frame_at}
use Rattle.abt_machine.specs.Start.{start}
use Rattle.abt_machine.specs.Sound.{Sound}
use Rattle.abt_machine.specs.Stamps.{Lamport}
use Rattle.abt_machine.specs.Runs.{Run}
use Rattle.abt_machine.specs.Values.{Owned, Held, Ended, Object, PoolIs, DeskIs, BarrierIs, part_of, object_of}
use Rattle.abt_machine.specs.Acts as act
use Rattle.abt_machine.specs.Acts.{Act, Answer, moved}
use Rattle.abt_interleave.specs.Machines.{Gathered}
use Rattle.abt_interleave.specs.Stamps.{AllTimed}
use Rattle.abt_laws.specs.TwoStreams.{sharing}
use Rattle.abt_simulation.specs.Merging.{machine_of, StreamDeed, SiteEntry, IsJournalOf, LeadsTo}

-- two streams with a scheduler each, one pool for both, one barrier for two, and two units that go there
abbrev pub meeting : Parts
meeting = sharing (thing.Barrier 2 ∷ []) (record { body = body.Ult (op.BarWait (object_no 0) ∷ []); start = Some (pool_no 0) } ∷ record { body = body.Ult (op.BarWait (object_no 0) ∷ []); start = Some (pool_no 0) } ∷ [])

-- no order is stored, and no function
abbrev pub no_orders : Stored
no_orders = record { orders = []; returns = λ f u a ks. None }

-- a unit that has done nothing yet
abbrev pub fresh : ℕ → Owned
fresh u = record { number = u; carried = record { position = 0; acc = 0; keys = []; home = 0; output = [] } }

-- the one pool
abbrev pub pool : Site
pool = site.Pool (pool_no 0)

-- the desk of unit u
abbrev pub desk : ℕ → Site
desk u = site.Desk (unit_no u)

-- the one barrier
abbrev pub barrier : Site
barrier = site.Barrier (object_no 0)

-- What the streams do: stream 0 brings its unit to the barrier and waits; stream 1 comes, and its unit goes through and wakes the other.

-- a deed with a call
abbrev pub deed : ℕ → ℕ → What → Site → Act → Answer → StreamDeed
deed stamp stream w x asked answer = record { stamp = stamp; stream = stream; what = w; heard = Some (x, asked, answer) }

-- the stream takes this unit from the pool
abbrev pub takes : ℕ → ℕ → Owned → StreamDeed
takes stamp s o = deed stamp s (what.Take (pool_no 0) (unit_no o.number)) pool (act.Take side.Front) (act.Given o)

-- it looks at unit u, of which nothing is asked
abbrev pub looks : ℕ → ℕ → ℕ → StreamDeed
looks stamp s u = deed stamp s (what.Look (unit_no u)) (desk u) act.Look (act.Asks false None)

-- unit u arrives at the barrier
abbrev pub arrives : ℕ → ℕ → ℕ → Answer → StreamDeed
arrives stamp s u answer = deed stamp s (what.Step (unit_no u) 0 code.Ok) barrier (act.Arrive (moved (fresh u))) answer

-- the stream puts this unit into the pool
abbrev pub puts : ℕ → ℕ → Owned → StreamDeed
puts stamp s o = deed stamp s (what.Put (unit_no o.number) (pool_no 0)) pool (act.Put o) act.Rested

-- this unit has done all, and nobody joins it
abbrev pub ends : ℕ → ℕ → Owned → StreamDeed
ends stamp s o = deed stamp s (what.End (unit_no o.number) cause.Done) (desk o.number) (act.End o cause.Done) (act.Woke [])

-- stream 0 waits with its unit until the other has come, and takes it again
abbrev pub logs : ℕ → List StreamDeed
logs zero = takes 1 0 (fresh 0) ∷ looks 2 0 0 ∷ arrives 3 0 0 act.Rested ∷ takes 6 0 (moved (fresh 0)) ∷ looks 7 0 0 ∷ ends 8 0 (moved (fresh 0)) ∷ []
logs (suc zero) = takes 2 1 (fresh 1) ∷ looks 3 1 1 ∷ arrives 4 1 1 (act.Through (moved (fresh 1)) (moved (fresh 0) ∷ [])) ∷ puts 5 1 (moved (fresh 0)) ∷ ends 6 1 (moved (fresh 1)) ∷ []
logs (suc (suc s)) = []

-- What the objects see.

-- an entry of a history
abbrev pub entry : ℕ → ℕ → Act → Answer → SiteEntry
entry stamp s asked answer = record { stamp = stamp; caller = s; act = asked; answer = answer }

-- the pool answers with both units, and the first one again
abbrev pub pool_history : ℕ → List SiteEntry
pool_history zero =
    entry 1 0 (act.Take side.Front) (act.Given (fresh 0)) ∷ entry 2 1 (act.Take side.Front) (act.Given (fresh 1))
    ∷ entry 5 1 (act.Put (moved (fresh 0))) act.Rested ∷ entry 6 0 (act.Take side.Front) (act.Given (moved (fresh 0))) ∷ []
pool_history (suc p) = []

-- the desks are looked at, and get their units when these end
abbrev pub desk_history : ℕ → List SiteEntry
desk_history zero = entry 2 0 act.Look (act.Asks false None) ∷ entry 7 0 act.Look (act.Asks false None) ∷ entry 8 0 (act.End (moved (fresh 0)) cause.Done) (act.Woke []) ∷ []
desk_history (suc zero) = entry 3 1 act.Look (act.Asks false None) ∷ entry 6 1 (act.End (moved (fresh 1)) cause.Done) (act.Woke []) ∷ []
desk_history (suc (suc u)) = []

-- the barrier keeps the first unit until the second comes
abbrev pub barrier_history : ℕ → List SiteEntry
barrier_history zero = entry 3 0 (act.Arrive (moved (fresh 0))) act.Rested ∷ entry 4 1 (act.Arrive (moved (fresh 1))) (act.Through (moved (fresh 1)) (moved (fresh 0) ∷ [])) ∷ []
barrier_history (suc x) = []

-- nobody else is asked
abbrev pub histories : Site → List SiteEntry
histories (site.Pool p) = pool_history p.0
histories (site.Desk u) = desk_history u.0
histories (site.Barrier x) = barrier_history x.0
histories _ = []

-- The ends.

-- a stream with nothing in hand, in round r of scheduler g
abbrev pub idle : ℕ → ℕ → Held
idle g r = record { own = record { mark = Plain; top = frame_at g r false; below = [] }; hand = None; next = None; tray = []; framed = [] }

-- both streams are idle
abbrev pub parts : ℕ → Held
parts zero = idle 0 2
parts (suc s) = idle (suc s) 1

-- a desk with its unit, which has ended
abbrev pub desk_end : ℕ → Object
desk_end u = DeskIs (record { number = u; sched = false; phase = Ended (moved (fresh u)) cause.Done; joiners = []; cancel = false; migrate = None; migratable = true })

-- the pool is empty
abbrev pub pool_object : ℕ → Object
pool_object zero = PoolIs (record { kind = kind.Fifo; units = [] })
pool_object (suc p) = object_of meeting (start meeting) (site.Pool (pool_no (suc p)))

-- both units have ended
abbrev pub desk_object : ℕ → Object
desk_object zero = desk_end 0
desk_object (suc zero) = desk_end 1
desk_object (suc (suc u)) = object_of meeting (start meeting) (site.Desk (unit_no (suc (suc u))))

-- nobody waits
abbrev pub barrier_object : ℕ → Object
barrier_object zero = BarrierIs (record { size = 2; waiters = [] })
barrier_object (suc x) = object_of meeting (start meeting) (site.Barrier (object_no (suc x)))

-- the pool is empty, both units have ended, nobody waits, and all other objects are as they were
abbrev pub objects : Site → Object
objects (site.Pool p) = pool_object p.0
objects (site.Desk u) = desk_object u.0
objects (site.Barrier x) = barrier_object x.0
objects x = object_of meeting (start meeting) x

-- The journal.

-- an event of stream s
abbrev pub event : ℕ → ℕ → What → Event
event stamp s w = record { stamp = stamp; stream = stream_no s; what = w }

-- all events, by stamp and then by stream
abbrev pub journal : List Event
journal =
    event 1 0 (what.Take (pool_no 0) (unit_no 0))
    ∷ event 2 0 (what.Look (unit_no 0))
    ∷ event 2 1 (what.Take (pool_no 0) (unit_no 1))
    ∷ event 3 0 (what.Step (unit_no 0) 0 code.Ok)
    ∷ event 3 1 (what.Look (unit_no 1))
    ∷ event 4 1 (what.Step (unit_no 1) 0 code.Ok)
    ∷ event 5 1 (what.Put (unit_no 0) (pool_no 0))
    ∷ event 6 0 (what.Take (pool_no 0) (unit_no 0))
    ∷ event 6 1 (what.End (unit_no 1) cause.Done)
    ∷ event 7 0 (what.Look (unit_no 0))
    ∷ event 8 0 (what.End (unit_no 0) cause.Done)
    ∷ []

-- what the laws suppose holds here, and so does what they say: the merged run is the journal
pub record MeetingMerges : Type 0 where
  pub valid : IsValid meeting
  pub stored : OrdersStored meeting no_orders.orders
  pub sound : Sound meeting no_orders (start meeting)
  pub gathered : Gathered (machine_of meeting no_orders) (part_of meeting (start meeting)) (object_of meeting (start meeting)) logs histories parts objects
  pub sorted : IsJournalOf logs journal
  pub timed : (s : ℕ) → AllTimed histories 0 (logs s)
  pub run : Run meeting no_orders journal
  pub leads : LeadsTo meeting no_orders (start meeting) journal parts objects
  pub lamport : Lamport meeting journal
