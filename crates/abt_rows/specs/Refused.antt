-- What is no life of a unit, what are no lives of a workload's units, what are no stamps, and which stream is not spent.
use Rattle.std.specs.Prelude.{ℕ, List, [], ◌∷◌, Some, None}
use Rattle.abt_machine.specs.declared.events.Cause.TheVariants as cause
use Rattle.abt_machine.specs.declared.events.Code.TheVariants as code
use Rattle.abt_machine.specs.declared.events.Event.{Event}
use Rattle.abt_machine.specs.declared.events.What.{What}
use Rattle.abt_machine.specs.declared.events.What.TheVariants as what
use Rattle.abt_machine.specs.declared.operations.Access.TheVariants as access
use Rattle.abt_machine.specs.declared.operations.Body.{Body}
use Rattle.abt_machine.specs.declared.operations.Body.TheVariants as body
use Rattle.abt_machine.specs.declared.operations.Kind.TheVariants as kind
use Rattle.abt_machine.specs.declared.operations.Op.TheVariants as op
use Rattle.abt_machine.specs.declared.operations.Rule.TheVariants as rule
use Rattle.abt_machine.specs.declared.workload.Parts.{Parts}
use Rattle.abt_machine.specs.Lives.{IsLife, LivesOf}
use Rattle.abt_machine.specs.Numbers.{pool_no, sched_no, stream_no, unit_no}
use Rattle.abt_machine.specs.Outcomes.{Spent}
use Rattle.abt_machine.specs.Stamps.{Lamport, Stamped}

-- Lives.

-- these events are no life of a unit of this body
abbrev pub IsNoLife : Body → List What → Type 0
IsNoLife b es = IsLife b es → ⊥

-- a thread of one operation, a tasklet of one, and a scheduler unit
abbrev pub thread : Body
thread = body.Ult (op.Yield ∷ [])

abbrev pub tasklet : Body
tasklet = body.Task (op.Print ∷ [])

abbrev pub scheduler : Body
scheduler = body.Sched (sched_no 0)

-- a thread that ends itself before its last operation
abbrev pub exiting : Body
exiting = body.Ult (op.Exit ∷ op.Print ∷ [])

-- a thread that ends itself by its last operation
abbrev pub exiting_last : Body
exiting_last = body.Ult (op.Exit ∷ [])

-- done without its step
abbrev pub stepless : List What
stepless = what.Look (unit_no 0) ∷ what.End (unit_no 0) cause.Done ∷ []

-- its first step twice
abbrev pub first_step_twice : List What
first_step_twice = what.Step (unit_no 0) 0 code.Ok ∷ what.Step (unit_no 0) 0 code.Ok ∷ []

-- a look after its end
abbrev pub going_on : List What
going_on = what.Step (unit_no 0) 0 code.Ok ∷ what.End (unit_no 0) cause.Done ∷ what.Look (unit_no 0) ∷ []

-- ended for lack of access
abbrev pub barred : List What
barred = what.Look (unit_no 0) ∷ what.End (unit_no 0) cause.Access ∷ []

-- a step, and its own end
abbrev pub ended_itself : List What
ended_itself = what.Step (unit_no 0) 0 code.Ok ∷ what.End (unit_no 0) cause.Own ∷ []

-- a step, and done
abbrev pub done_after_a_step : List What
done_after_a_step = what.Step (unit_no 0) 0 code.Ok ∷ what.End (unit_no 0) cause.Done ∷ []

-- two steps
abbrev pub two_operations : List What
two_operations = what.Step (unit_no 0) 0 code.Ok ∷ what.Step (unit_no 0) 1 code.Ok ∷ []

-- a step, and its end by a request
abbrev pub asked_after_a_step : List What
asked_after_a_step = what.Step (unit_no 0) 0 code.Ok ∷ what.End (unit_no 0) cause.Asked ∷ []

-- its own end, of a scheduler unit
abbrev pub left_itself : List What
left_itself = what.Look (unit_no 0) ∷ what.End (unit_no 0) cause.Own ∷ []

-- ended by a request after it entered
abbrev pub asked_inside : List What
asked_inside = what.Enter (unit_no 0) ∷ what.End (unit_no 0) cause.Asked ∷ []

-- done without a leave
abbrev pub never_left : List What
never_left = what.Enter (unit_no 0) ∷ what.End (unit_no 0) cause.Done ∷ []

-- ended for lack of access after it entered
abbrev pub barred_inside : List What
barred_inside = what.Enter (unit_no 0) ∷ what.End (unit_no 0) cause.Access ∷ []

-- one step
abbrev pub one_step : List What
one_step = what.Step (unit_no 0) 0 code.Ok ∷ []

-- Lives of all units.

-- the events of this journal are no lives of the units of this workload
abbrev pub AreNoLives : Parts → List Event → Type 0
AreNoLives W J = LivesOf W J → ⊥

-- unit 0 revives unit 1, both start in the one pool, and no unit creates unit 2
abbrev pub three_units : Parts
three_units = record {
  streams = 1;
  keys = 0;
  pools = record { kind = kind.Fifo; access = access.Mpmc } ∷ [];
  scheds = record { rule = rule.Prio; pools = pool_no 0 ∷ [] } ∷ [];
  mains = sched_no 0 ∷ [];
  objects = [];
  units =
      record { body = body.Ult (op.Revive (unit_no 1) (pool_no 0) ∷ []); start = Some (pool_no 0) }
      ∷ record { body = body.Ult []; start = Some (pool_no 0) }
      ∷ record { body = body.Ult []; start = None }
      ∷ [];
  words = [];
}

-- unit 1 is revived and has not ended
abbrev pub revived_alive : List Event
revived_alive = record { stamp = 1; stream = stream_no 0; what = what.Step (unit_no 0) 0 code.Ok } ∷ []

-- unit 2 is looked at and has no life
abbrev pub looked_at_unborn : List Event
looked_at_unborn = record { stamp = 1; stream = stream_no 0; what = what.Look (unit_no 2) } ∷ []

-- Stamps.

-- a miss of stream s at the pool of its number
abbrev pub miss : ℕ → ℕ → Event
miss t s = record { stamp = t; stream = stream_no s; what = what.Miss (pool_no s) }

-- the stamps pass over a number
abbrev pub gap : List Event
gap = miss 1 0 ∷ miss 3 0 ∷ []

-- the last stamp is less than the one before it
abbrev pub going_back : List Event
going_back = miss 1 0 ∷ miss 2 0 ∷ miss 1 1 ∷ []

-- events of equal stamp stand in falling order of stream
abbrev pub falling : List Event
falling = miss 1 1 ∷ miss 1 0 ∷ []

-- two events of one stream have one stamp
abbrev pub level : List Event
level = miss 1 0 ∷ miss 1 0 ∷ []

-- two streams miss one pool with one stamp
abbrev pub level_at_a_pool : List Event
level_at_a_pool =
    record { stamp = 1; stream = stream_no 0; what = what.Miss (pool_no 0) } ∷ record { stamp = 1; stream = stream_no 1; what = what.Miss (pool_no 0) } ∷ []

-- the first stamp is 0
abbrev pub from_zero : List Event
from_zero = miss 0 0 ∷ []

-- the second stream's first event has stamp 2, although it shares nothing with the event before it
abbrev pub late : List Event
late = miss 1 0 ∷ miss 2 1 ∷ []

-- this journal is stamped, but not by Lamport's rule
abbrev pub IsNotLeast : List Event → Type 0
IsNotLeast J = (W : Parts) → Stamped W J × (Lamport W J → ⊥)

-- this journal is not stamped
abbrev pub IsNotStamped : List Event → Type 0
IsNotStamped J = (W : Parts) → Stamped W J → ⊥

-- Budgets.

-- stream 0 takes unit 0, looks at it and makes its first two steps
abbrev pub two_steps : List Event
two_steps =
    record { stamp = 1; stream = stream_no 0; what = what.Take (pool_no 0) (unit_no 0) }
    ∷ record { stamp = 2; stream = stream_no 0; what = what.Look (unit_no 0) }
    ∷ record { stamp = 3; stream = stream_no 0; what = what.Step (unit_no 0) 0 code.Ok }
    ∷ record { stamp = 4; stream = stream_no 0; what = what.Step (unit_no 0) 1 code.Ok }
    ∷ []

-- if each stream may make n steps, stream 0 is not spent after this journal, whatever the workload
abbrev pub IsNotSpent : ℕ → List Event → Type 0
IsNotSpent n J = (W : Parts) → Spent W n J 0 → ⊥
