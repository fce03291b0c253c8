-- What the lines of a workload text declare.
use Rattle.std.specs.Prelude.{ℕ, zero, suc, ◌+◌, ◌==◌, if◌then◌else◌, Bool, false, List, [], ◌∷◌, ◌++◌, length, drop, flat_map, map, replicate, slice_index_or, slice_set, Option, Some, None, bytes_eq, option_map, option_to_list, unwrap_or}
use Rattle.abt_machine.specs.declared.grammar.Form.{Form}
use Rattle.abt_machine.specs.declared.grammar.Form.TheVariants as form
use Rattle.abt_machine.specs.declared.grammar.Format.{Format}
use Rattle.abt_machine.specs.declared.grammar.Format.TheVariants as format
use Rattle.abt_machine.specs.declared.grammar.Role.{Role}
use Rattle.abt_machine.specs.declared.grammar.Role.TheVariants as role
use Rattle.abt_machine.specs.declared.numbers.PoolNo.{PoolNo}
use Rattle.abt_machine.specs.declared.numbers.SchedNo.{SchedNo}
use Rattle.abt_machine.specs.declared.operations.Access.{Access}
use Rattle.abt_machine.specs.declared.operations.Access.TheVariants as access
use Rattle.abt_machine.specs.declared.operations.Body.{Body}
use Rattle.abt_machine.specs.declared.operations.Body.TheVariants as body
use Rattle.abt_machine.specs.declared.operations.Combine.{Combine}
use Rattle.abt_machine.specs.declared.operations.Combine.TheVariants as combine
use Rattle.abt_machine.specs.declared.operations.Kind.{Kind}
use Rattle.abt_machine.specs.declared.operations.Kind.TheVariants as kind
use Rattle.abt_machine.specs.declared.operations.Op.{Op}
use Rattle.abt_machine.specs.declared.operations.Op.TheVariants as op
use Rattle.abt_machine.specs.declared.operations.Rule.{Rule}
use Rattle.abt_machine.specs.declared.operations.Rule.TheVariants as rule
use Rattle.abt_machine.specs.declared.operations.Thing.{Thing}
use Rattle.abt_machine.specs.declared.operations.Thing.TheVariants as thing
use Rattle.abt_machine.specs.declared.workload.Parts.{Parts}
use Rattle.abt_machine.specs.declared.workload.PoolPart.{PoolPart}
use Rattle.abt_machine.specs.declared.workload.SchedPart.{SchedPart}
use Rattle.abt_machine.specs.declared.workload.UnitPart.{UnitPart}
use Rattle.abt_machine.specs.Forms.{combine_name, kind_name}
use Rattle.abt_machine.specs.Numbers.{object_no, pool_no, sched_no, stream_no, unit_no}
use Rattle.abt_machine.specs.Words.{Text}

-- What the lines above a line declare.
pub record Above : Type 0 where
  -- whether one of them is not skipped
  pub begun : Bool
  -- the format that the version line names
  pub format : Format
  -- the section of the last line that declares something, 0 if there is none
  pub section : ℕ
  -- the number of streams, if it is declared
  pub streams : Option ℕ
  -- the number of keys, 0 if it is not declared
  pub keys : ℕ
  pub pools : List PoolPart
  pub scheds : List SchedPart
  -- the main scheduler of each stream, if it is declared
  pub mains : List (Option SchedNo)
  pub objects : List Thing
  -- the number of units, if it is declared
  pub unit_count : Option ℕ
  -- the units that are declared, except those of the last `unit` or `many` line
  pub units : List UnitPart
  -- the unit that this last line declares, which has the operation lines that follow; the first of them if it is a `many` line
  pub last : Option UnitPart
  -- how many such units the line declares
  pub copies : ℕ
  -- the words that the units before the last say
  pub words : List Text
  -- the words that the last unit says, and each of its copies
  pub said : List Text

abbrev pub nothing : Above
nothing = record { begun = false; format = format.One; section = 0; streams = None; keys = 0; pools = []; scheds = []; mains = []; objects = []; unit_count = None; units = []; last = None; copies = 0; words = []; said = [] }

-- Copies of a unit.

-- an operation whose word, if it says one, has a number that is this much higher
abbrev pub op_later : ℕ → Op → Op
op_later n (op.Say w) = op.Say (w + n)
op_later n o = o

abbrev pub body_later : ℕ → Body → Body
body_later n (body.Ult ops) = body.Ult (map (op_later n) ops)
body_later n (body.Task ops) = body.Task (map (op_later n) ops)
body_later n (body.Sched g) = body.Sched g

abbrev pub unit_later : ℕ → UnitPart → UnitPart
unit_later n part = record part { body = body_later n part.body }

-- this many units like this one, which says this many words: each unit says words of its own, whose numbers follow those of the unit before it
abbrev pub alike : ℕ → ℕ → UnitPart → List UnitPart
alike zero said part = []
alike (suc n) said part = part ∷ alike n said (unit_later said part)

-- the same words, this many times
abbrev pub repeated : ℕ → List Text → List Text
repeated zero words = []
repeated (suc n) words = words ++ repeated n words

-- the units that the last `unit` or `many` line declares
abbrev pub last_units : Above → Option UnitPart → List UnitPart
last_units a None = []
last_units a (Some part) = alike a.copies (length a.said) part

-- the units that are declared
abbrev pub units_of : Above → List UnitPart
units_of a = a.units ++ last_units a a.last

-- the words that they say, in order of unit and then of position
abbrev pub said_words : Above → List Text
said_words a = a.words ++ repeated a.copies a.said

-- how many units are declared
abbrev pub declared_units : Above → ℕ
declared_units a = length (units_of a)

-- what is declared, as a workload's parts
abbrev pub parts_of : Above → Parts
parts_of a = record {
  streams = unwrap_or a.streams 0;
  keys = a.keys;
  pools = a.pools;
  scheds = a.scheds;
  mains = flat_map option_to_list a.mains;
  objects = a.objects;
  units = units_of a;
  words = said_words a;
}

-- What a line's numbers and words are.

-- the number at a place of a list, counted from 0
abbrev pub at : List ℕ → ℕ → ℕ
at numbers k = slice_index_or numbers k 0

-- the word at a place of a list, counted from 0
abbrev pub word_in : List Text → ℕ → Text
word_in words k = slice_index_or words k []

abbrev pub kind_named : Text → Kind
kind_named word = if bytes_eq word (kind_name kind.Fifo) then kind.Fifo else kind.Deque

abbrev pub combine_named : Text → Combine
combine_named word = if bytes_eq word (combine_name combine.Sum) then combine.Sum else (if bytes_eq word (combine_name combine.Max) then combine.Max else combine.Count)

-- the access of a `pool` line, whose first number is the pool's
abbrev pub access_with : Access → List ℕ → Access
access_with (access.Priv s) numbers = access.Priv (stream_no (at numbers 1))
access_with (access.Spsc s t) numbers = access.Spsc (stream_no (at numbers 1)) (stream_no (at numbers 2))
access_with (access.Mpsc t) numbers = access.Mpsc (stream_no (at numbers 1))
access_with (access.Spmc s) numbers = access.Spmc (stream_no (at numbers 1))
access_with access.Mpmc numbers = access.Mpmc

-- the rule of a `sched` line, whose first number is the scheduler's
abbrev pub rule_with : Rule → List ℕ → Rule
rule_with rule.Basic numbers = rule.Basic
rule_with rule.Prio numbers = rule.Prio
rule_with (rule.Randws seed) numbers = rule.Randws (at numbers 1)
rule_with (rule.User k) numbers = rule.User (at numbers 1)

-- the pools that a `sched` line lists
abbrev pub listed : Rule → List ℕ → List ℕ
listed rule.Basic numbers = drop 1 numbers
listed rule.Prio numbers = drop 1 numbers
listed (rule.Randws seed) numbers = drop 2 numbers
listed (rule.User k) numbers = drop 2 numbers

-- the thing of an `object` line, whose first number is the object's
abbrev pub thing_with : Thing → List Text → List ℕ → Thing
thing_with thing.Mutex words numbers = thing.Mutex
thing_with (thing.Cond m) words numbers = thing.Cond (object_no (at numbers 1))
thing_with thing.Eventual words numbers = thing.Eventual
thing_with (thing.Future n c) words numbers = thing.Future (at numbers 1) (combine_named (word_in words 4))
thing_with (thing.Barrier n) words numbers = thing.Barrier (at numbers 1)
thing_with thing.RwLock words numbers = thing.RwLock

-- the body of a unit, by the numbers of a `unit` line, of which the first is the unit's
abbrev pub body_with : Role → List ℕ → Body
body_with role.Ult numbers = body.Ult []
body_with role.Task numbers = body.Task []
body_with role.Sched numbers = body.Sched (sched_no (at numbers 1))

-- at which place of a `unit` line's numbers its pool stands
abbrev pub pool_place : Role → ℕ
pool_place role.Ult = 1
pool_place role.Task = 1
pool_place role.Sched = 2

abbrev pub start_with : Role → Option PoolNo → List ℕ → Option PoolNo
start_with r start numbers = option_map (λ (p : PoolNo). pool_no (at numbers (pool_place r))) start

-- the operation with these numbers; the words that units say are counted, and this many are said before it
abbrev pub op_with : Op → ℕ → List ℕ → Op
op_with (op.Set n) said numbers = op.Set (at numbers 0)
op_with (op.Add n) said numbers = op.Add (at numbers 0)
op_with (op.Say w) said numbers = op.Say said
op_with op.Print said numbers = op.Print
op_with (op.KeySet k) said numbers = op.KeySet (at numbers 0)
op_with (op.KeyGet k) said numbers = op.KeyGet (at numbers 0)
op_with op.Yield said numbers = op.Yield
op_with (op.YieldTo v p) said numbers = op.YieldTo (unit_no (at numbers 0)) (pool_no (at numbers 1))
op_with op.Suspend said numbers = op.Suspend
op_with op.Exit said numbers = op.Exit
op_with (op.Resume v) said numbers = op.Resume (unit_no (at numbers 0))
op_with (op.Create v p) said numbers = op.Create (unit_no (at numbers 0)) (pool_no (at numbers 1))
op_with (op.Join v) said numbers = op.Join (unit_no (at numbers 0))
op_with (op.Cancel v) said numbers = op.Cancel (unit_no (at numbers 0))
op_with (op.Migrate v p) said numbers = op.Migrate (unit_no (at numbers 0)) (pool_no (at numbers 1))
op_with (op.MigrateTo v s) said numbers = op.MigrateTo (unit_no (at numbers 0)) (stream_no (at numbers 1))
op_with (op.Migratable v b) said numbers = op.Migratable (unit_no (at numbers 0)) (at numbers 1 == 1)
op_with (op.Revive v p) said numbers = op.Revive (unit_no (at numbers 0)) (pool_no (at numbers 1))
op_with (op.Lock x) said numbers = op.Lock (object_no (at numbers 0))
op_with (op.TryLock x) said numbers = op.TryLock (object_no (at numbers 0))
op_with (op.Unlock x) said numbers = op.Unlock (object_no (at numbers 0))
op_with (op.Load x) said numbers = op.Load (object_no (at numbers 0))
op_with (op.Store x) said numbers = op.Store (object_no (at numbers 0))
op_with (op.CondWait x) said numbers = op.CondWait (object_no (at numbers 0))
op_with (op.Signal x) said numbers = op.Signal (object_no (at numbers 0))
op_with (op.Broadcast x) said numbers = op.Broadcast (object_no (at numbers 0))
op_with (op.EvWait x) said numbers = op.EvWait (object_no (at numbers 0))
op_with (op.EvSet x) said numbers = op.EvSet (object_no (at numbers 0))
op_with (op.EvReset x) said numbers = op.EvReset (object_no (at numbers 0))
op_with (op.EvTest x) said numbers = op.EvTest (object_no (at numbers 0))
op_with (op.FuWait x) said numbers = op.FuWait (object_no (at numbers 0))
op_with (op.FuSet x) said numbers = op.FuSet (object_no (at numbers 0))
op_with (op.FuReset x) said numbers = op.FuReset (object_no (at numbers 0))
op_with (op.FuTest x) said numbers = op.FuTest (object_no (at numbers 0))
op_with (op.BarWait x) said numbers = op.BarWait (object_no (at numbers 0))
op_with (op.ReadLock x) said numbers = op.ReadLock (object_no (at numbers 0))
op_with (op.WriteLock x) said numbers = op.WriteLock (object_no (at numbers 0))
op_with (op.RwUnlock x) said numbers = op.RwUnlock (object_no (at numbers 0))
op_with (op.RwLoad x) said numbers = op.RwLoad (object_no (at numbers 0))
op_with (op.RwStore x) said numbers = op.RwStore (object_no (at numbers 0))
op_with (op.Calc c k) said numbers = op.Calc c (at numbers 0)
op_with (op.Call f) said numbers = op.Call (at numbers 0)

-- the words that an operation's line says
abbrev pub said_in : Op → List Text → List Text
said_in (op.Say w) words = word_in words 1 ∷ []
said_in o words = []

-- What a line adds to what the lines above it declare.

abbrev pub pool_with : Access → List Text → List ℕ → PoolPart
pool_with a words numbers = record { kind = kind_named (word_in words 2); access = access_with a numbers }

abbrev pub sched_with : Rule → List ℕ → SchedPart
sched_with r numbers = record { rule = rule_with r numbers; pools = map pool_no (listed r numbers) }

abbrev pub unit_with : Role → Option PoolNo → List ℕ → UnitPart
unit_with r start numbers = record { body = body_with r numbers; start = start_with r start numbers }

-- a body with one more operation
abbrev pub body_and : Op → Body → Body
body_and o (body.Ult ops) = body.Ult (ops ++ o ∷ [])
body_and o (body.Task ops) = body.Task (ops ++ o ∷ [])
body_and o (body.Sched g) = body.Sched g

abbrev pub unit_and : Op → UnitPart → UnitPart
unit_and o part = record part { body = body_and o part.body }

-- what is declared with a line that declares this many units like this one
abbrev pub with_copies : Above → ℕ → UnitPart → Above
with_copies a n part = record a { units = units_of a; last = Some part; copies = n; words = said_words a; said = [] }

-- what is declared with an operation line of these words and numbers
abbrev pub with_operation : Op → List Text → List ℕ → Above → Above
with_operation o words numbers a = record a { last = option_map (unit_and (op_with o (length a.words + length a.said) numbers)) a.last; said = a.said ++ said_in o words }

-- with this many such lines
abbrev pub with_operations : ℕ → Op → List Text → List ℕ → Above → Above
with_operations zero o words numbers a = a
with_operations (suc n) o words numbers a = with_operations n o words numbers (with_operation o words numbers a)

-- what is declared with a line of this form, these words and these numbers
abbrev pub declared_with : Above → Form → List Text → List ℕ → Above
declared_with a (form.Version F) words numbers = record a { format = F }
declared_with a form.Streams words numbers = record a { streams = Some (at numbers 0); mains = replicate (at numbers 0) None }
declared_with a form.Keys words numbers = record a { keys = at numbers 0 }
declared_with a (form.Pool access) words numbers = record a { pools = a.pools ++ pool_with access words numbers ∷ [] }
declared_with a (form.Sched rule) words numbers = record a { scheds = a.scheds ++ sched_with rule numbers ∷ [] }
declared_with a form.Stream words numbers = record a { mains = slice_set a.mains (at numbers 0) (Some (sched_no (at numbers 1))) }
declared_with a (form.Object thing) words numbers = record a { objects = a.objects ++ thing_with thing words numbers ∷ [] }
declared_with a form.Units words numbers = record a { unit_count = Some (at numbers 0) }
declared_with a (form.Unit role start) words numbers = with_copies a 1 (unit_with role start numbers)
declared_with a (form.Many role start) words numbers = with_copies a (at numbers 1) (unit_with role start (drop 1 numbers))
declared_with a form.End words numbers = a
declared_with a (form.Operation o) words numbers = with_operation o words numbers a
declared_with a (form.Repeat o) words numbers = with_operations (at numbers 0) o (drop 2 words) (drop 1 numbers) a
