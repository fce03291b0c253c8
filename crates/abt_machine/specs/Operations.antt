-- What an operation requires of its workload, and what holds of it in every workload.
use Rattle.std.specs.Prelude.{ℕ, ◌≡◌, ◌<◌, ◌≤◌, Bool, true, false, List, [], ◌∷◌, length, Option, Some, None, option_to_list, ⊤}
use Rattle.abt_machine.specs.declared.events.Piece.TheVariants as piece
use Rattle.abt_machine.specs.declared.grammar.Number.{Number}
use Rattle.abt_machine.specs.declared.grammar.Number.TheVariants as number
use Rattle.abt_machine.specs.declared.operations.Combine.{Combine}
use Rattle.abt_machine.specs.declared.operations.Op.{Op}
use Rattle.abt_machine.specs.declared.operations.Op.TheVariants as op
use Rattle.abt_machine.specs.declared.operations.Thing.TheVariants as thing
use Rattle.abt_machine.specs.declared.workload.Parts.{Parts}
use Rattle.abt_machine.specs.Canonical.{op_numbers}
use Rattle.abt_machine.specs.Carrying.{added, calculated, from_key, printed, with_acc, with_key}
use Rattle.abt_machine.specs.Forms.{Slot, Numeral, op_slots}
use Rattle.abt_machine.specs.State.{Carried}
use Rattle.abt_machine.specs.Workloads.{IsCondition, thing_at}

abbrev pub IsMutex : Parts → ℕ → Type 0
IsMutex W x = thing_at W x ≡ Some thing.Mutex

abbrev pub IsEventual : Parts → ℕ → Type 0
IsEventual W x = thing_at W x ≡ Some thing.Eventual

abbrev pub IsFuture : Parts → ℕ → Type 0
IsFuture W x = (n : ℕ) × (c : Combine) × (thing_at W x ≡ Some (thing.Future n c))

abbrev pub IsBarrier : Parts → ℕ → Type 0
IsBarrier W x = (n : ℕ) × (thing_at W x ≡ Some (thing.Barrier n))

abbrev pub IsRwLock : Parts → ℕ → Type 0
IsRwLock W x = thing_at W x ≡ Some thing.RwLock

-- a number of this kind names what is declared, an object of the kind that is asked for, or is within its bounds if it names nothing;
-- nothing is required of a count, and of the number of what a line itself declares
abbrev pub IsNamed : Parts → Number → ℕ → Type 0
IsNamed W (number.Within low high) n = (low ≤ n) × (n ≤ high)
IsNamed W number.StreamCount n = ⊤
IsNamed W number.UnitCount n = ⊤
IsNamed W number.Copies n = ⊤
IsNamed W number.Times n = ⊤
IsNamed W number.NewPool n = ⊤
IsNamed W number.NewSched n = ⊤
IsNamed W number.NewObject n = ⊤
IsNamed W number.NewUnit n = ⊤
IsNamed W number.Stream n = n < W.streams
IsNamed W number.Pool n = n < length W.pools
IsNamed W number.Sched n = n < length W.scheds
IsNamed W number.Key n = n < W.keys
IsNamed W number.Unit n = n < length W.units
IsNamed W number.Mutex n = IsMutex W n
IsNamed W number.Cond n = IsCondition W n
IsNamed W number.Eventual n = IsEventual W n
IsNamed W number.Future n = IsFuture W n
IsNamed W number.Barrier n = IsBarrier W n
IsNamed W number.RwLock n = IsRwLock W n

-- each of these numbers, which stand at these places of a line, names what is declared
abbrev pub AreNamed : Parts → List Slot → List ℕ → Type 0
AreNamed W (Numeral kind ∷ []) (n ∷ []) = IsNamed W kind n
AreNamed W (Numeral kind ∷ places) (n ∷ numbers) = IsNamed W kind n × AreNamed W places numbers
AreNamed W (place ∷ places) numbers = AreNamed W places numbers
AreNamed W [] numbers = ⊤

-- the word that an operation says is one of the words, and what the numbers of its line name is declared
abbrev pub IsDeclared : Parts → Op → Type 0
IsDeclared W (op.Say w) = w < length W.words
IsDeclared W o = AreNamed W (op_slots o) (op_numbers o)

-- what holds of an operation in every workload and in every state
pub record Nature : Type 0 where
  -- whether it may block or yield, which a tasklet must not
  pub may_block : Bool
  -- the number of the word that it says, if it says one
  pub word : Option ℕ
  -- the number of the key that it names, if it names one
  pub key : Option ℕ
  -- the number of the unit that it gives a life, if it gives one
  pub birth : Option ℕ
  -- how it changes what its unit carries, if it is local: if it changes nothing else
  pub local : Option (Carried → Carried)

-- it has none of these
abbrev pub plain : Nature
plain = record { may_block = false; word = None; key = None; birth = None; local = None }

-- it may block or yield
abbrev pub blocking : Nature
blocking = record plain { may_block = true }

-- it gives unit v a life
abbrev pub gives_life : ℕ → Nature
gives_life v = record plain { birth = Some v }

-- it is local, and changes what its unit carries by f
abbrev pub locally : (Carried → Carried) → Nature
locally f = record plain { local = Some f }

-- it says word w
abbrev pub says : ℕ → Nature
says w = record (locally (printed (piece.Said w))) { word = Some w }

-- it names key k, is local, and changes what its unit carries by f
abbrev pub at_key : ℕ → (Carried → Carried) → Nature
at_key k f = record (locally f) { key = Some k }

abbrev pub nature_of : Op → Nature
nature_of (op.Set n) = locally (with_acc n)
nature_of (op.Add n) = locally (added n)
nature_of (op.Say w) = says w
nature_of op.Print = locally (λ c. printed (piece.Number c.acc) c)
nature_of (op.KeySet k) = at_key k (with_key k)
nature_of (op.KeyGet k) = at_key k (from_key k)
nature_of op.Yield = blocking
nature_of (op.YieldTo v p) = blocking
nature_of op.Suspend = blocking
nature_of op.Exit = blocking
nature_of (op.Resume v) = plain
nature_of (op.Create v p) = gives_life v.0
nature_of (op.Join v) = blocking
nature_of (op.Cancel v) = plain
nature_of (op.Migrate v p) = plain
nature_of (op.MigrateTo v s) = plain
nature_of (op.Migratable v b) = plain
nature_of (op.Revive v p) = gives_life v.0
nature_of (op.Lock x) = blocking
nature_of (op.TryLock x) = plain
nature_of (op.Unlock x) = plain
nature_of (op.Load x) = plain
nature_of (op.Store x) = plain
nature_of (op.CondWait x) = blocking
nature_of (op.Signal x) = plain
nature_of (op.Broadcast x) = plain
nature_of (op.EvWait x) = blocking
nature_of (op.EvSet x) = plain
nature_of (op.EvReset x) = plain
nature_of (op.EvTest x) = plain
nature_of (op.FuWait x) = blocking
nature_of (op.FuSet x) = plain
nature_of (op.FuReset x) = plain
nature_of (op.FuTest x) = plain
nature_of (op.BarWait x) = blocking
nature_of (op.ReadLock x) = blocking
nature_of (op.WriteLock x) = blocking
nature_of (op.RwUnlock x) = plain
nature_of (op.RwLoad x) = plain
nature_of (op.RwStore x) = plain
nature_of (op.Calc c k) = at_key k (calculated c k)
-- what the call itself changes is said by its event
nature_of (op.Call f) = locally (λ c. c)

-- whether an operation may block or yield, which a tasklet must not
abbrev pub may_block : Op → Bool
may_block o = (nature_of o).may_block

-- the number of the word that an operation says, if it says one, as a list
abbrev pub said_by : Op → List ℕ
said_by o = option_to_list (nature_of o).word
