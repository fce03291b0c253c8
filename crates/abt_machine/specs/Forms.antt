-- The forms of a workload text's lines, as a table: what stands at each place of a line, and the section that it belongs to.
use Rattle.std.specs.Prelude.{ℕ, ◌-◌, ◌^◌, ◌||◌, ◌&&◌, Bool, true, false, not, List, [], ◌∷◌, ◌++◌, map, find, Option, Some, None, codes, bytes_eq}
use Rattle.abt_machine.specs.declared.grammar.Form.{Form}
use Rattle.abt_machine.specs.declared.grammar.Form.TheVariants as form
use Rattle.abt_machine.specs.declared.grammar.Format.{Format}
use Rattle.abt_machine.specs.declared.grammar.Format.TheVariants as format
use Rattle.abt_machine.specs.declared.grammar.Number.{Number}
use Rattle.abt_machine.specs.declared.grammar.Number.TheVariants as number
use Rattle.abt_machine.specs.declared.grammar.Role.{Role}
use Rattle.abt_machine.specs.declared.grammar.Role.TheVariants as role
use Rattle.abt_machine.specs.declared.numbers.PoolNo.{PoolNo}
use Rattle.abt_machine.specs.declared.operations.Access.{Access}
use Rattle.abt_machine.specs.declared.operations.Access.TheVariants as access
use Rattle.abt_machine.specs.declared.operations.Calc.{Calc}
use Rattle.abt_machine.specs.declared.operations.Calc.TheVariants as calc
use Rattle.abt_machine.specs.declared.operations.Combine.{Combine}
use Rattle.abt_machine.specs.declared.operations.Combine.TheVariants as combine
use Rattle.abt_machine.specs.declared.operations.Kind.{Kind}
use Rattle.abt_machine.specs.declared.operations.Kind.TheVariants as kind
use Rattle.abt_machine.specs.declared.operations.Op.{Op}
use Rattle.abt_machine.specs.declared.operations.Op.TheVariants as op
use Rattle.abt_machine.specs.declared.operations.Rule.{Rule}
use Rattle.abt_machine.specs.declared.operations.Rule.TheVariants as rule
use Rattle.abt_machine.specs.declared.operations.Thing.{Thing}
use Rattle.abt_machine.specs.declared.operations.Thing.TheVariants as thing
use Rattle.abt_machine.specs.Limits.{function_limit, key_limit, size_limit}
use Rattle.abt_machine.specs.Numbers.{object_no, pool_no, stream_no, unit_no}
use Rattle.abt_machine.specs.Words.{Text}

-- what stands at a place of a line
pub data Slot : Type 0 where
  -- exactly this word
  Fixed : Text → Slot
  -- the word of a kind of pool
  KindWord : Slot
  -- the word of what a future makes of its values
  CombineWord : Slot
  -- any word
  AnyWord : Slot
  -- a number
  Numeral : Number → Slot
  -- numbers of pools, one or more, to the end of the line
  PoolList : Slot

-- Words that are chosen.

abbrev pub kind_name : Kind → Text
kind_name kind.Fifo = codes "fifo"
kind_name kind.Deque = codes "deque"

abbrev pub combine_name : Combine → Text
combine_name combine.Sum = codes "sum"
combine_name combine.Max = codes "max"
combine_name combine.Count = codes "count"

abbrev pub calc_name : Calc → Text
calc_name calc.Add = codes "add"
calc_name calc.Sub = codes "sub"
calc_name calc.Mul = codes "mul"
calc_name calc.Div = codes "div"
calc_name calc.Rem = codes "rem"
calc_name calc.Min = codes "min"
calc_name calc.Max = codes "max"
calc_name calc.And = codes "and"
calc_name calc.Or = codes "or"
calc_name calc.Xor = codes "xor"
calc_name calc.Eq = codes "eq"
calc_name calc.Lt = codes "lt"
calc_name calc.Gcd = codes "gcd"

-- What stands at the places of a line.

-- any number that 64 bits have
abbrev pub any_number : Slot
any_number = Numeral (number.Within 0 (2 ^ 64 - 1))

-- a number between these two, inclusive
abbrev pub within : ℕ → ℕ → Slot
within low high = Numeral (number.Within low high)

abbrev pub access_slots : Access → List Slot
access_slots (access.Priv s) = Fixed (codes "priv") ∷ Fixed (codes "of") ∷ Numeral number.Stream ∷ []
access_slots (access.Spsc s t) = Fixed (codes "spsc") ∷ Fixed (codes "from") ∷ Numeral number.Stream ∷ Fixed (codes "to") ∷ Numeral number.Stream ∷ []
access_slots (access.Mpsc t) = Fixed (codes "mpsc") ∷ Fixed (codes "to") ∷ Numeral number.Stream ∷ []
access_slots (access.Spmc s) = Fixed (codes "spmc") ∷ Fixed (codes "from") ∷ Numeral number.Stream ∷ []
access_slots access.Mpmc = Fixed (codes "mpmc") ∷ []

abbrev pub rule_slots : Rule → List Slot
rule_slots rule.Basic = Fixed (codes "basic") ∷ PoolList ∷ []
rule_slots rule.Prio = Fixed (codes "prio") ∷ PoolList ∷ []
rule_slots (rule.Randws seed) = Fixed (codes "randws") ∷ any_number ∷ PoolList ∷ []
rule_slots (rule.User k) = Fixed (codes "user") ∷ within 0 1 ∷ PoolList ∷ []

abbrev pub thing_slots : Thing → List Slot
thing_slots thing.Mutex = Fixed (codes "mutex") ∷ []
thing_slots (thing.Cond m) = Fixed (codes "cond") ∷ Numeral number.Mutex ∷ []
thing_slots thing.Eventual = Fixed (codes "eventual") ∷ []
thing_slots (thing.Future n c) = Fixed (codes "future") ∷ within 1 size_limit ∷ CombineWord ∷ []
thing_slots (thing.Barrier n) = Fixed (codes "barrier") ∷ within 1 size_limit ∷ []
thing_slots thing.RwLock = Fixed (codes "rwlock") ∷ []

abbrev pub role_slots : Role → List Slot
role_slots role.Ult = Fixed (codes "ult") ∷ []
role_slots role.Task = Fixed (codes "task") ∷ []
role_slots role.Sched = Fixed (codes "sched") ∷ Numeral number.Sched ∷ []

abbrev pub start_slots : Option PoolNo → List Slot
start_slots (Some p) = Fixed (codes "at") ∷ Numeral number.Pool ∷ []
start_slots None = Fixed (codes "later") ∷ []

abbrev pub op_slots : Op → List Slot
op_slots (op.Set n) = Fixed (codes "set") ∷ any_number ∷ []
op_slots (op.Add n) = Fixed (codes "add") ∷ any_number ∷ []
op_slots (op.Say w) = Fixed (codes "say") ∷ AnyWord ∷ []
op_slots op.Print = Fixed (codes "print") ∷ []
op_slots (op.KeySet k) = Fixed (codes "kset") ∷ Numeral number.Key ∷ []
op_slots (op.KeyGet k) = Fixed (codes "kget") ∷ Numeral number.Key ∷ []
op_slots op.Yield = Fixed (codes "yield") ∷ []
op_slots (op.YieldTo v p) = Fixed (codes "yieldto") ∷ Numeral number.Unit ∷ Numeral number.Pool ∷ []
op_slots op.Suspend = Fixed (codes "suspend") ∷ []
op_slots op.Exit = Fixed (codes "exit") ∷ []
op_slots (op.Resume v) = Fixed (codes "resume") ∷ Numeral number.Unit ∷ []
op_slots (op.Create v p) = Fixed (codes "create") ∷ Numeral number.Unit ∷ Numeral number.Pool ∷ []
op_slots (op.Join v) = Fixed (codes "join") ∷ Numeral number.Unit ∷ []
op_slots (op.Cancel v) = Fixed (codes "cancel") ∷ Numeral number.Unit ∷ []
op_slots (op.Migrate v p) = Fixed (codes "migrate") ∷ Numeral number.Unit ∷ Numeral number.Pool ∷ []
op_slots (op.MigrateTo v s) = Fixed (codes "migrateto") ∷ Numeral number.Unit ∷ Numeral number.Stream ∷ []
op_slots (op.Migratable v b) = Fixed (codes "migratable") ∷ Numeral number.Unit ∷ within 0 1 ∷ []
op_slots (op.Revive v p) = Fixed (codes "revive") ∷ Numeral number.Unit ∷ Numeral number.Pool ∷ []
op_slots (op.Lock x) = Fixed (codes "lock") ∷ Numeral number.Mutex ∷ []
op_slots (op.TryLock x) = Fixed (codes "trylock") ∷ Numeral number.Mutex ∷ []
op_slots (op.Unlock x) = Fixed (codes "unlock") ∷ Numeral number.Mutex ∷ []
op_slots (op.Load x) = Fixed (codes "load") ∷ Numeral number.Mutex ∷ []
op_slots (op.Store x) = Fixed (codes "store") ∷ Numeral number.Mutex ∷ []
op_slots (op.CondWait x) = Fixed (codes "cwait") ∷ Numeral number.Cond ∷ []
op_slots (op.Signal x) = Fixed (codes "signal") ∷ Numeral number.Cond ∷ []
op_slots (op.Broadcast x) = Fixed (codes "broadcast") ∷ Numeral number.Cond ∷ []
op_slots (op.EvWait x) = Fixed (codes "ewait") ∷ Numeral number.Eventual ∷ []
op_slots (op.EvSet x) = Fixed (codes "eset") ∷ Numeral number.Eventual ∷ []
op_slots (op.EvReset x) = Fixed (codes "ereset") ∷ Numeral number.Eventual ∷ []
op_slots (op.EvTest x) = Fixed (codes "etest") ∷ Numeral number.Eventual ∷ []
op_slots (op.FuWait x) = Fixed (codes "fwait") ∷ Numeral number.Future ∷ []
op_slots (op.FuSet x) = Fixed (codes "fset") ∷ Numeral number.Future ∷ []
op_slots (op.FuReset x) = Fixed (codes "freset") ∷ Numeral number.Future ∷ []
op_slots (op.FuTest x) = Fixed (codes "ftest") ∷ Numeral number.Future ∷ []
op_slots (op.BarWait x) = Fixed (codes "bwait") ∷ Numeral number.Barrier ∷ []
op_slots (op.ReadLock x) = Fixed (codes "rdlock") ∷ Numeral number.RwLock ∷ []
op_slots (op.WriteLock x) = Fixed (codes "wrlock") ∷ Numeral number.RwLock ∷ []
op_slots (op.RwUnlock x) = Fixed (codes "rwunlock") ∷ Numeral number.RwLock ∷ []
op_slots (op.RwLoad x) = Fixed (codes "rwload") ∷ Numeral number.RwLock ∷ []
op_slots (op.RwStore x) = Fixed (codes "rwstore") ∷ Numeral number.RwLock ∷ []
op_slots (op.Calc c k) = Fixed (codes "calc") ∷ Fixed (calc_name c) ∷ Numeral number.Key ∷ []
op_slots (op.Call f) = Fixed (codes "call") ∷ within 0 (function_limit - 1) ∷ []

-- the places of a line of each form
abbrev pub slots : Form → List Slot
slots (form.Version format.One) = Fixed (codes "abt") ∷ Fixed (codes "1") ∷ []
slots (form.Version format.Two) = Fixed (codes "abt") ∷ Fixed (codes "2") ∷ []
slots (form.Version format.Three) = Fixed (codes "abt") ∷ Fixed (codes "3") ∷ []
slots form.Streams = Fixed (codes "streams") ∷ Numeral number.StreamCount ∷ []
slots form.Keys = Fixed (codes "keys") ∷ within 0 key_limit ∷ []
slots (form.Pool a) = Fixed (codes "pool") ∷ Numeral number.NewPool ∷ KindWord ∷ access_slots a
slots (form.Sched r) = Fixed (codes "sched") ∷ Numeral number.NewSched ∷ rule_slots r
slots form.Stream = Fixed (codes "stream") ∷ Numeral number.Stream ∷ Fixed (codes "main") ∷ Numeral number.Sched ∷ []
slots (form.Object t) = Fixed (codes "object") ∷ Numeral number.NewObject ∷ thing_slots t
slots form.Units = Fixed (codes "units") ∷ Numeral number.UnitCount ∷ []
slots (form.Unit r start) = Fixed (codes "unit") ∷ Numeral number.NewUnit ∷ role_slots r ++ start_slots start
slots (form.Many r start) = Fixed (codes "many") ∷ Numeral number.NewUnit ∷ Numeral number.Copies ∷ role_slots r ++ start_slots start
slots form.End = Fixed (codes "end") ∷ []
slots (form.Operation o) = op_slots o
slots (form.Repeat o) = Fixed (codes "repeat") ∷ Numeral number.Times ∷ op_slots o

-- the operation computes or calls, which texts of format 3 alone can say
abbrev pub computes : Op → Bool
computes (op.Calc c k) = true
computes (op.Call f) = true
computes o = false

-- a line of this form stands in texts of this format
abbrev pub is_in : Format → Form → Bool
is_in format.One (form.Many r start) = false
is_in format.One (form.Repeat o) = false
is_in format.One (form.Operation o) = not (computes o)
is_in format.Two (form.Operation o) = not (computes o)
is_in format.Two (form.Repeat o) = not (computes o)
is_in F f = true

-- the section that a line belongs to
abbrev pub section : Form → ℕ
section (form.Version F) = 1
section form.Streams = 2
section form.Keys = 3
section (form.Pool a) = 4
section (form.Sched r) = 5
section form.Stream = 6
section (form.Object t) = 7
section form.Units = 8
section (form.Unit r start) = 9
section (form.Many r start) = 9
section form.End = 10
section (form.Operation o) = 9
section (form.Repeat o) = 9

-- All forms, one of each, whose numbers are all 0.

abbrev pub calcs : List Calc
calcs = calc.Add ∷ calc.Sub ∷ calc.Mul ∷ calc.Div ∷ calc.Rem ∷ calc.Min ∷ calc.Max ∷ calc.And ∷ calc.Or ∷ calc.Xor ∷ calc.Eq ∷ calc.Lt ∷ calc.Gcd ∷ []

abbrev pub operations : List Op
operations =
    op.Set 0 ∷ op.Add 0 ∷ op.Say 0 ∷ op.Print ∷ op.KeySet 0 ∷ op.KeyGet 0 ∷ op.Yield ∷ op.YieldTo (unit_no 0) (pool_no 0) ∷
    op.Suspend ∷ op.Exit ∷ op.Resume (unit_no 0) ∷ op.Create (unit_no 0) (pool_no 0) ∷ op.Join (unit_no 0) ∷ op.Cancel (unit_no 0) ∷
    op.Migrate (unit_no 0) (pool_no 0) ∷ op.MigrateTo (unit_no 0) (stream_no 0) ∷ op.Migratable (unit_no 0) false ∷
    op.Revive (unit_no 0) (pool_no 0) ∷
    op.Lock (object_no 0) ∷ op.TryLock (object_no 0) ∷ op.Unlock (object_no 0) ∷ op.Load (object_no 0) ∷ op.Store (object_no 0) ∷
    op.CondWait (object_no 0) ∷ op.Signal (object_no 0) ∷ op.Broadcast (object_no 0) ∷
    op.EvWait (object_no 0) ∷ op.EvSet (object_no 0) ∷ op.EvReset (object_no 0) ∷ op.EvTest (object_no 0) ∷
    op.FuWait (object_no 0) ∷ op.FuSet (object_no 0) ∷ op.FuReset (object_no 0) ∷ op.FuTest (object_no 0) ∷
    op.BarWait (object_no 0) ∷
    op.ReadLock (object_no 0) ∷ op.WriteLock (object_no 0) ∷ op.RwUnlock (object_no 0) ∷ op.RwLoad (object_no 0) ∷ op.RwStore (object_no 0) ∷
    map (λ c. op.Calc c 0) calcs ++ op.Call 0 ∷ []

abbrev pub accesses : List Access
accesses = access.Priv (stream_no 0) ∷ access.Spsc (stream_no 0) (stream_no 0) ∷ access.Mpsc (stream_no 0) ∷ access.Spmc (stream_no 0) ∷ access.Mpmc ∷ []

abbrev pub rules : List Rule
rules = rule.Basic ∷ rule.Prio ∷ rule.Randws 0 ∷ rule.User 0 ∷ []

abbrev pub things : List Thing
things = thing.Mutex ∷ thing.Cond (object_no 0) ∷ thing.Eventual ∷ thing.Future 0 combine.Count ∷ thing.Barrier 0 ∷ thing.RwLock ∷ []

-- a unit starts in a pool, or later
abbrev pub starts : List (Option PoolNo)
starts = Some (pool_no 0) ∷ None ∷ []

-- the forms of all formats, and the operations of format 3
abbrev pub shared_forms : List Form
shared_forms =
    form.Version format.One ∷ form.Version format.Two ∷ form.Version format.Three ∷ form.Streams ∷ form.Keys ∷ map form.Pool accesses ++ map form.Sched rules ++ form.Stream ∷ map form.Object things ++
    form.Units ∷ map (form.Unit role.Ult) starts ++ map (form.Unit role.Task) starts ++ map (form.Unit role.Sched) starts ++ form.End ∷ map form.Operation operations

-- the forms that format 1 does not have
abbrev pub added_forms : List Form
added_forms = map (form.Many role.Ult) starts ++ map (form.Many role.Task) starts ++ map (form.Many role.Sched) starts ++ map form.Repeat operations

abbrev pub forms : List Form
forms = shared_forms ++ added_forms

-- Which form a line has.

-- a word may stand at a place
abbrev pub suits : Slot → Text → Bool
suits (Fixed w) word = bytes_eq word w
suits KindWord word = bytes_eq word (kind_name kind.Fifo) || bytes_eq word (kind_name kind.Deque)
suits CombineWord word = bytes_eq word (combine_name combine.Sum) || bytes_eq word (combine_name combine.Max) || bytes_eq word (combine_name combine.Count)
suits AnyWord word = true
suits (Numeral n) word = true
suits PoolList word = true

-- a line of these words has these places: as many words, and each fixed word at its place
abbrev pub fits : List Slot → List Text → Bool
fits [] [] = true
fits [] (word ∷ words) = false
fits (slot ∷ places) [] = false
fits (PoolList ∷ places) (word ∷ words) = true
fits (slot ∷ places) (word ∷ words) = suits slot word && fits places words

-- the form of a line of these words in a text of this format, if it has one
abbrev pub form_of : Format → List Text → Option Form
form_of F words = find (λ f. is_in F f && fits (slots f) words) forms

-- a line may begin with the word that these words begin with
abbrev pub begins_with : List Slot → List Text → Bool
begins_with (slot ∷ places) (word ∷ words) = suits slot word
begins_with _ _ = false

-- the words in the places of numbers, each with what its number is
abbrev pub numerals : List Slot → List Text → List (Number × Text)
numerals (Numeral n ∷ places) (word ∷ words) = (n, word) ∷ numerals places words
numerals (PoolList ∷ places) words = map (λ word. (number.Pool, word)) words
numerals (slot ∷ places) (word ∷ words) = numerals places words
numerals _ _ = []
