-- When parts are those of a workload: exactly if some workload text declares them.
use Rattle.std.specs.Prelude.{ℕ, ◌≡◌, ◌≢◌, ◌<◌, ◌≤◌, ◌^◌, ◌++◌, IsTrue, IsFalse, IsUtf8, List, [], ◌∷◌, length, map, flat_map, slice_get, All, AllPairs, IfSome, Some, ⊤}
use Rattle.std.specs.List.{list_any, range_with_len}
use Rattle.abt_machine.specs.declared.grammar.Format.TheVariants as format
use Rattle.abt_machine.specs.declared.numbers.PoolNo.{PoolNo}
use Rattle.abt_machine.specs.declared.numbers.SchedNo.{SchedNo}
use Rattle.abt_machine.specs.declared.operations.Access.{Access}
use Rattle.abt_machine.specs.declared.operations.Access.TheVariants as access
use Rattle.abt_machine.specs.declared.operations.Body.{Body}
use Rattle.abt_machine.specs.declared.operations.Body.TheVariants as body
use Rattle.abt_machine.specs.declared.operations.Rule.{Rule}
use Rattle.abt_machine.specs.declared.operations.Rule.TheVariants as rule
use Rattle.abt_machine.specs.declared.operations.Thing.{Thing}
use Rattle.abt_machine.specs.declared.operations.Thing.TheVariants as thing
use Rattle.abt_machine.specs.declared.workload.Parts.{Parts}
use Rattle.abt_machine.specs.declared.workload.PoolPart.{PoolPart}
use Rattle.abt_machine.specs.declared.workload.SchedPart.{SchedPart}
use Rattle.abt_machine.specs.declared.workload.UnitPart.{UnitPart}
use Rattle.abt_machine.specs.Access.{may_take_all}
use Rattle.abt_machine.specs.Limits.{key_limit, listed_limit, object_limit, operation_limit, pool_limit, sched_limit, size_limit, stream_limit, unit_limit, unit_operation_limit, word_limit}
use Rattle.abt_machine.specs.Operations.{IsDeclared, may_block, said_by}
use Rattle.abt_machine.specs.Words.{Text}
use Rattle.abt_machine.specs.Workloads.{all_ops, main_of, ops_of, thing_at}

-- Pools.

-- the streams that an access names are among this many
abbrev pub IsAccess : ℕ → Access → Type 0
IsAccess streams (access.Priv s) = s.0 < streams
IsAccess streams (access.Spsc s t) = (s.0 < streams) × (t.0 < streams)
IsAccess streams (access.Mpsc t) = t.0 < streams
IsAccess streams (access.Spmc s) = s.0 < streams
IsAccess streams access.Mpmc = ⊤

-- Schedulers.

-- a seed has 64 bits, and a user's order is number 0 or 1
abbrev pub IsRule : Rule → Type 0
IsRule rule.Basic = ⊤
IsRule rule.Prio = ⊤
IsRule (rule.Randws seed) = seed < 2 ^ 64
IsRule (rule.User k) = k < 2

-- a scheduler lists some of this many pools, at least one and at most as many as the limit, each once
pub record IsSched (pools : ℕ) (part : SchedPart) : Type 0 where
  pub rule : IsRule part.rule
  pub some_pool : 0 < length part.pools
  pub few_pools : length part.pools ≤ listed_limit
  pub listed : All (λ (p : PoolNo). p.0 < pools) part.pools
  pub once : AllPairs (λ (a b : PoolNo). a.0 ≢ b.0) part.pools

-- stream s has a declared main scheduler, and may take from all of its pools
pub record IsStream (W : Parts) (s : ℕ) : Type 0 where
  pub main : main_of W s < length W.scheds
  pub takes : IsTrue (may_take_all W s (main_of W s))

-- the scheduler that a unit is, if it is one
abbrev pub sched_in : Body → List ℕ
sched_in (body.Ult ops) = []
sched_in (body.Task ops) = []
sched_in (body.Sched g) = g.0 ∷ []

-- the schedulers that have a place: the main ones of streams, and the bodies of units
abbrev pub placed_scheds : Parts → List ℕ
placed_scheds W = map (λ (g : SchedNo). g.0) W.mains ++ flat_map (λ (part : UnitPart). sched_in part.body) W.units

-- Objects.

-- object x of these: a condition belongs to a mutex that is declared above it; a future has compartments, and a barrier parties, at most as many as the limit
abbrev pub IsThing : List Thing → ℕ → Thing → Type 0
IsThing objects x thing.Mutex = ⊤
IsThing objects x (thing.Cond m) = (m.0 < x) × (slice_get objects m.0 ≡ Some thing.Mutex)
IsThing objects x thing.Eventual = ⊤
IsThing objects x (thing.Future n c) = (0 < n) × (n ≤ size_limit)
IsThing objects x (thing.Barrier n) = (0 < n) × (n ≤ size_limit)
IsThing objects x thing.RwLock = ⊤

-- Units.

-- a tasklet has no operation that may block or yield, and a unit's scheduler is one of this many
abbrev pub IsBody : ℕ → Body → Type 0
IsBody scheds (body.Ult ops) = ⊤
IsBody scheds (body.Task ops) = IsFalse (list_any may_block ops)
IsBody scheds (body.Sched g) = g.0 < scheds

-- a unit has as many operations as a unit may have, and starts in a declared pool, if in any
pub record IsUnit (W : Parts) (part : UnitPart) : Type 0 where
  pub kind : IsBody (length W.scheds) part.body
  pub few_ops : length (ops_of part.body) ≤ unit_operation_limit format.Three
  pub ops : All (IsDeclared W) (ops_of part.body)
  pub start : IfSome part.start (λ (p : PoolNo). p.0 < length W.pools)

-- Words.

-- the numbers of the words that units say, in order of unit and then of position
abbrev pub words_said : Parts → List ℕ
words_said W = flat_map (λ (part : UnitPart). flat_map said_by (ops_of part.body)) W.units

-- a byte that is neither a blank nor a control character
abbrev pub IsVisible : ℕ → Type 0
IsVisible b = (32 < b) × (b ≢ 127)

-- a word that can be said: visible bytes, at least one and at most as many as the limit
pub record IsWord (word : Text) : Type 0 where
  pub some_byte : 0 < length word
  pub few_bytes : length word ≤ word_limit
  pub visible : All IsVisible word
  pub utf8 : IsUtf8 word

-- in the order in which a text declares its parts; format 3 has the greatest limits, and a text for whatever keeps them
pub record IsValid (W : Parts) : Type 0 where
  pub some_stream : 0 < W.streams
  pub few_streams : W.streams ≤ stream_limit format.Three
  pub few_keys : W.keys ≤ key_limit
  pub some_pool : 0 < length W.pools
  pub few_pools : length W.pools ≤ pool_limit format.Three
  pub pools : All (λ (part : PoolPart). IsAccess W.streams part.access) W.pools
  pub some_sched : 0 < length W.scheds
  pub few_scheds : length W.scheds ≤ sched_limit format.Three
  pub scheds : All (IsSched (length W.pools)) W.scheds
  -- each stream has one main scheduler
  pub mains : length W.mains ≡ W.streams
  pub streams : (s : ℕ) → s < W.streams → IsStream W s
  -- no scheduler has two places
  pub one_place : AllPairs (λ a b. a ≢ b) (placed_scheds W)
  pub few_objects : length W.objects ≤ object_limit format.Three
  pub objects : (x : ℕ) (t : Thing) → thing_at W x ≡ Some t → IsThing W.objects x t
  pub few_units : length W.units ≤ unit_limit format.Three
  pub units : All (IsUnit W) W.units
  pub few_ops : length (all_ops W.units) ≤ operation_limit format.Three
  -- the words are said in their order, each by one operation
  pub said : words_said W ≡ range_with_len 0 (length W.words)
  pub words : All IsWord W.words
