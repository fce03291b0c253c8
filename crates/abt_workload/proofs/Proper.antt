-- What sound lines declare is part of a valid workload.
use Rattle.std.proofs.Common.{◌≡◌, ◌≢◌, ◌<◌, ◌≤◌, ◌+◌, ◌*◌, ℕ, Bool, true, false, List, [], ◌++◌, All, Option, Some, None, IfSome, arith, flat_map, is_none, length, map, option_to_list, refl, replicate, slice_get, unwrap_or}
use Rattle.std.specs.List.{AllPairs, list_all, list_any, range_with_len}
use Rattle.abt_machine.specs.declared.grammar.Form.{Form}
use Rattle.abt_machine.specs.declared.grammar.Format.TheVariants as format
use Rattle.abt_machine.specs.declared.numbers.PoolNo.{PoolNo}
use Rattle.abt_machine.specs.declared.numbers.SchedNo.{SchedNo}
use Rattle.abt_machine.specs.declared.operations.Body.TheVariants as body
use Rattle.abt_machine.specs.declared.operations.Op.{Op}
use Rattle.abt_machine.specs.declared.operations.Op.TheVariants as op
use Rattle.abt_machine.specs.declared.operations.Thing.{Thing}
use Rattle.abt_machine.specs.declared.workload.Parts.{Parts}
use Rattle.abt_machine.specs.declared.workload.PoolPart.{PoolPart}
use Rattle.abt_machine.specs.declared.workload.SchedPart.{SchedPart}
use Rattle.abt_machine.specs.declared.workload.UnitPart.{UnitPart}
use Rattle.abt_machine.specs.Access.{takes}
use Rattle.abt_machine.specs.Declaring.{Above, declared_units, nothing, parts_of}
use Rattle.abt_machine.specs.Faults.{values_of}
use Rattle.abt_machine.specs.Limits.{key_limit, object_limit, operation_limit, pool_limit, sched_limit, stream_limit, unit_limit, unit_operation_limit}
use Rattle.abt_machine.specs.Operations.{IsDeclared, said_by}
use Rattle.abt_machine.specs.Valid.{IsAccess, IsBody, IsSched, IsThing, IsWord, sched_in}
use Rattle.abt_machine.specs.Words.{Text}
use Rattle.abt_machine.specs.Workloads.{access_from, all_ops, ops_of, pools_from}
use Rattle.abt_machine.proofs.Saying.{said_by_units}
use Rattle.abt_workload.specs.Declarable.{last_count, last_ops, op_count, with_line}
use Rattle.abt_workload.proofs.Copies.{AreCopies}

abbrev pub stream_count : Above → ℕ
stream_count a = unwrap_or a.streams 0

abbrev pub unit_count : Above → ℕ
unit_count a = unwrap_or a.unit_count 0

-- a unit of no operation
abbrev pub idle : UnitPart
idle = record { body = body.Ult []; start = None }

-- the workload that operations may name things of: all units that there will be
abbrev pub counted : Above → Parts
counted a = record (parts_of a) { mains = []; units = replicate (unit_count a) idle; words = [] }

-- an operation that says nothing, in place of one that says a word
abbrev pub muted : Op → Op
muted (op.Say w) = op.Print
muted o = o

-- a unit of this workload, but for the words that its operations say
pub record IsUnitIn (W : Parts) (part : UnitPart) : Type 0 where
  pub kind : IsBody (length W.scheds) part.body
  pub few_ops : length (ops_of part.body) ≤ unit_operation_limit format.Three
  pub ops : All (λ o. IsDeclared W (muted o)) (ops_of part.body)
  pub start : IfSome part.start (λ (p : PoolNo). p.0 < length W.pools)

pub record HasStreams (streams : Option ℕ) : Type 0 where
  pub low : (n : ℕ) → streams ≡ Some n → 0 < n
  pub high : unwrap_or streams 0 ≤ stream_limit format.Three

pub record HasPools (streams : ℕ) (pools : List PoolPart) : Type 0 where
  pub few : length pools ≤ pool_limit format.Three
  pub all : All (λ (part : PoolPart). IsAccess streams part.access) pools

pub record HasScheds (pools : ℕ) (scheds : List SchedPart) : Type 0 where
  pub few : length scheds ≤ sched_limit format.Three
  pub all : All (IsSched pools) scheds

-- stream s may take from each pool of scheduler g
abbrev pub takes_all : List PoolPart → List SchedPart → ℕ → ℕ → Bool
takes_all pools scheds s g = list_all (λ p. takes (access_from (slice_get pools p)) s) (pools_from (slice_get scheds g))

pub record HasMains (streams : ℕ) (pools : List PoolPart) (scheds : List SchedPart) (mains : List (Option SchedNo)) : Type 0 where
  pub count : length mains ≡ streams
  pub there : (s : ℕ) (g : SchedNo) → slice_get mains s ≡ Some (Some g) → g.0 < length scheds
  pub taking : (s : ℕ) (g : SchedNo) → slice_get mains s ≡ Some (Some g) → takes_all pools scheds s g.0 ≡ true

pub record HasObjects (objects : List Thing) : Type 0 where
  pub few : length objects ≤ object_limit format.Three
  pub all : (x : ℕ) (t : Thing) → slice_get objects x ≡ Some t → IsThing objects x t

pub record HasUnits (W : Parts) (count : ℕ) (units : List UnitPart) (last : Option UnitPart) (copies : ℕ) : Type 0 where
  pub few : count ≤ unit_limit format.Three
  pub declared : length units + last_count copies last ≤ count
  pub all : All (IsUnitIn W) (units ++ option_to_list last)
  pub copied : AreCopies copies last

-- no stream has a main scheduler
abbrev pub AreUnset : List (Option SchedNo) → Type 0
AreUnset mains = (s : ℕ) (g : SchedNo) → slice_get mains s ≡ Some (Some g) → ⊥

-- what comes later is not declared yet, and what comes first is declared
pub record IsInOrder (a : Above) : Type 0 where
  pub no_streams : a.section < 2 → a.streams ≡ None
  pub no_mains : a.section < 6 → AreUnset a.mains
  pub no_count : a.section < 8 → a.unit_count ≡ None
  pub no_units : a.section < 9 → a.units ≡ []
  pub no_last : a.section < 9 → a.last ≡ None
  pub has_pools : 7 < a.section → 0 < length a.pools
  pub has_mains : 7 < a.section → list_any is_none a.mains ≡ false
  pub has_streams : 9 < a.section → is_none a.streams ≡ false
  pub has_units : 9 < a.section → unit_count a ≤ declared_units a

-- the units are those of the workload
abbrev pub AreUnits : Above → Type 0
AreUnits a = HasUnits (counted a) (unit_count a) a.units a.last a.copies

-- the schedulers that have a place
abbrev pub placed : Above → List ℕ
placed a = map (λ (g : SchedNo). g.0) (flat_map option_to_list a.mains) ++ flat_map (λ (part : UnitPart). sched_in part.body) (a.units ++ option_to_list a.last)

pub record IsProper (a : Above) : Type 0 where
  pub streams : HasStreams a.streams
  pub keys : a.keys ≤ key_limit
  pub pools : HasPools (stream_count a) a.pools
  pub scheds : HasScheds (length a.pools) a.scheds
  pub mains : HasMains (stream_count a) a.pools a.scheds a.mains
  pub places : AllPairs (λ x y. x ≢ y) (placed a)
  pub objects : HasObjects a.objects
  pub units : AreUnits a
  pub few_ops : length (all_ops a.units) + a.copies * op_count a.last ≤ operation_limit format.Three
  pub said : said_by_units a.units ≡ range_with_len 0 (length a.words)
  pub last_said : flat_map said_by (last_ops a.last) ≡ range_with_len (length a.words) (length a.said)
  pub words : All IsWord a.words
  pub last_words : All IsWord a.said
  pub order : IsInOrder a

-- what is declared with a line of this form
abbrev pub with_form : Above → List Text → Form → Above
with_form a words f = with_line a f words (values_of f words)

pub no-pair : {A : Type 0} (R : A → A → Type 0) → AllPairs R []
no-pair R i j d lt within = absurd (omega arith)

pub none-of : {A : Type 0} (P : A → Type 0) → All P []
none-of P k d lt = absurd (omega arith)

-- nothing is proper
pub proper-nothing : IsProper nothing
proper-nothing = record {
  streams = record { low = λ n e. cc; high = omega arith };
  keys = omega arith;
  pools = record { few = omega arith; all = none-of _ };
  scheds = record { few = omega arith; all = none-of _ };
  mains = record { count = refl; there = λ s g e. cc; taking = λ s g e. cc };
  places = no-pair (λ (x y : ℕ). x ≢ y);
  objects = record { few = omega arith; all = λ x t e. cc };
  units = record { few = omega arith; declared = omega arith; all = none-of _; copied = tt };
  few_ops = omega arith;
  said = refl;
  last_said = refl;
  words = none-of _;
  last_words = none-of _;
  order = record { no_streams = λ _. refl; no_mains = λ _ s g e. cc; no_count = λ _. refl; no_units = λ _. refl; no_last = λ _. refl; has_pools = λ lt. absurd (omega arith); has_mains = λ lt. refl; has_streams = λ lt. absurd (omega arith); has_units = λ lt. omega arith };
}
