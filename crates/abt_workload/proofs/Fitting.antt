-- Numbers that may stand in a line.
use Rattle.std.proofs.Common.{◌≡◌, ◌<◌, ◌≤◌, ◌^◌, ℕ, true, false, List, [], ◌∷◌, Option, Some, ap, arith, length, nat_le, refl, slice_get}
use Rattle.std.specs.Bool.{⊤}
use Rattle.std.specs.Option.{option_map_or}
use Rattle.std.proofs.lemmas.Bool.{and_from, le-leb, lt-ltb}
use Rattle.std.proofs.lemmas.Option.{slice_get_within}
use Rattle.abt_machine.specs.declared.grammar.Format.TheVariants as format
use Rattle.abt_machine.specs.declared.grammar.Number.{Number}
use Rattle.abt_machine.specs.declared.grammar.Number.TheVariants as number
use Rattle.abt_machine.specs.declared.operations.Thing.{Thing}
use Rattle.abt_machine.specs.Declaring.{Above, declared_units, parts_of}
use Rattle.abt_machine.specs.Faults.{is_barrier, is_condition, is_eventual, is_future, is_mutex, is_rwlock, is_there, is_within}
use Rattle.abt_machine.specs.Limits.{key_limit, object_limit, pool_limit, sched_limit, stream_limit, unit_limit, unit_operation_limit}
use Rattle.abt_machine.specs.Operations.{IsNamed}
use Rattle.abt_workload.proofs.Keeping.{most-streams, most-unit-ops, most-units}
use Rattle.abt_workload.proofs.Proper.{stream_count, unit_count}

-- a number may stand in a line below lines that declare a
pub record IsFit (a : Above) (kind : Number) (n : ℕ) : Type 0 where
  pub there : is_there a kind n ≡ true
  pub within : is_within a.format kind n ≡ true
  pub small : n < 2 ^ 64

-- all of these may
abbrev pub AreFit : Above → List (Number × ℕ) → Type 0
AreFit a [] = ⊤
AreFit a (p ∷ ps) = IsFit a p.0 p.1 × AreFit a ps

-- a number that keeps its bounds and names what is declared, or what is declared next
abbrev pub IsMet : Above → Number → ℕ → Type 0
IsMet a (number.Within low high) n = (low ≤ n) × (n ≤ high) × (n < 2 ^ 64)
IsMet a number.StreamCount n = (1 ≤ n) × (n ≤ stream_limit a.format)
IsMet a number.UnitCount n = n ≤ unit_limit a.format
IsMet a number.Copies n = (1 ≤ n) × (n ≤ unit_limit a.format)
IsMet a number.Times n = (1 ≤ n) × (n ≤ unit_operation_limit a.format)
IsMet a number.NewPool n = n ≡ length a.pools
IsMet a number.NewSched n = n ≡ length a.scheds
IsMet a number.NewObject n = n ≡ length a.objects
IsMet a number.NewUnit n = (n ≡ declared_units a) × (n < unit_count a)
IsMet a number.Unit n = n < unit_count a
IsMet a kind n = IsNamed (parts_of a) kind n

-- all of these keep their bounds and name such things
abbrev pub AreMet : Above → List (Number × ℕ) → Type 0
AreMet a [] = ⊤
AreMet a (p ∷ []) = IsMet a p.0 p.1
AreMet a (p ∷ q ∷ ps) = IsMet a p.0 p.1 × AreMet a (q ∷ ps)

-- no more is declared than a workload may have
pub record IsSmall (a : Above) : Type 0 where
  pub streams : stream_count a ≤ stream_limit format.Three
  pub keys : a.keys ≤ key_limit
  pub pools : length a.pools ≤ pool_limit format.Three
  pub scheds : length a.scheds ≤ sched_limit format.Three
  pub objects : length a.objects ≤ object_limit format.Three
  pub units : unit_count a ≤ unit_limit format.Three

-- a number within its bounds may stand in a line
pub fit-within : (a : Above) (low high n : ℕ) → low ≤ n → n ≤ high → n < 2 ^ 64 → IsFit a (number.Within low high) n
fit-within a low high n le most lt = record {
  there = refl;
  within = and_from (nat_le low n) (nat_le n high) (le-leb low n le) (le-leb n high most);
  small = lt;
}

module _ (a : Above) (few : IsSmall a) where
  -- an object's number is small
  object-small : (x : ℕ) (t : Thing) → slice_get a.objects x ≡ Some t → x < 2 ^ 64
  object-small x t e = let within = slice_get_within a.objects x t e in let most = few.objects in omega arith

  -- a number that is met may stand in a line
  pub fit : (kind : Number) (n : ℕ) → IsMet a kind n → IsFit a kind n
  fit (number.Within low high) n h = fit-within a low high n h.0 h.1 h.2
  fit number.StreamCount n h =
      let most = most-streams a.format in
      let low = h.0 in
      let high = h.1 in
      record { there = refl; within = and_from _ _ (le-leb 1 n low) (le-leb n (stream_limit a.format) high); small = omega arith }
  fit number.UnitCount n h = let most = most-units a.format in record { there = refl; within = le-leb n (unit_limit a.format) h; small = omega arith }
  fit number.Copies n h =
      let most = most-units a.format in
      let low = h.0 in
      let high = h.1 in
      record { there = refl; within = and_from _ _ (le-leb 1 n low) (le-leb n (unit_limit a.format) high); small = omega arith }
  fit number.Times n h =
      let most = most-unit-ops a.format in
      let low = h.0 in
      let high = h.1 in
      record { there = refl; within = and_from _ _ (le-leb 1 n low) (le-leb n (unit_operation_limit a.format) high); small = omega arith }
  fit number.NewPool n h = record { there = le-leb n _ (omega arith); within = refl; small = let most = few.pools in omega arith }
  fit number.NewSched n h = record { there = le-leb n _ (omega arith); within = refl; small = let most = few.scheds in omega arith }
  fit number.NewObject n h = record { there = le-leb n _ (omega arith); within = refl; small = let most = few.objects in omega arith }
  fit number.NewUnit n h =
      let e : n ≡ declared_units a = h.0 in
      let lt : n < unit_count a = h.1 in
      record {
        there = le-leb n (declared_units a) (omega arith);
        within = refl;
        small = let most = few.units in omega arith;
      }
  fit number.Stream n h = record { there = lt-ltb n _ h; within = refl; small = let most = few.streams in omega arith }
  fit number.Pool n h = record { there = lt-ltb n _ h; within = refl; small = let most = few.pools in omega arith }
  fit number.Sched n h = record { there = lt-ltb n _ h; within = refl; small = let most = few.scheds in omega arith }
  fit number.Key n h = record { there = lt-ltb n _ h; within = refl; small = let most = few.keys in omega arith }
  fit number.Unit n h = record { there = lt-ltb n _ h; within = refl; small = let most = few.units in omega arith }
  fit number.Mutex n h = record { there = ap (λ (o : Option Thing). option_map_or is_mutex o false) h; within = refl; small = object-small n _ h }
  fit number.Cond n h = record { there = ap (λ (o : Option Thing). option_map_or is_condition o false) h.1; within = refl; small = object-small n _ h.1 }
  fit number.Eventual n h = record { there = ap (λ (o : Option Thing). option_map_or is_eventual o false) h; within = refl; small = object-small n _ h }
  fit number.Future n h = record { there = ap (λ (o : Option Thing). option_map_or is_future o false) h.2; within = refl; small = object-small n _ h.2 }
  fit number.Barrier n h = record { there = ap (λ (o : Option Thing). option_map_or is_barrier o false) h.1; within = refl; small = object-small n _ h.1 }
  fit number.RwLock n h = record { there = ap (λ (o : Option Thing). option_map_or is_rwlock o false) h; within = refl; small = object-small n _ h }

  -- and so may all of them
  pub all-fit : (ps : List (Number × ℕ)) → AreMet a ps → AreFit a ps
  all-fit [] h = tt
  all-fit (p ∷ []) h = (fit p.0 p.1 h, tt)
  all-fit (p ∷ q ∷ ps) h = (fit p.0 p.1 h.0, all-fit (q ∷ ps) h.1)
