-- The operations of the generator's workload, and how many there are.
use Rattle.std.proofs.Common.{◌≡◌, ℕ, ◌≤◌, ◌+◌, ◌*◌, List, [], ◌∷◌, ◌++◌, length, map, ◌∙◌, arith, lit≤, length-append}
use Rattle.std.specs.Prelude.{◌%◌}
use Rattle.std.proofs.lemmas.List.{length-map}
use Rattle.std.proofs.lemmas.List.FromFn.{length-range_with_len}
use Rattle.abt_machine.specs.declared.grammar.Format.TheVariants as format
use Rattle.abt_machine.specs.declared.operations.Op.{Op}
use Rattle.abt_machine.specs.declared.operations.Op.TheVariants as op
use Rattle.abt_machine.specs.declared.workload.UnitPart.{UnitPart}
use Rattle.abt_machine.specs.Limits.{adder_limit, operation_limit}
use Rattle.abt_machine.specs.Numbers.{object_no, pool_no, unit_no}
use Rattle.abt_machine.specs.Workloads.{all_ops, ops_of}
use Rattle.abt_generate.specs.Generated.{adder, adders, first_ops, first_unit}
use Rattle.abt_generate.proofs.Lists.{Each, each-always, each-map, length-flat_map-most}

abbrev pub create : ℕ → Op
create v = op.Create (unit_no v) (pool_no (v % 4))

abbrev pub join : ℕ → Op
join v = op.Join (unit_no v)

abbrev last_ops : List Op
last_ops = op.Lock (object_no 0) ∷ op.Load (object_no 0) ∷ op.Print ∷ op.Unlock (object_no 0) ∷ []

-- unit 0 has two operations for each adder, and four
pub length-first_ops : (n : ℕ) → length (first_ops n) ≡ n + n + 4
length-first_ops n =
    let all : length ((map create (adders n) ++ map join (adders n)) ++ last_ops) ≡ length (map create (adders n) ++ map join (adders n)) + 4 = length-append (map create (adders n) ++ map join (adders n)) last_ops in
    let both : length (map create (adders n) ++ map join (adders n)) ≡ length (map create (adders n)) + length (map join (adders n)) = length-append (map create (adders n)) (map join (adders n)) in
    let one : length (map create (adders n)) ≡ n = length-map (adders n) create ∙ length-range_with_len 1 n in
    let two : length (map join (adders n)) ≡ n = length-map (adders n) join ∙ length-range_with_len 1 n in
    omega arith

-- and each adder has six
pub few-ops : (n : ℕ) → n ≤ adder_limit → length (all_ops (first_unit n ∷ map adder (adders n))) ≤ operation_limit format.Three
few-ops n few =
    let units : List UnitPart = map adder (adders n) in
    let six : Each (λ (part : UnitPart). length (ops_of part.body) ≤ 6) units =
    each-map (λ (part : UnitPart). length (ops_of part.body) ≤ 6) adder (adders n) (each-always (λ v. length (ops_of (adder v).body) ≤ 6) (λ v. lit≤ tt) (adders n)) in
    let most : length (all_ops units) ≤ length units * 6 = length-flat_map-most (λ (part : UnitPart). ops_of part.body) 6 units six in
    let count : length units ≡ n = length-map (adders n) adder ∙ length-range_with_len 1 n in
    let first : length (first_ops n) ≡ n + n + 4 = length-first_ops n in
    let all : length (first_ops n ++ all_ops units) ≡ length (first_ops n) + length (all_ops units) = length-append (first_ops n) (all_ops units) in
    omega arith
