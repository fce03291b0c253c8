-- The schedulers that have a place in a valid workload are of those that there may be.
use Rattle.std.proofs.Common.{◌≡◌, ◌≢◌, ◌≤◌, ◌<◌, zero, suc, List, [], ◌∷◌, ap, arith, flat_map, length, map}
use Rattle.std.specs.Prelude.{All, AllPairs}
use Rattle.std.proofs.lemmas.List.Elements.{All-append, All-map}
use Rattle.std.proofs.lemmas.Option.{slice_get_within}
use Rattle.abt_machine.specs.declared.grammar.Format.TheVariants as format
use Rattle.abt_machine.specs.declared.numbers.SchedNo.{SchedNo}
use Rattle.abt_machine.specs.declared.operations.Body.{Body}
use Rattle.abt_machine.specs.declared.operations.Body.TheVariants as body
use Rattle.abt_machine.specs.declared.workload.Parts.{Parts}
use Rattle.abt_machine.specs.declared.workload.UnitPart.{UnitPart}
use Rattle.abt_machine.specs.Limits.{sched_limit}
use Rattle.abt_machine.specs.Valid.{IsBody, IsUnit, IsValid, placed_scheds, sched_in}
use Rattle.abt_machine.specs.Workloads.{main_from, main_of}
use Rattle.abt_machine.proofs.Elements.{at-all}

-- the scheduler that a right body is, is one of those that there may be
body-places : (W : Parts) (b : Body) → IsBody (length W.scheds) b → length W.scheds ≤ sched_limit format.Three → All (λ g. g < sched_limit format.Three) (sched_in b)
body-places W (body.Ult ops) h few = λ k d within. absurd (omega arith)
body-places W (body.Task ops) h few = λ k d within. absurd (omega arith)
body-places W (body.Sched g) h few = by
  where
    by : All (λ n. n < sched_limit format.Three) (g.0 ∷ [])
    by zero d within = omega arith
    by (suc k) d within = absurd (omega arith)

-- the schedulers that right units are, are of those
units-places : (W : Parts) (units : List UnitPart) → All (IsUnit W) units → length W.scheds ≤ sched_limit format.Three → All (λ g. g < sched_limit format.Three) (flat_map (λ (part : UnitPart). sched_in part.body) units)
units-places W [] h few = λ k d within. absurd (omega arith)
units-places W (part ∷ units) h few =
    All-append (λ g. g < sched_limit format.Three) (sched_in part.body) (flat_map (λ (p : UnitPart). sched_in p.body) units)
    (body-places W part.body (h 0 part (omega arith)).kind few)
    (units-places W units (λ k d within. h (suc k) d (omega arith)) few)

-- the main schedulers of a valid workload are of those
pub mains-places : (W : Parts) → IsValid W → All (λ (g : SchedNo). g.0 < sched_limit format.Three) W.mains
mains-places W h = at-all (λ (g : SchedNo). g.0 < sched_limit format.Three) W.mains (λ s g at.
    let inside = slice_get_within W.mains s g at in
    let same : main_of W s ≡ g.0 = ap main_from at in
    let main = (h.streams s (let n = h.mains in omega arith)).main in
    let few = h.few_scheds in
    omega arith)

-- the schedulers that have a place are apart, and of those
pub valid-places : (W : Parts) → IsValid W → All (λ g. g < sched_limit format.Three) (placed_scheds W) × AllPairs (λ a b. a ≢ b) (placed_scheds W)
valid-places W h = (
  All-append (λ g. g < sched_limit format.Three) (map (λ (g : SchedNo). g.0) W.mains) (flat_map (λ (part : UnitPart). sched_in part.body) W.units)
      (All-map (λ g. g < sched_limit format.Three) (λ (g : SchedNo). g.0) W.mains (mains-places W h))
      (units-places W W.units h.units h.few_scheds),
  h.one_place,
)
