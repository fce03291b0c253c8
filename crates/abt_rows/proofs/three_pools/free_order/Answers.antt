use Rattle.std.proofs.Common.{ℕ, ◌<◌, List, [], ◌∷◌, refl, arith}
use Rattle.std.specs.Prelude.{IsPermutation}
use Rattle.std.specs.Fmt.{digits}
use Rattle.std.proofs.lemmas.List.Sorted.{IsPermutation-append_comm}
use Rattle.abt_machine.specs.declared.events.Cause.TheVariants as cause
use Rattle.abt_machine.specs.declared.events.Event.{Event}
use Rattle.abt_machine.specs.declared.events.Outcome.TheVariants as outcome
use Rattle.abt_machine.specs.declared.events.What.{What}
use Rattle.abt_machine.specs.declared.events.What.TheVariants as what
use Rattle.abt_machine.specs.declared.operations.Rule.TheVariants as rule
use Rattle.abt_machine.specs.declared.workload.Parts.{Parts}
use Rattle.abt_machine.specs.Numbers.{pool_no, stream_no, unit_no}
use Rattle.abt_machine.specs.Runs.{RunFrom}
use Rattle.abt_machine.specs.Start.{start}
use Rattle.abt_rows.specs.ThreePools.{free_alone}
use Rattle.abt_rows.proofs.Deciding.{holds}
use Rattle.abt_rows.proofs.Stamping.{lamport}
use Rattle.abt_rows.proofs.Working.{shown}
use Rattle.abt_rows.proofs.Workloads.{declared, fifos, sched, ult_at}
use Rattle.abt_rows.proofs.three_pools.free_order.Goals as goal

abbrev workload : Parts
workload = declared 0 (fifos 3) (sched (rule.User 0) (0 ∷ 1 ∷ 2 ∷ []) ∷ [])
    [] (
    ult_at 0 [] ∷
    []) []

abbrev event : ℕ → What → Event
event t w = record { stamp = t; stream = stream_no 0; what = w }

abbrev journal : List Event
journal =
    event 1 (what.Miss (pool_no 1)) ∷
    event 2 (what.Miss (pool_no 2)) ∷
    event 3 (what.Take (pool_no 0) (unit_no 0)) ∷
    event 4 (what.Look (unit_no 0)) ∷
    event 5 (what.End (unit_no 0) cause.Done) ∷
    event 6 (what.Miss (pool_no 2)) ∷
    event 7 (what.Miss (pool_no 0)) ∷
    event 8 (what.Miss (pool_no 1)) ∷
    []

-- the orders of its two rounds
first-order : IsPermutation {X = ℕ} (0 ∷ 1 ∷ 2 ∷ []) (1 ∷ 2 ∷ 0 ∷ [])
first-order = IsPermutation-append_comm (0 ∷ []) (1 ∷ 2 ∷ [])

second-order : IsPermutation {X = ℕ} (0 ∷ 1 ∷ 2 ∷ []) (2 ∷ 0 ∷ 1 ∷ [])
second-order = IsPermutation-append_comm (0 ∷ 1 ∷ []) (2 ∷ [])

one : 0 < 1
one = omega arith

run : RunFrom workload free_alone (start workload) journal
run = (
  one,
  (refl, refl, (1 ∷ 2 ∷ 0 ∷ [], first-order, (2 ∷ 0 ∷ [], refl))),
  (
    one,
    (refl, refl, (1 ∷ 2 ∷ 0 ∷ [], first-order, (0 ∷ [], refl))),
    (
      one,
      (refl, refl, (1 ∷ 2 ∷ 0 ∷ [], first-order, ([], refl))),
      (
        one,
        (refl, refl),
        (
          one,
          (refl, refl),
          (
            one,
            (refl, refl, (2 ∷ 0 ∷ 1 ∷ [], second-order, (0 ∷ 1 ∷ [], refl))),
            (
              one,
              (refl, refl, (2 ∷ 0 ∷ 1 ∷ [], second-order, (1 ∷ [], refl))),
              (
                one,
                (refl, refl, (2 ∷ 0 ∷ 1 ∷ [], second-order, ([], refl))),
                tt,
              ),
            ),
          ),
        ),
      ),
    ),
  ),
)

pub returns : goal.returns
unfolding digits
returns c = shown workload free_alone 10000 (journal, run) outcome.Finished _ _ _ (holds (lamport workload journal) refl) refl refl refl refl refl
