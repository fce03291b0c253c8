use Rattle.std.proofs.Common.{◌≡◌, ◌∷◌}
use Rattle.std.specs.Prelude.{◌%◌, ◌^◌, ◌-◌, if◌then◌else◌, sum_by}
use Rattle.std.specs.List.{range_with_len}
use Rattle.abt_kernels.specs.Queens.{attacks, columns, completions}
use Rattle.abt_kernels.proofs.queens.+completions.Given as goal

abbrev pub decreases-completions : goal.decreases-completions
decreases-completions l = l.rows

abbrev pub invariant-loop-column : goal.invariant-loop-column
invariant-loop-column l = l.count ≡ sum_by (λ c. if attacks c 1 (columns l.placed) then 0 else completions l.n (l.rows - 1) (c ∷ columns l.placed)) (range_with_len 0 l.column) % 2 ^ 64
