-- What operations need, meet and create. A need has a number: that an eventual is set has the eventual's, and that a unit is at its end has the unit's, behind those of all objects.
use Rattle.std.specs.Prelude.{ℕ, ◌+◌, length, Option, Some, None}
use Rattle.abt_machine.specs.declared.numbers.UnitNo.{UnitNo}
use Rattle.abt_machine.specs.declared.operations.Op.{Op}
use Rattle.abt_machine.specs.declared.operations.Op.TheVariants as op
use Rattle.abt_machine.specs.declared.workload.Parts.{Parts}
use Rattle.abt_machine.specs.Workloads.{op_at}

-- how many needs there may be
abbrev pub needs_in : Parts → ℕ
needs_in W = length W.objects + length W.units

-- that unit u is at its end
abbrev pub unit_need : Parts → ℕ → ℕ
unit_need W u = length W.objects + u

abbrev pub need_from : Parts → Option Op → Option ℕ
need_from W (Some (op.EvWait x)) = Some x.0
need_from W (Some (op.Join v)) = Some (unit_need W v.0)
need_from W _ = None

-- what operation k of unit u needs, beside those before it
abbrev pub need_at : Parts → ℕ → ℕ → Option ℕ
need_at W u k = need_from W (op_at W u k)

abbrev pub meets_from : Parts → ℕ → Option Op → Option ℕ
meets_from W u (Some (op.EvSet x)) = Some x.0
meets_from W u (Some _) = None
meets_from W u None = Some (unit_need W u)

-- the need that operation k of unit u meets, or that its end meets
abbrev pub meets_at : Parts → ℕ → ℕ → Option ℕ
meets_at W u k = meets_from W u (op_at W u k)

abbrev pub creates_from : Option Op → Option UnitNo
creates_from (Some (op.Create v p)) = Some v
creates_from _ = None

-- the unit that operation k of unit u creates
abbrev pub creates_at : Parts → ℕ → ℕ → Option UnitNo
creates_at W u k = creates_from (op_at W u k)
