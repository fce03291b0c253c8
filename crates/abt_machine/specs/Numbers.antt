-- The number types of the crate, made from plain numbers, and truth as a number.
use Rattle.std.specs.Prelude.{ℕ, Bool, true, false}
use Rattle.abt_machine.specs.declared.numbers.StreamNo.{StreamNo}
use Rattle.abt_machine.specs.declared.numbers.PoolNo.{PoolNo}
use Rattle.abt_machine.specs.declared.numbers.SchedNo.{SchedNo}
use Rattle.abt_machine.specs.declared.numbers.UnitNo.{UnitNo}
use Rattle.abt_machine.specs.declared.numbers.ObjectNo.{ObjectNo}

abbrev pub stream_no : ℕ → StreamNo
stream_no n = record { 0 = n }

abbrev pub pool_no : ℕ → PoolNo
pool_no n = record { 0 = n }

abbrev pub sched_no : ℕ → SchedNo
sched_no n = record { 0 = n }

abbrev pub unit_no : ℕ → UnitNo
unit_no n = record { 0 = n }

abbrev pub object_no : ℕ → ObjectNo
object_no n = record { 0 = n }

-- 1 if it holds, else 0
abbrev pub truth : Bool → ℕ
truth true = 1
truth false = 0
