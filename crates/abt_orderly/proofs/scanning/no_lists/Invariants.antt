use Rattle.std.proofs.Common.{Vec, ◌≡◌, ℕ, [], length, Some, List}
use Rattle.std.specs.Prelude.{slice_get}
use Rattle.std.specs.declared.alloc.Global.{Global}
use Rattle.abt_machine.specs.declared.numbers.UnitNo.{UnitNo}
use Rattle.abt_orderly.proofs.scanning.no_lists.Given as goal

pub record Empty (waiting : List (Vec UnitNo Global)) (n : ℕ) : Type 0 where
  pub all : length waiting ≡ n
  pub empty : (i : ℕ) (us : Vec UnitNo Global) → slice_get waiting i ≡ Some us → us.items ≡ []

abbrev pub invariant-loop-i : goal.invariant-loop-i
invariant-loop-i l = Empty l.waiting.items l._i
