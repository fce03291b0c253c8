use Rattle.std.proofs.Common.{◌≡◌, ◌∷◌, map}
use Rattle.std.specs.List.{range_with_len}
use Rattle.abt_generate.specs.Generated.{adder, first_unit}
use Rattle.abt_generate.proofs.generated.units.Given as goal

abbrev pub invariant-loop-k : goal.invariant-loop-k
invariant-loop-k l = l.units.items ≡ first_unit l.n ∷ map adder (range_with_len 1 l.k)
