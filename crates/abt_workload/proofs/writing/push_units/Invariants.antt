use Rattle.std.specs.List.{enumerate_from}
use Rattle.std.proofs.Common.{◌≡◌, ◌++◌, flat_map, take}
use Rattle.abt_machine.specs.Canonical.{unit_lines}
use Rattle.abt_machine.specs.Words.{text_of}
use Rattle.abt_workload.proofs.writing.push_units.Given as goal

abbrev pub invariant-loop-u : goal.invariant-loop-u
invariant-loop-u l = l.out.items ≡ l.fn.out.items ++ text_of (flat_map (λ p. unit_lines l.w p.0 p.1) (enumerate_from 0 (take l.u l.w.units)))
