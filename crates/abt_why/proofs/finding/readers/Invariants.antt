use Rattle.std.proofs.Common.{◌≡◌, length, map}
use Rattle.std.specs.List.{filter, range_with_len}
use Rattle.abt_machine.specs.Holders.{reads}
use Rattle.abt_machine.specs.Numbers.{unit_no}
use Rattle.abt_why.proofs.finding.readers.Given as goal

abbrev pub invariant-loop-v : goal.invariant-loop-v
invariant-loop-v l = record {
  readers : l.readers.items ≡ map unit_no (filter (λ v. reads v l.lock.lock) (range_with_len 0 l.v));
  end : l.v-end ≡ length l.w.units;
}
