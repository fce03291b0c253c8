-- Operations and units that are placed well.
use Rattle.std.proofs.Common.{ℕ, ◌<◌, ◌≤◌, length, arith}
use Rattle.std.proofs.lemmas.Bool.{cases_lt}
use Rattle.abt_machine.specs.declared.workload.Parts.{Parts}
use Rattle.std.proofs.Common.{inl, inr, sym, ◌∙◌}
use Rattle.abt_machine.proofs.Declared.{undeclared-start}
use Rattle.abt_laws.proofs.Options.{none≢some}
use Rattle.abt_flow.specs.Finishing.{op_count}
use Rattle.abt_orderly.specs.Listing.{IsPlacedAt, IsPlacedUnit}
use Rattle.abt_orderly.proofs.Needing.{op-inside, op-unit}

-- if the operations that there are, are placed, all are
pub all-placed : (W : Parts) (u n : ℕ) → op_count W u ≤ n → ((j : ℕ) → j < n → IsPlacedAt W u j) → (k : ℕ) → IsPlacedAt W u k
all-placed W u n over each k o is = let l : k < op_count W u = op-inside W u k o is in each k (omega arith) o is

pub all-units : (W : Parts) (n : ℕ) → length W.units ≤ n → ((v : ℕ) → v < n → IsPlacedUnit W v) → (u : ℕ) → IsPlacedUnit W u
all-units W n over each u =
    record {
      ops = λ k o is. (let l : u < length W.units = op-unit W u k o is in let m : u < n = omega arith in (each u m).ops k o is);
      starts = λ p start. elim (cases_lt u (length W.units)) [
        | inl l ↦ (let m : u < n = omega arith in (each u m).starts p start)
        | inr l ↦ absurd (none≢some (sym (undeclared-start W u l) ∙ start))
      ];
    }
