-- A count of faults that rises by one with each failure.
use Rattle.std.proofs.Common.{◌≡◌, ◌≤◌, ℕ, Result, Ok, Err, OnOk, OnErr, arith}
use Rattle.std.proofs.lemmas.Grind.{common_steps}
use Rattle.abt_source.specs.Source.{next_count, Rose}
use Rattle.abt_source.specs.declared.Failed.{Failed}

-- The next number is no less.
pub next_count-le : (old new : ℕ) → new ≡ next_count old → old ≤ new
next_count-le old new e = grind (arith, common_steps)

-- One more failure makes the count rise.
pub next_count-Rose : (old new : ℕ) → new ≡ next_count old → Rose old new
next_count-Rose old new e = grind (arith, common_steps)

-- A count that rises if a call fails, and only then, never falls.
pub later : (r : Result ℕ Failed) (old new : ℕ)
    → OnOk r (new ≡ old) → OnErr r (new ≡ next_count old) → old ≤ new
later (Ok n) old new ok failed = omega arith
later (Err e) old new ok failed = next_count-le old new failed

-- A call that fails makes such a count rise.
pub cause : (r : Result ℕ Failed) (old new : ℕ) → OnErr r (new ≡ next_count old) → OnErr r (Rose old new)
cause (Ok n) old new failed = tt
cause (Err e) old new failed = next_count-Rose old new failed
