-- What a counter does.
use Rattle.std.specs.Prelude.{◌≡◌, ℕ, ◌+◌, ◌%◌, ◌^◌}
use Rattle.booth_caller.specs.declared.counter.Counter.{Counter}

-- the old counter, the number to add, the answer, which is the new sum, and the new counter
abbrev pub Adds : Counter → ℕ → ℕ → Counter → Type 0
Adds old number answer new = (new.sum ≡ (old.sum + number) % 2 ^ 64) × (answer ≡ new.sum)
