-- Numbers between texts.
use Rattle.std.specs.Prelude.{ℕ, ◌++◌, decimal}
use Rattle.abt_machine.specs.Words.{Text}

-- a number between two texts
abbrev pub around : Text → ℕ → Text → Text
around before n after = before ++ (decimal n ++ after)
