-- How many steps each stream may make, by the format of the workload's text and by the words of a command.
use Rattle.std.specs.Prelude.{ℕ, ◌≡◌, ◌<◌, ◌≤◌, Option, Some, None}
use Rattle.abt_machine.specs.declared.grammar.Format.{Format}
use Rattle.abt_machine.specs.declared.grammar.Format.TheVariants as format
use Rattle.abt_machine.specs.Limits.{default_steps, step_limit}

-- the maximum number of steps that a word may ask for, by the format of the text
abbrev pub step_limit_of : Format → ℕ
step_limit_of format.One = step_limit
step_limit_of format.Two = step_limit
step_limit_of format.Three = 16777216

-- how many steps each stream may make, if no word says how many: by format 3 as many as a word may ask for
abbrev pub default_steps_of : Format → ℕ
default_steps_of format.One = default_steps
default_steps_of format.Two = default_steps
default_steps_of format.Three = step_limit_of format.Three

-- each stream may make n steps, by the number that a word asks for, if one does
abbrev pub LetsMake : Format → Option ℕ → ℕ → Type 0
LetsMake f None n = n ≡ default_steps_of f
LetsMake f (Some asked) n = (n ≡ asked) × (asked ≤ step_limit_of f)

-- a word asks for more steps than the format allows
abbrev pub AsksTooMany : Format → Option ℕ → Type 0
AsksTooMany f None = ⊥
AsksTooMany f (Some asked) = step_limit_of f < asked
