-- Lines whose numbers and words fit the types of what they declare.
use Rattle.std.specs.Prelude.{ℕ, ◌≡◌, ◌<◌, ◌≤◌, ◌+◌, ◌*◌, ◌^◌, All, Bool, true, false, IsUtf8, List, [], Option, Some, None, drop, flat_map, length, ⊤}
use Rattle.std.specs.List.{range_with_len}
use Rattle.abt_machine.specs.declared.grammar.Form.{Form}
use Rattle.abt_machine.specs.declared.grammar.Form.TheVariants as form
use Rattle.abt_machine.specs.declared.grammar.Format.TheVariants as format
use Rattle.abt_machine.specs.declared.operations.Op.{Op}
use Rattle.abt_machine.specs.declared.operations.Op.TheVariants as op
use Rattle.abt_machine.specs.declared.operations.Rule.{Rule}
use Rattle.abt_machine.specs.declared.operations.Rule.TheVariants as rule
use Rattle.abt_machine.specs.Declaring.{Above, at, declared_with, listed, said_words, units_of, word_in}
use Rattle.abt_machine.specs.Forms.{section}
use Rattle.abt_machine.specs.Limits.{operation_limit, unit_operation_limit}
use Rattle.abt_machine.specs.Operations.{said_by}
use Rattle.abt_machine.specs.Words.{Text}
use Rattle.abt_machine.specs.Workloads.{all_ops, ops_of}
use Rattle.abt_machine.specs.declared.workload.UnitPart.{UnitPart}

-- a number of 32 bits
abbrev pub IsSmall : ℕ → Type 0
IsSmall n = n < 2 ^ 32

-- whether an operation's number may have 64 bits
abbrev pub is_wide : Op → Bool
is_wide (op.Set n) = true
is_wide (op.Add n) = true
is_wide o = false

-- the number of a user's order
abbrev pub IsSmallRule : Rule → List ℕ → Type 0
IsSmallRule (rule.User k) numbers = IsSmall (at numbers 1)
IsSmallRule r numbers = ⊤

-- the numbers of a `unit` line except the unit's own, and of an operation's line
abbrev pub AreUnitSmall : List ℕ → Type 0
AreUnitSmall numbers = IsSmall (at numbers 1) × IsSmall (at numbers 2)

abbrev pub AreOpSmall : Op → List ℕ → Type 0
AreOpSmall o numbers = (is_wide o ≡ false → IsSmall (at numbers 0)) × IsSmall (at numbers 1)

-- the numbers that a line keeps in 32 bits; a `repeat` line repeats no more operations than a unit has at most
abbrev pub AreSmall : Form → List ℕ → Type 0
AreSmall (form.Version F) numbers = ⊤
AreSmall form.Streams numbers = IsSmall (at numbers 0)
AreSmall form.Keys numbers = IsSmall (at numbers 0)
AreSmall (form.Pool access) numbers = IsSmall (at numbers 1) × IsSmall (at numbers 2)
AreSmall (form.Sched rule) numbers = All IsSmall (listed rule numbers) × IsSmallRule rule numbers
AreSmall form.Stream numbers = IsSmall (at numbers 1)
AreSmall (form.Object thing) numbers = IsSmall (at numbers 1)
AreSmall form.Units numbers = IsSmall (at numbers 0)
AreSmall (form.Unit role start) numbers = AreUnitSmall numbers
AreSmall (form.Many role start) numbers = IsSmall (at numbers 1) × AreUnitSmall (drop 1 numbers)
AreSmall form.End numbers = ⊤
AreSmall (form.Operation o) numbers = AreOpSmall o numbers
AreSmall (form.Repeat o) numbers = (at numbers 0 ≤ unit_operation_limit format.Three) × AreOpSmall o (drop 1 numbers)

-- a word that an operation says is UTF-8
abbrev pub IsSaidBy : Op → List Text → Type 0
IsSaidBy (op.Say w) words = IsUtf8 (word_in words 1)
IsSaidBy o words = ⊤

-- the same for a line
abbrev pub IsSaid : Form → List Text → Type 0
IsSaid (form.Operation o) words = IsSaidBy o words
IsSaid (form.Repeat o) words = IsSaidBy o (drop 2 words)
IsSaid f words = ⊤

-- the operations of the last unit
abbrev pub last_ops : Option UnitPart → List Op
last_ops None = []
last_ops (Some part) = ops_of part.body

abbrev pub op_count : Option UnitPart → ℕ
op_count last = length (last_ops last)

-- how many units the last `unit` or `many` line declares
abbrev pub last_count : ℕ → Option UnitPart → ℕ
last_count copies None = 0
last_count copies (Some part) = copies

-- the copies of the last unit can be declared
pub record IsClosable (a : Above) : Type 0 where
  pub few_said : length a.words + length a.said ≤ operation_limit format.Three
  pub few_ops : length (all_ops (units_of a)) ≤ operation_limit format.Three
  pub few_words : length (said_words a) ≤ operation_limit format.Three
  pub said : flat_map said_by (last_ops a.last) ≡ range_with_len (length a.words) (length a.said)

-- the numbers of the words that the units in question say, each with those of the one before it: all have 32 bits
abbrev pub AreLater : ℕ → ℕ → List ℕ → Type 0
AreLater copies said numbers = All (λ w. w + copies * said < 2 ^ 32) numbers

-- what is declared, with the last unit and its copies among the units
abbrev pub closed : Above → Above
closed a = record a { units = units_of a; last = None; copies = 0; words = said_words a; said = [] }

-- a line that can be declared
pub record IsDeclarable (a : Above) (f : Form) (words : List Text) (numbers : List ℕ) : Type 0 where
  pub small : AreSmall f numbers
  pub said : IsSaid f words
  pub closable : IsClosable a

-- what is declared with a sound line
abbrev pub with_line : Above → Form → List Text → List ℕ → Above
with_line a f words numbers = record (declared_with a f words numbers) { section = section f; begun = true }
