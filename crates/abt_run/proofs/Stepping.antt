-- How many steps each stream may make, by what was read of a file.
use Rattle.std.proofs.Common.{◌≡◌, ◌⊎◌, ◌<◌, ◌≤◌, ◌∙◌, ℕ, suc, take, Option, Some, None, inl, inr, sym, ap, subst, arith}
use Rattle.std.specs.Prelude.{IfSome, ⊤}
use Rattle.abt_machine.specs.declared.grammar.Format.{Format}
use Rattle.abt_machine.specs.declared.grammar.Format.TheVariants as format
use Rattle.abt_machine.specs.declared.workload.Parts.{Parts}
use Rattle.abt_machine.specs.Grammar.{format_of}
use Rattle.abt_machine.specs.Limits.{text_limit}
use Rattle.abt_machine.specs.Spelling.{lines_of}
use Rattle.abt_machine.specs.Words.{Text}
use Rattle.abt_shell.specs.Fetched.{Unread}
use Rattle.abt_shell.specs.Status.{number_of_stop}
use Rattle.abt_shell.specs.Told.{Grew}
use Rattle.abt_shell.specs.declared.status.Stop.{Stop}
use Rattle.abt_shell.specs.declared.status.Stop.TheVariants.{BadWords, BadLine, CannotRead, OutOfMemory}
use Rattle.abt_shell.proofs.Fetched.{of-observed, stops-more}
use Rattle.abt_words.specs.declared.commands.CheckWords.{CheckWords}
use Rattle.abt_words.specs.declared.commands.Command.{Command}
use Rattle.abt_words.specs.declared.commands.Command.TheVariants as command
use Rattle.abt_words.specs.declared.commands.OutputWords.{OutputWords}
use Rattle.abt_words.specs.declared.commands.RunWords.{RunWords}
use Rattle.abt_words.specs.Commands.{Says}
use Rattle.abt_words.specs.Steps.{AsksTooMany, LetsMake, step_limit_of}
use Rattle.abt_words.proofs.OneCommand.{one-command}
use Rattle.abt_run.specs.Call.{RunsKnown}
use Rattle.abt_run.specs.Given.{Given}
use Rattle.abt_run.specs.Prepared.{HasNoRun, HasNoWorkload, IsNoWorkload}
use Rattle.abt_run.specs.Steps.{AsksBeyond, Exceeds, ExceedsKnown, HasFormat, LetsStreams, MayMake, StopsAtNoLine, format_read}

-- Formats.

module _ (told : Option Text) (front now : Text) (e : IfSome told (λ xs. front ≡ take (suc (text_limit format.Three)) xs)) (same : now ≡ front) (f : Format) (is : f ≡ format_of (lines_of now)) where
  -- the format of the bytes that were read is that of the file
  told-format : HasFormat told f
  told-format = by told e
    where
      by : (o : Option Text) → IfSome o (λ xs. front ≡ take (suc (text_limit format.Three)) xs) → HasFormat o f
      by None known = tt
      by (Some xs) known = is ∙ ap (λ (text : Text). format_of (lines_of text)) (same ∙ known)

  pub told-lets : (asked : Option ℕ) (n : ℕ) → LetsMake f asked n → LetsStreams told asked n
  told-lets asked n lets = record { format = f; its = told-format; lets = lets }

  pub told-exceeds : (asked : Option ℕ) → AsksTooMany f asked → Exceeds told asked
  told-exceeds asked many = record { format = f; its = told-format; many = many }

-- a format that is known is one
module _ (told : Option Text) (bytes : Text) (seen : told ≡ Some bytes) where
  its-format : (f : Format) → HasFormat told f → f ≡ format_read bytes
  its-format f its = of-observed (λ text. f ≡ format_read text) told bytes seen its

  one-format : (f g : Format) → HasFormat told f → HasFormat told g → f ≡ g
  one-format f g one two = its-format f one ∙ sym (its-format g two)

-- Steps.

-- a number that is let is not too great
let-within : (f : Format) (asked : Option ℕ) (n : ℕ) → LetsMake f asked n → AsksTooMany f asked → ⊥
let-within f None n lets many = many
let-within f (Some steps) n lets many = let most : steps ≤ step_limit_of f = lets.1 in let more : step_limit_of f < steps = many in absurd (omega arith)

pub not-exceeded : (told : Option Text) (asked : Option ℕ) (n : ℕ) → LetsStreams told asked n → ExceedsKnown told asked → ⊥
not-exceeded told asked n lets known =
    let same : lets.format ≡ format_read known.0 = its-format told known.0 known.1 lets.format lets.its in
    let-within lets.format asked n lets.lets (subst (λ (f : Format). AsksTooMany f asked) (sym same) known.2)

-- one number is let
one-number : (f : Format) (asked : Option ℕ) (m n : ℕ) → LetsMake f asked m → LetsMake f asked n → m ≡ n
one-number f None m n one two = one ∙ sym two
one-number f (Some steps) m n one two = one.0 ∙ sym two.0

pub same-number : (told : Option Text) (bytes : Text) (asked : Option ℕ) (m n : ℕ) → told ≡ Some bytes → LetsStreams told asked m → LetsStreams told asked n → m ≡ n
same-number told bytes asked m n seen one two =
    let same : one.format ≡ two.format = one-format told bytes seen one.format two.format one.its two.its in
    one-number two.format asked m n (subst (λ (f : Format). LetsMake f asked m) same one.lets) two.lets

-- a command whose workload is known lets each stream make one number of steps
pub same-steps : (g : Given) (d : Command) (W : Parts) (m n : ℕ) → RunsKnown d g W → MayMake d g m → MayMake d g n → m ≡ n
same-steps g (command.Run w) W m n known one two = same-number (g.file w.file) known.0 w.steps m n known.1 one two
same-steps g (command.SelfRun units) W m n known one two = one ∙ sym two
same-steps g (command.Check w) W m n known one two = absurd one
same-steps g (command.CheckOutput w) W m n known one two = absurd one
same-steps g (command.Flow file) W m n known one two = absurd one
same-steps g (command.Explore w) W m n known one two = absurd one
same-steps g command.Help W m n known one two = absurd one
same-steps g command.Version W m n known one two = absurd one

-- Commands.

run-is : (v w : RunWords) → command.Run v ≡ command.Run w → v ≡ w
run-is v w same = cc

-- equal commands ask for the same steps of the same file
pub exceeds-same : (file_of : Text → Option Text) (v w : RunWords) (now : Text) → command.Run v ≡ command.Run w → w.file ≡ now → ExceedsKnown (file_of v.file) v.steps → ExceedsKnown (file_of now) w.steps
exceeds-same file_of v w now same is known =
    let equal : v ≡ w = run-is v w same in
    subst (λ (name : Text). ExceedsKnown (file_of name) w.steps) is (subst (λ (x : RunWords). ExceedsKnown (file_of x.file) x.steps) equal known)

-- Commands that ask for no steps.

run-is-no-check : (v : RunWords) (w : CheckWords) → command.Run v ≡ command.Check w → ⊥
run-is-no-check v w e = cc

run-is-no-output : (v : RunWords) (w : OutputWords) → command.Run v ≡ command.CheckOutput w → ⊥
run-is-no-output v w e = cc

run-is-no-flow : (v : RunWords) (f : Text) → command.Run v ≡ command.Flow f → ⊥
run-is-no-flow v f e = cc

pub check-asks-none : (g : Given) (w : CheckWords) → Says g.words (command.Check w) → AsksBeyond g → ⊥
check-asks-none g w says beyond = run-is-no-check _ w (one-command g.words (command.Run beyond.asked) (command.Check w) beyond.says says)

pub output-asks-none : (g : Given) (w : OutputWords) → Says g.words (command.CheckOutput w) → AsksBeyond g → ⊥
output-asks-none g w says beyond = run-is-no-output _ w (one-command g.words (command.Run beyond.asked) (command.CheckOutput w) beyond.says says)

pub flow-asks-none : (g : Given) (file : Text) → Says g.words (command.Flow file) → AsksBeyond g → ⊥
flow-asks-none g file says beyond = run-is-no-flow _ file (one-command g.words (command.Run beyond.asked) (command.Flow file) beyond.says says)

-- Reasons to stop.

-- a workload that is not run, though the words ask for no steps, is none
pub no-run-no-workload : (told : Option Text) (faults : ℕ × ℕ) (s : Stop) → HasNoRun told None faults s → HasNoWorkload told faults s
no-run-no-workload told faults = stops-more (Exceeds told None) ⊥ ⊤ ⊤ (IsNoWorkload told) (IsNoWorkload told) faults faults (λ beyond. beyond.many) (λ known. known) (λ line w no. no) (λ grew. grew)

-- bytes that were not read have no line
pub unread-no-line : (faults : ℕ × ℕ) (s : Stop) → Unread faults s → StopsAtNoLine faults s
unread-no-line faults = stops-more ⊥ ⊤ ⊤ ⊤ (λ line w. ⊥) (λ line w. ⊥) faults faults (λ no. tt) (λ known. known) (λ line w no. no) (λ grew. grew)

-- and no run
pub unread-no-run : (told : Option Text) (asked : Option ℕ) (faults : ℕ × ℕ) (s : Stop) → Unread faults s → HasNoRun told asked faults s
unread-no-run told asked faults = stops-more ⊥ (Exceeds told asked) ⊤ ⊤ (λ line w. ⊥) (IsNoWorkload told) faults faults (λ no. absurd no) (λ known. known) (λ line w no. absurd no) (λ grew. grew)

-- nor has what is no workload's text
pub no-workload-no-run : (told : Option Text) (asked : Option ℕ) (faults : ℕ × ℕ) (s : Stop) → HasNoWorkload told faults s → HasNoRun told asked faults s
no-workload-no-run told asked faults = stops-more ⊥ (Exceeds told asked) ⊤ ⊤ (IsNoWorkload told) (IsNoWorkload told) faults faults (λ no. absurd no) (λ known. known) (λ line w no. no) (λ grew. grew)

-- a call that stopped at no line ends with 2, if no fault of reading came, or with 7
pub no-line-ends : (n : ℕ) (faults : ℕ × ℕ) (cause stop : Stop) → StopsAtNoLine faults cause → (Grew faults → ⊥) → n ≡ number_of_stop stop → (stop ≡ cause) ⊎ (stop ≡ OutOfMemory) → (n ≡ 2) ⊎ (n ≡ 7)
no-line-ends n faults cause stop why still is (inr none) = inr (is ∙ ap number_of_stop none)
no-line-ends n faults BadWords stop why still is (inl same) = inl (is ∙ ap number_of_stop same)
no-line-ends n faults (BadLine line w) stop why still is (inl same) = absurd why
no-line-ends n faults CannotRead stop why still is (inl same) = absurd (still why.1)
no-line-ends n faults OutOfMemory stop why still is (inl same) = inr (is ∙ ap number_of_stop same)
