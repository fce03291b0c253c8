-- From what is known of one file to what is known of a call.
use Rattle.std.proofs.Common.{◌≡◌, ◌∙◌, ◌<◌, ◌≤◌, ℕ, List, length, map, Option, Some, None, inl, inr, ap, refl, subst, sym, arith}
use Rattle.std.specs.Prelude.{IfSome, ⊤}
use Rattle.std.proofs.lemmas.List.{length-map}
use Rattle.abt_machine.specs.declared.events.Event.{Event}
use Rattle.abt_machine.specs.declared.events.Outcome.{Outcome}
use Rattle.abt_machine.specs.declared.workload.Parts.{Parts}
use Rattle.abt_machine.specs.Words.{Text}
use Rattle.abt_generate.specs.Generated.{generated}
use Rattle.abt_words.specs.declared.commands.CheckWords.{CheckWords}
use Rattle.abt_words.specs.declared.commands.Command.{Command}
use Rattle.abt_words.specs.declared.commands.Command.TheVariants as command
use Rattle.abt_words.specs.declared.commands.OutputWords.{OutputWords}
use Rattle.abt_words.specs.declared.commands.RunWords.{RunWords}
use Rattle.abt_words.specs.Commands.{Says}
use Rattle.abt_words.proofs.OneCommand.{one-command}
use Rattle.abt_shell.specs.Fetched.{HasNoJournal, IsNoJournalLine}
use Rattle.abt_shell.specs.Outputs.{HasNoOutput, IsNoOutputLine}
use Rattle.abt_shell.specs.declared.status.Stop.{Stop}
use Rattle.abt_shell.specs.declared.status.Wrong.{Wrong}
use Rattle.abt_shell.specs.declared.status.Wrong.TheVariants.{Workload, Journal, Lives}
use Rattle.abt_shell.proofs.Fetched.{grew-later, stops-file, stops-more}
use Rattle.abt_run.specs.Given.{Given, IsFileOf, IsNamed, IsReadFrom, NamesFile, workload_file}
use Rattle.abt_run.specs.Prepared.{HasNoRun, HasNoWorkload, IsBadCommand, IsBadLine, IsNoWorkload, StopsCommand}
use Rattle.abt_run.specs.Printed.{Prints, Ran}
use Rattle.abt_run.specs.declared.keeping.Keep.{Keep}
use Rattle.abt_run.specs.Steps.{Exceeds}
use Rattle.abt_run.specs.declared.status.Conclusion.{Conclusion}
use Rattle.abt_run.specs.declared.status.Conclusion.TheVariants.{Ended}

-- Files that the words name.

pub some-is : (a b : Text) → ◌≡◌ {A = Option Text} (Some a) (Some b) → a ≡ b
some-is a b e = cc

pub none-is : (a : Text) → ◌≡◌ {A = Option Text} None (Some a) → ⊥
none-is a e = cc

-- words name one workload's file
pub one-file : (words : List Text) (d e : Command) (f g : Text) → Says words d → Says words e → workload_file d ≡ Some f → workload_file e ≡ Some g → f ≡ g
one-file words d e f g one two names other = some-is f g (sym names ∙ (ap workload_file (one-command words d e one two) ∙ other))

-- or none
pub no-file : (words : List Text) (d e : Command) (f : Text) → Says words d → Says words e → workload_file d ≡ Some f → workload_file e ≡ None → ⊥
no-file words d e f one two names none = none-is f (sym none ∙ (ap workload_file (one-command words e d two one) ∙ names))

-- the file of a command is one that its words name
pub named : (words : List Text) (d : Command) (begun : Option Text) → Says words d → IfSome begun (IsFileOf d) → IfSome begun (IsNamed words)
named words d None says its = tt
named words d (Some file) says its = (d, says, its)

-- why a file has no workload is why the call stops
pub no-workload-stops : (s : Stop) (g : Given) (d : Command) (file : Text) (faults : ℕ × ℕ) → Says g.words d → workload_file d ≡ Some file → HasNoWorkload (g.file file) faults s → StopsCommand g faults s
no-workload-stops s g d file faults says names = stops-file (IsBadCommand g) (NamesFile g.words) (IsNoWorkload (g.file file)) (IsBadLine g) faults faults named bad (λ grew. grew) s where
  named : NamesFile g.words
  named = record { command = d; file = file; says = says; names = names }

  bad : (line : ℕ) (w : Wrong) → IsNoWorkload (g.file file) line w → IsBadLine g line w
  bad line (Workload f said) h = record { named = named; is = h }
  bad line (Journal said) h = absurd h
  bad line (Lives said) h = absurd h

-- and so is why its workload is not run
pub no-run-stops : (s : Stop) (g : Given) (w : RunWords) (faults : ℕ × ℕ) → Says g.words (command.Run w) → HasNoRun (g.file w.file) w.steps faults s → StopsCommand g faults s
no-run-stops s g w faults says = stops-more (Exceeds (g.file w.file) w.steps) (IsBadCommand g) ⊤ (NamesFile g.words) (IsNoWorkload (g.file w.file)) (IsBadLine g) faults faults beyond (λ known. named) bad (λ grew. grew) s where
  beyond : Exceeds (g.file w.file) w.steps → IsBadCommand g
  beyond exceeds = inr (record { asked = w; says = says; exceeds = exceeds })

  named : NamesFile g.words
  named = record { command = command.Run w; file = w.file; says = says; names = refl }

  bad : (line : ℕ) (wrong : Wrong) → IsNoWorkload (g.file w.file) line wrong → IsBadLine g line wrong
  bad line (Workload f said) h = record { named = named; is = h }
  bad line (Journal said) h = absurd h
  bad line (Lives said) h = absurd h

-- and so is why the other file has no journal
pub no-journal-stops : (s : Stop) (g : Given) (w : CheckWords) (W : Parts) (told : Option Text) (a b c : ℕ) → Says g.words (command.Check w) → IsReadFrom g w.workload W → told ≡ g.file w.journal
    → a ≤ b → b ≤ c → HasNoJournal told (b, c) s → StopsCommand g (a, c) s
no-journal-stops s g w W told a b c says reads same first second =
    stops-file (IsBadCommand g) (NamesFile g.words) (IsNoJournalLine told) (IsBadLine g) (b, c) (a, c) (record { command = command.Check w; file = w.workload; says = says; names = refl }) bad (grew-later a b c first second) s where
      bad : (line : ℕ) (wrong : Wrong) → IsNoJournalLine told line wrong → IsBadLine g line wrong
      bad line (Workload f said) h = absurd h
      bad line (Journal said) h = inl (W, record { asked = w; says = says; reads = reads; is = subst (λ (o : Option Text). IsNoJournalLine o line (Journal said)) same h })
      bad line (Lives said) h = absurd h

-- and so is why it has no output
pub no-output-stops : (s : Stop) (g : Given) (w : OutputWords) (W : Parts) (a b c : ℕ) → Says g.words (command.CheckOutput w) → IsReadFrom g w.workload W
    → a ≤ b → b ≤ c → HasNoOutput (g.file w.output) (b, c) s → StopsCommand g (a, c) s
no-output-stops s g w W a b c says reads first second =
    stops-file (IsBadCommand g) (NamesFile g.words) (IsNoOutputLine (g.file w.output)) (IsBadLine g) (b, c) (a, c) (record { command = command.CheckOutput w; file = w.workload; says = says; names = refl }) bad
    (grew-later a b c first second) s where
      bad : (line : ℕ) (wrong : Wrong) → IsNoOutputLine (g.file w.output) line wrong → IsBadLine g line wrong
      bad line (Workload f said) h = absurd h
      bad line (Journal said) h = inr (W, record { asked = w; says = says; reads = reads; is = h })
      bad line (Lives said) h = absurd h

-- a workload that is made of a number has a unit
pub some-unit : (n : ℕ) → 0 < length (generated n).units
unfolding generated
some-unit n = omega arith

-- as many shapes as orders
pub as-many : {A B : Type 0} (f : A → B) (xs : List A) (n : ℕ) → n ≤ length xs → n ≤ length (map f xs)
as-many f xs n h = let e : length (map f xs) ≡ length xs = simp length-map in omega arith

-- what is printed of a run that ended so
pub prints-as : (o : Outcome) (g : Given) (keep : Keep) (c : Conclusion) (J K : Option (List Event)) (text printed : Text) → c ≡ Ended o → K ≡ J → printed ≡ text → Ran g keep J o text → Prints g keep c K printed
prints-as o g keep c J K text printed concludes same equal ran =
    subst (λ (k : Conclusion). Prints g keep k K printed) (sym concludes) (subst (λ (L : Option (List Event)). Ran g keep L o printed) (sym same) (subst (Ran g keep J o) (sym equal) ran))
