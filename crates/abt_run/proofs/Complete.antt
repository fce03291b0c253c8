-- Which status a call answers if its cause holds.
use Rattle.std.proofs.Common.{◌≡◌, ◌≢◌, ◌≤◌, ◌⊎◌, ℕ, List, [], ◌∷◌, length, Option, None, Some, inl, inr, refl, sym, ap, subst, ◌∙◌, arith}
use Rattle.std.specs.Prelude.{IfSome}
use Rattle.abt_machine.specs.declared.events.Event.{Event}
use Rattle.abt_machine.specs.declared.events.Outcome.{Outcome}
use Rattle.abt_machine.specs.declared.events.Outcome.TheVariants as outcome
use Rattle.abt_machine.specs.declared.events.Piece.{Piece}
use Rattle.abt_machine.specs.declared.numbers.StreamNo.{StreamNo}
use Rattle.abt_machine.specs.Stored.{Stored}
use Rattle.abt_machine.specs.declared.program.Fault.{Fault}
use Rattle.abt_machine.specs.declared.workload.Parts.{Parts}
use Rattle.abt_machine.specs.Grammar.{Reads, Refuses}
use Rattle.abt_machine.specs.Valid.{IsValid}
use Rattle.abt_machine.specs.Words.{Text}
use Rattle.abt_bounds.specs.Laws.{HasNoRevive, ops_in}
use Rattle.abt_bounds.proofs.Budgets.{steps-bound-budgets}
use Rattle.abt_check.specs.declared.verdict.Verdict.{Verdict}
use Rattle.abt_check.specs.declared.verdict.Verdict.TheVariants as verdict
use Rattle.abt_check.specs.Verdicts.{IsJudged, IsStampedRun}
use Rattle.abt_drain.specs.Looks.{EndsWith}
use Rattle.abt_flow.specs.Confluent.{Confluent}
use Rattle.abt_flow.specs.Flow.{Functions, IsFlow}
use Rattle.abt_generate.proofs.GeneratedParts.{IsValid-generated}
use Rattle.abt_outcomes.proofs.Stored.{orders-stored}
use Rattle.abt_words.specs.declared.commands.CheckWords.{CheckWords}
use Rattle.abt_words.specs.declared.commands.Command.{Command}
use Rattle.abt_words.specs.declared.commands.Command.TheVariants as command
use Rattle.abt_words.specs.declared.commands.ExploreWords.{ExploreWords}
use Rattle.abt_words.specs.declared.commands.Shows.{Shows}
use Rattle.abt_words.specs.declared.commands.Shows.TheVariants as show
use Rattle.abt_words.specs.declared.commands.OutputWords.{OutputWords}
use Rattle.abt_words.specs.Commands.{Says}
use Rattle.abt_words.proofs.OneCommand.{one-command}
use Rattle.abt_workload.specs.Hints.{RefusesSo}
use Rattle.abt_workload.proofs.RoundTrip.{only-valid}
use Rattle.abt_report.specs.Journals.{IsNoJournalAt, IsTextOf}
use Rattle.abt_report.proofs.Limits.{not-both}
use Rattle.abt_shell.specs.declared.status.Stop.{Stop}
use Rattle.abt_shell.specs.declared.status.Stop.TheVariants.{BadWords, BadLine, CannotRead, OutOfMemory}
use Rattle.abt_shell.specs.declared.status.Wrong.TheVariants.{Workload, Journal, Lives}
use Rattle.abt_shell.specs.Calls.{EndsBy, HasReadFault, Holds, IsStill}
use Rattle.abt_shell.specs.Status.{Status, Concluded, Stopped, CannotWrite, number_of, number_of_outcome}
use Rattle.abt_shell.specs.Told.{Grew}
use Rattle.abt_shell.proofs.Calls.{if-some, reads-well, writes-well}
use Rattle.abt_shell.specs.Fetched.{IsNoJournalSo}
use Rattle.abt_shell.specs.Outputs.{IsNoOutputSo, IsOutputOf}
use Rattle.abt_shell.proofs.Fetched.{of-observed}
use Rattle.abt_run.specs.Call.{Call, Decides, HasEnded, IsAnswered, IsOfRun, IsRunOutput, JudgesBy, MissesFiles, MissesJournals, MissesOutputs, RefusesSteps, RunsKnown, program}
use Rattle.abt_run.specs.Given.{Compares, ComparesOutput, Given, IsReadFrom, SaysNothing, Tells, workload_file}
use Rattle.abt_run.specs.Prepared.{HasNoWorkload, IsBadCommand, LacksSecond}
use Rattle.abt_run.specs.Ends.{ShowsEnds}
use Rattle.abt_run.specs.Printed.{AsksFlow, HasJudged, HasJudgedOutput, IsFor, LeadsTo, Prints, Ran, ShowsJudged, ShowsOutput, schedule_of}
use Rattle.abt_run.specs.Status.{number_of_conclusion}
use Rattle.abt_run.specs.declared.keeping.Keep.{Keep}
use Rattle.abt_run.specs.Steps.{AsksBeyond, LetsStreams, MayMake}
use Rattle.abt_run.specs.declared.status.Conclusion.{Conclusion}
use Rattle.abt_run.specs.declared.status.Conclusion.TheVariants.{Ended, Judged, Ends, Followed, Strays, Belongs, Differs, Flows, NotConfluent, Undefined, Finishes, Sticks, GoesOn, Unexplored, Helps, NamesVersion}
use Rattle.abt_run.proofs.Adding.{adds-up}
use Rattle.abt_run.proofs.Belonging.{belongs-to, no-bad-line, no-difference}
use Rattle.abt_run.proofs.Judging.{not-ended, not-run}
use Rattle.abt_run.proofs.Outputs.{run-ended, run-is-run}
use Rattle.abt_run.proofs.Preparing.{none-is, some-is}
use Rattle.abt_run.proofs.Stepping.{check-asks-none, flow-asks-none, output-asks-none, same-number, same-steps}
use Rattle.abt_run.proofs.Texts.{one-journal}

-- Files.

-- a workload's text is not refused
pub reads-whole : (bytes : Text) (W : Parts) (line : ℕ) (f : Fault) → Reads bytes W → Refuses bytes line f → ⊥
reads-whole bytes W line f reads refuses = let none = reads.faultless line in let some = refuses.first in cc

-- what may be said further keeps nothing from being refused
pub refuses-also : (told : Option Text) (line : ℕ) (f : Fault) (said : Text) → IfSome told (λ bytes. RefusesSo bytes line f said) → IfSome told (λ bytes. Refuses bytes line f)
refuses-also told line f said = if-some told (λ bytes. RefusesSo bytes line f said) (λ bytes. Refuses bytes line f) (λ bytes so. so.0)

module _ (g : Given) (file : Text) where
  -- a text is that of one workload
  same-workload : (W V : Parts) → Tells g file (λ bytes. Reads bytes W) → IsReadFrom g file V → V ≡ W
  same-workload W V tells is =
      let reads : Reads tells.0 V = of-observed (λ text. Reads text V) (g.file file) tells.0 tells.1 is in
      reads.parts ∙ sym tells.2.parts

  -- and is not refused
  not-refused : (W : Parts) (line : ℕ) (f : Fault) → Tells g file (λ bytes. Reads bytes W) → IfSome (g.file file) (λ bytes. Refuses bytes line f) → ⊥
  not-refused W line f tells is = reads-whole tells.0 W line f tells.2 (of-observed (λ text. Refuses text line f) (g.file file) tells.0 tells.1 is)

  not-read : (V : Parts) → Tells g file (λ bytes. (W : Parts) → Reads bytes W → ⊥) → IsReadFrom g file V → ⊥
  not-read V tells is = tells.2 V (of-observed (λ text. Reads text V) (g.file file) tells.0 tells.1 is)

  -- a text is that of one journal
  same-journal : (J K : List Event) → Tells g file (IsTextOf J) → IfSome (g.file file) (IsTextOf K) → K ≡ J
  same-journal J K tells is = one-journal tells.0 K J (of-observed (IsTextOf K) (g.file file) tells.0 tells.1 is) tells.2

  not-bad : (J : List Event) (line : ℕ) → Tells g file (IsTextOf J) → IfSome (g.file file) (λ bytes. IsNoJournalAt bytes line) → ⊥
  not-bad J line tells is = not-both J tells.0 line tells.2 (of-observed (λ text. IsNoJournalAt text line) (g.file file) tells.0 tells.1 is)

  not-journal : (K : List Event) → Tells g file (λ bytes. (J : List Event) → IsTextOf J bytes → ⊥) → IfSome (g.file file) (IsTextOf K) → ⊥
  not-journal K tells is = tells.2 K (of-observed (IsTextOf K) (g.file file) tells.0 tells.1 is)

-- a workload that is known is no reason to stop
pub lacks-second : (told : Option Text) (bytes : Text) (W : Parts) (faults : ℕ × ℕ) (s : Stop) → told ≡ Some bytes → Reads bytes W → LacksSecond told faults s → (s ≡ CannotRead) ⊎ (s ≡ OutOfMemory)
lacks-second told bytes W faults s seen reads lacks = elim lacks [ inl read ↦ inl read | inr none ↦ by s none ] where
  by : (s : Stop) → HasNoWorkload told faults s → (s ≡ CannotRead) ⊎ (s ≡ OutOfMemory)
  by BadWords none = absurd none
  by (BadLine line (Workload f said)) none = absurd (reads-whole bytes W line f reads (of-observed (λ text. Refuses text line f) told bytes seen (refuses-also told line f said.now none)))
  by (BadLine line (Journal said)) none = absurd none
  by (BadLine line (Lives said)) none = absurd none
  by CannotRead none = inl refl
  by OutOfMemory none = inr refl

-- Commands.

check-is : (v w : CheckWords) → command.Check v ≡ command.Check w → v ≡ w
check-is v w e = cc

flow-is : (f e : Text) → command.Flow f ≡ command.Flow e → f ≡ e
flow-is f e same = cc

check-is-no-output : (w : CheckWords) (v : OutputWords) → command.Check w ≡ command.CheckOutput v → ⊥
check-is-no-output w v e = cc

output-is : (v w : OutputWords) → command.CheckOutput v ≡ command.CheckOutput w → v ≡ w
output-is v w e = cc

output-is-no-flow : (w : OutputWords) (f : Text) → command.CheckOutput w ≡ command.Flow f → ⊥
output-is-no-flow w f e = cc

check-is-no-flow : (w : CheckWords) (f : Text) → command.Check w ≡ command.Flow f → ⊥
check-is-no-flow w f e = cc

output-is-no-search : (w : OutputWords) (x : ExploreWords) → command.CheckOutput w ≡ command.Explore x → ⊥
output-is-no-search w x e = cc

output-is-no-help : (w : OutputWords) → command.CheckOutput w ≡ command.Help → ⊥
output-is-no-help w e = cc

output-is-no-version : (w : OutputWords) → command.CheckOutput w ≡ command.Version → ⊥
output-is-no-version w e = cc

check-is-no-search : (w : CheckWords) (x : ExploreWords) → command.Check w ≡ command.Explore x → ⊥
check-is-no-search w x e = cc

check-is-no-help : (w : CheckWords) → command.Check w ≡ command.Help → ⊥
check-is-no-help w e = cc

check-is-no-version : (w : CheckWords) → command.Check w ≡ command.Version → ⊥
check-is-no-version w e = cc

flow-is-no-search : (f : Text) (x : ExploreWords) → command.Flow f ≡ command.Explore x → ⊥
flow-is-no-search f x same = cc

flow-is-no-help : (f : Text) → command.Flow f ≡ command.Help → ⊥
flow-is-no-help f e = cc

flow-is-no-version : (f : Text) → command.Flow f ≡ command.Version → ⊥
flow-is-no-version f e = cc

-- a command that runs a workload reads it from its file
runs-read : (g : Given) (d : Command) (file : Text) (W : Parts) → IsFor d g W → workload_file d ≡ Some file → IsReadFrom g file W
runs-read g (command.Run w) file W is names = subst (λ (n : Text). IsReadFrom g n W) (some-is w.file file names) is
runs-read g (command.SelfRun units) file W is names = absurd (none-is file names)
runs-read g (command.Check w) file W is names = absurd is
runs-read g (command.CheckOutput w) file W is names = absurd is
runs-read g (command.Flow f) file W is names = absurd is
runs-read g (command.Explore w) file W is names = absurd is
runs-read g command.Help file W is names = absurd is
runs-read g command.Version file W is names = absurd is

-- the known workload of a command is that which it runs
runs-same : (g : Given) (d : Command) (W V : Parts) → RunsKnown d g W → IsFor d g V → V ≡ W
runs-same g (command.Run w) W V known is = same-workload g w.file W V known is
runs-same g (command.SelfRun units) W V known is = is ∙ sym known
runs-same g (command.Check w) W V known is = absurd known
runs-same g (command.CheckOutput w) W V known is = absurd known
runs-same g (command.Flow f) W V known is = absurd known
runs-same g (command.Explore w) W V known is = absurd known
runs-same g command.Help W V known is = absurd known
runs-same g command.Version W V known is = absurd known

-- and it is not refused
runs-not-refused : (g : Given) (d : Command) (file : Text) (W : Parts) (line : ℕ) (f : Fault) → RunsKnown d g W → workload_file d ≡ Some file
    → IfSome (g.file file) (λ bytes. Refuses bytes line f) → ⊥
runs-not-refused g (command.Run w) file W line f known names is =
    not-refused g w.file W line f known (subst (λ (n : Text). IfSome (g.file n) (λ bytes. Refuses bytes line f)) (sym (some-is w.file file names)) is)
runs-not-refused g (command.SelfRun units) file W line f known names is = none-is file names
runs-not-refused g (command.Check w) file W line f known names is = known
runs-not-refused g (command.CheckOutput w) file W line f known names is = known
runs-not-refused g (command.Flow name) file W line f known names is = known
runs-not-refused g (command.Explore w) file W line f known names is = known
runs-not-refused g command.Help file W line f known names is = known
runs-not-refused g command.Version file W line f known names is = known

-- and is valid
runs-valid : (g : Given) (d : Command) (W : Parts) → Says g.words d → RunsKnown d g W → IsValid W
runs-valid g (command.Run w) W says known = only-valid known.0 W known.2
runs-valid g (command.SelfRun units) W says known = by g.words says
  where
    by : (words : List Text) → Says words (command.SelfRun units) → IsValid W
    by [] said = absurd said
    by (name ∷ ws) said = subst IsValid (sym known) (IsValid-generated units said.1.2.3)
runs-valid g (command.Check w) W says known = absurd known
runs-valid g (command.CheckOutput w) W says known = absurd known
runs-valid g (command.Flow f) W says known = absurd known
runs-valid g (command.Explore w) W says known = absurd known
runs-valid g command.Help W says known = absurd known
runs-valid g command.Version W says known = absurd known

-- What is printed determines the command.

module _ (g : Given) (keep : Keep) (J : Option (List Event)) (text : Text) where
  printed-says : (c : Conclusion) → Prints g keep c J text → (d : Command) × Says g.words d
  printed-says (Ended o) prints = (prints.command, prints.says)
  printed-says (Judged v) prints = (_, prints.0.compares.says)
  printed-says (Ends end) prints = (_, prints.0.compares.says)
  printed-says (Followed end) prints = (_, prints.0.compares.says)
  printed-says (Strays at) prints = (_, prints.0.compares.says)
  printed-says (Belongs o) prints = (_, prints.0.compares.says)
  printed-says Differs prints = (_, prints.0.compares.says)
  printed-says Flows prints = (_, prints.0.asks.says)
  printed-says NotConfluent prints = (_, prints.0.asks.says)
  printed-says Undefined prints = (_, prints.0.asks.says)
  printed-says Finishes prints = (_, prints.0.asks.says)
  printed-says Sticks prints = (_, prints.0.asks.says)
  printed-says GoesOn prints = (_, prints.0.asks.says)
  printed-says Unexplored prints = (_, prints.0.asks.says)
  printed-says Helps prints = (_, prints.0)
  printed-says NamesVersion prints = (_, prints.0)

  module _ (d : Command) (file : Text) (says : Says g.words d) (names : workload_file d ≡ Some file) where
    ran-reads : (o : Outcome) → Ran g keep J o text → (W : Parts) × IsReadFrom g file W
    ran-reads o ran = (ran.workload, runs-read g d file ran.workload (subst (λ (x : Command). IsFor x g ran.workload) (one-command g.words ran.command d ran.says says) ran.is) names)

    flow-reads : (W : Parts) → AsksFlow g W → (V : Parts) × IsReadFrom g file V
    flow-reads W asks =
        let same : asks.file ≡ file = some-is asks.file file (ap workload_file (one-command g.words (command.Flow asks.file) d asks.says says) ∙ names) in
        (W, subst (λ (n : Text). IsReadFrom g n W) same asks.reads)

    ends-read : (c : Conclusion) → ShowsEnds g c text → (V : Parts) × IsReadFrom g file V
    ends-read c shows =
        let same : shows.asked.file ≡ file = some-is shows.asked.file file (ap workload_file (one-command g.words (command.Explore shows.asked) d shows.asks.says says) ∙ names) in
        (shows.workload, subst (λ (n : Text). IsReadFrom g n shows.workload) same shows.asks.reads)

    judged-reads : (W : Parts) (Is : Text → Type 0) → Compares g W Is → (V : Parts) × IsReadFrom g file V
    judged-reads W Is compares =
        let same : compares.asked.workload ≡ file = some-is compares.asked.workload file (ap workload_file (one-command g.words (command.Check compares.asked) d compares.says says) ∙ names) in
        (W, subst (λ (n : Text). IsReadFrom g n W) same compares.reads)

    output-reads : (W : Parts) (Is : Text → Type 0) → ComparesOutput g W Is → (V : Parts) × IsReadFrom g file V
    output-reads W Is compares =
        let same : compares.asked.workload ≡ file = some-is compares.asked.workload file (ap workload_file (one-command g.words (command.CheckOutput compares.asked) d compares.says says) ∙ names) in
        (W, subst (λ (n : Text). IsReadFrom g n W) same compares.reads)

    names-none : (e : Command) → workload_file e ≡ None → Says g.words e → ⊥
    names-none e none said = none-is file (sym none ∙ ap workload_file (one-command g.words e d said says) ∙ names)

    -- a workload is read from the file that the words name
    printed-reads : (c : Conclusion) → Prints g keep c J text → (W : Parts) × IsReadFrom g file W
    printed-reads (Ended o) prints = ran-reads o prints
    printed-reads (Judged v) prints = judged-reads prints.0.workload (IsTextOf prints.0.journal) prints.0.compares
    printed-reads (Ends end) prints = judged-reads prints.0.workload (IsTextOf prints.0.journal) prints.0.compares
    printed-reads (Followed end) prints = judged-reads prints.0.workload (IsTextOf prints.0.journal) prints.0.compares
    printed-reads (Strays at) prints = judged-reads prints.0.workload (IsTextOf prints.0.journal) prints.0.compares
    printed-reads (Belongs o) prints = output-reads prints.0.workload (IsOutputOf prints.0.journal prints.0.report) prints.0.compares
    printed-reads Differs prints = output-reads prints.0.workload (IsOutputOf prints.0.journal prints.0.report) prints.0.compares
    printed-reads Flows prints = flow-reads prints.0.workload prints.0.asks
    printed-reads NotConfluent prints = flow-reads prints.0.workload prints.0.asks
    printed-reads Undefined prints = flow-reads prints.0.workload prints.0.asks
    printed-reads Finishes prints = ends-read Finishes prints.0
    printed-reads Sticks prints = ends-read Sticks prints.0
    printed-reads GoesOn prints = ends-read GoesOn prints.0
    printed-reads Unexplored prints = ends-read Unexplored prints.0
    printed-reads Helps prints = absurd (names-none command.Help refl prints.0)
    printed-reads NamesVersion prints = absurd (names-none command.Version refl prints.0)

  -- words that ask for a check print what it shows
  module _ (w : CheckWords) (says : Says g.words (command.Check w)) where
    no-run : (o : Outcome) → Ran g keep J o text → ⊥
    no-run o ran = subst (λ (x : Command). IsFor x g ran.workload) (one-command g.words ran.command (command.Check w) ran.says says) ran.is

    no-output : (W : Parts) (Is : Text → Type 0) → ComparesOutput g W Is → ⊥
    no-output W Is compares = check-is-no-output w compares.asked (one-command g.words (command.Check w) (command.CheckOutput compares.asked) says compares.says)

    no-flow : (W : Parts) → AsksFlow g W → ⊥
    no-flow W asks = check-is-no-flow w asks.file (one-command g.words (command.Check w) (command.Flow asks.file) says asks.says)

    no-ends : (c : Conclusion) → ShowsEnds g c text → ⊥
    no-ends c shows = check-is-no-search w shows.asked (one-command g.words (command.Check w) (command.Explore shows.asked) says shows.asks.says)

    -- a journal of W that is judged
    abbrev IsCompared : Type 0
    IsCompared = (V : Parts) × (K : List Event) × Compares g V (IsTextOf K)

    printed-compares : (c : Conclusion) → Prints g keep c J text → IsCompared
    printed-compares (Ended o) prints = absurd (no-run o prints)
    printed-compares (Judged v) prints = (prints.0.workload, prints.0.journal, prints.0.compares)
    printed-compares (Ends end) prints = (prints.0.workload, prints.0.journal, prints.0.compares)
    printed-compares (Followed end) prints = (prints.0.workload, prints.0.journal, prints.0.compares)
    printed-compares (Strays at) prints = (prints.0.workload, prints.0.journal, prints.0.compares)
    printed-compares (Belongs o) prints = absurd (no-output prints.0.workload (IsOutputOf prints.0.journal prints.0.report) prints.0.compares)
    printed-compares Differs prints = absurd (no-output prints.0.workload (IsOutputOf prints.0.journal prints.0.report) prints.0.compares)
    printed-compares Flows prints = absurd (no-flow prints.0.workload prints.0.asks)
    printed-compares NotConfluent prints = absurd (no-flow prints.0.workload prints.0.asks)
    printed-compares Undefined prints = absurd (no-flow prints.0.workload prints.0.asks)
    printed-compares Finishes prints = absurd (no-ends Finishes prints.0)
    printed-compares Sticks prints = absurd (no-ends Sticks prints.0)
    printed-compares GoesOn prints = absurd (no-ends GoesOn prints.0)
    printed-compares Unexplored prints = absurd (no-ends Unexplored prints.0)
    printed-compares Helps prints = absurd (check-is-no-help w (one-command g.words (command.Check w) command.Help says prints.0))
    printed-compares NamesVersion prints = absurd (check-is-no-version w (one-command g.words (command.Check w) command.Version says prints.0))

    same-asked : (W : Parts) (Is : Text → Type 0) → (compares : Compares g W Is) → compares.asked ≡ w
    same-asked W Is compares = check-is compares.asked w (one-command g.words (command.Check compares.asked) (command.Check w) compares.says says)

    -- and the journal is read from the second file
    compared-journal : (W : Parts) (Is : Text → Type 0) → Compares g W Is → IsReadFrom g w.workload W × IfSome (g.file w.journal) Is
    compared-journal W Is compares =
        let same : compares.asked ≡ w = same-asked W Is compares in (
          subst (λ (x : CheckWords). IsReadFrom g x.workload W) same compares.reads,
          subst (λ (x : CheckWords). IfSome (g.file x.journal) Is) same compares.is,
        )

  -- words that ask for an output to be checked print what is shown of it
  module _ (w : OutputWords) (says : Says g.words (command.CheckOutput w)) where
    output-no-run : (o : Outcome) → Ran g keep J o text → ⊥
    output-no-run o ran = subst (λ (x : Command). IsFor x g ran.workload) (one-command g.words ran.command (command.CheckOutput w) ran.says says) ran.is

    output-no-check : (W : Parts) (Is : Text → Type 0) → Compares g W Is → ⊥
    output-no-check W Is compares = check-is-no-output compares.asked w (one-command g.words (command.Check compares.asked) (command.CheckOutput w) compares.says says)

    output-no-flow : (W : Parts) → AsksFlow g W → ⊥
    output-no-flow W asks = output-is-no-flow w asks.file (one-command g.words (command.CheckOutput w) (command.Flow asks.file) says asks.says)

    output-no-ends : (c : Conclusion) → ShowsEnds g c text → ⊥
    output-no-ends c shows = output-is-no-search w shows.asked (one-command g.words (command.CheckOutput w) (command.Explore shows.asked) says shows.asks.says)

    same-output : (W : Parts) (Is : Text → Type 0) → (compares : ComparesOutput g W Is) → compares.asked ≡ w
    same-output W Is compares = output-is compares.asked w (one-command g.words (command.CheckOutput compares.asked) (command.CheckOutput w) compares.says says)

    compared-output : (W : Parts) (Is : Text → Type 0) → ComparesOutput g W Is → IsReadFrom g w.workload W × IfSome (g.file w.output) Is
    compared-output W Is compares =
        let same : compares.asked ≡ w = same-output W Is compares in (
          subst (λ (x : OutputWords). IsReadFrom g x.workload W) same compares.reads,
          subst (λ (x : OutputWords). IfSome (g.file x.output) Is) same compares.is,
        )

  module _ (file : Text) (says : Says g.words (command.Flow file)) where
    flow-no-run : (o : Outcome) → Ran g keep J o text → ⊥
    flow-no-run o ran = subst (λ (x : Command). IsFor x g ran.workload) (one-command g.words ran.command (command.Flow file) ran.says says) ran.is

    flow-no-check : (W : Parts) (Is : Text → Type 0) → Compares g W Is → ⊥
    flow-no-check W Is compares = check-is-no-flow _ file (one-command g.words (command.Check compares.asked) (command.Flow file) compares.says says)

    flow-no-output : (W : Parts) (Is : Text → Type 0) → ComparesOutput g W Is → ⊥
    flow-no-output W Is compares = output-is-no-flow _ file (one-command g.words (command.CheckOutput compares.asked) (command.Flow file) compares.says says)

    flow-no-ends : (c : Conclusion) → ShowsEnds g c text → ⊥
    flow-no-ends c shows = flow-is-no-search file shows.asked (one-command g.words (command.Flow file) (command.Explore shows.asked) says shows.asks.says)

    flow-asked : (W V : Parts) → Tells g file (λ bytes. Reads bytes W) → AsksFlow g V → V ≡ W
    flow-asked W V tells asks =
        let same : asks.file ≡ file = flow-is asks.file file (one-command g.words (command.Flow asks.file) (command.Flow file) asks.says says) in
        same-workload g file W V tells (subst (λ (n : Text). IsReadFrom g n V) same asks.reads)

-- Statuses.

pub outcome-is-of-run : (o : Outcome) → IsOfRun (number_of_outcome o)
outcome-is-of-run outcome.Finished = inl refl
outcome-is-of-run outcome.Stuck = inr (inl refl)
outcome-is-of-run (outcome.Budget s) = inr (inr refl)

-- the command of a known workload runs it
runs-concluded : (c : Conclusion) (call : Call) (text : Text) (d : Command) (W : Parts) → Prints call.given call.keep c call.journal text → Says call.given.words d → RunsKnown d call.given W
    → IsOfRun (number_of_conclusion c)
runs-concluded (Ended o) call text d W prints says known = outcome-is-of-run o
runs-concluded (Judged v) call text d W prints says known =
    absurd (subst (λ (x : Command). RunsKnown x call.given W) (one-command call.given.words d _ says prints.0.compares.says) known)
runs-concluded (Ends end) call text d W prints says known =
    absurd (subst (λ (x : Command). RunsKnown x call.given W) (one-command call.given.words d _ says prints.0.compares.says) known)
runs-concluded (Followed end) call text d W prints says known =
    absurd (subst (λ (x : Command). RunsKnown x call.given W) (one-command call.given.words d _ says prints.0.compares.says) known)
runs-concluded (Strays at) call text d W prints says known =
    absurd (subst (λ (x : Command). RunsKnown x call.given W) (one-command call.given.words d _ says prints.0.compares.says) known)
runs-concluded (Belongs o) call text d W prints says known =
    absurd (subst (λ (x : Command). RunsKnown x call.given W) (one-command call.given.words d _ says prints.0.compares.says) known)
runs-concluded Differs call text d W prints says known =
    absurd (subst (λ (x : Command). RunsKnown x call.given W) (one-command call.given.words d _ says prints.0.compares.says) known)
runs-concluded Flows call text d W prints says known = absurd (subst (λ (x : Command). RunsKnown x call.given W) (one-command call.given.words d _ says prints.0.asks.says) known)
runs-concluded NotConfluent call text d W prints says known = absurd (subst (λ (x : Command). RunsKnown x call.given W) (one-command call.given.words d _ says prints.0.asks.says) known)
runs-concluded Undefined call text d W prints says known = absurd (subst (λ (x : Command). RunsKnown x call.given W) (one-command call.given.words d _ says prints.0.asks.says) known)
runs-concluded Finishes call text d W prints says known = absurd (subst (λ (x : Command). RunsKnown x call.given W) (one-command call.given.words d _ says prints.0.asks.says) known)
runs-concluded Sticks call text d W prints says known = absurd (subst (λ (x : Command). RunsKnown x call.given W) (one-command call.given.words d _ says prints.0.asks.says) known)
runs-concluded GoesOn call text d W prints says known = absurd (subst (λ (x : Command). RunsKnown x call.given W) (one-command call.given.words d _ says prints.0.asks.says) known)
runs-concluded Unexplored call text d W prints says known = absurd (subst (λ (x : Command). RunsKnown x call.given W) (one-command call.given.words d _ says prints.0.asks.says) known)
runs-concluded Helps call text d W prints says known = absurd (subst (λ (x : Command). RunsKnown x call.given W) (one-command call.given.words d _ says prints.0) known)
runs-concluded NamesVersion call text d W prints says known = absurd (subst (λ (x : Command). RunsKnown x call.given W) (one-command call.given.words d _ says prints.0) known)

-- words that say a command and do not ask for too many steps are not refused
not-bad-words : (g : Given) (d : Command) → Says g.words d → (AsksBeyond g → ⊥) → IsBadCommand g → ⊥
not-bad-words g d says within (inl none) = none d says
not-bad-words g d says within (inr beyond) = within beyond

runs : (s : Status Conclusion) (c : Call) (d : Command) (W : Parts) → Holds (program c) c.left s → Says c.given.words d → RunsKnown d c.given W → (AsksBeyond c.given → ⊥) → IsStill c.left → IsOfRun (number_of number_of_conclusion s) ⊎ (number_of number_of_conclusion s ≡ 7)
runs (Concluded k) c d W h says known within still = inl (runs-concluded k c h.text d W h.prints says known)
runs (Stopped BadWords) c d W h says known within still = absurd (not-bad-words c.given d says within h.cause.why)
runs (Stopped (BadLine line (Workload f said))) c d W h says known within still =
    let named = h.cause.why.named in
    let same = one-command c.given.words named.command d named.says says in
    absurd (runs-not-refused c.given d named.file W line f known (ap workload_file (sym same) ∙ named.names) (refuses-also _ line f said.now h.cause.why.is))
runs (Stopped (BadLine line (Journal said))) c d W h says known within still = elim h.cause.why [
  | inl journal ↦ absurd (subst (λ (x : Command). RunsKnown x c.given W) (one-command c.given.words d _ says journal.1.says) known)
  | inr output ↦ absurd (subst (λ (x : Command). RunsKnown x c.given W) (one-command c.given.words d _ says output.1.says) known)
]
runs (Stopped (BadLine line (Lives said))) c d W h says known within still = absurd h.cause.why
runs (Stopped CannotRead) c d W h says known within still = absurd (still.0 h.cause.why.1)
runs (Stopped OutOfMemory) c d W h says known within still = inr refl
runs CannotWrite c d W h says known within still = absurd (still.1 h.faults)

-- the verdict decides
decided : (W : Parts) (Z : Stored) (J : List Event) (v : Verdict) → IsJudged W Z J v → Decides (number_of_conclusion (Judged v)) (IsStampedRun W Z J)
decided W Z J verdict.Run is = inl (is, refl)
decided W Z J (verdict.Bad at) is = inr (not-run W Z J at is, refl)

-- and so does its end
decided-end : (W : Parts) (Z : Stored) (n : ℕ) (J : List Event) (end : Option Outcome) → LeadsTo W Z n J end → Decides (number_of_conclusion (Ends end)) (IsStampedRun W Z J × HasEnded W n J)
decided-end W Z n J None leads = inr (λ has. not-ended W n J has.1.0 leads.1 has.1.1, refl)
decided-end W Z n J (Some o) leads = inl ((leads.0, (o, leads.1)), refl)

-- what is shown of a journal is what the status says
module _ (W : Parts) (Z : Stored) (n : ℕ) (J : List Event) (told : Option Text) (bytes : Text) (seen : told ≡ Some bytes) (lets : LetsStreams told None n) where
  says-judged : (s : Shows) (c : Conclusion) (text : Text) → ShowsJudged s W Z n J c text → JudgesBy s (number_of_conclusion c) told W Z J
  says-judged show.Verdict c text shown =
      subst (λ (x : Conclusion). JudgesBy show.Verdict (number_of_conclusion x) told W Z J) (sym shown.1) (decided W Z J shown.0 shown.2)
  says-judged show.End c text (inl bad) =
      subst (λ (x : Conclusion). JudgesBy show.End (number_of_conclusion x) told W Z J) (sym bad.1) (λ steps its. inr (λ has. not-run W Z J bad.0 bad.2 has.0, refl))
  says-judged show.End c text (inr led) =
      subst (λ (x : Conclusion). JudgesBy show.End (number_of_conclusion x) told W Z J) (sym led.1)
      (λ steps its. subst (λ (m : ℕ). Decides (number_of_conclusion (Ends led.0)) (IsStampedRun W Z J × HasEnded W m J)) (same-number told bytes None n steps seen lets its) (decided-end W Z n J led.0 led.2))
  says-judged (show.Report why) c text (inl bad) =
      subst (λ (x : Conclusion). JudgesBy (show.Report why) (number_of_conclusion x) told W Z J) (sym bad.1) (λ steps its. inr (not-run W Z J bad.0 bad.2, refl))
  says-judged (show.Report why) c text (inr led) =
      subst (λ (x : Conclusion). JudgesBy (show.Report why) (number_of_conclusion x) told W Z J) (sym led.1)
      (λ steps its. inl (led.2.0, (led.0, subst (λ (m : ℕ). EndsWith W m J led.0) (same-number told bytes None n steps seen lets its) led.2.1, refl)))

module _ (c : Call) (w : CheckWords) (W : Parts) (J : List Event) (says : Says c.given.words (command.Check w))
    (tells : Tells c.given w.workload (λ bytes. Reads bytes W)) (also : Tells c.given w.journal (IsTextOf J)) where
  -- what is shown of the known journal
  judged-shown : (k : Conclusion) (text : Text) → HasJudged c.given k text → JudgesBy w.shows (number_of_conclusion k) (c.given.file w.workload) W c.given.stored J
  judged-shown k text has =
      let read = compared-journal c.given c.keep c.journal [] w says has.workload (IsTextOf has.journal) has.compares in
      let same : has.workload ≡ W = same-workload c.given w.workload W has.workload tells read.0 in
      let equal : has.journal ≡ J = same-journal c.given w.journal J has.journal also read.1 in
      let asked : has.compares.asked ≡ w = same-asked c.given c.keep c.journal [] w says has.workload (IsTextOf has.journal) has.compares in
      says-judged W c.given.stored has.steps J (c.given.file w.workload) tells.0 tells.1
      (subst (λ (x : CheckWords). LetsStreams (c.given.file x.workload) None has.steps) asked has.lets) w.shows k text
      (subst (λ (x : CheckWords). ShowsJudged x.shows W c.given.stored has.steps J k text) asked
      (subst (λ (V : Parts). ShowsJudged has.compares.asked.shows V c.given.stored has.steps J k text) same
      (subst (λ (K : List Event). ShowsJudged has.compares.asked.shows has.workload c.given.stored has.steps K k text) equal has.shown)))

  checks-concluded : (k : Conclusion) (text : Text) → Prints c.given c.keep k c.journal text → JudgesBy w.shows (number_of_conclusion k) (c.given.file w.workload) W c.given.stored J
  checks-concluded (Ended o) text prints = absurd (no-run c.given c.keep c.journal text w says o prints)
  checks-concluded (Judged v) text prints = judged-shown (Judged v) text prints.0
  checks-concluded (Ends end) text prints = judged-shown (Ends end) text prints.0
  checks-concluded (Followed end) text prints = judged-shown (Followed end) text prints.0
  checks-concluded (Strays at) text prints = judged-shown (Strays at) text prints.0
  checks-concluded (Belongs o) text prints = absurd (no-output c.given c.keep c.journal text w says prints.0.workload (IsOutputOf prints.0.journal prints.0.report) prints.0.compares)
  checks-concluded Differs text prints = absurd (no-output c.given c.keep c.journal text w says prints.0.workload (IsOutputOf prints.0.journal prints.0.report) prints.0.compares)
  checks-concluded Flows text prints = absurd (no-flow c.given c.keep c.journal text w says prints.0.workload prints.0.asks)
  checks-concluded NotConfluent text prints = absurd (no-flow c.given c.keep c.journal text w says prints.0.workload prints.0.asks)
  checks-concluded Undefined text prints = absurd (no-flow c.given c.keep c.journal text w says prints.0.workload prints.0.asks)
  checks-concluded Finishes text prints = absurd (no-ends c.given c.keep c.journal text w says Finishes prints.0)
  checks-concluded Sticks text prints = absurd (no-ends c.given c.keep c.journal text w says Sticks prints.0)
  checks-concluded GoesOn text prints = absurd (no-ends c.given c.keep c.journal text w says GoesOn prints.0)
  checks-concluded Unexplored text prints = absurd (no-ends c.given c.keep c.journal text w says Unexplored prints.0)
  checks-concluded Helps text prints = absurd (check-is-no-help w (one-command c.given.words (command.Check w) command.Help says prints.0))
  checks-concluded NamesVersion text prints = absurd (check-is-no-version w (one-command c.given.words (command.Check w) command.Version says prints.0))

  checks : (s : Status Conclusion) → Holds (program c) c.left s → IsStill c.left → JudgesBy w.shows (number_of number_of_conclusion s) (c.given.file w.workload) W c.given.stored J ⊎ (number_of number_of_conclusion s ≡ 7)
  checks (Concluded k) h still = inl (checks-concluded k h.text h.prints)
  checks (Stopped BadWords) h still = absurd (not-bad-words c.given _ says (check-asks-none c.given w says) h.cause.why)
  checks (Stopped (BadLine line (Workload f said))) h still =
      let named = h.cause.why.named in
      let same : named.file ≡ w.workload = some-is _ _ (sym named.names ∙ ap workload_file (one-command c.given.words named.command (command.Check w) named.says says)) in
      absurd (not-refused c.given w.workload W line f tells (subst (λ (n : Text). IfSome (c.given.file n) (λ bytes. Refuses bytes line f)) same (refuses-also _ line f said.now h.cause.why.is)))
  checks (Stopped (BadLine line (Journal said))) h still = elim h.cause.why [
    | inl journal ↦ absurd (not-bad c.given w.journal J line also (if-some _ (λ bytes. IsNoJournalSo bytes line said.now) (λ bytes. IsNoJournalAt bytes line) (λ bytes so. so.0)
        (compared-journal c.given c.keep c.journal [] w says journal.0 (λ bytes. IsNoJournalSo bytes line said.now) journal.1).1))
    | inr output ↦ absurd (no-output c.given c.keep c.journal [] w says output.0 (λ bytes. IsNoOutputSo bytes line said.now) output.1)
  ]
  checks (Stopped (BadLine line (Lives said))) h still = absurd h.cause.why
  checks (Stopped CannotRead) h still = absurd (still.0 h.cause.why.1)
  checks (Stopped OutOfMemory) h still = inr refl
  checks CannotWrite h still = absurd (still.1 h.faults)

-- the status says whether an output is that of a run
module _ (c : Call) (w : OutputWords) (W : Parts) (bytes : Text) (steps : ℕ) (says : Says c.given.words (command.CheckOutput w)) (tells : Tells c.given w.workload (λ text. Reads text W))
    (seen : c.given.file w.output ≡ Some bytes) (lets : LetsStreams (c.given.file w.workload) None steps) where
  abbrev IsIts : Type 0
  IsIts = IsRunOutput w.why W c.given.stored steps bytes

  abbrev SaysSo : ℕ → Type 0
  SaysSo n = (IsIts × (n ≡ 0)) ⊎ ((IsIts → ⊥) × ((n ≡ 1) ⊎ (n ≡ 3)))

  output-shown : (k : Conclusion) (text : Text) → HasJudgedOutput c.given k text
      → (J : List Event) × (report : Text) × IsOutputOf J report bytes × ShowsOutput w.why W c.given.stored steps J report k text
  output-shown k text has =
      let read = compared-output c.given c.keep c.journal [] w says has.workload (IsOutputOf has.journal has.report) has.compares in
      let same : has.workload ≡ W = same-workload c.given w.workload W has.workload tells read.0 in
      let asked : has.compares.asked ≡ w = same-output c.given c.keep c.journal [] w says has.workload (IsOutputOf has.journal has.report) has.compares in
      let count : has.steps ≡ steps = same-number (c.given.file w.workload) tells.0 None has.steps steps tells.1 (subst (λ (x : OutputWords). LetsStreams (c.given.file x.workload) None has.steps) asked has.lets) lets in (
        has.journal,
        has.report,
        of-observed (IsOutputOf has.journal has.report) (c.given.file w.output) bytes seen read.1,
        subst (λ (m : ℕ). ShowsOutput w.why W c.given.stored m has.journal has.report k text) count
            (subst (λ (V : Parts). ShowsOutput w.why V c.given.stored has.steps has.journal has.report k text) same
            (subst (λ (x : OutputWords). ShowsOutput x.why has.workload c.given.stored has.steps has.journal has.report k text) asked has.shown)),
      )

  output-concluded : (k : Conclusion) (text : Text) → Prints c.given c.keep k c.journal text → SaysSo (number_of_conclusion k)
  output-concluded (Ended o) text prints = absurd (output-no-run c.given c.keep c.journal text w says o prints)
  output-concluded (Judged v) text prints = absurd (output-no-check c.given c.keep c.journal text w says prints.0.workload (IsTextOf prints.0.journal) prints.0.compares)
  output-concluded (Ends end) text prints = absurd (output-no-check c.given c.keep c.journal text w says prints.0.workload (IsTextOf prints.0.journal) prints.0.compares)
  output-concluded (Followed end) text prints = absurd (output-no-check c.given c.keep c.journal text w says prints.0.workload (IsTextOf prints.0.journal) prints.0.compares)
  output-concluded (Strays at) text prints = absurd (output-no-check c.given c.keep c.journal text w says prints.0.workload (IsTextOf prints.0.journal) prints.0.compares)
  output-concluded (Belongs o) text prints =
      let shown = output-shown (Belongs o) text prints.0 in
      inl (belongs-to w.why W c.given.stored steps bytes shown.0 shown.1 text o shown.2 shown.3, refl)
  output-concluded Differs text prints =
      let shown = output-shown Differs text prints.0 in
      inr (λ run. no-difference w.why W c.given.stored steps bytes run shown.0 shown.1 shown.2 text shown.3, inl refl)
  output-concluded Flows text prints = absurd (output-no-flow c.given c.keep c.journal text w says prints.0.workload prints.0.asks)
  output-concluded NotConfluent text prints = absurd (output-no-flow c.given c.keep c.journal text w says prints.0.workload prints.0.asks)
  output-concluded Undefined text prints = absurd (output-no-flow c.given c.keep c.journal text w says prints.0.workload prints.0.asks)
  output-concluded Finishes text prints = absurd (output-no-ends c.given c.keep c.journal text w says Finishes prints.0)
  output-concluded Sticks text prints = absurd (output-no-ends c.given c.keep c.journal text w says Sticks prints.0)
  output-concluded GoesOn text prints = absurd (output-no-ends c.given c.keep c.journal text w says GoesOn prints.0)
  output-concluded Unexplored text prints = absurd (output-no-ends c.given c.keep c.journal text w says Unexplored prints.0)
  output-concluded Helps text prints = absurd (output-is-no-help w (one-command c.given.words (command.CheckOutput w) command.Help says prints.0))
  output-concluded NamesVersion text prints = absurd (output-is-no-version w (one-command c.given.words (command.CheckOutput w) command.Version says prints.0))

  outputs : (s : Status Conclusion) → Holds (program c) c.left s → IsStill c.left
      → (IsIts × (number_of number_of_conclusion s ≡ 0)) ⊎ (((IsIts → ⊥) × ((number_of number_of_conclusion s ≡ 1) ⊎ (number_of number_of_conclusion s ≡ 3))) ⊎ (number_of number_of_conclusion s ≡ 7))
  outputs (Concluded k) h still = elim (output-concluded k h.text h.prints) [ inl its ↦ inl its | inr none ↦ inr (inl none) ]
  outputs (Stopped BadWords) h still = absurd (not-bad-words c.given _ says (output-asks-none c.given w says) h.cause.why)
  outputs (Stopped (BadLine line (Workload f said))) h still =
      let named = h.cause.why.named in
      let same : named.file ≡ w.workload = some-is _ _ (sym named.names ∙ ap workload_file (one-command c.given.words named.command (command.CheckOutput w) named.says says)) in
      absurd (not-refused c.given w.workload W line f tells (subst (λ (n : Text). IfSome (c.given.file n) (λ text. Refuses text line f)) same (refuses-also _ line f said.now h.cause.why.is)))
  outputs (Stopped (BadLine line (Journal said))) h still = elim h.cause.why [
    | inl journal ↦ absurd (output-no-check c.given c.keep c.journal [] w says journal.0 (λ text. IsNoJournalSo text line said.now) journal.1)
    | inr output ↦
        let bad = of-observed (λ text. IsNoOutputSo text line said.now) (c.given.file w.output) bytes seen
        (compared-output c.given c.keep c.journal [] w says output.0 (λ text. IsNoOutputSo text line said.now) output.1).1 in
        inr (inl (λ run. no-bad-line w.why W c.given.stored steps bytes run line said.now bad, inr refl))
  ]
  outputs (Stopped (BadLine line (Lives said))) h still = absurd h.cause.why
  outputs (Stopped CannotRead) h still = absurd (still.0 h.cause.why.1)
  outputs (Stopped OutOfMemory) h still = inr (inr refl)
  outputs CannotWrite h still = absurd (still.1 h.faults)

abbrev HasFlows : Functions → Parts → Type 0
HasFlows R W = Confluent W × ((rows : List (List Piece)) × IsFlow W R rows)

module _ (c : Call) (file : Text) (W : Parts) (says : Says c.given.words (command.Flow file)) (tells : Tells c.given file (λ bytes. Reads bytes W)) where
  flow-concluded : (k : Conclusion) (text : Text) → Prints c.given c.keep k c.journal text → Decides (number_of_conclusion k) (HasFlows c.given.stored.returns W)
  flow-concluded (Ended o) text prints = absurd (flow-no-run c.given c.keep c.journal text file says o prints)
  flow-concluded (Judged v) text prints = absurd (flow-no-check c.given c.keep c.journal text file says prints.0.workload (IsTextOf prints.0.journal) prints.0.compares)
  flow-concluded (Ends end) text prints = absurd (flow-no-check c.given c.keep c.journal text file says prints.0.workload (IsTextOf prints.0.journal) prints.0.compares)
  flow-concluded (Followed end) text prints = absurd (flow-no-check c.given c.keep c.journal text file says prints.0.workload (IsTextOf prints.0.journal) prints.0.compares)
  flow-concluded (Strays at) text prints = absurd (flow-no-check c.given c.keep c.journal text file says prints.0.workload (IsTextOf prints.0.journal) prints.0.compares)
  flow-concluded (Belongs o) text prints = absurd (flow-no-output c.given c.keep c.journal text file says prints.0.workload (IsOutputOf prints.0.journal prints.0.report) prints.0.compares)
  flow-concluded Differs text prints = absurd (flow-no-output c.given c.keep c.journal text file says prints.0.workload (IsOutputOf prints.0.journal prints.0.report) prints.0.compares)
  flow-concluded Flows text prints =
      let same = flow-asked c.given c.keep c.journal text file says W prints.0.workload tells prints.0.asks in
      inl (subst (HasFlows c.given.stored.returns) same (prints.0.confluent, (prints.0.rows, prints.0.flow)), refl)
  flow-concluded NotConfluent text prints =
      let same = flow-asked c.given c.keep c.journal text file says W prints.0.workload tells prints.0.asks in
      inr (λ has. prints.0.other (subst Confluent (sym same) has.0), refl)
  flow-concluded Undefined text prints =
      let same = flow-asked c.given c.keep c.journal text file says W prints.0.workload tells prints.0.asks in
      inr (λ has. prints.0.none has.1.0 (subst (λ (V : Parts). IsFlow V c.given.stored.returns has.1.0) (sym same) has.1.1), refl)
  flow-concluded Finishes text prints = absurd (flow-no-ends c.given c.keep c.journal text file says Finishes prints.0)
  flow-concluded Sticks text prints = absurd (flow-no-ends c.given c.keep c.journal text file says Sticks prints.0)
  flow-concluded GoesOn text prints = absurd (flow-no-ends c.given c.keep c.journal text file says GoesOn prints.0)
  flow-concluded Unexplored text prints = absurd (flow-no-ends c.given c.keep c.journal text file says Unexplored prints.0)
  flow-concluded Helps text prints = absurd (flow-is-no-help file (one-command c.given.words (command.Flow file) command.Help says prints.0))
  flow-concluded NamesVersion text prints = absurd (flow-is-no-version file (one-command c.given.words (command.Flow file) command.Version says prints.0))

  flows : (s : Status Conclusion) → Holds (program c) c.left s → IsStill c.left → Decides (number_of number_of_conclusion s) (HasFlows c.given.stored.returns W) ⊎ (number_of number_of_conclusion s ≡ 7)
  flows (Concluded k) h still = inl (flow-concluded k h.text h.prints)
  flows (Stopped BadWords) h still = absurd (not-bad-words c.given _ says (flow-asks-none c.given file says) h.cause.why)
  flows (Stopped (BadLine line (Workload f said))) h still =
      let named = h.cause.why.named in
      let same : named.file ≡ file = some-is _ _ (sym named.names ∙ ap workload_file (one-command c.given.words named.command (command.Flow file) named.says says)) in
      absurd (not-refused c.given file W line f tells (subst (λ (n : Text). IfSome (c.given.file n) (λ bytes. Refuses bytes line f)) same (refuses-also _ line f said.now h.cause.why.is)))
  flows (Stopped (BadLine line (Journal said))) h still = elim h.cause.why [
    | inl journal ↦ absurd (flow-no-check c.given c.keep c.journal [] file says journal.0 (λ bytes. IsNoJournalSo bytes line said.now) journal.1)
    | inr output ↦ absurd (flow-no-output c.given c.keep c.journal [] file says output.0 (λ bytes. IsNoOutputSo bytes line said.now) output.1)
  ]
  flows (Stopped (BadLine line (Lives said))) h still = absurd h.cause.why
  flows (Stopped CannotRead) h still = absurd (still.0 h.cause.why.1)
  flows (Stopped OutOfMemory) h still = inr refl
  flows CannotWrite h still = absurd (still.1 h.faults)

-- no stream is spent, if it can't be
module _ (c : Call) (d : Command) (W : Parts) (steps : ℕ) (two : 2 ≤ length c.given.stored.orders) (says : Says c.given.words d) (known : RunsKnown d c.given W) (may : MayMake d c.given steps)
    (none : HasNoRevive W) (few : ops_in W ≤ steps) where
  no-budget : (s : StreamNo) (text : Text) → Ran c.given c.keep c.journal (outcome.Budget s) text → ⊥
  no-budget s text ran =
      let same : ran.command ≡ d = one-command c.given.words ran.command d ran.says says in
      let is : ran.workload ≡ W = runs-same c.given d W ran.workload known (subst (λ (x : Command). IsFor x c.given ran.workload) same ran.is) in
      let count : ran.steps ≡ steps = same-steps c.given d W ran.steps steps known (subst (λ (x : Command). MayMake x c.given ran.steps) same ran.may) may in
      let most : ops_in ran.workload ≤ ran.steps = subst (λ (n : ℕ). ops_in ran.workload ≤ n) (sym count) (subst (λ V. ops_in V ≤ steps) (sym is) few) in
      let sound : IsValid ran.workload = subst IsValid (sym is) (runs-valid c.given d W says known) in
      steps-bound-budgets ran.workload c.given.stored sound (orders-stored ran.workload c.given.stored sound two) (subst HasNoRevive (sym is) none) ran.steps s.0 ran.journal most
      (run-is-run ran.workload c.given.stored ran.steps ran.journal (outcome.Budget s) (schedule_of ran.command) ran.run)
      (run-ended ran.workload c.given.stored ran.steps ran.journal (outcome.Budget s) (schedule_of ran.command) ran.run).0

  spends-concluded : (k : Conclusion) (text : Text) → Prints c.given c.keep k c.journal text → number_of_conclusion k ≢ 4
  spends-concluded (Ended outcome.Finished) text prints = λ e. absurd (omega arith)
  spends-concluded (Ended outcome.Stuck) text prints = λ e. absurd (omega arith)
  spends-concluded (Ended (outcome.Budget s)) text prints = λ e. no-budget s text prints
  spends-concluded (Judged verdict.Run) text prints = λ e. absurd (omega arith)
  spends-concluded (Judged (verdict.Bad at)) text prints = λ e. absurd (omega arith)
  spends-concluded (Ends end) text prints = absurd (subst (λ (x : Command). RunsKnown x c.given W) (one-command c.given.words d _ says prints.0.compares.says) known)
  spends-concluded (Followed end) text prints = absurd (subst (λ (x : Command). RunsKnown x c.given W) (one-command c.given.words d _ says prints.0.compares.says) known)
  spends-concluded (Strays at) text prints = absurd (subst (λ (x : Command). RunsKnown x c.given W) (one-command c.given.words d _ says prints.0.compares.says) known)
  spends-concluded (Belongs o) text prints = λ e. absurd (omega arith)
  spends-concluded Differs text prints = λ e. absurd (omega arith)
  spends-concluded Flows text prints = λ e. absurd (omega arith)
  spends-concluded NotConfluent text prints = λ e. absurd (omega arith)
  spends-concluded Undefined text prints = λ e. absurd (omega arith)
  spends-concluded Finishes text prints = absurd (subst (λ (x : Command). RunsKnown x c.given W) (one-command c.given.words d _ says prints.0.asks.says) known)
  spends-concluded Sticks text prints = absurd (subst (λ (x : Command). RunsKnown x c.given W) (one-command c.given.words d _ says prints.0.asks.says) known)
  spends-concluded GoesOn text prints = absurd (subst (λ (x : Command). RunsKnown x c.given W) (one-command c.given.words d _ says prints.0.asks.says) known)
  spends-concluded Unexplored text prints = absurd (subst (λ (x : Command). RunsKnown x c.given W) (one-command c.given.words d _ says prints.0.asks.says) known)
  spends-concluded Helps text prints = λ e. absurd (omega arith)
  spends-concluded NamesVersion text prints = λ e. absurd (omega arith)

  spends : (s : Status Conclusion) → Holds (program c) c.left s → number_of number_of_conclusion s ≢ 4
  spends (Concluded k) h = spends-concluded k h.text h.prints
  spends (Stopped BadWords) h = λ e. absurd (omega arith)
  spends (Stopped (BadLine line w)) h = λ e. absurd (omega arith)
  spends (Stopped CannotRead) h = λ e. absurd (omega arith)
  spends (Stopped OutOfMemory) h = λ e. absurd (omega arith)
  spends CannotWrite h = λ e. absurd (omega arith)

-- a text that is no workload's is refused
refuses : (s : Status Conclusion) (c : Call) (d : Command) (file : Text) → Holds (program c) c.left s → Says c.given.words d → workload_file d ≡ Some file
    → Tells c.given file (λ bytes. (W : Parts) → Reads bytes W → ⊥) → (AsksBeyond c.given → ⊥) → (Grew c.left.read_faults → ⊥) → (number_of number_of_conclusion s ≡ 3) ⊎ (number_of number_of_conclusion s ≡ 7)
refuses (Concluded k) c d file h says names tells within still =
    let read = printed-reads c.given c.keep c.journal h.text d file says names k h.prints in
    absurd (not-read c.given file read.0 tells read.1)
refuses (Stopped BadWords) c d file h says names tells within still = absurd (not-bad-words c.given d says within h.cause.why)
refuses (Stopped (BadLine line w)) c d file h says names tells within still = inl refl
refuses (Stopped CannotRead) c d file h says names tells within still = absurd (still h.cause.why.1)
refuses (Stopped OutOfMemory) c d file h says names tells within still = inr refl
refuses CannotWrite c d file h says names tells within still =
    let read = printed-reads c.given c.keep c.journal h.text d file says names h.conclusion h.prints in
    absurd (not-read c.given file read.0 tells read.1)

-- and one that is no journal's
refuses-journal : (s : Status Conclusion) (c : Call) (w : CheckWords) → Holds (program c) c.left s → Says c.given.words (command.Check w)
    → Tells c.given w.journal (λ bytes. (J : List Event) → IsTextOf J bytes → ⊥) → (Grew c.left.read_faults → ⊥) → (number_of number_of_conclusion s ≡ 3) ⊎ (number_of number_of_conclusion s ≡ 7)
refuses-journal (Concluded k) c w h says tells still =
    let has = printed-compares c.given c.keep c.journal h.text w says k h.prints in
    absurd (not-journal c.given w.journal has.1 tells (compared-journal c.given c.keep c.journal [] w says has.0 (IsTextOf has.1) has.2).1)
refuses-journal (Stopped BadWords) c w h says tells still = absurd (not-bad-words c.given _ says (check-asks-none c.given w says) h.cause.why)
refuses-journal (Stopped (BadLine line wrong)) c w h says tells still = inl refl
refuses-journal (Stopped CannotRead) c w h says tells still = absurd (still h.cause.why.1)
refuses-journal (Stopped OutOfMemory) c w h says tells still = inr refl
refuses-journal CannotWrite c w h says tells still =
    let has = printed-compares c.given c.keep c.journal h.text w says h.conclusion h.prints in
    absurd (not-journal c.given w.journal has.1 tells (compared-journal c.given c.keep c.journal [] w says has.0 (IsTextOf has.1) has.2).1)

-- words that say no command are refused
refuses-words : (s : Status Conclusion) (c : Call) → Holds (program c) c.left s → SaysNothing c.given.words → (number_of number_of_conclusion s ≡ 2) ⊎ (number_of number_of_conclusion s ≡ 7)
refuses-words (Concluded k) c h none = let said = printed-says c.given c.keep c.journal h.text k h.prints in absurd (none said.0 said.1)
refuses-words (Stopped BadWords) c h none = inl refl
refuses-words (Stopped (BadLine line (Workload f said))) c h none = absurd (none h.cause.why.named.command h.cause.why.named.says)
refuses-words (Stopped (BadLine line (Journal said))) c h none = elim h.cause.why [ inl journal ↦ absurd (none _ journal.1.says) | inr output ↦ absurd (none _ output.1.says) ]
refuses-words (Stopped (BadLine line (Lives said))) c h none = absurd h.cause.why
refuses-words (Stopped CannotRead) c h none = absurd (none h.cause.why.0.command h.cause.why.0.says)
refuses-words (Stopped OutOfMemory) c h none = inr refl
refuses-words CannotWrite c h none = let said = printed-says c.given c.keep c.journal h.text h.conclusion h.prints in absurd (none said.0 said.1)

-- Faults.

pub no-fault : (o : Outcome) (n : ℕ) → 5 ≤ n → number_of_outcome o ≢ n
no-fault outcome.Finished n high = λ e. absurd (omega arith)
no-fault outcome.Stuck n high = λ e. absurd (omega arith)
no-fault (outcome.Budget s) n high = λ e. absurd (omega arith)

none-concludes : (n : ℕ) → 5 ≤ n → n ≤ 6 → (k : Conclusion) → number_of_conclusion k ≢ n
none-concludes n high low (Ended o) = no-fault o n high
none-concludes n high low (Judged verdict.Run) = λ e. absurd (omega arith)
none-concludes n high low (Judged (verdict.Bad at)) = λ e. absurd (omega arith)
none-concludes n high low (Ends None) = λ e. absurd (omega arith)
none-concludes n high low (Ends (Some o)) = λ e. absurd (omega arith)
none-concludes n high low (Followed None) = λ e. absurd (omega arith)
none-concludes n high low (Followed (Some o)) = no-fault o n high
none-concludes n high low (Strays at) = λ e. absurd (omega arith)
none-concludes n high low (Belongs o) = λ e. absurd (omega arith)
none-concludes n high low Differs = λ e. absurd (omega arith)
none-concludes n high low Flows = λ e. absurd (omega arith)
none-concludes n high low NotConfluent = λ e. absurd (omega arith)
none-concludes n high low Undefined = λ e. absurd (omega arith)
none-concludes n high low Finishes = λ e. absurd (omega arith)
none-concludes n high low Sticks = λ e. absurd (omega arith)
none-concludes n high low GoesOn = λ e. absurd (omega arith)
none-concludes n high low Unexplored = λ e. absurd (omega arith)
none-concludes n high low Helps = λ e. absurd (omega arith)
none-concludes n high low NamesVersion = λ e. absurd (omega arith)

-- a call that ended with this exit status is answered
pub answered : (n : ℕ) (c : Call) → 2 ≤ length c.given.stored.orders → EndsBy (program c) c.left n → MissesFiles n c → MissesJournals n c → MissesOutputs n c → RefusesSteps n c → (HasReadFault c.left → (n ≡ 5) ⊎ (n ≡ 7)) → IsAnswered n c
answered n c two ends absent missing lost exceeds faulty = by ends.0 ends.1 ends.2 where
  by : (s : Status Conclusion) → n ≡ number_of number_of_conclusion s → Holds (program c) c.left s → IsAnswered n c
  by s is h = subst (λ m. IsAnswered m c) (sym is) (record {
    cause = (s, refl, h);
    complete = λ d W says known within still. runs s c d W h says known within still;
    checks = λ w W J says tells also still. checks c w W J says tells also s h still;
    outputs = λ w W bytes steps says tells seen lets still. outputs c w W bytes steps says tells seen lets s h still;
    flows = λ file W says tells still. flows c file W says tells s h still;
    texts = λ d file says names tells within still. refuses s c d file h says names tells within still;
    journals = λ w W says tells also still. refuses-journal s c w h says also still;
    words = refuses-words s c h;
    steps = subst (λ m. RefusesSteps m c) is exceeds;
    spends = λ d W steps says known may none few. spends c d W steps two says known may none few s h;
    adds = λ units says. adds-up c units says s h;
    absent = subst (λ m. MissesFiles m c) is absent;
    missing = subst (λ m. MissesJournals m c) is missing;
    lost = subst (λ m. MissesOutputs m c) is lost;
    reads = reads-well (program c) c.left (none-concludes 5 (omega arith) (omega arith)) (λ cause. cause.why.1) s h;
    faulty = subst (λ m. HasReadFault c.left → (m ≡ 5) ⊎ (m ≡ 7)) is faulty;
    writes = writes-well (program c) c.left (none-concludes 6 (omega arith) (omega arith)) s h;
  })
