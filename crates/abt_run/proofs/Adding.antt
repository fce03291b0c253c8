-- What `self` comes to.
use Rattle.std.proofs.Common.{◌≡◌, ◌≢◌, ◌≤◌, ◌<◌, ◌+◌, ◌*◌, ◌∙◌, ℕ, List, [], ◌∷◌, sym, ap, subst, arith}
use Rattle.abt_machine.specs.declared.events.Event.{Event}
use Rattle.abt_machine.specs.declared.events.Outcome.{Outcome}
use Rattle.abt_machine.specs.declared.events.Outcome.TheVariants as outcome
use Rattle.abt_machine.specs.declared.workload.Parts.{Parts}
use Rattle.abt_machine.specs.Limits.{adder_limit, default_steps}
use Rattle.abt_machine.specs.Outcomes.{EndsAs, steps_in}
use Rattle.abt_machine.specs.Runs.{Run as IsRun, last_state}
use Rattle.abt_machine.specs.Texts.{short_text}
use Rattle.abt_machine.specs.Words.{Text}
use Rattle.abt_adders.specs.Laws.{adder_steps}
use Rattle.abt_adders.specs.Texts.{adders_text}
use Rattle.abt_adders.proofs.Reports.{adders-report}
use Rattle.abt_adders.proofs.Runs.{adders-finish}
use Rattle.abt_generate.specs.Generated.{generated}
use Rattle.abt_words.specs.declared.commands.CheckWords.{CheckWords}
use Rattle.abt_words.specs.declared.commands.Command.{Command}
use Rattle.abt_words.specs.declared.commands.Command.TheVariants as command
use Rattle.abt_words.specs.declared.commands.ExploreWords.{ExploreWords}
use Rattle.abt_words.specs.declared.commands.OutputWords.{OutputWords}
use Rattle.abt_words.specs.Commands.{Says}
use Rattle.abt_words.proofs.OneCommand.{one-command}
use Rattle.abt_shell.specs.Calls.{Holds}
use Rattle.abt_shell.specs.Status.{Status, Concluded, Stopped, CannotWrite, number_of}
use Rattle.abt_shell.specs.Told.{Gained, GainedPrefix}
use Rattle.abt_shell.specs.declared.status.Stop.TheVariants.{BadWords, BadLine, CannotRead, OutOfMemory}
use Rattle.abt_run.specs.Call.{Call, program}
use Rattle.abt_run.specs.Printed.{IsFor, Prints, Ran, output_text, schedule_of}
use Rattle.abt_run.specs.SelfAdds.{SelfAdds}
use Rattle.abt_run.specs.Status.{number_of_conclusion}
use Rattle.abt_run.specs.Steps.{MayMake}
use Rattle.abt_run.specs.declared.status.Conclusion.{Conclusion}
use Rattle.abt_run.specs.declared.status.Conclusion.TheVariants.{Ended, Judged, Ends, Followed, Strays, Belongs, Differs, Flows, NotConfluent, Undefined, Finishes, Sticks, GoesOn, Unexplored, Helps, NamesVersion}
use Rattle.abt_run.proofs.Outputs.{run-ended, run-is-run}

-- words ask for as many adders as there may be
few-adders : (words : List Text) (units : ℕ) → Says words (command.SelfRun units) → units ≤ adder_limit
few-adders [] units said = absurd said
few-adders (name ∷ ws) units said = said.1.2.3

module _ (c : Call) (units : ℕ) (says : Says c.given.words (command.SelfRun units)) where
  few : units ≤ adder_limit
  few = few-adders c.given.words units says

  -- No other command is asked for.

  no-check : (w : CheckWords) → Says c.given.words (command.Check w) → ⊥
  no-check w said = let same = one-command c.given.words (command.SelfRun units) (command.Check w) says said in cc

  no-output : (w : OutputWords) → Says c.given.words (command.CheckOutput w) → ⊥
  no-output w said = let same = one-command c.given.words (command.SelfRun units) (command.CheckOutput w) says said in cc

  no-flow : (file : Text) → Says c.given.words (command.Flow file) → ⊥
  no-flow file said = let same = one-command c.given.words (command.SelfRun units) (command.Flow file) says said in cc

  no-search : (w : ExploreWords) → Says c.given.words (command.Explore w) → ⊥
  no-search w said = let same = one-command c.given.words (command.SelfRun units) (command.Explore w) says said in cc

  no-help : Says c.given.words command.Help → ⊥
  no-help said = let same = one-command c.given.words (command.SelfRun units) command.Help says said in cc

  no-version : Says c.given.words command.Version → ⊥
  no-version said = let same = one-command c.given.words (command.SelfRun units) command.Version says said in cc

  -- The run.

  -- a run of the adders with these steps has finished, and its short report is that of them
  module _ (W : Parts) (steps : ℕ) (J : List Event) (o : Outcome) (is : W ≡ generated units) (count : steps ≡ default_steps) (run : IsRun W c.given.stored J) (ends : EndsAs W steps J o) where
    enough : adder_steps units ≤ steps
    enough = let most : units ≤ 126 = few in let many : steps ≡ 10000 = count in let all : 8 * units + 4 ≤ steps = omega arith in all

    has-finished : o ≡ outcome.Finished
    has-finished =
        adders-finish units c.given.stored few steps J o enough (subst (λ V. IsRun V c.given.stored J) is run) (subst (λ V. EndsAs V steps J o) is ends)

    says-sum : short_text W (last_state W J) (steps_in J) o ≡ adders_text units
    says-sum =
        subst (λ V. short_text V (last_state V J) (steps_in J) o ≡ adders_text units) (sym is) (subst (λ r. short_text (generated units) (last_state (generated units) J) (steps_in J) r ≡ adders_text units) (sym has-finished)
        (adders-report units c.given.stored few J (subst (λ V. IsRun V c.given.stored J) is run) (subst (EndsAs (generated units) steps J) has-finished (subst (λ V. EndsAs V steps J o) is ends)).1))

  ran-adds : (o : Outcome) (text : Text) → Ran c.given c.keep c.journal o text → (o ≡ outcome.Finished) × (text ≡ adders_text units)
  ran-adds o text ran =
      let same : ran.command ≡ command.SelfRun units = one-command c.given.words ran.command (command.SelfRun units) ran.says says in
      let is : ran.workload ≡ generated units = subst (λ (d : Command). IsFor d c.given ran.workload) same ran.is in
      let count : ran.steps ≡ default_steps = subst (λ (d : Command). MayMake d c.given ran.steps) same ran.may in
      let run = run-is-run ran.workload c.given.stored ran.steps ran.journal o (schedule_of ran.command) ran.run in
      let ends = run-ended ran.workload c.given.stored ran.steps ran.journal o (schedule_of ran.command) ran.run in
      let short : text ≡ short_text ran.workload (last_state ran.workload ran.journal) (steps_in ran.journal) o =
      subst (λ (d : Command). text ≡ output_text ran.workload (last_state ran.workload ran.journal) ran.journal o d) same ran.output in
      (has-finished ran.workload ran.steps ran.journal o is count run ends, short ∙ says-sum ran.workload ran.steps ran.journal o is count run ends)

  -- what is printed
  adds-concluded : (k : Conclusion) (text : Text) → Prints c.given c.keep k c.journal text → (number_of_conclusion k ≡ 0) × (text ≡ adders_text units)
  adds-concluded (Ended o) text prints = let is = ran-adds o text prints in (ap (λ (r : Outcome). number_of_conclusion (Ended r)) is.0, is.1)
  adds-concluded (Judged v) text prints = absurd (no-check prints.0.compares.asked prints.0.compares.says)
  adds-concluded (Ends end) text prints = absurd (no-check prints.0.compares.asked prints.0.compares.says)
  adds-concluded (Followed end) text prints = absurd (no-check prints.0.compares.asked prints.0.compares.says)
  adds-concluded (Strays at) text prints = absurd (no-check prints.0.compares.asked prints.0.compares.says)
  adds-concluded (Belongs o) text prints = absurd (no-output prints.0.compares.asked prints.0.compares.says)
  adds-concluded Differs text prints = absurd (no-output prints.0.compares.asked prints.0.compares.says)
  adds-concluded Flows text prints = absurd (no-flow prints.0.asks.file prints.0.asks.says)
  adds-concluded NotConfluent text prints = absurd (no-flow prints.0.asks.file prints.0.asks.says)
  adds-concluded Undefined text prints = absurd (no-flow prints.0.asks.file prints.0.asks.says)
  adds-concluded Finishes text prints = absurd (no-search prints.0.asked prints.0.asks.says)
  adds-concluded Sticks text prints = absurd (no-search prints.0.asked prints.0.asks.says)
  adds-concluded GoesOn text prints = absurd (no-search prints.0.asked prints.0.asks.says)
  adds-concluded Unexplored text prints = absurd (no-search prints.0.asked prints.0.asks.says)
  adds-concluded Helps text prints = absurd (no-help prints.0)
  adds-concluded NamesVersion text prints = absurd (no-version prints.0)

  -- a status that says nothing of the output
  says-none : (n : ℕ) → 1 < n → n ≢ 4 → n ≢ 6 → SelfAdds n units c.left
  says-none n high spent written = record {
    not_stuck = λ e. absurd (omega arith);
    not_spent = spent;
    whole = λ e. absurd (omega arith);
    begun = λ e. absurd (written e);
  }

  -- every status
  pub adds-up : (s : Status Conclusion) → Holds (program c) c.left s → SelfAdds (number_of number_of_conclusion s) units c.left
  adds-up (Concluded k) h =
      let is = adds-concluded k h.text h.prints in
      subst (λ n. SelfAdds n units c.left) (sym is.0) (record {
        not_stuck = λ e. absurd (omega arith);
        not_spent = λ e. absurd (omega arith);
        whole = λ e. subst (Gained c.left.out) is.1 h.out;
        begun = λ e. absurd (omega arith);
      })
  adds-up (Stopped BadWords) h = says-none 2 (omega arith) (λ e. absurd (omega arith)) (λ e. absurd (omega arith))
  adds-up (Stopped (BadLine line w)) h = says-none 3 (omega arith) (λ e. absurd (omega arith)) (λ e. absurd (omega arith))
  adds-up (Stopped CannotRead) h = says-none 5 (omega arith) (λ e. absurd (omega arith)) (λ e. absurd (omega arith))
  adds-up (Stopped OutOfMemory) h = says-none 7 (omega arith) (λ e. absurd (omega arith)) (λ e. absurd (omega arith))
  adds-up CannotWrite h = record {
    not_stuck = λ e. absurd (omega arith);
    not_spent = λ e. absurd (omega arith);
    whole = λ e. absurd (omega arith);
    begun = λ e. subst (GainedPrefix c.left.out) (adds-concluded h.conclusion h.text h.prints).1 h.out;
  }
