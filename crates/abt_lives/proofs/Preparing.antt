-- From what is known of files to what is known of a call.
use Rattle.std.proofs.Common.{◌≡◌, ◌∙◌, ◌≤◌, ℕ, List, Option, inr, sym, subst}
use Rattle.std.specs.Prelude.{IfSome, ⊤}
use Rattle.abt_machine.specs.declared.events.Event.{Event}
use Rattle.abt_machine.specs.declared.events.Outcome.{Outcome}
use Rattle.abt_machine.specs.declared.workload.Parts.{Parts}
use Rattle.abt_machine.specs.Words.{Text}
use Rattle.abt_run.specs.Given.{Given, IsReadFrom}
use Rattle.abt_run.specs.Prepared.{HasNoRun, IsNoWorkload}
use Rattle.abt_run.specs.Steps.{Exceeds}
use Rattle.abt_shell.specs.declared.status.Stop.{Stop}
use Rattle.abt_shell.specs.declared.status.Wrong.{Wrong}
use Rattle.abt_shell.specs.declared.status.Wrong.TheVariants.{Workload, Journal, Lives}
use Rattle.abt_shell.proofs.Fetched.{grew-later, stops-file, stops-more}
use Rattle.abt_sizes.specs.Laws.{IsSmall}
use Rattle.abt_streams.specs.declared.life.Life.{Life}
use Rattle.abt_streams.specs.declared.wave.Wave.{Wave}
use Rattle.abt_streams.specs.Waves.{HasRunOn}
use Rattle.abt_words.specs.declared.lives.LivesWords.{LivesWords}
use Rattle.abt_words.specs.Lives.{SaysLives}
use Rattle.abt_lives.specs.declared.status.Conclusion.{Conclusion}
use Rattle.abt_lives.specs.declared.status.Conclusion.TheVariants.{Ended}
use Rattle.abt_lives.specs.Asked.{AsksRun, IsBadCommand, MayMake}
use Rattle.abt_lives.specs.Call.{IsBadLine, PrintsLives, StopsLives, waves_output}
use Rattle.abt_lives.specs.Lives.{HasNoLives, IsNoLivesLine, ReadsLives}

module _ (g : Given) (asked : LivesWords) (says : SaysLives g.words asked) where
  -- the run that the words ask for
  abbrev run : AsksRun g.words
  run = record { asked = asked; says = says }

  -- why the workload of the first file is not run is why the call stops
  pub no-run-stops : (s : Stop) (faults : ℕ × ℕ) → HasNoRun (g.file asked.workload) asked.steps faults s → StopsLives g faults s
  no-run-stops s faults =
      stops-more (Exceeds (g.file asked.workload) asked.steps) (IsBadCommand g) ⊤ (AsksRun g.words) (IsNoWorkload (g.file asked.workload)) (IsBadLine g) faults faults beyond (λ known. run) bad (λ grew. grew) s where
        beyond : Exceeds (g.file asked.workload) asked.steps → IsBadCommand g
        beyond exceeds = inr (record { run = run; exceeds = exceeds })

        bad : (line : ℕ) (w : Wrong) → IsNoWorkload (g.file asked.workload) line w → IsBadLine g line w
        bad line (Workload f said) h = record { run = run; refuses = h }
        bad line (Journal said) h = absurd h
        bad line (Lives said) h = absurd h

  -- and so is why the second has no lives
  pub no-lives-stops : (s : Stop) (W : Parts) (told : Option Text) (a b c : ℕ) → IsReadFrom g asked.workload W → told ≡ g.file asked.lives → a ≤ b → b ≤ c → HasNoLives W told (b, c) s → StopsLives g (a, c) s
  no-lives-stops s W told a b c reads same first second =
      stops-file (IsBadCommand g) (AsksRun g.words) (IsNoLivesLine W told) (IsBadLine g) (b, c) (a, c) run bad (grew-later a b c first second) s where
        bad : (line : ℕ) (w : Wrong) → IsNoLivesLine W told line w → IsBadLine g line w
        bad line (Workload f said) h = absurd h
        bad line (Journal said) h = absurd h
        bad line (Lives said) h = record { run = run; workload = W; reads = reads; refuses = subst (λ (o : Option Text). IsNoLivesLine W o line (Lives said)) same h }

  -- or both were read, and this ran and is printed
  pub ran-as : (W : Parts) (told : Option Text) → told ≡ g.file asked.lives → IsReadFrom g asked.workload W → (steps : ℕ) → MayMake (g.file asked.workload) asked.steps steps → (read : List Life)
      → IfSome told (λ bytes. ReadsLives W bytes read) → (waves : List Wave) → (J K : List Event) (o : Outcome) (k : Conclusion) (text : Text) → K ≡ J → k ≡ Ended o → (printed : Text) → printed ≡ text
      → HasRunOn W g.stored steps read J waves o → IsSmall W J → text ≡ waves_output asked.journal W J waves o → PrintsLives g K k printed
  ran-as W told same reads steps may read known waves J K o k text j e printed t ran small output =
      subst (λ (L : List Event). PrintsLives g L k printed) (sym j) (subst (λ (q : Conclusion). PrintsLives g J q printed) (sym e) (record {
        asks = run;
        workload = W;
        reads = reads;
        steps = steps;
        may = may;
        run = record { lives = read; waves = waves; reads = subst (λ (o : Option Text). IfSome o (λ bytes. ReadsLives W bytes read)) same known; run = ran };
        small = small;
        output = t ∙ output;
      }))
