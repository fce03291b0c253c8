-- What is printed of a journal that is judged.
use Rattle.std.proofs.Common.{◌≡◌, ◌≤◌, ◌<◌, ◌∙◌, ◌++◌, append-nil, arith, Bool, true, false, length, List, [], Option, None, ℕ, inl, inr, refl, subst, sym}
use Rattle.std.proofs.lemmas.List.{take_all}
use Rattle.std.specs.Prelude.{IfErr, Result, Ok, Err, if◌then◌else◌}
use Rattle.abt_machine.specs.declared.events.Event.{Event}
use Rattle.abt_machine.specs.declared.events.Outcome.{Outcome}
use Rattle.abt_machine.specs.declared.events.Outcome.TheVariants as outcome
use Rattle.abt_machine.specs.declared.workload.Parts.{Parts}
use Rattle.abt_machine.specs.Outcomes.{EndsAs}
use Rattle.abt_machine.specs.Stored.{Stored}
use Rattle.abt_machine.specs.Words.{Text}
use Rattle.abt_check.specs.Verdicts.{IsRunUpTo, IsStampedRun}
use Rattle.abt_drain.specs.Looks.{EndsWith}
use Rattle.abt_shell.specs.declared.status.Stop.{Stop}
use Rattle.abt_words.specs.declared.commands.Shows.{Shows}
use Rattle.abt_words.specs.declared.commands.Shows.TheVariants as show
use Rattle.abt_run.specs.Given.{Given}
use Rattle.abt_run.specs.Prepared.{HasNoRun, HasNoWorkload}
use Rattle.abt_run.specs.Printed.{HasJudged, HasJudgedOutput, Prints, ShowsJudged, ShowsOutput}
use Rattle.abt_run.specs.declared.keeping.Keep.{Keep}
use Rattle.abt_run.specs.declared.status.Conclusion.{Conclusion}
use Rattle.abt_run.proofs.Stepping.{no-run-no-workload}

-- a workload that is not fetched, though the words ask for no steps, is none
pub fetches-none : {T : Type 0} (r : Result T Stop) (told : Option Text) (faults : ℕ × ℕ) → IfErr r (HasNoRun told None faults) → IfErr r (HasNoWorkload told faults)
fetches-none (Ok x) told faults h = h
fetches-none (Err s) told faults h = no-run-no-workload told faults s h

-- a journal is no run, if only its first events are one
pub not-run : (W : Parts) (Z : Stored) (J : List Event) (at : ℕ) → IsRunUpTo W Z J at → IsStampedRun W Z J → ⊥
not-run W Z J at is run =
    let most : length J ≤ at = is.greatest (length J) (omega arith) (subst (IsStampedRun W Z) (sym (take_all (length J) J (omega arith))) run) in
    let within : at < length J = is.within in
    omega arith

-- a journal that could go on has not ended
pub not-ended : (W : Parts) (n : ℕ) (J : List Event) (o : Outcome) → EndsWith W n J None → EndsAs W n J o → ⊥
not-ended W n J outcome.Finished goes ended = goes.0 ended.0
not-ended W n J outcome.Stuck goes ended = goes.0 ended.0
not-ended W n J (outcome.Budget s) goes ended = goes.1 s.0 ended.0

-- what units wait for follows, if it is asked for
pub why-shown : (why : Bool) (front text tail : Text) → (why ≡ true → text ≡ front ++ tail) → (why ≡ false → text ≡ front) → text ≡ front ++ (if why then tail else [])
why-shown true front text tail asked unasked = asked refl
why-shown false front text tail asked unasked = unasked refl ∙ sym (append-nil front)

module _ (g : Given) (keep : Keep) (c : Conclusion) (text : Text) where
  -- what is shown of a journal is what the command prints
  shown-prints : HasJudged g c text → Prints g keep c None text
  shown-prints has = by has.compares.asked.shows has.shown
    where
      told-as : (d : Conclusion) → c ≡ d → (HasJudged g d text → Prints g keep d None text) → Prints g keep c None text
      told-as d is prints = subst (λ (x : Conclusion). Prints g keep x None text) (sym is) (prints (subst (λ (x : Conclusion). HasJudged g x text) is has))

      by : (s : Shows) → ShowsJudged s has.workload g.stored has.steps has.journal c text → Prints g keep c None text
      by show.Verdict shown = told-as _ shown.1 (λ judged. (judged, refl))
      by show.End (inl bad) = told-as _ bad.1 (λ judged. (judged, refl))
      by show.End (inr led) = told-as _ led.1 (λ judged. (judged, refl))
      by (show.Report why) (inl bad) = told-as _ bad.1 (λ judged. (judged, refl))
      by (show.Report why) (inr led) = told-as _ led.1 (λ judged. (judged, refl))

  pub prints-judged : (d : Conclusion) (answered : Option (List Event)) (printed : Text) → d ≡ c → answered ≡ None → printed ≡ text → HasJudged g c text → Prints g keep d answered printed
  prints-judged d answered printed concludes none same has =
      subst (λ (k : Conclusion). Prints g keep k answered printed) (sym concludes) (subst (λ (L : Option (List Event)). Prints g keep c L printed) (sym none) (subst (Prints g keep c None) (sym same) (shown-prints has)))

  -- and so is what is shown of an output
  output-prints : HasJudgedOutput g c text → Prints g keep c None text
  output-prints has = by has.shown
    where
      told-as : (d : Conclusion) → c ≡ d → (HasJudgedOutput g d text → Prints g keep d None text) → Prints g keep c None text
      told-as d is prints = subst (λ (x : Conclusion). Prints g keep x None text) (sym is) (prints (subst (λ (x : Conclusion). HasJudgedOutput g x text) is has))

      by : ShowsOutput has.compares.asked.why has.workload g.stored has.steps has.journal has.report c text → Prints g keep c None text
      by (inl bad) = told-as _ bad.1 (λ judged. (judged, refl))
      by (inr (inl going)) = told-as _ going.0 (λ judged. (judged, refl))
      by (inr (inr (o, led, inl same))) = told-as _ same.0 (λ judged. (judged, refl))
      by (inr (inr (o, led, inr other))) = told-as _ other.0 (λ judged. (judged, refl))

  pub prints-output : (d : Conclusion) (answered : Option (List Event)) (printed : Text) → d ≡ c → answered ≡ None → printed ≡ text → HasJudgedOutput g c text → Prints g keep d answered printed
  prints-output d answered printed concludes none same has =
      subst (λ (k : Conclusion). Prints g keep k answered printed) (sym concludes) (subst (λ (L : Option (List Event)). Prints g keep c L printed) (sym none) (subst (Prints g keep c None) (sym same) (output-prints has)))
