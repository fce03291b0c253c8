-- An output has one journal and one report.
use Rattle.std.proofs.Common.{◌≡◌, ◌==◌, ◌<◌, ◌≤◌, ◌-◌, ◌∙◌, ◌&&◌, ℕ, zero, suc, Bool, true, false, not, List, [], ◌∷◌, ◌++◌, Some, length, take, append_assoc, decimal, arith, cond, inl, inr, ap, refl, subst, sym}
use Rattle.std.specs.Char.{is_ascii_digit}
use Rattle.std.specs.Prelude.{if◌then◌else◌}
use Rattle.std.specs.List.{All}
use Rattle.std.specs.Str.{all_ascii_digits}
use Rattle.std.proofs.Math.Seq.{take-append_seam}
use Rattle.std.proofs.lemmas.Bool.{ne_eqb}
use Rattle.std.proofs.lemmas.Fmt.{decimal_nonempty}
use Rattle.std.proofs.lemmas.List.{length-append}
use Rattle.std.proofs.lemmas.List.Elements.{All-head, All-tail}
use Rattle.abt_machine.specs.declared.events.Event.{Event}
use Rattle.abt_machine.specs.declared.events.Outcome.{Outcome}
use Rattle.abt_machine.specs.declared.workload.Parts.{Parts}
use Rattle.abt_machine.specs.Outcomes.{EndsAs, steps_in}
use Rattle.abt_machine.specs.Runs.{last_state}
use Rattle.abt_machine.specs.Stored.{Stored}
use Rattle.abt_machine.specs.Texts.{ShownUnit, journal_text, report_of, shown_units, what_words}
use Rattle.abt_machine.specs.Words.{Text, ended, spaced}
use Rattle.abt_bounds.proofs.Solid.{IsNoFeed, unbroken-line}
use Rattle.abt_check.specs.Verdicts.{IsStampedRun}
use Rattle.abt_outcomes.proofs.Coming.{outcomes-are-one}
use Rattle.abt_report.specs.Journals.{IsEvent, IsTextOf, event_line, journal_limit}
use Rattle.abt_report.proofs.Limits.{not-both}
use Rattle.abt_shell.specs.Outputs.{IsNoOutputSo, IsOutputOf, journal_part, report_from, report_part}
use Rattle.abt_why.specs.Texts.{why_text}
use Rattle.abt_workload.proofs.Places.{and-left, and-right}
use Rattle.abt_workload.proofs.Taking.{decimal-number}
use Rattle.abt_run.specs.Call.{IsRunOutput}
use Rattle.abt_run.specs.Differing.{DifferAfter, after_line}
use Rattle.abt_run.specs.Printed.{ShowsOutput, followed_text}
use Rattle.abt_run.specs.declared.status.Conclusion.TheVariants.{Belongs, Differs}
use Rattle.abt_run.proofs.Judging.{not-ended, not-run}
use Rattle.abt_run.proofs.Texts.{one-journal}

-- Lines that begin with a digit.

-- a report does not begin within a line
within-line : (line more : Text) → All IsNoFeed line → report_from false (line ++ 10 ∷ more) ≡ report_from true more
within-line [] more plain = refl
within-line (b ∷ bs) more plain =
    ap (λ (c : Bool). report_from c (bs ++ 10 ∷ more)) (ne_eqb b 10 (All-head IsNoFeed b bs plain)) ∙ within-line bs more (All-tail IsNoFeed b bs plain)

-- nor with a line that begins with a digit
after-digit : (d : ℕ) (line more : Text) → is_ascii_digit d ≡ true → All IsNoFeed (d ∷ line) → report_from true (d ∷ (line ++ 10 ∷ more)) ≡ report_from true more
after-digit d line more digit plain =
    ap (λ (c : Bool). cond (not c) (d ∷ (line ++ 10 ∷ more)) (report_from (d == 10) (line ++ 10 ∷ more))) digit
    ∙ ap (λ (c : Bool). report_from c (line ++ 10 ∷ more)) (ne_eqb d 10 (All-head IsNoFeed d line plain)) ∙ within-line line more (All-tail IsNoFeed d line plain)

after-number : (word tail more : Text) → 0 < length word → all_ascii_digits word ≡ true → All IsNoFeed (word ++ tail) → report_from true ((word ++ tail) ++ 10 ∷ more) ≡ report_from true more
after-number [] tail more some digits plain = absurd (omega (arith, some))
after-number (d ∷ ds) tail more some digits plain = after-digit d (ds ++ tail) more (and-left (is_ascii_digit d) (all_ascii_digits ds) digits) plain

-- nor with that of an event
after-event : (e : Event) (more : Text) → IsEvent e → report_from true (event_line e ++ 10 ∷ more) ≡ report_from true more
after-event e more is =
    let digits : all_ascii_digits (decimal e.stamp) ≡ true = and-right _ _ (and-left _ _ (decimal-number e.stamp is.stamp)) in
    after-number (decimal e.stamp) (spaced (decimal e.stream.0 ∷ what_words e.what)) more (decimal_nonempty e.stamp is.stamp) digits (unbroken-line e)

-- so it is what follows a journal
after-journal : (J : List Event) (back : Text) → All IsEvent J → report_from true (journal_text J ++ back) ≡ report_from true back
after-journal [] back events = refl
after-journal (e ∷ es) back events =
    ap (report_from true) (append_assoc (ended (event_line e)) (journal_text es) back ∙ append_assoc (event_line e) (10 ∷ []) (journal_text es ++ back))
    ∙ after-event e (journal_text es ++ back) (All-head IsEvent e es events) ∙ after-journal es back (All-tail IsEvent e es events)

-- Texts that begin with no digit.

abbrev BeginsPlain : Text → Type 0
BeginsPlain [] = ⊥
BeginsPlain (b ∷ bs) = is_ascii_digit b ≡ false

all-report : (text : Text) → BeginsPlain text → report_part text ≡ text
all-report [] plain = absurd plain
all-report (b ∷ bs) plain = ap (λ (c : Bool). cond (not c) (b ∷ bs) (report_from (b == 10) bs)) plain

-- a report does
plain-report : (W : Parts) (units : List ShownUnit) (steps : ℕ) (o : Outcome) (tail : Text) → BeginsPlain (report_of W units steps o ++ tail)
plain-report W [] steps o tail = refl
plain-report W (unit ∷ units) steps o tail = refl

-- Parts.

-- the parts of an output
parts-of : (J : List Event) (front back bytes : Text) → IsTextOf J front → BeginsPlain back → front ++ back ≡ bytes → (report_part bytes ≡ back) × (journal_part bytes ≡ front)
parts-of J front back bytes is plain whole =
    let report : report_part bytes ≡ back =
    ap report_part (sym whole) ∙ ap (λ (t : Text). report_part (t ++ back)) (sym is.text) ∙ after-journal J back is.events ∙ all-report back plain in
    let n : length bytes - length (report_part bytes) ≡ length front =
    let all = ap length whole in let two = length-append front back in let tail = ap length report in omega (arith, all, two, tail) in
    (report, ap (λ (m : ℕ). take m bytes) n ∙ ap (λ (t : Text). take (length front) t) (sym whole) ∙ take-append_seam front back)

-- a report ends the text
ends-by : (b : ℕ) (bs rest : Text) (c : Bool) → (front : Text) × (front ++ rest ≡ bs) → (front : Text) × (front ++ cond c (b ∷ bs) rest ≡ b ∷ bs)
ends-by b bs rest true more = ([], refl)
ends-by b bs rest false more = (b ∷ more.0, ap (λ (t : Text). b ∷ t) more.1)

ends : (begins : Bool) (text : Text) → (front : Text) × (front ++ report_from begins text ≡ text)
ends begins [] = ([], refl)
ends begins (b ∷ bs) = ends-by b bs (report_from (b == 10) bs) (begins && not (is_ascii_digit b)) (ends (b == 10) bs)

-- both parts are the whole text
both-parts : (text : Text) → journal_part text ++ report_part text ≡ text
both-parts text =
    let end = ends true text in
    let n : length text - length (report_part text) ≡ length end.0 =
    let all = ap length end.1 in let two = length-append end.0 (report_part text) in omega (arith, all, two) in
    let front : journal_part text ≡ end.0 = ap (λ (m : ℕ). take m text) n ∙ ap (λ (t : Text). take (length end.0) t) (sym end.1) ∙ take-append_seam end.0 (report_part text) in
    ap (λ (t : Text). t ++ report_part text) front ∙ end.1

two-conclusions : (o : Outcome) → Belongs o ≡ Differs → ⊥
two-conclusions o e = cc

-- the same text does not differ
none-differ : (l : ℕ) (text expected found : Text) → DifferAfter l text text expected found → ⊥
none-differ zero text expected found differ = differ.2 (differ.0 ∙ sym differ.1)
none-differ (suc l) text expected found differ = none-differ l (after_line text) expected found differ.1

module _ (why : Bool) (W : Parts) (Z : Stored) (n : ℕ) (bytes : Text) (run : IsRunOutput why W Z n bytes) where
  abbrev its : Text
  its = followed_text W (last_state W run.journal) run.journal (Some run.outcome) why

  parts : (report_part bytes ≡ its) × (journal_part bytes ≡ run.front)
  parts = parts-of run.journal run.front its bytes run.text (plain-report W (shown_units W (last_state W run.journal)) (steps_in run.journal) run.outcome (if why then why_text W (last_state W run.journal) else [])) run.whole

  module _ (J : List Event) (report : Text) (is : IsOutputOf J report bytes) where
    same-journal : J ≡ run.journal
    same-journal = one-journal run.front J run.journal (subst (IsTextOf J) parts.1 is.journal) run.text

    -- it is not said to differ
    pub no-difference : (text : Text) → ShowsOutput why W Z n J report Differs text → ⊥
    no-difference text (inl bad) = not-run W Z J bad.0 bad.2 (subst (IsStampedRun W Z) (sym same-journal) run.leads.0)
    no-difference text (inr (inl going)) = not-ended W n J run.outcome going.1.1 (subst (λ (K : List Event). EndsAs W n K run.outcome) (sym same-journal) run.leads.1)
    no-difference text (inr (inr (o, led, inl belongs))) = absurd (two-conclusions o (sym belongs.0))
    no-difference text (inr (inr (o, led, inr other))) =
        let outcome : o ≡ run.outcome = outcomes-are-one W n J o run.outcome led.1 (subst (λ (K : List Event). EndsAs W n K run.outcome) (sym same-journal) run.leads.1) in
        let wanted : followed_text W (last_state W J) J (Some o) why ≡ its = λ i. followed_text W (last_state W (same-journal i)) (same-journal i) (Some (outcome i)) why in
        let same : followed_text W (last_state W J) J (Some o) why ≡ report = wanted ∙ sym parts.0 ∙ sym is.rest in
        none-differ other.1.0 report other.1.1 other.1.2 (subst (λ (t : Text). DifferAfter other.1.0 t report other.1.1 other.1.2) same other.1.3)

  -- nor to have no journal
  pub no-bad-line : (line : ℕ) (said : Text) → IsNoOutputSo bytes line said → ⊥
  no-bad-line zero said so = let few : length bytes ≤ journal_limit = run.short in let many : journal_limit < length bytes = so.0 in absurd (omega arith)
  no-bad-line (suc l) said so = not-both run.journal (journal_part bytes) (suc l) (subst (IsTextOf run.journal) (sym parts.1) run.text) so.1.0

-- what is said to belong is the output of a run
pub belongs-to : (why : Bool) (W : Parts) (Z : Stored) (n : ℕ) (bytes : Text) (J : List Event) (report text : Text) (o : Outcome) → IsOutputOf J report bytes
    → ShowsOutput why W Z n J report (Belongs o) text → IsRunOutput why W Z n bytes
belongs-to why W Z n bytes J report text o is (inl bad) = absurd (two-conclusions o bad.1)
belongs-to why W Z n bytes J report text o is (inr (inl going)) = absurd (two-conclusions o going.0)
belongs-to why W Z n bytes J report text o is (inr (inr (p, led, inr other))) = absurd (two-conclusions o other.0)
belongs-to why W Z n bytes J report text o is (inr (inr (p, led, inl belongs))) = record {
  journal = J;
  front = journal_part bytes;
  text = is.journal;
  outcome = p;
  leads = led;
  whole = ap (λ (t : Text). journal_part bytes ++ t) (sym belongs.1 ∙ is.rest) ∙ both-parts bytes;
  short = is.short;
}
