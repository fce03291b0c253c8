-- The short report of adders that have finished.
use Rattle.std.proofs.Common.{◌≡◌, ℕ, zero, suc, ◌<◌, ◌≤◌, ◌+◌, ◌++◌, List, [], ◌∷◌, map, refl, ◌∙◌, ap, ap₂, arith, lit<}
use Rattle.std.specs.Prelude.{codes, decimal, fold, replicate}
use Rattle.std.specs.List.{range_with_len}
use Rattle.std.proofs.lemmas.Fmt.{decimal_digit}
use Rattle.std.proofs.lemmas.List.{append-nil, length-replicate}
use Rattle.abt_machine.specs.declared.events.Event.{Event}
use Rattle.abt_machine.specs.declared.events.Outcome.TheVariants as outcome
use Rattle.abt_machine.specs.declared.events.Piece.{Piece}
use Rattle.abt_machine.specs.declared.events.Place.{Place}
use Rattle.abt_machine.specs.Outcomes.{steps_in}
use Rattle.abt_machine.specs.Runs.{last_state}
use Rattle.abt_machine.specs.State.{State}
use Rattle.abt_machine.specs.Stored.{Stored}
use Rattle.abt_machine.specs.Texts.{ShownUnit, Tally, counted, empty_tally, outcome_words, short_of, shown, shown_units, tally_of, tally_words}
use Rattle.abt_machine.specs.Words.{Text, ended, line_of, spaced, text_of}
use Rattle.abt_generate.specs.Generated.{generated}
use Rattle.abt_adders.specs.Laws.{IsWorth, adder_steps, sum_to}
use Rattle.abt_adders.specs.Texts.{AddersReport, adders_text, done_with, units_done}
use Rattle.abt_adders.proofs.Programs.{unit-count}
use Rattle.abt_adders.proofs.Runs.{adder-runs}

-- Units.

module _ (n : ℕ) (J : List Event) (worth : IsWorth n J) where
  abbrev S : State
  S = last_state (generated n) J

  -- a unit as it is shown
  abbrev seen : ℕ → ShownUnit
  seen u = record { shown = shown (S.place u); output = (S.carried u).output }

  seen-done : (u : ℕ) (output : List Piece) → u ≤ n → (S.carried u).output ≡ output → seen u ≡ done_with output
  seen-done u output most out = ap₂ (λ (pl : Place) ps. record { shown = shown pl; output = ps }) (worth.done u most) out

  adders-seen : (a k : ℕ) → 0 < a → a + k ≤ suc n → map seen (range_with_len a k) ≡ replicate k (done_with [])
  adders-seen a zero some most = refl
  adders-seen a (suc k) some most = ap₂ (λ x xs. x ∷ xs) (seen-done a [] (omega arith) (worth.silent a some)) (adders-seen (a + 1) k (omega arith) (omega arith))

  all-seen : shown_units (generated n) S ≡ units_done n
  unfolding generated
  all-seen = ap (λ k. map seen (range_with_len 0 k)) (unit-count n) ∙ ap₂ (λ x xs. x ∷ xs) (seen-done 0 _ (omega arith) worth.sum) (adders-seen 1 n (omega arith) (omega arith))

-- The tally.

-- a tally with more units that are done
abbrev more_done : ℕ → Tally → Tally
more_done k t = record t { done = k + t.done }

count-done : (k : ℕ) (t : Tally) → fold (λ s (unit : ShownUnit). counted s unit.shown) t (replicate k (done_with [])) ≡ more_done k t
count-done zero t = ap (λ m. record t { done = m }) (let e : t.done ≡ 0 + t.done = omega arith in e)
count-done (suc k) t = count-done k (record t { done = suc t.done }) ∙ ap (λ m. record t { done = m }) (let e : k + suc t.done ≡ suc k + t.done = omega arith in e)

tally-done : (n : ℕ) → tally_of (units_done n) ≡ record empty_tally { done = suc n }
tally-done n = count-done n (record empty_tally { done = 1 }) ∙ ap (λ m. record empty_tally { done = m }) (let e : n + 1 ≡ suc n = omega arith in e)

-- The text.

-- with this for the digit 0
abbrev sum_line : ℕ → Text → Text
sum_line n none = line_of (codes "unit" ∷ none ∷ codes "done" ∷ []) ++ codes ":" ++ spaced (decimal (sum_to n) ∷ [])

abbrev done_line : ℕ → Text → List Text
done_line n none =
    codes "tally" ∷ codes "units" ∷ decimal (suc n) ∷ codes "unborn" ∷ none ∷ codes "pool" ∷ none ∷ codes "stream" ∷ none ∷ codes "blocked" ∷ none ∷
    codes "done" ∷ decimal (suc n) ∷ codes "asked" ∷ none ∷ codes "access" ∷ none ∷ codes "steps" ∷ decimal (adder_steps n) ∷ []

abbrev lines_by : ℕ → Text → Text
lines_by n none = ended (sum_line n none) ++ text_of (done_line n none ∷ (codes "finished" ∷ []) ∷ [])

short-done : (n : ℕ) → short_of (generated n) (units_done n) (adder_steps n) outcome.Finished ≡ adders_text n
short-done n =
    ap₂ (λ k t. (ended (sum_line n (decimal 0)) ++ []) ++ text_of (tally_words k t (adder_steps n) ∷ outcome_words outcome.Finished ∷ [])) (ap suc (length-replicate n (done_with []))) (tally-done n)
    ∙ (ap (λ front. front ++ text_of (done_line n (decimal 0) ∷ (codes "finished" ∷ []) ∷ [])) (append-nil (ended (sum_line n (decimal 0)))) ∙ ap (lines_by n) (decimal_digit 0 (lit< tt)))

pub adders-report : (n : ℕ) (Z : Stored) → AddersReport n Z
adders-report n Z few J run ended =
    let worth : IsWorth n J = adder-runs n Z few J run ended in
    ap (λ units. short_of (generated n) units (steps_in J) outcome.Finished) (all-seen n J worth)
    ∙ (ap (λ k. short_of (generated n) (units_done n) k outcome.Finished) worth.steps ∙ short-done n)
