-- The short report of n adders that have finished.
use Rattle.std.specs.Prelude.{◌≡◌, ℕ, suc, ◌≤◌, List, [], ◌∷◌, codes, decimal, replicate}
use Rattle.abt_machine.specs.declared.events.Cause.TheVariants as cause
use Rattle.abt_machine.specs.declared.events.Event.{Event}
use Rattle.abt_machine.specs.declared.events.Outcome.TheVariants as outcome
use Rattle.abt_machine.specs.declared.events.Piece.{Piece}
use Rattle.abt_machine.specs.declared.events.Piece.TheVariants as piece
use Rattle.abt_machine.specs.declared.events.Shown.TheVariants as shows
use Rattle.abt_machine.specs.Limits.{adder_limit}
use Rattle.abt_machine.specs.Outcomes.{AllEnded, steps_in}
use Rattle.abt_machine.specs.Runs.{Run, last_state}
use Rattle.abt_machine.specs.Stored.{Stored}
use Rattle.abt_machine.specs.Texts.{ShownUnit, short_text}
use Rattle.abt_machine.specs.Words.{Text, text_of}
use Rattle.abt_generate.specs.Generated.{generated}
use Rattle.abt_adders.specs.Laws.{adder_steps, sum_to}

-- a unit that is done, with what it put out
abbrev pub done_with : List Piece → ShownUnit
done_with output = record { shown = shows.Ended cause.Done; output = output }

-- all units: unit 0 put out the sum, and the adders nothing
abbrev pub units_done : ℕ → List ShownUnit
units_done n = done_with (piece.Number (sum_to n) ∷ []) ∷ replicate n (done_with [])

-- the words of each line
abbrev pub sum_words : ℕ → List Text
sum_words n = codes "unit" ∷ codes "0" ∷ codes "done:" ∷ decimal (sum_to n) ∷ []

abbrev pub done_words : ℕ → List Text
done_words n =
    codes "tally" ∷ codes "units" ∷ decimal (suc n) ∷ codes "unborn" ∷ codes "0" ∷ codes "pool" ∷ codes "0" ∷ codes "stream" ∷ codes "0" ∷ codes "blocked" ∷ codes "0" ∷
    codes "done" ∷ decimal (suc n) ∷ codes "asked" ∷ codes "0" ∷ codes "access" ∷ codes "0" ∷ codes "steps" ∷ decimal (adder_steps n) ∷ []

-- its three lines
abbrev pub adders_text : ℕ → Text
adders_text n = text_of (sum_words n ∷ done_words n ∷ (codes "finished" ∷ []) ∷ [])

-- so each run in which every unit has ended is reported
abbrev pub AddersReport : ℕ → Stored → Type 0
AddersReport n Z = n ≤ adder_limit → (J : List Event) → Run (generated n) Z J → AllEnded (last_state (generated n) J)
    → short_text (generated n) (last_state (generated n) J) (steps_in J) outcome.Finished ≡ adders_text n
