-- Where the events of a run lead.
use Rattle.std.specs.Prelude.{ℕ, suc, ◌≡◌, ◌<◌, true, false, if◌then◌else◌, List, length, Option, None, Some, get_or, slice_set}
use Rattle.abt_machine.specs.declared.events.Event.{Event}
use Rattle.abt_machine.specs.declared.events.What.{What}
use Rattle.abt_machine.specs.declared.numbers.StreamNo.{StreamNo}
use Rattle.abt_machine.specs.Stored.{Stored}
use Rattle.abt_machine.specs.declared.workload.Parts.{Parts}
use Rattle.abt_machine.specs.Outcomes.{Spent, is_step, steps_of}
use Rattle.abt_machine.specs.Runs.{Run, last_state}
use Rattle.abt_model.specs.Lists.{AreNumbered}
use Rattle.abt_model.specs.Models.{IsAfter, StandsFor}
use Rattle.abt_laws.specs.Laws.{IsMiss}
use Rattle.abt_schedule.specs.declared.reached.Reached.{Reached}
use Rattle.abt_schedule.specs.declared.reached.Turn.{Turn}
use Rattle.abt_schedule.specs.declared.reached.Turn.TheVariants as turn

-- the events are a run that leads there, and each stream made as many steps as it is said
pub record IsReached (W : Parts) (Z : Stored) (J : List Event) (reached : Reached) : Type 0 where
  pub run : Run W Z J
  pub state : IsAfter W Z (length J) (last_state W J)
  pub stands : StandsFor W (last_state W J) reached.model
  pub made : AreNumbered W.streams (λ s. steps_of s J) reached.made.items

-- how many steps each stream made, once stream s made this event
abbrev pub made_after : List ℕ → ℕ → What → List ℕ
made_after made s w = if is_step w then slice_set made s (suc (get_or made s 0)) else made

-- what the last of the events J, which stream s made, makes of its turn
abbrev pub IsTurnBy : Parts → List Event → ℕ → What → Turn → Type 0
IsTurnBy W J s w turn.Stepped = is_step w ≡ true
IsTurnBy W J s w turn.Emptied = (is_step w ≡ false) × IsMiss w × (((last_state W J).stream s).top.empty ≡ true)
IsTurnBy W J s w turn.GoesOn = (is_step w ≡ false) × (IsMiss w → ((last_state W J).stream s).top.empty ≡ false)

-- the least stream that is spent, if each may make n steps
abbrev pub IsFirstSpent : Parts → ℕ → List Event → Option StreamNo → Type 0
IsFirstSpent W n J None = (s : ℕ) → Spent W n J s → ⊥
IsFirstSpent W n J (Some s) = Spent W n J s.0 × ((r : ℕ) → r < s.0 → Spent W n J r → ⊥)
