-- What is left to do after a wave.
use Rattle.std.specs.Prelude.{ℕ, ◌≡◌, ◌<◌, ◌⊎◌, true, List, [], ◌∷◌, ◌++◌}
use Rattle.abt_machine.specs.declared.events.Event.{Event}
use Rattle.abt_machine.specs.declared.workload.Parts.{Parts}
use Rattle.abt_laws.specs.Laws.{IsMiss}
use Rattle.abt_drain.specs.Moments.{Moment}
use Rattle.abt_drain.specs.Rotations.{HasSeenNone, IsQuietIn, IsSpentIn, work_at}

-- between the moments stream s made events, by the last of which a round ended empty
pub record HasEndedRound (old new : Moment) (s : ℕ) : Type 0 where
  pub before : List Event
  pub last : Event
  pub log : new.logs s ≡ old.logs s ++ (before ++ last ∷ [])
  pub miss : IsMiss last.what
  pub empty : (new.parts s).own.top.empty ≡ true

-- stream s left a wave between the moments: it has ended a round empty in it, or is spent
pub record HasLeft (W : Parts) (n : ℕ) (old new : Moment) (s : ℕ) : Type 0 where
  pub fresh : HasSeenNone new s
  pub why : HasEndedRound old new s ⊎ IsSpentIn W n new s

-- no stream's round has seen a pool
abbrev pub BeginsRounds : Parts → Moment → Type 0
BeginsRounds W m = (s : ℕ) → s < W.streams → HasSeenNone m s

-- nothing is left to do, or a stream is spent, or less is left to do than before
abbrev pub Lowers : Parts → ℕ → Moment → Moment → Type 0
Lowers W n old new = (IsQuietIn W new → ⊥) → ((s : ℕ) → IsSpentIn W n new s → ⊥) → work_at W n new < work_at W n old
