-- How a lock is made around each object, and its seats are dealt to passes as turns.
use Rattle.std.specs.Prelude.{ℕ, ◌≡◌, ◌+◌, ◌<◌, ◌≤◌, List, [], ◌∷◌, ◌++◌, length, slice_index_or, vec_capacity}
use Rattle.std.specs.List.{All}
use Rattle.abt_booth.specs.declared.booth.Booth.{Booth}
use Rattle.abt_commons.specs.declared.acts.Act.{Act}
use Rattle.abt_commons.specs.declared.acts.Answer.{Answer}
use Rattle.abt_commons.specs.declared.split.SplitPass.{SplitPass}
use Rattle.abt_commons.specs.Held.{OneValue}
use Rattle.abt_commons.specs.Splits.{AreTurns}
use Rattle.abt_commons.specs.Turns.{IsTurnOf, TurnValue}

-- the pass of this number has the turn of each booth, which has seen no call, and room for that number of more turns
pub record IsDealt (booths : List (Booth OneValue Act Answer)) (more number : ℕ) (pass : SplitPass) : Type 0 where
  pub stream : pass.stream ≡ number
  pub turns : AreTurns number booths pass.turns.items
  pub fresh : All (λ turn. turn.seen ≡ []) pass.turns.items
  pub room : length pass.turns.items + more ≤ vec_capacity pass.turns

-- n passes have such turns and such room, and stand in order of their numbers
pub record AreDealt (booths : List (Booth OneValue Act Answer)) (more n : ℕ) (passes : List SplitPass) : Type 0 where
  pub many : length passes ≡ n
  pub each : (k : ℕ) (pass : SplitPass) → k < n → IsDealt booths more k (slice_index_or passes k pass)

-- the pass of this number got a turn of the booth
pub record Gets (booth : Booth OneValue Act Answer) (k : ℕ) (old new : SplitPass) : Type 0 where
  pub stream : new.stream ≡ old.stream
  pub turn : TurnValue
  pub more : new.turns.items ≡ old.turns.items ++ turn ∷ []
  pub its : IsTurnOf booth turn
  pub number : turn.number ≡ k
  pub fresh : turn.seen ≡ []
  pub room : vec_capacity new.turns ≡ vec_capacity old.turns

-- the passes from this number on each got a turn of the booth, and the others none
pub record HaveGot (booth : Booth OneValue Act Answer) (from : ℕ) (old new : List SplitPass) : Type 0 where
  pub many : length new ≡ length old
  pub got : (k : ℕ) (p q : SplitPass) → from ≤ k → k < length old → Gets booth k (slice_index_or old k p) (slice_index_or new k q)
  pub others : (k : ℕ) (p : SplitPass) → k < from → slice_index_or new k p ≡ slice_index_or old k p
