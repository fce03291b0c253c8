-- The one list of what many streams made, by stamp and then by stream. Its items may be anything that has a stamp and a stream.
use Rattle.std.specs.Prelude.{ℕ, zero, suc, ◌≡◌, ◌+◌, ◌==◌, List, [], ◌∷◌, ◌++◌, map, Contains}
use Rattle.std.specs.List.{All, filter}
use Rattle.abt_interleave.specs.Histories.{RisesAbove}
use Rattle.abt_interleave.specs.Logs.{IsSooner, InOrder}

-- what a list has of stream s
abbrev pub of_stream : {E : Type 0} → (E → ℕ) → ℕ → List E → List E
of_stream stream s J = filter (λ e. stream e == s) J

-- numbers that rise strictly
abbrev pub Rises : List ℕ → Type 0
Rises [] = Unit {0}
Rises (t ∷ ts) = RisesAbove t ts

-- a log of stream s: items of its own, with stamps that rise strictly
abbrev pub IsLogOf : {E : Type 0} → (E → ℕ) → (E → ℕ) → ℕ → List E → Type 0
IsLogOf stamp stream s log = Rises (map stamp log) × All (λ e. stream e ≡ s) log

-- each comes before all that follow it, by stamp and then by stream
abbrev pub IsByStamp : {E : Type 0} → (E → ℕ) → (E → ℕ) → List E → Type 0
IsByStamp stamp stream J = InOrder (λ e f. IsSooner (stamp e) (stream e) (stamp f) (stream f)) J

-- J is by stamp and then by stream, and of each stream it has just its log, in order
pub record IsMergeOf {E : Type 0} (stamp stream : E → ℕ) (logs : ℕ → List E) (J : List E) : Type 0 where
  pub in_order : IsByStamp stamp stream J
  pub each : (s : ℕ) → of_stream stream s J ≡ logs s

-- f 0 and so on, to the last number below n, as one sum
abbrev pub sum_below : ℕ → (ℕ → ℕ) → ℕ
sum_below zero f = 0
sum_below (suc n) f = sum_below n f + f n

-- on the way there: the list so far is in order, each log is what the list has of its stream and what is left of the log, and
-- all that is left comes behind the list
pub record IsMerging {E : Type 0} (stamp stream : E → ℕ) (logs left : ℕ → List E) (J : List E) : Type 0 where
  pub in_order : IsByStamp stamp stream J
  pub each : (s : ℕ) → of_stream stream s J ++ left s ≡ logs s
  pub behind : (s : ℕ) (e f : E) → Contains (left s) e → Contains J f → IsSooner (stamp f) (stream f) (stamp e) (stream e)
