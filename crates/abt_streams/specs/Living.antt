-- Which streams live.
use Rattle.std.specs.Prelude.{ℕ, ◌==◌, ◌&&◌, IsTrue, is_some, not, Bool, true, List, filter, Option, Some, None}
use Rattle.std.specs.List.{find, range_with_len}
use Rattle.abt_machine.specs.declared.workload.Parts.{Parts}
use Rattle.abt_machine.specs.State.{State}
use Rattle.abt_streams.specs.declared.life.Life.{Life}

-- the life of stream s, if it has one
abbrev pub life_of : List Life → ℕ → Option Life
life_of lives s = find (λ (life : Life). life.stream.0 == s) lives

-- with this life a stream lives if the first eventual is ready and the second is not; without one it lives
abbrev pub lives_by : (ℕ → Bool) → Option Life → Bool
lives_by is_ready None = true
lives_by is_ready (Some life) = is_ready life.begins.0 && not (is_ready life.ends.0)

abbrev pub is_live : List Life → State → ℕ → Bool
is_live lives S s = lives_by (λ x. is_some (S.eventual x)) (life_of lives s)

-- stream s lives in state S
abbrev pub IsLive : List Life → State → ℕ → Type 0
IsLive lives S s = IsTrue (is_live lives S s)

-- the streams of W that live in state S, in order of number
abbrev pub live_streams : Parts → List Life → State → List ℕ
live_streams W lives S = filter (is_live lives S) (range_with_len 0 W.streams)
