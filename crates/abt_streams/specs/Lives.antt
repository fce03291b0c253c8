-- When streams live.
use Rattle.std.specs.Prelude.{◌≢◌, ◌<◌, List, [], ◌∷◌, ◌++◌, All, ⊤}
use Rattle.abt_machine.specs.declared.workload.Parts.{Parts}
use Rattle.abt_machine.specs.Operations.{IsEventual}
use Rattle.abt_streams.specs.declared.life.Life.{Life}

-- the life of a stream of W that has none before it, between two different eventuals of W
pub record MayFollow (W : Parts) (before : List Life) (life : Life) : Type 0 where
  pub declared : life.stream.0 < W.streams
  pub once : All (λ other. other.stream.0 ≢ life.stream.0) before
  pub begins : IsEventual W life.begins.0
  pub ends : IsEventual W life.ends.0
  pub differ : life.begins.0 ≢ life.ends.0

-- each of these lives may follow those before it
abbrev pub AreLivesAfter : Parts → List Life → List Life → Type 0
AreLivesAfter W before [] = ⊤
AreLivesAfter W before (life ∷ lives) = MayFollow W before life × AreLivesAfter W (before ++ life ∷ []) lives

-- these are lives of streams of W
abbrev pub AreLives : Parts → List Life → Type 0
AreLives W lives = AreLivesAfter W [] lives
