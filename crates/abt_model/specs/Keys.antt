-- The bytes as which a model is written, and a model once the numbers of rounds are forgotten.
use Rattle.std.specs.Prelude.{ℕ, ◌≡◌, ◌++◌, List, map}
use Rattle.abt_replay.specs.Keys.{lane_key, list_key, objects_key}
use Rattle.abt_replay.specs.Unnumbered.{unnumbered_held}
use Rattle.abt_model.specs.Models.{ModelValue}

-- what each stream holds, in order of number, and then all objects
abbrev pub model_key : ModelValue → List ℕ
model_key m = list_key lane_key m.lanes ++ objects_key m.objects

-- two models with the same bytes are the same
abbrev pub KeysTellModels : Type 0
KeysTellModels = (a b : ModelValue) → model_key a ≡ model_key b → a ≡ b

-- each frame of each stream is at round 0
abbrev pub unnumbered_model : ModelValue → ModelValue
unnumbered_model m = record m { lanes = map unnumbered_held m.lanes }
