-- What a call leaves in its sinks.
use Rattle.std.specs.Prelude.{◌⊎◌, ℕ, [], Option}
use Rattle.abt_machine.specs.Words.{Text}
use Rattle.abt_source.specs.Source.{Rose, Took, TookPrefix}

-- Pairs have what was counted or taken before and afterwards.

-- the count of faults rose
abbrev pub Grew : ℕ × ℕ → Type 0
Grew faults = Rose faults.0 faults.1

-- the sink took these bytes, and nothing else
abbrev pub Gained : Option Text × Option Text → Text → Type 0
Gained sink bytes = Took sink.0 sink.1 bytes

-- the sink took a prefix of these bytes, which lacks at least one
abbrev pub GainedPrefix : Option Text × Option Text → Text → Type 0
GainedPrefix sink bytes = TookPrefix sink.0 sink.1 bytes

-- the message was written, or a prefix of it, and then the count of faults rose
abbrev pub IsTold : Option Text × Option Text → ℕ × ℕ → Text → Type 0
IsTold sink faults text = Gained sink text ⊎ (GainedPrefix sink text × Grew faults)

-- all of the output was written, and no message
pub record WroteAll (out err : Option Text × Option Text) (text : Text) : Type 0 where
  pub whole : Gained out text
  pub silent : Gained err []

-- a prefix of the output was written, the count of its faults rose, and the message was written
pub record WrotePart (out : Option Text × Option Text) (out_faults : ℕ × ℕ) (err : Option Text × Option Text) (err_faults : ℕ × ℕ) (text message : Text) : Type 0 where
  pub prefix : GainedPrefix out text
  pub faults : Grew out_faults
  pub told : IsTold err err_faults message
