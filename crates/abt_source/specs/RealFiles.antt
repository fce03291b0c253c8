-- The files of the process.
use Rattle.std.specs.Prelude.{ℕ, List, [], ◌∷◌, Bool, true, false, Option, Some, None}
use Rattle.std.specs.declared.snapshot.Snapshot.{Snapshot}
use Rattle.abt_source.specs.Seen.{Reading, read_on, reading}
use Rattle.abt_source.specs.Source.{next_count}

-- The files of the process, as contracts see them.
pub record FilesOfProcess : Type 0 where
  -- whether a file is begun
  pub begun : Bool
  -- the name that was given last, if it is kept
  pub name : Option (List ℕ)
  -- how many calls failed
  pub faults : ℕ
  -- what each reading gave, the newest first
  pub readings : List Reading

-- what is left: nothing before a file is begun, and then what is not observable
abbrev pub unread : Bool → Option (List ℕ)
unread true = None
unread false = Some []

-- no file is begun, this name is kept, this many calls failed, and the readings gave this
abbrev pub none_begun : Option (List ℕ) → ℕ → List Reading → FilesOfProcess
none_begun name faults readings = record { begun = false; name = name; faults = faults; readings = readings }

-- a file is begun, this name is kept, this many calls failed, and the readings gave this
abbrev pub one_begun : Option (List ℕ) → ℕ → List Reading → FilesOfProcess
one_begun name faults readings = record { begun = true; name = name; faults = faults; readings = readings }

-- the newest reading, if a file is begun, gave these bytes too, or met the end if they are none
abbrev pub after_reading : FilesOfProcess → List ℕ → FilesOfProcess
after_reading files bytes = record files { readings = read_on files.begun bytes files.readings }

-- one more failure
abbrev pub after_fault : FilesOfProcess → FilesOfProcess
after_fault files = record files { faults = next_count files.faults }

-- Calls that are remembered.

-- what readings gave, and how many calls that took
pub record Recall : Type 0 where
  pub readings : List Reading
  pub calls : ℕ

-- what a snapshot of the last call remembers
abbrev pub recalled : Option (Snapshot Recall) → Recall
recalled None = record { readings = []; calls = 0 }
recalled (Some last) = last.value

-- the readings after a call that began the file of this name, or that gave these bytes
abbrev pub after_call : Bool → List ℕ → List Reading → List Reading
after_call true name readings = reading name [] false ∷ readings
after_call false bytes readings = read_on true bytes readings
