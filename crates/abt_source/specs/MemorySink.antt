-- A sink in memory.
use Rattle.std.specs.Prelude.{ℕ, List, [], ◌++◌, ◌≤◌, ◌-◌, ◌⊎◌, length, min, Contains}
use Rattle.abt_source.specs.Source.{next_count}

-- A sink in memory, as contracts see it.
pub record SinkInMemory : Type 0 where
  -- what was taken
  pub bytes : List ℕ
  -- how many bytes it takes in all
  pub room : ℕ
  -- how many bytes one write takes at most
  pub most : ℕ
  -- the numbers of the writes that fail
  pub failing : List ℕ
  -- how many writes there were
  pub calls : ℕ
  -- how many of them failed
  pub faults : ℕ

-- a sink in memory before the first write
abbrev pub not_written : ℕ → ℕ → List ℕ → SinkInMemory
not_written room most failing =
    record { bytes = []; room = room; most = most; failing = failing; calls = 0; faults = 0 }

-- The next write fails: it is one of those that fail, or the room is full.
abbrev pub FailsToWrite : SinkInMemory → Type 0
FailsToWrite s = Contains s.failing s.calls ⊎ (s.room ≤ length s.bytes)

-- how many bytes of a piece the next write takes
abbrev pub count_taken : SinkInMemory → List ℕ → ℕ
count_taken s piece = min (min (length piece) s.most) (s.room - length s.bytes)

-- one more write, which took these bytes
abbrev pub after_taking : SinkInMemory → List ℕ → SinkInMemory
after_taking s bytes = record s { bytes = s.bytes ++ bytes; calls = next_count s.calls }

-- one more write, which failed
abbrev pub after_failing : SinkInMemory → SinkInMemory
after_failing s = record s { calls = next_count s.calls; faults = next_count s.faults }
