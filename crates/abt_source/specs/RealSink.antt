-- The standard output and the standard error of the process.
use Rattle.std.specs.Prelude.{ℕ, List, [], ◌++◌, Option, Some, None, option_map}
use Rattle.std.specs.declared.snapshot.Snapshot.{Snapshot}
use Rattle.abt_source.specs.Source.{next_count}
use Rattle.abt_source.specs.declared.real_sink.Stream.{Stream}
use Rattle.abt_source.specs.declared.real_sink.Stream.TheVariants.{Out, Err}

-- An output of the process, as contracts see it.
pub record SinkOfProcess : Type 0 where
  -- the bytes that the host answered that it took, if they are observable
  pub put : Option (List ℕ)
  -- how many writes failed
  pub faults : ℕ

-- the bytes that a snapshot remembers
abbrev pub remembered : Option (Snapshot (List ℕ)) → List ℕ
remembered None = []
remembered (Some put) = put.value

-- the bytes that were put, which are observable of the standard output alone
abbrev pub put_of : Stream → List ℕ → Option (List ℕ)
put_of Out bytes = Some bytes
put_of Err bytes = None

-- one more write, of which the host took these bytes
abbrev pub after_putting : SinkOfProcess → List ℕ → SinkOfProcess
after_putting sink bytes = record sink { put = option_map (λ xs. xs ++ bytes) sink.put }

-- one more write, which failed
abbrev pub after_fault : SinkOfProcess → SinkOfProcess
after_fault sink = record sink { faults = next_count sink.faults }
