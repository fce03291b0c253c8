-- A booth's calls, as calls in a line.
use Rattle.std.specs.Prelude.{List, map}
use Rattle.abt_interleave.specs.declared.entries.Entry.{Entry}
use Rattle.abt_interleave.specs.Machines.{Machine}
use Rattle.abt_interleave.specs.Lines.{CallOf}

-- what a booth's acts ask of the object at which place, and what its answers are to the machine
module _ (M : Machine) {A R : Type 0} (asks : A → M.Place × M.Act) (tells : R → M.Answer) where
  -- the stamp stays, and so does the caller: a seat has its stream's number
  abbrev pub call_seen : Entry A R → CallOf M
  call_seen e = record { stamp = e.stamp; caller = e.caller; act = asks e.act; answer = tells e.answer }

  abbrev pub line_seen : List (Entry A R) → List (CallOf M)
  line_seen history = map call_seen history
