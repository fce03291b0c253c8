-- The calls that a seat made in one turn.
use Rattle.std.specs.Prelude.{List, [], ◌∷◌, ◌++◌, Option, Some, None}
use Rattle.std.specs.declared.snapshot.Snapshot.{Snapshot}
use Rattle.abt_booth.specs.declared.made.Call.{Call}

-- the calls before the last one, and the last one
abbrev pub listed : {A R : Type 0} → Option (Snapshot (List (Call A R)) × Call A R) → List (Call A R)
listed None = []
listed (Some x) = x.0.value ++ x.1 ∷ []
