-- Why a name is not begun, whatever name is kept.
use Rattle.std.proofs.Common.{ℕ, List, Option, Some, None, Result, Ok, Err, OnErr}
use Rattle.abt_source.specs.MemoryFiles.{FilesInMemory, IsWhy, given_name}
use Rattle.abt_source.specs.declared.fault.Reason.{Reason}
use Rattle.abt_source.specs.declared.fault.Reason.TheVariants.{Absent, NotAllowed, Folder, Other}
use Rattle.abt_source.specs.declared.reading.NotFetched.{NotFetched}

-- the name that is kept changes nothing of it
why-named : (m : FilesInMemory) (kept : Option (List ℕ)) (name : List ℕ) (reason : Option Reason) → IsWhy (given_name m kept) name reason → IsWhy m name reason
why-named m kept name None h = h
why-named m kept name (Some Absent) h = h
why-named m kept name (Some NotAllowed) h = h
why-named m kept name (Some Folder) h = h
why-named m kept name (Some Other) h = h

pub why-given : (r : Result (Unit {0}) NotFetched) (m : FilesInMemory) (kept : Option (List ℕ)) (name : List ℕ) (reason : Option Reason)
    → OnErr r (IsWhy (given_name m kept) name reason) → OnErr r (IsWhy m name reason)
why-given (Ok _) m kept name reason h = tt
why-given (Err e) m kept name reason h = why-named m kept name reason h
