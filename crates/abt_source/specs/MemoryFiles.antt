-- Files in memory.
use Rattle.std.specs.Prelude.{ℕ, List, [], drop, slice_get, position, Contains, ◌⊎◌, Bool}
use Rattle.std.specs.Prelude.{Option, Some, None, IsNone, option_map}
use Rattle.std.specs.Option.{option_map_or}
use Rattle.std.specs.Str.{bytes_eq}
use Rattle.abt_source.specs.declared.fault.Reason.{Reason}
use Rattle.abt_source.specs.declared.fault.Reason.TheVariants.{Absent, NotAllowed, Folder, Other}
use Rattle.abt_source.specs.Source.{next_count}

-- A file: the bytes of its name, and its bytes.
pub record NamedFile : Type 0 where
  pub name : List ℕ
  pub bytes : List ℕ

-- Files in memory, as contracts see them.
pub record FilesInMemory : Type 0 where
  pub files : List NamedFile
  -- the numbers of the calls that fail
  pub failing : List ℕ
  -- how many calls there were
  pub calls : ℕ
  -- how many of them failed
  pub faults : ℕ
  -- the bytes that are left of the file that was begun last
  pub left : List ℕ
  -- the name that was given last, if it is kept
  pub name : Option (List ℕ)
  -- why a call on that file failed, if one did
  pub reason : Option Reason

-- whether the file has this name
abbrev pub is_named : List ℕ → NamedFile → Bool
is_named name file = bytes_eq file.name name

-- the bytes of the file at a position, and none past the end
abbrev pub bytes_at : List NamedFile → ℕ → List ℕ
bytes_at files row = option_map_or (λ file. file.bytes) (slice_get files row) []

-- the bytes of the first file with the name
abbrev pub file_of : List NamedFile → List ℕ → Option (List ℕ)
file_of files name = option_map (bytes_at files) (position (is_named name) files)

-- what is left of the file at a position, from a byte on
abbrev pub left_of : List NamedFile → Option ℕ → ℕ → List ℕ
left_of files None at = []
left_of files (Some row) at = drop at (bytes_at files row)

-- files in memory before the first call
abbrev pub not_begun : List NamedFile → List ℕ → FilesInMemory
not_begun files failing = record { files = files; failing = failing; calls = 0; faults = 0; left = []; name = None; reason = None }

-- The next call fails to begin the name: it is one of those that fail, or no file has the name.
abbrev pub FailsToBegin : FilesInMemory → List ℕ → Type 0
FailsToBegin m name = Contains m.failing m.calls ⊎ IsNone (file_of m.files name)

-- this name is kept, and no call on its file failed
abbrev pub given_name : FilesInMemory → Option (List ℕ) → FilesInMemory
given_name m name = record m { name = name; reason = None }

-- one more call, which did not fail and left these bytes
abbrev pub after_success : FilesInMemory → List ℕ → FilesInMemory
after_success m left = record m { calls = next_count m.calls; left = left }

-- one more call, which failed, so that this reason is kept, and left these bytes
abbrev pub after_failure : FilesInMemory → Option Reason → List ℕ → FilesInMemory
after_failure m reason left =
    record m { calls = next_count m.calls; faults = next_count m.faults; left = left; reason = reason }

-- what is kept is why the name is not begun: a file is absent only if none has the name
abbrev pub IsWhy : FilesInMemory → List ℕ → Option Reason → Type 0
IsWhy m name None = ⊥
IsWhy m name (Some Absent) = IsNone (file_of m.files name)
IsWhy m name (Some NotAllowed) = ⊥
IsWhy m name (Some Folder) = ⊥
IsWhy m name (Some Other) = Contains m.failing m.calls
