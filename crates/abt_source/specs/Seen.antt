-- What is observable of the bytes of files.
use Rattle.std.specs.Prelude.{◌≡◌, ℕ, List, [], ◌∷◌, ◌++◌, All, Bool, true, false, Option, Some, None, IfSome}

-- What was read of a file since it was begun, and whether its end was met.
pub record Reading : Type 0 where
  pub name : List ℕ
  pub bytes : List ℕ
  pub whole : Bool

-- what was read of the file of a name
abbrev pub reading : List ℕ → List ℕ → Bool → Reading
reading name bytes whole = record { name = name; bytes = bytes; whole = whole }

-- Either the bytes of each name, if it has any, or whether a file is begun, and what each reading gave so far, the newest first.
pub data Seen : Type 0 where
  Holds : (List ℕ → Option (List ℕ)) → Seen
  Gave : Bool → List Reading → Seen

-- the bytes of a name, if they are observable without a reading
abbrev pub held : Seen → List ℕ → Option (List ℕ)
held (Holds known) name = known name
held (Gave begun readings) name = None

-- one more reading, which goes on
abbrev pub gave : Reading → Seen → Seen
gave r (Holds known) = Holds known
gave r (Gave begun readings) = Gave true (r ∷ readings)

-- no reading goes on
abbrev pub closed : Seen → Seen
closed (Holds known) = Holds known
closed (Gave begun readings) = Gave false readings

-- the newest reading, if it goes on, gave these bytes too, or met the end if they are none
abbrev pub read_on : Bool → List ℕ → List Reading → List Reading
read_on false bytes readings = readings
read_on true bytes [] = []
read_on true [] (r ∷ readings) = record r { whole = true } ∷ readings
read_on true (b ∷ bytes) (r ∷ readings) = record r { bytes = r.bytes ++ b ∷ bytes } ∷ readings

-- the same of what was seen
abbrev pub gave_on : List ℕ → Seen → Seen
gave_on bytes (Holds known) = Holds known
gave_on bytes (Gave begun readings) = Gave begun (read_on begun bytes readings)

-- A file of these bytes gives what was read: all of them, if the end was met, and otherwise their beginning.
abbrev pub Gives : List ℕ → List ℕ → Bool → Type 0
Gives bytes read true = bytes ≡ read
Gives bytes read false = (rest : List ℕ) × (bytes ≡ read ++ rest)

-- The reading is one of these files, if they have its name.
abbrev pub IsOf : (List ℕ → Option (List ℕ)) → Reading → Type 0
IsOf file r = IfSome (file r.name) (λ bytes. Gives bytes r.bytes r.whole)

-- These files have names whose bytes are known, and those bytes.
abbrev pub ArePartOf : (List ℕ → Option (List ℕ)) → (List ℕ → Option (List ℕ)) → Type 0
ArePartOf file known = (name : List ℕ) → IfSome (file name) (λ bytes. known name ≡ Some bytes)

-- the readings that were seen
abbrev pub readings_in : Seen → List Reading
readings_in (Holds known) = []
readings_in (Gave begun readings) = readings

-- These files, some names with bytes, agree with what a call saw: each has the bytes that were observable before the call, or those that
-- each reading of it gave which the call began.
abbrev pub Agree : Seen → Seen → (List ℕ → Option (List ℕ)) → Type 0
Agree (Holds known) now file = ArePartOf file known
Agree (Gave begun before) now file = (later : List Reading) → readings_in now ≡ later ++ before → All (IsOf file) later

-- What was seen stays, and readings may come.
abbrev pub Grows : Seen → Seen → Type 0
Grows (Holds known) now = now ≡ Holds known
Grows (Gave begun before) now = (goes : Bool) × (later : List Reading) × (now ≡ Gave goes (later ++ before))
