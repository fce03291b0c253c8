-- What a source returns, what a sink takes, and when a fault may be reported.
use Rattle.std.specs.Prelude.{◌≡◌, ◌<◌, ◌-◌, ◌+◌, ◌^◌, if◌then◌else◌, nat_lt, ℕ, List, [], ◌++◌, length, take, drop}
use Rattle.std.specs.Prelude.{Option, Some, None, IfSome, option_map, Result, Ok, Err}
use Rattle.abt_source.specs.declared.Failed.{Failed}

-- the number after this one, in a count that stops at its last value
abbrev pub next_count : ℕ → ℕ
next_count n = if nat_lt n (2 ^ 64 - 1) then n + 1 else n

-- A count rose: if it was below its last value, it is greater now.
abbrev pub Rose : ℕ → ℕ → Type 0
Rose before now = before < 2 ^ 64 - 1 → before < now

-- Nothing is left, if it is observable.
abbrev pub NothingLeft : Option (List ℕ) → Type 0
NothingLeft left = IfSome left (λ xs. xs ≡ [])

-- The first n bytes of `into` are the next ones, the others are left, and n is 0 only at the end.
abbrev pub GivesNext : Option (List ℕ) → Option (List ℕ) → ℕ → List ℕ → Type 0
GivesNext None left n into = left ≡ None
GivesNext (Some xs) left n into =
    (xs ≡ take n into ++ drop n xs) × (left ≡ Some (drop n xs)) × (n ≡ 0 → xs ≡ [])

-- A read returned the next bytes; one that failed left the bytes left as they were.
abbrev pub ReadGives : Option (List ℕ) → Option (List ℕ) → Result ℕ Failed → List ℕ → Type 0
ReadGives before left (Ok n) into = GivesNext before left n into
ReadGives before left (Err _) into = left ≡ before

-- What is left is an end of the file, if both are observable.
abbrev pub LeavesAnEnd : Option (List ℕ) → Option (List ℕ) → Type 0
LeavesAnEnd file left =
    IfSome file (λ xs. IfSome left (λ rest. (read : List ℕ) × (xs ≡ read ++ rest)))

-- The sink took these bytes, and nothing else.
abbrev pub Took : Option (List ℕ) → Option (List ℕ) → List ℕ → Type 0
Took before now bytes = now ≡ option_map (λ xs. xs ++ bytes) before

-- The sink took a prefix of these bytes, which lacks at least one.
abbrev pub TookPrefix : Option (List ℕ) → Option (List ℕ) → List ℕ → Type 0
TookPrefix before now bytes = (n : ℕ) × (n < length bytes) × Took before now (take n bytes)

-- A write took the first bytes of a piece; one that failed took none.
abbrev pub WriteTakes : Option (List ℕ) → Option (List ℕ) → Result ℕ Failed → List ℕ → Type 0
WriteTakes before now (Ok n) piece = Took before now (take n piece)
WriteTakes before now (Err _) piece = now ≡ before
