-- What the computations find that decide whether parts are those of a workload.
use Rattle.std.specs.Prelude.{ℕ, ◌≡◌, ◌==◌, ◌+◌, ◌<◌, ◌&&◌, Bool, true, false, not, nat_lt, option_and_then, if◌then◌else◌, List, [], ◌∷◌, length, slice_index_or, slice_set, Option, Some, None}

-- what is left of the room after this much is taken from it, if there is enough
abbrev pub IsLeft : ℕ → ℕ → Option ℕ → Type 0
IsLeft room taken None = room < taken
IsLeft room taken (Some left) = left + taken ≡ room

-- the number after these, if they count up from n
abbrev pub after_said : ℕ → List ℕ → Option ℕ
after_said n [] = Some n
after_said n (w ∷ ws) = if w == n then after_said (n + 1) ws else None

-- the table of the schedulers that have a place, with this one too, if it is in the table and has none yet
abbrev pub place : ℕ → List Bool → Option (List Bool)
place g taken = if nat_lt g (length taken) && not (slice_index_or taken g false) then Some (slice_set taken g true) else None

-- the same for several, one after the other
abbrev pub places : List ℕ → List Bool → Option (List Bool)
places [] taken = Some taken
places (g ∷ gs) taken = option_and_then (places gs) (place g taken)
