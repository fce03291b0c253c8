-- What callers see of a booth and its seats.
use Rattle.std.specs.Prelude.{◌≡◌, ℕ, ◌<◌, List, [], ◌∷◌, length, map, slice_index_or}
use Rattle.std.specs.List.{All, Any}
use Rattle.abt_interleave.specs.declared.entries.Entry.{Entry}
use Rattle.abt_booth.specs.declared.object.Object.{Ghosts}
use Rattle.abt_booth.specs.declared.booth.Booth.{Booth}
use Rattle.abt_booth.specs.declared.booth.Seat.{Seat}
use Rattle.abt_booth.specs.declared.booth.Gathered.{Gathered}
use Rattle.abt_booth.specs.declared.booth.Called.{Called}
use Rattle.abt_booth.specs.declared.booth.Called.TheVariants as called
use Rattle.abt_booth.specs.Rule.{IsOf, all_known}
use Rattle.abt_booth.specs.Calls.{IsAnswered, IsWorn}

-- the number is that of a seat in the list
abbrev pub HasNumber : {A R : Type 0} → ℕ → List (ℕ × List (Entry A R)) → Type 0
HasNumber number known = Any (λ k. k.0 ≡ number) known

-- each number below n is that of a seat in the list
abbrev pub HasEachNumber : {A R : Type 0} → ℕ → List (ℕ × List (Entry A R)) → Type 0
HasEachNumber n known = (number : ℕ) → number < n → HasNumber number known

module _ {O A R : Type 0} where
  -- the object that the booth was made round
  unfoldable pub opening_of : Booth O A R → O
  opening_of booth = booth.table.shared.key.object.value

  -- how many seats the booth was made with
  unfoldable pub seats_of : Booth O A R → ℕ
  seats_of booth = booth.table.shared.key.seats

  -- the calls that a call adds to those of its seat: itself if it was answered, and none if the clock is worn
  abbrev pub added_by : ℕ → A → Called O A R → List (Entry A R)
  added_by number act (called.Done stamp answer) = record { stamp = stamp; caller = number; act = act; answer = answer } ∷ []
  added_by number act (called.Worn back) = []

  -- what a call answered to the seat of this number, by what the seat had seen before and has seen afterwards
  abbrev pub IsReply : (O → A → R → O → Type 0) → O → ℕ → List (Entry A R) → List (Entry A R) → ℕ → A → Called O A R → Type 0
  IsReply does opening number before after at act (called.Done stamp answer) = IsAnswered does opening number before after at act stamp answer
  IsReply does opening number before after at act (called.Worn back) = IsWorn does opening number before after at act back

module _ {O A R : Type 0} {g : Ghosts O A R} where
  -- the seat's number, by which its calls are known
  unfoldable pub number_of : Seat O A R g → ℕ
  number_of seat = seat.raw.me.0.number

  -- the calls that the seat has seen, in order of stamp
  unfoldable pub seen_of : Seat O A R g → List (Entry A R)
  seen_of seat = seat.raw.me.0.seen

  -- the seat's number and the calls that it has seen
  abbrev pub known_of : Seat O A R g → ℕ × List (Entry A R)
  known_of seat = (number_of seat, seen_of seat)

  -- the seat was made with this booth
  unfoldable pub IsSeatOf : Booth O A R → Seat O A R g → Type 0
  IsSeatOf booth seat = IsOf booth.table.shared.table_id (opening_of booth) seat.raw

  -- the seats are numbered from 0 in the order of the list
  abbrev pub AreInOrder : List (Seat O A R g) → Type 0
  AreInOrder seats = (i : ℕ) (d : Seat O A R g) → i < length seats → number_of (slice_index_or seats i d) ≡ i

  -- the booth's seats as they are made: in order, and none has seen a call
  pub record AreNewSeatsOf (booth : Booth O A R) (seats : List (Seat O A R g)) : Type 0 where
    pub many : length seats ≡ seats_of booth
    pub each : All (IsSeatOf booth) seats
    pub in_order : AreInOrder seats
    pub fresh : All (λ s. seen_of s ≡ []) seats

  -- these are seats of the booth, and no seat of it is missing
  abbrev pub AreAllSeatsOf : Booth O A R → List (Seat O A R g) → Type 0
  AreAllSeatsOf booth seats = All (IsSeatOf booth) seats × HasEachNumber (seats_of booth) (map known_of seats)

  -- the seats gathered so far, each by its number and the calls that it had seen
  unfoldable pub gathered_of : Gathered O A R g → List (ℕ × List (Entry A R))
  gathered_of gathered = all_known gathered.raw.me.0

  -- they were seats of this booth
  unfoldable pub AreGatheredOf : Booth O A R → Gathered O A R g → Type 0
  AreGatheredOf booth gathered = IsOf booth.table.shared.table_id (opening_of booth) gathered.raw

  -- what a call answered, and what its seat has then seen
  abbrev pub Replies : (O → A → R → O → Type 0) → Booth O A R → Seat O A R g → Seat O A R g → ℕ → A → Called O A R → Type 0
  Replies does booth old new at act reply = IsReply does (opening_of booth) (number_of old) (seen_of old) (seen_of new) at act reply
