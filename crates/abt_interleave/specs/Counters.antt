-- A small machine, to see the laws at work: two streams add to two counters, and each notes the count that it last found.
use Rattle.std.specs.Prelude.{ℕ, zero, suc, ◌≡◌, ◌+◌, ◌==◌, if◌then◌else◌, Bool, true, false, List, [], ◌∷◌, Option, Some}
use Rattle.abt_interleave.specs.Deeds.{Heard}
use Rattle.abt_interleave.specs.Logs.{IsSorted}
use Rattle.abt_interleave.specs.Machines.{Machine, DeedOf, EntryOf, TellsPlaces, IsSimulated, Gathered, IsRunTo}
use Rattle.abt_interleave.specs.Stamps.{AllTimed, AreLamports}

-- what each stream noted, and the counters
pub record Counts : Type 0 where
  pub noted : ℕ → ℕ
  pub count : Bool → ℕ

-- there are two counters
abbrev pub same_counter : Bool → Bool → Bool
same_counter true true = true
same_counter false false = true
same_counter true false = false
same_counter false true = false

-- stream s adds a number to a counter, and notes what it found there
abbrev pub added : Counts → ℕ → Bool × ℕ → Counts
added S s w = record {
  noted = λ r. if r == s then S.count w.0 else S.noted r;
  count = λ x. if same_counter w.0 x then S.count w.0 + w.1 else S.count x;
}

-- the stream hears what it notes
abbrev pub Adds : ℕ → ℕ → Bool × ℕ → Option (Heard Bool ℕ ℕ) → ℕ → Type 0
Adds s old w heard new = heard ≡ Some (w.0, w.1, new)

-- a counter answers what it was, and goes up
abbrev pub CountsUp : ℕ → ℕ → ℕ → ℕ → Type 0
CountsUp old n found new = (found ≡ old) × (new ≡ old + n)

-- the machine: every event may come, and every state is sound
abbrev pub counters : Machine
counters = record {
  State = Counts;
  Part = ℕ;
  Object = ℕ;
  Place = Bool;
  Act = ℕ;
  Answer = ℕ;
  What = Bool × ℕ;
  streams = 2;
  same = same_counter;
  part_of = λ S. S.noted;
  object_of = λ S. S.count;
  Steps = Adds;
  Gives = CountsUp;
  May = λ S s w. Unit {0};
  after = added;
  Sound = λ S. Unit {0};
}

-- at the start all is 0
abbrev pub zeros : Counts
zeros = record { noted = λ s. 0; count = λ x. 0 }

-- a stream added n to counter x, which was at what it found
abbrev pub adds : ℕ → ℕ → Bool → ℕ → ℕ → DeedOf counters
adds stamp stream x n found = record { stamp = stamp; stream = stream; what = (x, n); heard = Some (x, n, found) }

-- so a counter saw it
abbrev pub entry : ℕ → ℕ → ℕ → ℕ → EntryOf counters
entry stamp stream n found = record { stamp = stamp; caller = stream; act = n; answer = found }

-- both streams add to one counter and then to the other

-- what the streams did
abbrev pub logs : ℕ → List (DeedOf counters)
logs zero = adds 1 0 true 5 0 ∷ adds 2 0 false 1 0 ∷ []
logs (suc zero) = adds 2 1 true 2 5 ∷ adds 3 1 false 4 1 ∷ []
logs (suc (suc s)) = []

-- what the counters saw
abbrev pub histories : Bool → List (EntryOf counters)
histories true = entry 1 0 5 0 ∷ entry 2 1 2 5 ∷ []
histories false = entry 2 0 1 0 ∷ entry 3 1 4 1 ∷ []

-- what the streams note in the end
abbrev pub notes : ℕ → ℕ
notes zero = 0
notes (suc zero) = 1
notes (suc (suc s)) = 0

-- where the counters are in the end
abbrev pub totals : Bool → ℕ
totals true = 7
totals false = 5

-- all deeds, sorted
abbrev pub merged : List (DeedOf counters)
merged = adds 1 0 true 5 0 ∷ adds 2 0 false 1 0 ∷ adds 2 1 true 2 5 ∷ adds 3 1 false 4 1 ∷ []

-- what the laws suppose holds here, and so does what they say
pub record CountersMerge : Type 0 where
  pub tells : TellsPlaces counters
  pub simulated : IsSimulated counters
  pub gathered : Gathered counters zeros.noted zeros.count logs histories notes totals
  pub sorted : IsSorted logs merged
  pub timed : (s : ℕ) → AllTimed histories 0 (logs s)
  pub run : IsRunTo counters zeros merged notes totals
  pub lamport : AreLamports merged
