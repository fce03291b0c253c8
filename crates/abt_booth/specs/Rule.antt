-- The rule of a booth's table, and what each step ensures.
use Rattle.std.specs.Prelude.{◌≡◌, ℕ, suc, ◌+◌, ◌*◌, ◌<◌, ◌≤◌, ◌^◌, List, [], ◌∷◌, ◌++◌, map, true, false, ◌⊎◌, Some, None, Option}
use mathlib.Core.Option as m
use lib.ListN.{get_elem?}
use Rattle.atomic_table.specs.Table.{State, Me, Step, rest}
use Rattle.atomic_table.specs.Seated.{TableId}
use Rattle.atomic_table.specs.declared.shared.Seat.{Seat as Raw}
use Rattle.abt_interleave.specs.declared.entries.Entry.{Entry}
use Rattle.abt_interleave.specs.Histories.{last_stamp, Extends, RisesAbove, Leads, Legal, entry_stamps}
use Rattle.abt_booth.specs.declared.made.Call.{Call}
use Rattle.abt_booth.specs.declared.rule.View.{View}
use Rattle.abt_booth.specs.declared.rule.Lot.{Lot}
use Rattle.std.specs.List.{All}

-- what the table's slot holds
abbrev pub KeptLot : Type 0 → Type 0 → Type 0 → Type 0
KeptLot O A R = Option (Lot O A R)

-- a state of the table
abbrev pub TableState : Type 0 → Type 0 → Type 0 → Type 0
TableState O A R = State (KeptLot O A R) (View O A R)

-- a seat with its view and what it took out of the slot
abbrev pub SeatState : Type 0 → Type 0 → Type 0 → Type 0
SeatState O A R = Me (KeptLot O A R) (View O A R)

-- a call of seat n, as an entry of the history
abbrev pub entry_of : {A R : Type 0} → ℕ → Call A R → Entry A R
entry_of n call = record { stamp = call.stamp; caller = n; act = call.act.value; answer = call.answer.value }

-- the calls of seat n, as entries
abbrev pub entries_of : {A R : Type 0} → ℕ → List (Call A R) → List (Entry A R)
entries_of n calls = map (entry_of n) calls

-- the word of the turn: the words before and after it are never used, and keep those of two tables apart
abbrev pub turn_word : ℕ
turn_word = 3

module _ {O A R : Type 0} where
  -- the word of the turn is n
  abbrev pub TurnIs : TableState O A R → ℕ → Type 0
  TurnIs s n = get_elem? s.words turn_word ≡ m.some n

  -- it has the numbers from i to before n, and has seen nothing
  abbrev pub keeping : O → ℕ → ℕ → View O A R
  keeping o i n = record { opening = Some o; number = i; next = n; seen = []; holds = false; taken = [] }

  -- it has all numbers, and has seen nothing
  abbrev pub keeper : O → ℕ → View O A R
  keeper o n = keeping o 0 n

  -- k is one of the view's numbers, for which it has seen the list l
  abbrev pub Has : View O A R → ℕ → List (Entry A R) → Type 0
  Has v k l = ((v.number ≤ k) × (k < v.next) × (l ≡ v.seen)) ⊎ ((i : ℕ) × (get_elem? v.taken i ≡ m.some (k, l)))

  -- the lists that a view of one number has: those taken in, and its own at the end
  abbrev pub all_known : View O A R → List (ℕ × List (Entry A R))
  all_known v = v.taken ++ (v.number, v.seen) ∷ []

  -- a seat of this table, which began with the object o
  abbrev pub IsOf : TableId → O → Raw (KeptLot O A R) (View O A R) → Type 0
  IsOf z o s = (s.table_id ≡ z) × (s.me.0.opening ≡ Some o)

  -- the view knows the opening object, and each list that it has is a prefix of the log with all calls of its number
  abbrev pub Fits : O → ℕ → List (Entry A R) → View O A R → Type 0
  Fits o n log v = (k : ℕ) (l : List (Entry A R)) → Has v k l → (v.opening ≡ Some o) × (k < n) × Extends k l log

  -- the turn is free: its word is even, the slot has the object that the log leads to, and no view holds the turn
  abbrev pub IsFree : (O → A → R → O → Type 0) → O → List (Entry A R) → TableState O A R → Type 0
  IsFree does o log s = (lot : Lot O A R) × ((n : ℕ) × TurnIs s (2 * n)) × (s.homes ≡ m.some (Some lot) ∷ []) × Leads does o log lot.object × (lot.clock ≡ last_stamp (entry_stamps log))
      × ((j : ℕ) (v : View O A R) → get_elem? s.views j ≡ m.some v → v.holds ≡ false)

  -- the turn is held: its word is odd, the slot is out, and one live view holds the turn, which has seen the log
  abbrev pub IsHeld : List (Entry A R) → TableState O A R → Type 0
  IsHeld log s = (holder : ℕ) × (who : View O A R) × ((n : ℕ) × TurnIs s (2 * n + 1)) × (s.homes ≡ m.none ∷ []) × (get_elem? s.views holder ≡ m.some who) × (who.number < who.next) × (who.holds ≡ true)
      × ((j : ℕ) (v : View O A R) → get_elem? s.views j ≡ m.some v → v.holds ≡ true → (j ≡ holder) × (v.seen ≡ log))

  -- The rule. The log is the one history: its stamps rise from above 0 to at most 2^62, each call is of a number below n, and no number is with two views.
  pub record Kept (does : O → A → R → O → Type 0) (o : O) (n : ℕ) (s : TableState O A R) : Type 0 where
    pub log : List (Entry A R)
    pub rises : RisesAbove 0 (entry_stamps log)
    pub capped : last_stamp (entry_stamps log) ≤ 2 ^ 62
    pub known : All (λ e. e.caller < n) log
    pub fits : (j : ℕ) (v : View O A R) → get_elem? s.views j ≡ m.some v → Fits o n log v
    pub unique : (j j' : ℕ) (v v' : View O A R) (k : ℕ) (l l' : List (Entry A R)) → get_elem? s.views j ≡ m.some v → get_elem? s.views j' ≡ m.some v' → Has v k l → Has v' k l' → j ≡ j'
    pub turn : IsFree does o log s ⊎ IsHeld log s

  -- the view with the turn, and a new list seen
  abbrev pub holding : View O A R → List (Entry A R) → View O A R
  holding v log = record { opening = v.opening; number = v.number; next = v.next; seen = log; holds = true; taken = v.taken }

  -- the view without the turn, and a new list seen
  abbrev pub resting : View O A R → List (Entry A R) → View O A R
  resting v log = record { opening = v.opening; number = v.number; next = v.next; seen = log; holds = false; taken = v.taken }

  -- the seat has the turn and the object, and has seen the history
  abbrev pub Takes : (O → A → R → O → Type 0) → SeatState O A R → SeatState O A R → Type 0
  Takes does m m' = (o : O) × (log : List (Entry A R)) × (lot : Lot O A R)
      × (m.0.opening ≡ Some o) × (m' ≡ (holding m.0 log, (0, Some lot) ∷ m.1))
      × Legal does o log lot.object × (lot.clock ≡ last_stamp (entry_stamps log)) × (last_stamp (entry_stamps log) ≤ 2 ^ 62)
      × Extends m.0.number m.0.seen log

  -- it took the turn, or found another number
  abbrev pub took : (O → A → R → O → Type 0) → Step (KeptLot O A R) → SeatState O A R → ℕ → SeatState O A R → Type 0
  took does st m r m' = (r ≡ st.first → Takes does m m') × (¬ (r ≡ st.first) → m' ≡ m)

  -- the calls of the turn in which seat n had this lot
  abbrev pub entries_in : ℕ → KeptLot O A R → List (Entry A R)
  entries_in n (Some lot) = entries_of n lot.made.value
  entries_in n None = []

  -- the same, of the lot that the seat holds
  abbrev pub called : ℕ → List (ℕ × KeptLot O A R) → List (Entry A R)
  called n [] = []
  called n (x ∷ xs) = entries_in n x.1

  -- the turn is given back, after all calls that were made in it
  abbrev pub released : Step (KeptLot O A R) → SeatState O A R → ℕ → SeatState O A R → Type 0
  released st m r m' = m' ≡ (resting m.0 (m.0.seen ++ called m.0.number m.1), rest m.1)

  -- the lowest number goes to a new seat
  abbrev pub dealt : View O A R → View O A R
  dealt v = record { opening = v.opening; number = v.number; next = suc v.number; seen = v.seen; holds = false; taken = [] }

  -- what the seat that deals keeps
  abbrev pub left : View O A R → View O A R
  left v = record { opening = v.opening; number = suc v.number; next = v.next; seen = v.seen; holds = v.holds; taken = v.taken }

  -- the number and the list of another view are taken in
  abbrev pub gathered : View O A R → View O A R → View O A R
  gathered v w = record { opening = v.opening; number = v.number; next = v.next; seen = v.seen; holds = v.holds; taken = (w.number, w.seen) ∷ v.taken }

  -- what is left of a view that was taken in: it has no number
  abbrev pub spent : View O A R
  spent = record { opening = None; number = 0; next = 0; seen = []; holds = false; taken = [] }
