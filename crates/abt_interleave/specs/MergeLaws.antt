-- The laws of the one list, of items of any kind and of deeds.
use Rattle.std.specs.Prelude.{ℕ, ◌≡◌, ◌≢◌, ◌∷◌, ◌++◌, ◌≤◌, ◌==◌, ◌&&◌, ◌↔◌, Bool, List, [], map, length, count_by, Contains}
use Rattle.std.specs.List.{sum_by}
use Rattle.abt_interleave.specs.Histories.{RisesAbove}
use Rattle.abt_interleave.specs.Deeds.{deed_stamps}
use Rattle.abt_interleave.specs.Logs.{IsSooner, IsSorted, IsSortedAs}
use Rattle.abt_interleave.specs.Machines.{Machine, DeedOf}
use Rattle.abt_interleave.specs.Merges.{IsLogOf, IsByStamp, IsMergeOf, IsMerging, sum_below}

-- logs of finitely many streams have a merge
abbrev pub MergesExist : Type 0 → Type 0
MergesExist E = (stamp stream : E → ℕ) (n : ℕ) (logs : ℕ → List E) → ((s : ℕ) → IsLogOf stamp stream s (logs s)) → ((s : ℕ) → n ≤ s → logs s ≡ []) →
    (J : List E) × IsMergeOf stamp stream logs J

-- they have but one
abbrev pub MergesAreOne : Type 0 → Type 0
MergesAreOne E = (stamp stream : E → ℕ) (logs : ℕ → List E) (J K : List E) → IsMergeOf stamp stream logs J → IsMergeOf stamp stream logs K → J ≡ K

-- a list by stamp and then by stream that has the items of all logs, and no other, is the merge
abbrev pub MembersMakeMerges : Type 0 → Type 0
MembersMakeMerges E = (stamp stream : E → ℕ) (logs : ℕ → List E) (J : List E) → ((s : ℕ) → IsLogOf stamp stream s (logs s)) → IsByStamp stamp stream J →
    ((s : ℕ) (e : E) → Contains (logs s) e → Contains J e) → ((e : E) → Contains J e → Contains (logs (stream e)) e) → IsMergeOf stamp stream logs J

-- and the merge has the items of all logs, and no other
abbrev pub MergesHaveMembers : Type 0 → Type 0
MergesHaveMembers E = (stamp stream : E → ℕ) (logs : ℕ → List E) (J : List E) → IsMergeOf stamp stream logs J →
    ((s : ℕ) (e : E) → Contains (logs s) e → Contains J e) × ((e : E) → Contains J e → Contains (logs (stream e)) e)

-- as many items of stream s in the merge pass a test as in its log
abbrev pub MergesCountEach : Type 0 → Type 0
MergesCountEach E = (stamp stream : E → ℕ) (logs : ℕ → List E) (J : List E) → IsMergeOf stamp stream logs J → (test : E → Bool) (s : ℕ) →
    count_by (λ e. test e && (stream e == s)) J ≡ count_by test (logs s)

-- a sum over the merge is the sum of those over the logs, for each number that an item may stand for
abbrev pub MergesSum : Type 0 → Type 0
MergesSum E = (stamp stream : E → ℕ) (n : ℕ) (logs : ℕ → List E) (J : List E) → IsMergeOf stamp stream logs J → ((s : ℕ) → n ≤ s → logs s ≡ []) → (f : E → ℕ) →
    sum_by f J ≡ sum_below n (λ s. sum_by f (logs s))

-- so is its length
abbrev pub MergesLengthen : Type 0 → Type 0
MergesLengthen E = (stamp stream : E → ℕ) (n : ℕ) (logs : ℕ → List E) (J : List E) → IsMergeOf stamp stream logs J → ((s : ℕ) → n ≤ s → logs s ≡ []) →
    length J ≡ sum_below n (λ s. length (logs s))

-- One item after the other.

-- at first all is left
abbrev pub MergingBegins : Type 0 → Type 0
MergingBegins E = (stamp stream : E → ℕ) (logs : ℕ → List E) → IsMerging stamp stream logs logs []

-- the next item is the first that is left of a log, if it comes before the first that is left of every other log
abbrev pub MergingGoesOn : Type 0 → Type 0
MergingGoesOn E = (stamp stream : E → ℕ) (logs left new : ℕ → List E) (J : List E) (s : ℕ) (e : E) → ((r : ℕ) → IsLogOf stamp stream r (logs r)) → IsMerging stamp stream logs left J →
    left s ≡ e ∷ new s → ((r : ℕ) → s ≢ r → new r ≡ left r) →
    ((r : ℕ) (f : E) (fs : List E) → s ≢ r → left r ≡ f ∷ fs → IsSooner (stamp e) (stream e) (stamp f) (stream f)) → IsMerging stamp stream logs new (J ++ e ∷ [])

-- and if nothing is left, the list is the merge
abbrev pub MergingEnds : Type 0 → Type 0
MergingEnds E = (stamp stream : E → ℕ) (logs left : ℕ → List E) (J : List E) → IsMerging stamp stream logs left J → ((s : ℕ) → left s ≡ []) → IsMergeOf stamp stream logs J

-- Deeds.

-- the sorted list of all deeds is the merge of their logs, and the other way round
abbrev pub SortedIsMerge : Machine → Type 0
SortedIsMerge M = (logs : ℕ → List (DeedOf M)) (J : List (DeedOf M)) → ((s : ℕ) → RisesAbove 0 (deed_stamps (logs s))) → ((s : ℕ) (d : DeedOf M) → Contains (logs s) d → d.stream ≡ s) →
    IsSorted logs J ↔ IsMergeOf (λ d. d.stamp) (λ d. d.stream) logs J

-- likewise of what the deeds are seen as, event by event
abbrev pub SortedAsIsMerge : Machine → Type 0 → Type 0
SortedAsIsMerge M Event = (event : DeedOf M → Event) (stamp stream : Event → ℕ) → ((d : DeedOf M) → (stamp (event d) ≡ d.stamp) × (stream (event d) ≡ d.stream)) →
    (logs : ℕ → List (DeedOf M)) (J : List Event) → ((s : ℕ) → RisesAbove 0 (deed_stamps (logs s))) → ((s : ℕ) (d : DeedOf M) → Contains (logs s) d → d.stream ≡ s) →
    IsSortedAs event stamp stream logs J ↔ IsMergeOf stamp stream (λ s. map event (logs s)) J

-- the sorted list of all deeds, seen as events, is the sorted list of the events
abbrev pub EventsSort : Machine → Type 0 → Type 0
EventsSort M Event = (event : DeedOf M → Event) (stamp stream : Event → ℕ) → ((d : DeedOf M) → (stamp (event d) ≡ d.stamp) × (stream (event d) ≡ d.stream)) →
    (logs : ℕ → List (DeedOf M)) (ds : List (DeedOf M)) → IsSorted logs ds → IsSortedAs event stamp stream logs (map event ds)
