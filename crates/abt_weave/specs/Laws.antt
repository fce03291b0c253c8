-- The laws by which booths make lines.
use Rattle.std.specs.Prelude.{ℕ, max, ◌≡◌, ◌≢◌, ◌<◌, ◌^◌, List, Some, Contains}
use Rattle.abt_booth.specs.Calls.{IsAnswered, IsWorn, IsClosed}
use Rattle.abt_interleave.specs.declared.entries.Entry.{Entry}
use Rattle.abt_interleave.specs.Histories.{last_stamp, entry_stamps, Extends}
use Rattle.abt_interleave.specs.Machines.{Machine, DeedOf, TellsPlaces}
use Rattle.abt_interleave.specs.Laws.{AllGive}
use Rattle.abt_interleave.specs.Lines.{CallOf, Sees, LockLeft}
use Rattle.abt_interleave.specs.Weaving.{TellsLocks}
use Rattle.abt_weave.specs.Seen.{line_seen}

-- what a stream sees of the lines changes at this lock alone: there by what its seat of the lock's booth had seen and has seen
pub record ChangesAt (M : Machine) {Lock A R : Type 0} (asks : A → M.Place × M.Act) (tells : R → M.Answer) (l : Lock) (old new : Lock → List (CallOf M)) (before after : List (Entry A R)) : Type 0 where
  pub old_here : old l ≡ line_seen M asks tells before
  pub new_here : new l ≡ line_seen M asks tells after
  pub elsewhere : (k : Lock) → l ≢ k → new k ≡ old k

-- what a call that found the clock worn lets the stream see
pub record SeesWorn (M : Machine) {Lock : Type 0} (l : Lock) (s at : ℕ) (old new : Lock → List (CallOf M)) : Type 0 where
  pub extends : (k : Lock) → Extends s (old k) (new k)
  pub worn : max at (last_stamp (entry_stamps (new l))) ≡ 2 ^ 62

-- Of booths round objects that mean `does`.
module _ (M : Machine) {O A R : Type 0} (does : O → A → R → O → Type 0) where
  -- if the booth of the lock answered a call of stream s, made at the greater of the stream's clock and the clock carried
  -- to the lock, the deed with that stamp and that call is seen by the stream
  abbrev pub AnswersShow : Type 0 → Type 0
  AnswersShow Lock = (asks : A → M.Place × M.Act) (tells : R → M.Answer) (opening : O)
      (lock : M.Place → Lock) (carried : Lock → ℕ) (old new : Lock → List (CallOf M)) (s clock at : ℕ) (before after : List (Entry A R)) (act : A) (stamp : ℕ) (answer : R) (d : DeedOf M) →
      ChangesAt M asks tells (lock (asks act).0) old new before after → at ≡ max clock (carried (lock (asks act).0)) →
      IsAnswered does opening s before after at act stamp answer → d.stamp ≡ stamp → d.stream ≡ s →
      Sees M lock carried s old clock d (Some ((asks act).0, (asks act).1, tells answer)) new

  -- if the clock was worn, the stream may see more of the line, and the greater of `at` and its last stamp is 2^62
  abbrev pub WornShows : Type 0 → Type 0
  WornShows Lock = TellsLocks Lock → (asks : A → M.Place × M.Act) (tells : R → M.Answer) (opening : O)
      (l : Lock) (old new : Lock → List (CallOf M)) (s at : ℕ) (before after : List (Entry A R)) (act back : A) →
      ChangesAt M asks tells l old new before after → IsWorn does opening s before after at act back → SeesWorn M l s at old new

  -- a closed booth round the one object behind a lock has left what its lock has left, if its acts are of that object and
  -- mean what the machine's object means, and each stream's seat was there with what it had seen
  abbrev pub OneIsLeft : Type 0 → Type 0
  OneIsLeft Lock = TellsPlaces M → (lock : M.Place → Lock) (x : M.Place) → ((y : M.Place) → lock y ≡ lock x → y ≡ x) →
      (object_of : O → M.Object) (asks : A → M.Place × M.Act) (tells : R → M.Answer) →
      ((a : A) → (asks a).0 ≡ x) → ((o : O) (a : A) (r : R) (p : O) → does o a r p → M.Gives (object_of o) (asks a).1 (tells r) (object_of p)) →
      (opening object : O) (n : ℕ) (known : List (ℕ × List (Entry A R))) (clock : ℕ) (knew : ℕ → List (Entry A R)) (objects finals : M.Place → M.Object) →
      IsClosed does opening n known object clock → ((s : ℕ) → s < n → Contains known (s, knew s)) → object_of opening ≡ objects x → object_of object ≡ finals x →
      LockLeft M lock (lock x) n (λ s. line_seen M asks tells (knew s)) objects finals clock

  -- so has a closed booth round all objects behind a lock
  abbrev pub AllAreLeft : Type 0 → Type 0
  AllAreLeft Lock = TellsPlaces M → (lock : M.Place → Lock) (l : Lock) (objects_of : O → M.Place → M.Object) (asks : A → M.Place × M.Act) (tells : R → M.Answer) →
      ((o : O) (a : A) (r : R) (p : O) → does o a r p → AllGive M (objects_of o) (asks a) (tells r) (objects_of p)) →
      (opening object : O) (n : ℕ) (known : List (ℕ × List (Entry A R))) (clock : ℕ) (knew : ℕ → List (Entry A R)) (objects finals : M.Place → M.Object) →
      IsClosed does opening n known object clock → ((s : ℕ) → s < n → Contains known (s, knew s)) →
      ((x : M.Place) → lock x ≡ l → (objects_of opening x ≡ objects x) × (objects_of object x ≡ finals x)) →
      LockLeft M lock l n (λ s. line_seen M asks tells (knew s)) objects finals clock
