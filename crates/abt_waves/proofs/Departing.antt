-- The streams of a wave with their passes, when it begins and when they are back.
use Rattle.std.proofs.Common.{◌≡◌, ℕ, zero, suc, ◌<◌, ◌≤◌, ◌^◌, inl, inr, Bool, List, [], ◌∷◌, map, length, get_or, slice_get, Some, refl, sym, ◌∙◌, ap, subst, arith}
use Rattle.std.specs.Prelude.{option_map, slice_index_or}
use Rattle.std.specs.List.{All}
use Rattle.std.proofs.lemmas.List.{length-map}
use Rattle.std.proofs.lemmas.Option.{get_or_from_slice_get, slice_get-get_or, slice_get-map, slice_get_cases, slice_get_within}
use Rattle.abt_machine.specs.declared.events.Site.{Site}
use Rattle.abt_machine.specs.declared.numbers.StreamNo.{StreamNo}
use Rattle.abt_machine.specs.Stored.{Stored}
use Rattle.abt_machine.specs.declared.workload.Parts.{Parts}
use Rattle.abt_machine.specs.Outcomes.{steps_in}
use Rattle.abt_commons.specs.AllPasses.{AreAll}
use Rattle.abt_commons.specs.Held.{ObjectsValue}
use Rattle.abt_laws.proofs.Options.{some-injective}
use Rattle.abt_stream.specs.Streams.{StreamValue}
use Rattle.abt_stream.specs.Answers.{FitsAnswers}
use Rattle.abt_drain.specs.Answers.{AllAnswered}
use Rattle.abt_drain.specs.Crews.{log_from}
use Rattle.abt_waves.specs.declared.voyages.Returned.{Returned}
use Rattle.abt_waves.specs.Fleets.{IsFleetOver}
use Rattle.abt_waves.specs.Jobs.{HasReturned, JobValue, MayGo, jobs_of}
use Rattle.abt_waves.specs.Locks.{HasSeenNothing, LocksValue}
use Rattle.abt_waves.specs.Voyages.{HasPass}
use Rattle.abt_waves.specs.Waves.{pass_in, stream_in}
use Rattle.abt_waves.proofs.Rejoining.{Came}

-- an element within a list
within : {A : Type 0} (xs : List A) (k : ℕ) → k < length xs → (x : A) × (slice_get xs k ≡ Some x)
within xs k lt = elim (slice_get_cases xs k).1 [ inl one ↦ (one.0, one.2) | inr past ↦ absurd (let p = past.0 in omega arith) ]

-- what holds of each element by its place
all-from : {A : Type 0} (F : A → Type 0) (xs : List A) → ((k : ℕ) (x : A) → slice_get xs k ≡ Some x → F x) → All F xs
all-from F xs each = λ k d lt. each k (get_or xs k d) (slice_get-get_or xs k d lt)

pub all-at : {A : Type 0} (F : A → Type 0) (xs : List A) → All F xs → (k : ℕ) (x : A) → slice_get xs k ≡ Some x → F x
all-at F xs all k x e = subst F (get_or_from_slice_get xs k x x e) (all k x (slice_get_within xs k x e))

module _ {Locks Pass : Type 0} (own : Locks) where
  abbrev job_of : StreamValue → Pass → Bool → JobValue Locks Pass
  job_of stream pass live = record { locks = own; stream = stream; pass = pass; live = live }

  jobs-many : (streams : List StreamValue) (passes : List Pass) (flags : List Bool) → length passes ≡ length streams → length flags ≡ length streams → length (jobs_of own streams passes flags) ≡ length streams
  jobs-many [] passes flags many marked = refl
  jobs-many (s ∷ ss) [] flags many marked = absurd (let m : 0 ≡ suc (length ss) = many in omega arith)
  jobs-many (s ∷ ss) (p ∷ ps) [] many marked = absurd (let m : 0 ≡ suc (length ss) = marked in omega arith)
  jobs-many (s ∷ ss) (p ∷ ps) (l ∷ ls) many marked =
      ap suc (jobs-many ss ps ls (let m : suc (length ps) ≡ suc (length ss) = many in omega arith) (let m : suc (length ls) ≡ suc (length ss) = marked in omega arith))

  job-at : (streams : List StreamValue) (passes : List Pass) (flags : List Bool) (k : ℕ) (stream : StreamValue) (pass : Pass) (live : Bool) →
      slice_get streams k ≡ Some stream → slice_get passes k ≡ Some pass → slice_get flags k ≡ Some live → slice_get (jobs_of own streams passes flags) k ≡ Some (job_of stream pass live)
  job-at [] passes flags k stream pass live e f h = cc
  job-at (s ∷ ss) [] flags k stream pass live e f h = cc
  job-at (s ∷ ss) (p ∷ ps) [] k stream pass live e f h = cc
  job-at (s ∷ ss) (p ∷ ps) (l ∷ ls) zero stream pass live e f h = λ i. Some (job_of (some-injective e i) (some-injective f i) (some-injective h i))
  job-at (s ∷ ss) (p ∷ ps) (l ∷ ls) (suc k) stream pass live e f h = job-at ss ps ls k stream pass live e f h

  -- a job's stream, pass and flag
  job-is : (streams : List StreamValue) (passes : List Pass) (flags : List Bool) → length passes ≡ length streams → length flags ≡ length streams → (k : ℕ) (job : JobValue Locks Pass) → slice_get (jobs_of own streams passes flags) k ≡ Some job →
      (stream : StreamValue) × (pass : Pass) × (live : Bool) × (slice_get streams k ≡ Some stream) × (slice_get passes k ≡ Some pass) × (job_of stream pass live ≡ job)
  job-is streams passes flags many marked k job e =
      let lt : k < length (jobs_of own streams passes flags) = slice_get_within (jobs_of own streams passes flags) k job e in
      let m : length (jobs_of own streams passes flags) ≡ length streams = jobs-many streams passes flags many marked in
      let s : (stream : StreamValue) × (slice_get streams k ≡ Some stream) = within streams k (omega arith) in
      let p : (pass : Pass) × (slice_get passes k ≡ Some pass) = within passes k (omega (arith, many)) in
      let l : (live : Bool) × (slice_get flags k ≡ Some live) = within flags k (omega (arith, marked)) in
      (s.0, p.0, l.0, s.1, p.1, some-injective (sym (job-at streams passes flags k s.0 p.0 l.0 s.1 p.1 l.1) ∙ e))

  -- if the visits of each stream are answered when the wave begins, and those of a job stay so, they are answered when the streams are back
  pub answers-back : (streams : List StreamValue) (passes : List Pass) (flags : List Bool) → length streams ≡ length passes → length streams ≡ length flags → (returned : List (Returned Pass)) → length returned ≡ length streams
      → (W : Parts) (Answered : ℕ → ℕ → List ℕ → Type 0)
      → ((i : ℕ) (job : JobValue Locks Pass) (back : Returned Pass) → i < length (jobs_of own streams passes flags) → FitsAnswers W Answered (slice_index_or (jobs_of own streams passes flags) i job).stream
      → FitsAnswers W Answered (slice_index_or returned i back).stream) → AllAnswered W Answered streams → AllAnswered W Answered (map stream_in returned)
  answers-back streams passes flags many marked returned count W Answered goes all s stream e =
      let lt : s < length (map stream_in returned) = slice_get_within (map stream_in returned) s stream e in
      let m : length (map stream_in returned) ≡ length returned = length-map returned stream_in in
      let r : (back : Returned Pass) × (slice_get returned s ≡ Some back) = within returned s (omega arith) in
      let o : (first : StreamValue) × (slice_get streams s ≡ Some first) = within streams s (omega (arith, count)) in
      let p : (pass : Pass) × (slice_get passes s ≡ Some pass) = within passes s (omega (arith, count, many)) in
      let l : (live : Bool) × (slice_get flags s ≡ Some live) = within flags s (omega (arith, count, marked)) in
      let job = job_of o.0 p.0 l.0 in
      let jobs = jobs_of own streams passes flags in
      let at : slice_get jobs s ≡ Some job = job-at streams passes flags s o.0 p.0 l.0 o.1 p.1 l.1 in
      let before : FitsAnswers W Answered (slice_index_or jobs s job).stream = subst (λ (j : JobValue Locks Pass). FitsAnswers W Answered j.stream) (sym (get_or_from_slice_get jobs s job job at)) (all s o.0 o.1) in
      let after : FitsAnswers W Answered r.0.stream = subst (λ (b : Returned Pass). FitsAnswers W Answered b.stream) (get_or_from_slice_get returned s r.0 r.0 r.1) (goes s job r.0 (slice_get_within jobs s job at) before) in
      subst (FitsAnswers W Answered) (some-injective (sym (slice_get-map stream_in returned s ∙ ap (option_map stream_in) r.1) ∙ e)) after

module _ {Locks Lock Pass : Type 0} (IsOf : Locks → Pass → Type 0) (value : Locks → LocksValue Lock Pass) (lock : Site → Lock) (clock : ObjectsValue → Lock → ℕ) (own : Locks) (Z : Stored) (n : ℕ) (streams : List StreamValue)
    (is : IsFleetOver lock clock (value own).objects.workload Z n (value own).objects streams) (passes : List Pass) (all : AreAll (IsOf own) (value own).number (value own).objects.workload.streams passes)
    (flags : List Bool) (marked : length flags ≡ (value own).objects.workload.streams) where
  abbrev locks : LocksValue Lock Pass
  locks = value own

  abbrev W : Parts
  W = locks.objects.workload

  pub passes-many : length passes ≡ length streams
  passes-many = all.many ∙ sym is.streams_are.many

  flags-many : length flags ≡ length streams
  flags-many = marked ∙ sym is.streams_are.many

  abbrev jobs : List (JobValue Locks Pass)
  jobs = jobs_of own streams passes flags

  -- a stream with its pass
  has-pass : (k : ℕ) (stream : StreamValue) (pass : Pass) → slice_get streams k ≡ Some stream → slice_get passes k ≡ Some pass → HasPass (IsOf own) locks W Z stream pass
  has-pass k stream pass e f = record {
    fits = (is.streams_are.own k stream e).fits;
    shapes = is.shapes k stream e;
    few = subst (λ log. length log ≤ 2 ^ 55) (ap log_from e) (is.come.few k);
    within = subst (λ m. steps_in stream.log ≤ m) (sym (is.streams_are.own k stream e).budget) (subst (λ log. steps_in log ≤ n) (ap log_from e) (is.come.within k));
    own = all-at (IsOf own) passes all.each k pass f;
    number = ap locks.number (sym (get_or_from_slice_get passes k pass pass f)) ∙ (all.in_order k pass (slice_get_within passes k pass f) ∙ sym (is.streams_are.own k stream e).number);
  }

  pub may-go : All (HasSeenNothing locks) passes → All (MayGo IsOf value W Z) jobs
  may-go fresh = all-from (MayGo IsOf value W Z) jobs (λ k job e. (
      let j = job-is own streams passes flags passes-many flags-many k job e in
      subst (MayGo IsOf value W Z) j.5 (record { workload = refl; has = has-pass k j.0 j.1 j.3 j.4; fresh = all-at (HasSeenNothing locks) passes fresh k j.1 j.4 })))

  module _ (returned : List (Returned Pass)) (many : length returned ≡ length jobs)
      (each : (i : ℕ) (job : JobValue Locks Pass) (back : Returned Pass) → i < length jobs → HasReturned IsOf value lock W Z (slice_index_or jobs i job) (slice_index_or returned i back)) where
    pub returned-many : length returned ≡ length streams
    returned-many = many ∙ jobs-many own streams passes flags passes-many flags-many

    -- each stream came back
    pub came : (s : ℕ) (stream : StreamValue) → slice_get streams s ≡ Some stream → Came (IsOf own) locks lock Z flags returned s stream
    came s stream e =
        let lt : s < length streams = slice_get_within streams s stream e in
        let m : length returned ≡ length streams = returned-many in
        let p : (pass : Pass) × (slice_get passes s ≡ Some pass) = within passes s (let q : length passes ≡ length streams = passes-many in omega arith) in
        let r : (back : Returned Pass) × (slice_get returned s ≡ Some back) = within returned s (omega arith) in
        let l : (live : Bool) × (slice_get flags s ≡ Some live) = within flags s (let q : length flags ≡ length streams = flags-many in omega arith) in
        let job : JobValue Locks Pass = record { locks = own; stream = stream; pass = p.0; live = l.0 } in
        let at : slice_get jobs s ≡ Some job = job-at own streams passes flags s stream p.0 l.0 e p.1 l.1 in
        let is_back : HasReturned IsOf value lock W Z job r.0 =
        subst (λ (q : JobValue Locks Pass × Returned Pass). HasReturned IsOf value lock W Z q.0 q.1)
        (λ i. (get_or_from_slice_get jobs s job job at i, get_or_from_slice_get returned s r.0 r.0 r.1 i))
        (each s job r.0 (slice_get_within jobs s job at)) in
        record { back = r.0; at = r.1; flag = l.0; marked = l.1; has = is_back.has; gone = is_back.gone; stops = is_back.stops; still = λ dead. is_back.still (some-injective (sym l.1 ∙ dead)) }

    -- a pass that came back is a stream's
    back-is : (s : ℕ) (back : Returned Pass) → slice_get returned s ≡ Some back → (stream : StreamValue) × (e : slice_get streams s ≡ Some stream) × ((came s stream e).back ≡ back)
    back-is s back f =
        let lt : s < length returned = slice_get_within returned s back f in
        let m : length returned ≡ length streams = returned-many in
        let o : (stream : StreamValue) × (slice_get streams s ≡ Some stream) = within streams s (omega arith) in
        (o.0, o.1, some-injective (sym (came s o.0 o.1).at ∙ f))

    pub passes-back : (k : ℕ) → k ≡ W.streams → AreAll (IsOf own) locks.number k (map pass_in returned)
    passes-back k same = record {
      many = length-map returned pass_in ∙ (returned-many ∙ (is.streams_are.many ∙ sym same));
      each = all-from (IsOf own) (map pass_in returned) (λ s pass f. (
          let b = mapped s pass f in let o = back-is s b.0 b.1 in
          subst (IsOf own) (ap pass_in o.2 ∙ b.2) (came s o.0 o.1).has.own));
      in_order = λ s pass lt. (
          let f : slice_get (map pass_in returned) s ≡ Some (slice_index_or (map pass_in returned) s pass) = slice_get-get_or (map pass_in returned) s pass lt in
          let b = mapped s (slice_index_or (map pass_in returned) s pass) f in let o = back-is s b.0 b.1 in
          ap locks.number (sym (ap pass_in o.2 ∙ b.2)) ∙ ((came s o.0 o.1).has.number ∙ (ap (λ (k : StreamNo). k.0) (came s o.0 o.1).gone.number ∙ (is.streams_are.own s o.0 o.1).number)));
    } where
      mapped : (s : ℕ) (pass : Pass) → slice_get (map pass_in returned) s ≡ Some pass → (back : Returned Pass) × (slice_get returned s ≡ Some back) × (back.pass ≡ pass)
      mapped s pass f =
          let lt : s < length (map pass_in returned) = slice_get_within (map pass_in returned) s pass f in
          let m : length (map pass_in returned) ≡ length returned = length-map returned pass_in in
          let r : (back : Returned Pass) × (slice_get returned s ≡ Some back) = within returned s (omega arith) in
          (r.0, r.1, some-injective (sym (slice_get-map pass_in returned s ∙ ap (option_map pass_in) r.1) ∙ f))
