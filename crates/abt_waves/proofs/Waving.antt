-- A wave, from the objects that locks are made round to those that the opened locks leave.
use Rattle.std.proofs.Common.{◌≡◌, ◌≢◌, ℕ, ◌<◌, Bool, true, false, List, map, length, slice_get, Some, sym, ◌∙◌, ap, subst}
use Rattle.std.specs.Prelude.{option_map, slice_index_or}
use Rattle.std.specs.List.{All}
use Rattle.std.proofs.lemmas.Option.{slice_get-map}
use Rattle.abt_machine.specs.declared.events.Site.{Site}
use Rattle.abt_machine.specs.Stored.{Stored}
use Rattle.abt_machine.specs.declared.workload.Parts.{Parts}
use Rattle.abt_machine.specs.Valid.{IsValid}
use Rattle.abt_interleave.specs.Weaving.{TellsLocks}
use Rattle.abt_commons.specs.AllPasses.{AreAll}
use Rattle.abt_commons.specs.Held.{ObjectsValue}
use Rattle.abt_stream.specs.Streams.{StreamValue}
use Rattle.abt_stream.specs.Answers.{FitsAnswers}
use Rattle.abt_drain.specs.Answers.{AllAnswered}
use Rattle.abt_drain.specs.Crews.{AllKeep, moment_of}
use Rattle.abt_waves.specs.declared.voyages.Returned.{Returned}
use Rattle.abt_waves.specs.declared.voyages.Stop.{Stop}
use Rattle.abt_waves.specs.declared.voyages.Stop.TheVariants as stop
use Rattle.abt_waves.specs.Fleets.{IsFleetOver, MakesWaveOver, moment_over}
use Rattle.abt_waves.specs.Jobs.{HasReturned, JobValue, MayGo, jobs_of}
use Rattle.abt_waves.specs.Leaving.{HasLeft}
use Rattle.abt_waves.specs.Locks.{AreClosed, HasSeenNothing, LocksValue}
use Rattle.abt_waves.specs.Waves.{pass_in, stop_in, stream_in}
use Rattle.abt_waves.proofs.Departing.{all-at, answers-back, came, may-go, passes-back, passes-many, returned-many}
use Rattle.abt_waves.proofs.Rejoining.{Came, has-left, keep-after, makes-wave, rejoined, stays}

module _ {Locks Lock Pass : Type 0} (IsOf : Locks → Pass → Type 0) (value : Locks → LocksValue Lock Pass) (lock : Site → Lock) (clock : ObjectsValue → Lock → ℕ) (tells : TellsLocks Lock)
    (W : Parts) (Z : Stored) (n : ℕ) (objects : ObjectsValue) (streams : List StreamValue) (is : IsFleetOver lock clock W Z n objects streams)
    (own : Locks) (opening : (value own).objects ≡ objects) (clocks : (value own).carried ≡ clock objects) where
  abbrev locks : LocksValue Lock Pass
  locks = value own

  abbrev V : Parts
  V = locks.objects.workload

  same-workload : V ≡ W
  same-workload = ap (λ (o : ObjectsValue). o.workload) opening ∙ is.workload

  same-clocks : locks.carried ≡ clock locks.objects
  same-clocks = clocks ∙ ap clock (sym opening)

  pub valid-own : IsValid V
  valid-own = subst IsValid (sym same-workload) is.valid

  -- the fleet at the wave's beginning
  opened : IsFleetOver lock clock V Z n locks.objects streams
  opened = subst (λ (q : Parts × ObjectsValue). IsFleetOver lock clock q.0 Z n q.1 streams) (λ i. (sym same-workload i, sym opening i)) is

  module _ (k : ℕ) (counted : k ≡ W.streams) (passes : List Pass) (all : AreAll (IsOf own) locks.number k passes) (flags : List Bool) (marked : length flags ≡ W.streams) where
    streams-own : W.streams ≡ V.streams
    streams-own = ap (λ (U : Parts). U.streams) (sym same-workload)

    all-own : AreAll (IsOf own) locks.number V.streams passes
    all-own = subst (λ m. AreAll (IsOf own) locks.number m passes) (counted ∙ streams-own) all

    marked-own : length flags ≡ V.streams
    marked-own = marked ∙ streams-own

    pub many-passes : length streams ≡ length passes
    many-passes = sym (passes-many IsOf value lock clock own Z n streams opened passes all-own flags marked-own)

    pub many-flags : length streams ≡ length flags
    many-flags = is.streams_are.many ∙ sym marked

    module _ (jobs : List (JobValue Locks Pass)) (jobs_are : jobs ≡ jobs_of own streams passes flags) where
      pub all-may-go : All (HasSeenNothing locks) passes → All (MayGo IsOf value W Z) jobs
      all-may-go fresh = subst (λ (q : Parts × List (JobValue Locks Pass)). All (MayGo IsOf value q.0 Z) q.1) (λ i. (same-workload i, sym jobs_are i)) (may-go IsOf value lock clock own Z n streams opened passes all-own flags marked-own fresh)

      module _ (returned : List (Returned Pass)) (many : length returned ≡ length jobs)
          (each : (i : ℕ) (job : JobValue Locks Pass) (back : Returned Pass) → i < length jobs → HasReturned IsOf value lock W Z (slice_index_or jobs i job) (slice_index_or returned i back)) (made : locks.streams ≡ k) where
        many-own : length returned ≡ length (jobs_of own streams passes flags)
        many-own = many ∙ ap length jobs_are

        each-own : (i : ℕ) (job : JobValue Locks Pass) (back : Returned Pass) → i < length (jobs_of own streams passes flags) →
            HasReturned IsOf value lock V Z (slice_index_or (jobs_of own streams passes flags) i job) (slice_index_or returned i back)
        each-own = subst (λ (q : Parts × List (JobValue Locks Pass)). (i : ℕ) (job : JobValue Locks Pass) (back : Returned Pass) → i < length q.1 → HasReturned IsOf value lock q.0 Z (slice_index_or q.1 i job) (slice_index_or returned i back))
            (λ i. (sym same-workload i, jobs_are i)) each

        count-own : locks.streams ≡ V.streams
        count-own = made ∙ (counted ∙ streams-own)

        module _ (back : List Pass) (back_are : back ≡ map pass_in returned) where
          pub all-back : AreAll (IsOf own) locks.number locks.streams back
          all-back = subst (AreAll (IsOf own) locks.number locks.streams) (sym back_are) (passes-back IsOf value lock clock own Z n streams opened passes all-own flags marked-own returned many-own each-own locks.streams count-own)

          module _ (held : ObjectsValue) (left : AreClosed locks lock clock back held) where
            left-own : AreClosed locks lock clock (map pass_in returned) held
            left-own = subst (λ ps. AreClosed locks lock clock ps held) back_are left

            back-many : length returned ≡ length streams
            back-many = returned-many IsOf value lock clock own Z n streams opened passes all-own flags marked-own returned many-own each-own

            all-came : (s : ℕ) (stream : StreamValue) → slice_get streams s ≡ Some stream → Came (IsOf own) locks lock Z flags returned s stream
            all-came = came IsOf value lock clock own Z n streams opened passes all-own flags marked-own returned many-own each-own

            module _ (out : List StreamValue) (out_are : out ≡ map stream_in returned) where
              pub next-fleet : IsFleetOver lock clock W Z n held out
              next-fleet = subst (λ (q : Parts × List StreamValue). IsFleetOver lock clock q.0 Z n held q.1) (λ i. (same-workload i, sym out_are i))
                  (rejoined (IsOf own) locks lock clock tells same-clocks Z n streams flags opened count-own returned back-many all-came held left-own)

              pub wave-made : MakesWaveOver lock clock W Z flags (moment_over lock clock W streams objects) (moment_over lock clock W out held)
              wave-made = subst (λ (q : Parts × ObjectsValue × List StreamValue). MakesWaveOver lock clock q.0 Z flags (moment_over lock clock q.0 streams q.1) (moment_over lock clock q.0 q.2 held)) (λ i. (same-workload i, opening i, sym out_are i))
                  (makes-wave (IsOf own) locks lock clock tells same-clocks Z n streams flags opened count-own returned back-many all-came held left-own)

              -- each live stream has left, if none is out of memory
              pub all-left : (stops : List Stop) → stops ≡ map stop_in returned → All (λ (w : Stop). w ≢ stop.Refused) stops → (s : ℕ) → slice_get flags s ≡ Some true → HasLeft W n (moment_of W streams objects) (moment_of W out held) s
              all-left stops are all s lives = subst (λ (q : Parts × ObjectsValue × List StreamValue). HasLeft q.0 n (moment_of q.0 streams q.1) (moment_of q.0 q.2 held) s) (λ i. (same-workload i, opening i, sym out_are i))
                  (has-left (IsOf own) locks lock clock tells same-clocks Z n streams flags opened count-own returned back-many all-came held left-own s
                  (λ back at. all-at (λ (w : Stop). w ≢ stop.Refused) (map stop_in returned) (subst (All (λ (w : Stop). w ≢ stop.Refused)) are all) s back.stop (slice_get-map stop_in returned s ∙ ap (option_map stop_in) at))
                  lives marked-own)

              pub others-stay : (s : ℕ) → slice_get flags s ≡ Some false → slice_get out s ≡ slice_get streams s
              others-stay s dead = ap (λ ss. slice_get ss s) out_are ∙ stays (IsOf own) locks lock clock tells same-clocks Z n streams flags opened count-own returned back-many all-came held left-own s dead

              pub keep-on : (k : Bool) → AllKeep k streams → AllKeep k out
              keep-on k kept = subst (AllKeep k) (sym out_are) (keep-after (IsOf own) locks lock clock tells same-clocks Z n streams flags opened count-own returned back-many all-came held left-own k kept)

              -- if the visits of each stream are answered they are so afterwards
              pub answers-on : (Answered : ℕ → ℕ → List ℕ → Type 0)
                  → ((i : ℕ) (job : JobValue Locks Pass) (back : Returned Pass) → i < length jobs → FitsAnswers W Answered (slice_index_or jobs i job).stream → FitsAnswers W Answered (slice_index_or returned i back).stream)
                  → AllAnswered W Answered streams → AllAnswered W Answered out
              answers-on Answered goes all = subst (AllAnswered W Answered) (sym out_are)
                  (answers-back own streams passes flags many-passes many-flags returned back-many W Answered
                  (subst (λ (js : List (JobValue Locks Pass)). (i : ℕ) (job : JobValue Locks Pass) (back : Returned Pass) → i < length js → FitsAnswers W Answered (slice_index_or js i job).stream → FitsAnswers W Answered (slice_index_or returned i back).stream)
                  jobs_are goes) all)
