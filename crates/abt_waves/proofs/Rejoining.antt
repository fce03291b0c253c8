-- A wave more: what it makes of the moment before, and that what it leaves is a moment to which the streams have come.
use Rattle.std.proofs.Common.{◌≡◌, ◌≢◌, ℕ, max, ◌<◌, ◌≤◌, ◌^◌, inl, inr, Bool, true, false, List, [], ◌∷◌, ◌++◌, map, length, slice_get, Option, Some, None, refl, sym, ◌∙◌, ap, subst, arith}
use Rattle.std.specs.Prelude.{option_map}
use Rattle.std.proofs.lemmas.List.{append-nil, length-append, length-map, map-append}
use Rattle.std.proofs.lemmas.Option.{slice_get-map, slice_get_cases, slice_get_past, slice_get_within}
use Rattle.abt_machine.specs.declared.events.Site.{Site}
use Rattle.abt_machine.specs.declared.numbers.StreamNo.{StreamNo}
use Rattle.abt_machine.specs.Stored.{Stored}
use Rattle.abt_machine.specs.declared.workload.Parts.{Parts}
use Rattle.abt_machine.specs.Outcomes.{steps_in}
use Rattle.abt_machine.specs.Next.{StepDue}
use Rattle.abt_machine.specs.Start.{start}
use Rattle.abt_machine.specs.Turns.{due_of}
use Rattle.abt_machine.specs.Values.{Held, object_of, part_of}
use Rattle.abt_calls.specs.Starts.{start_part}
use Rattle.abt_interleave.specs.Carrying.{Timed, Waves, joined_histories, joined_logs, next_clocks, stream_clocks}
use Rattle.abt_interleave.specs.Histories.{RisesAbove, entry_stamps, last_from, last_stamp, Extends}
use Rattle.abt_interleave.specs.Deeds.{deed_stamps}
use Rattle.abt_interleave.specs.Lines.{Gone, LockLeft, WaveLeft, histories_of}
use Rattle.abt_interleave.specs.Machines.{Machine}
use Rattle.abt_interleave.specs.Ticking.{IsClock}
use Rattle.abt_interleave.specs.Weaving.{TellsLocks}
use Rattle.abt_interleave.proofs.Carried.{times-go-on, waves-go-on}
use Rattle.abt_interleave.proofs.Histories.{rises-at}
use Rattle.abt_interleave.proofs.Weaves.{waves-weave}
use Rattle.abt_simulation.specs.Journals.{events_of}
use Rattle.abt_simulation.specs.Merging.{SiteEntry, StreamDeed, event_of, machine_of}
use Rattle.abt_simulation.proofs.Merged.{tells-sites}
use Rattle.abt_commons.specs.Held.{ObjectsValue}
use Rattle.abt_commons.specs.Sights.{SiteCall}
use Rattle.abt_laws.proofs.Options.{some-injective}
use Rattle.abt_stream.specs.Streams.{FitsShapes, StreamValue}
use Rattle.abt_stream.specs.Turned.{IsSpent}
use Rattle.abt_drain.specs.Crews.{AllKeep, stream_clock, log_from, moment_of}
use Rattle.abt_drain.specs.Looks.{AreStreams, IsStreamOf, held_from}
use Rattle.abt_drain.specs.Moments.{HasCome, Moment, made_at}
use Rattle.abt_drain.specs.Rotations.{IsSpentIn}
use Rattle.abt_drain.proofs.Coming.{come-clock-low, come-stream-unworn}
use Rattle.abt_waves.specs.declared.voyages.Returned.{Returned}
use Rattle.abt_waves.specs.declared.voyages.Stop.{Stop}
use Rattle.abt_waves.specs.declared.voyages.Stop.TheVariants as stop
use Rattle.abt_waves.specs.Fleets.{HaveClocks, IsFleetOver, IsWave, MakesWaveOver, moment_over}
use Rattle.abt_waves.specs.Locks.{AreClosed, LocksValue, TellsSites, sights_from}
use Rattle.abt_waves.specs.Leaving.{HasLeft}
use Rattle.abt_waves.specs.Stops.{EndsRoundSince, StopsBy}
use Rattle.abt_waves.specs.Voyages.{HasGone, HasPass, IsWorn}
use Rattle.abt_waves.specs.Waves.{pass_in, stream_in}
use Rattle.abt_interleave.proofs.Carried.{last-append}
use Rattle.abt_waves.proofs.Falling.{spent-fresh}
use Rattle.abt_waves.proofs.Lasts.{max-low, prefix-low}

-- what came back of a stream
pub record Came {Lock Pass : Type 0} (IsOf : Pass → Type 0) (locks : LocksValue Lock Pass) (lock : Site → Lock) (Z : Stored) (live : List Bool) (returned : List (Returned Pass)) (s : ℕ) (stream : StreamValue) : Type 0 where
  pub back : Returned Pass
  pub at : slice_get returned s ≡ Some back
  pub flag : Bool
  pub marked : slice_get live s ≡ Some flag
  pub has : HasPass IsOf locks locks.objects.workload Z back.stream back.pass
  pub gone : HasGone locks lock locks.objects.workload Z stream back.stream back.pass
  pub stops : StopsBy locks lock locks.objects.workload flag stream.log back.stream back.pass back.stop
  pub still : slice_get live s ≡ Some false → back.stream ≡ stream

-- if a list did not grow, nothing was put behind it
none-behind : {A B : Type 0} (f : A → B) (xs : List B) (ys : List A) → xs ≡ xs ++ map f ys → ys ≡ []
none-behind f xs [] e = refl
none-behind f xs (y ∷ ys) e = absurd (let k : length xs ≡ length (xs ++ map f (y ∷ ys)) = ap length e in let l = length-append xs (map f (y ∷ ys)) in omega arith)

module _ {Lock Pass : Type 0} (IsOf : Pass → Type 0) (locks : LocksValue Lock Pass) (lock : Site → Lock) (clock : ObjectsValue → Lock → ℕ) (tells-locks : TellsLocks Lock) (same : locks.carried ≡ clock locks.objects)
    (Z : Stored) (n : ℕ) (streams : List StreamValue) (live : List Bool) where
  abbrev W : Parts
  W = locks.objects.workload

  abbrev M : Machine
  M = machine_of W Z

  -- before the wave
  abbrev was : Moment
  was = moment_of W streams locks.objects

  carried-at : (l : Lock) → locks.carried l ≡ clock locks.objects l
  carried-at l = ap (λ f. f l) same

  module _ (is : IsFleetOver lock clock W Z n locks.objects streams) (count : locks.streams ≡ W.streams) (returned : List (Returned Pass)) (many : length returned ≡ length streams)
      (came : (s : ℕ) (stream : StreamValue) → slice_get streams s ≡ Some stream → Came IsOf locks lock Z live returned s stream) (held : ObjectsValue) (left : AreClosed locks lock clock (map pass_in returned) held) where
    -- after it
    abbrev now : Moment
    now = moment_of W (map stream_in returned) held

    abbrev come : HasCome W Z n was
    come = is.come

    numbered : (s : ℕ) (stream : StreamValue) → slice_get streams s ≡ Some stream → stream.number.0 ≡ s
    numbered s stream e = (is.streams_are.own s stream e).number

    -- the streams and passes that came back
    stream-back : (s : ℕ) (stream : StreamValue) (e : slice_get streams s ≡ Some stream) → slice_get (map stream_in returned) s ≡ Some (came s stream e).back.stream
    stream-back s stream e = slice_get-map stream_in returned s ∙ ap (option_map stream_in) (came s stream e).at

    pass-back : (s : ℕ) (stream : StreamValue) (e : slice_get streams s ≡ Some stream) → slice_get (map pass_in returned) s ≡ Some (came s stream e).back.pass
    pass-back s stream e = slice_get-map pass_in returned s ∙ ap (option_map pass_in) (came s stream e).at

    differ : (x : StreamValue) → None ≡ Some x → ⊥
    differ x q = cc

    beyond : (s : ℕ) → slice_get streams s ≡ None → length streams ≤ s
    beyond s e = elim (slice_get_cases streams s).1 [ inl one ↦ absurd (differ one.0 (sym e ∙ one.2)) | inr past ↦ past.0 ]

    none-back : (s : ℕ) → slice_get streams s ≡ None → slice_get (map stream_in returned) s ≡ None
    none-back s e = slice_get_past (map stream_in returned) s (let q : length (map stream_in returned) ≡ length returned = length-map returned stream_in in let p : length streams ≤ s = beyond s e in omega (arith, many))

    declared : (s : ℕ) → slice_get streams s ≡ None → s < W.streams → ⊥
    declared s e lt = let p : length streams ≤ s = beyond s e in let m : length streams ≡ W.streams = is.streams_are.many in omega arith

    -- what each stream did in the wave
    abbrev more-by : (s : ℕ) (o : Option StreamValue) → slice_get streams s ≡ o → List StreamDeed
    more-by s None e = []
    more-by s (Some stream) e = (came s stream e).gone.deeds

    abbrev more : ℕ → List StreamDeed
    more s = more-by s (slice_get streams s) refl

    -- what each pass saw
    abbrev seen : ℕ → Lock → List SiteCall
    seen s l = sights_from locks (slice_get (map pass_in returned) s) l

    gone-by : (s : ℕ) (o : Option StreamValue) (e : slice_get streams s ≡ o) → s < W.streams → last_stamp (deed_stamps (come.deeds s)) ≡ stream_clock o →
        Gone M lock locks.carried s (last_stamp (deed_stamps (come.deeds s))) (held_from (start_part W s) o) (more-by s o e) (now.parts s) (seen s)
    gone-by s None e lt clock = absurd (declared s e lt)
    gone-by s (Some stream) e lt clock =
        subst (λ (q : ℕ × ℕ × Held × (Lock → List SiteCall)). Gone M lock locks.carried q.0 q.1 stream.held (came s stream e).gone.deeds q.2 q.3)
        (λ i. (numbered s stream e i, sym clock i, held_from (start_part W s) (sym (stream-back s stream e) i), λ l. sights_from locks (sym (pass-back s stream e) i) l))
        (came s stream e).gone.gone

    undeclared : (s : ℕ) (o : Option StreamValue) (e : slice_get streams s ≡ o) → W.streams ≤ s → more-by s o e ≡ []
    undeclared s None e ge = refl
    undeclared s (Some stream) e ge = absurd (let lt = slice_get_within streams s stream e in let m : length streams ≡ W.streams = is.streams_are.many in omega arith)

    wave-left : WaveLeft M lock locks.carried (stream_clocks M come.deeds) was.parts was.objects more now.parts now.objects left.closing
    wave-left = waves-weave M Lock (tells-sites W Z) tells-locks lock locks.carried left.closing (stream_clocks M come.deeds) was.parts now.parts was.objects now.objects more seen
        (λ s lt. gone-by s (slice_get streams s) refl lt (come.clocks s)) (λ s ge. undeclared s (slice_get streams s) refl ge)
        (λ l. subst (λ k. LockLeft M lock l k (λ s. seen s l) was.objects now.objects (left.closing l)) count (left.left l Z))

    -- All waves so far.

    waves-before : Waves M lock locks.carried (part_of W (start W)) (object_of W (start W)) come.deeds come.histories was.parts was.objects
    waves-before = record {
      gathered = come.gathered;
      no_gap = come.no_gap;
      carries = record {
        above = λ x. subst (λ t. last_stamp (entry_stamps (come.histories x)) ≤ t) (sym (carried-at (lock x))) (is.have.above x);
        clocks = λ l. subst (IsClock M come.deeds) (sym (carried-at l)) (is.have.clocks l);
      };
    }

    abbrev logs : ℕ → List StreamDeed
    logs = joined_logs M come.deeds more

    abbrev histories : Site → List SiteEntry
    histories = joined_histories M come.histories (histories_of M lock wave-left.lines)

    waves-after : Waves M lock (next_clocks locks.carried left.closing) (part_of W (start W)) (object_of W (start W)) logs histories now.parts now.objects
    waves-after = waves-go-on M Lock (tells-sites W Z) lock locks.carried left.closing (part_of W (start W)) was.parts now.parts (object_of W (start W)) was.objects now.objects
        come.deeds more come.histories waves-before wave-left

    times-after : TellsSites lock → Timed M lock (next_clocks locks.carried left.closing) logs histories
    times-after apart = times-go-on M Lock (tells-sites W Z) lock apart locks.carried left.closing was.parts now.parts was.objects now.objects
        come.deeds more come.histories (record { deeds = is.have.timed apart; clocks = λ x. carried-at (lock x) ∙ sym (is.have.times apart x) }) wave-left

    -- Streams.

    logs-by : (s : ℕ) (o : Option StreamValue) (e : slice_get streams s ≡ o) → events_of come.deeds s ≡ log_from o → map event_of (come.deeds s ++ more-by s o e) ≡ now.logs s
    logs-by s None e had = map-append event_of (come.deeds s) [] ∙ (ap (λ es. es ++ []) had ∙ sym (ap log_from (none-back s e)))
    logs-by s (Some stream) e had =
        map-append event_of (come.deeds s) (came s stream e).gone.deeds
        ∙ (ap (λ es. es ++ map event_of (came s stream e).gone.deeds) had ∙ (sym (came s stream e).gone.log ∙ sym (ap log_from (stream-back s stream e))))

    clocks-by : (s : ℕ) (o : Option StreamValue) (e : slice_get streams s ≡ o) → last_stamp (deed_stamps (come.deeds s)) ≡ stream_clock o → last_stamp (deed_stamps (come.deeds s ++ more-by s o e)) ≡ now.clocks s
    clocks-by s None e had = last-append (λ (d : StreamDeed). d.stamp) 0 (come.deeds s) [] ∙ (had ∙ sym (ap stream_clock (none-back s e)))
    clocks-by s (Some stream) e had =
        last-append (λ (d : StreamDeed). d.stamp) 0 (come.deeds s) (came s stream e).gone.deeds
        ∙ (ap (λ t. last_from t (deed_stamps (came s stream e).gone.deeds)) had ∙ (sym (came s stream e).gone.clock ∙ sym (ap stream_clock (stream-back s stream e))))

    few-by : (s : ℕ) (o : Option StreamValue) → slice_get streams s ≡ o → length (now.logs s) ≤ 2 ^ 55
    few-by s None e = subst (λ es. length es ≤ 2 ^ 55) (sym (ap log_from (none-back s e))) (omega arith)
    few-by s (Some stream) e = subst (λ es. length es ≤ 2 ^ 55) (sym (ap log_from (stream-back s stream e))) (came s stream e).has.few

    within-by : (s : ℕ) (o : Option StreamValue) → slice_get streams s ≡ o → made_at now s ≤ n
    within-by s None e = subst (λ es. steps_in es ≤ n) (sym (ap log_from (none-back s e))) (omega arith)
    within-by s (Some stream) e = subst (λ es. steps_in es ≤ n) (sym (ap log_from (stream-back s stream e)))
        (subst (λ k. steps_in (came s stream e).back.stream.log ≤ k) ((came s stream e).gone.budget ∙ (is.streams_are.own s stream e).budget) (came s stream e).has.within)

    abbrev come-after : HasCome W Z n now
    come-after = record {
      deeds = logs;
      histories = histories;
      gathered = waves-after.gathered;
      no_gap = waves-after.no_gap;
      logs = λ s. logs-by s (slice_get streams s) refl (come.logs s);
      clocks = λ s. clocks-by s (slice_get streams s) refl (come.clocks s);
      few = λ s. few-by s (slice_get streams s) refl;
      within = λ s. within-by s (slice_get streams s) refl;
    }

    have-after : HaveClocks lock clock W Z logs histories held
    have-after = record {
      above = λ x. subst (λ t. last_stamp (entry_stamps (histories x)) ≤ t) (sym (left.clocks (lock x))) (waves-after.carries.above x);
      clocks = λ l. subst (IsClock M logs) (sym (left.clocks l)) (waves-after.carries.clocks l);
      timed = λ apart. (times-after apart).deeds;
      times = λ apart x. sym ((times-after apart).clocks x) ∙ sym (left.clocks (lock x));
    }

    -- the stream that came back at a place
    back-at : (s : ℕ) (stream : StreamValue) → slice_get (map stream_in returned) s ≡ Some stream → (o : Option StreamValue) → slice_get streams s ≡ o → (old : StreamValue) × (e : slice_get streams s ≡ Some old) × ((came s old e).back.stream ≡ stream)
    back-at s stream at None e = absurd (differ stream (sym (none-back s e) ∙ at))
    back-at s stream at (Some old) e = (old, e, some-injective (sym (stream-back s old e) ∙ at))

    streams-after : AreStreams W n (map stream_in returned)
    streams-after = record {
      many = length-map returned stream_in ∙ (many ∙ is.streams_are.many);
      own = λ s stream at. (
          let b = back-at s stream at (slice_get streams s) refl in
          subst (IsStreamOf W n s) b.2 (record {
            number = ap (λ (k : StreamNo). k.0) (came s b.0 b.1).gone.number ∙ numbered s b.0 b.1;
            fits = (came s b.0 b.1).has.fits;
            budget = (came s b.0 b.1).gone.budget ∙ (is.streams_are.own s b.0 b.1).budget;
          }));
    }

    -- they keep their events in memory as before
    pub keep-after : (k : Bool) → AllKeep k streams → AllKeep k (map stream_in returned)
    keep-after k kept s stream at = (
        let b = back-at s stream at (slice_get streams s) refl in
        ap (λ (r : StreamValue). r.keeps) (sym b.2) ∙ ((came s b.0 b.1).gone.keeps ∙ kept s b.0 b.1))

    -- the streams and objects that it leaves are a fleet again
    pub rejoined : IsFleetOver lock clock W Z n held (map stream_in returned)
    rejoined = record {
      valid = is.valid;
      stored = is.stored;
      workload = left.workload;
      streams_are = streams-after;
      shapes = λ s stream at. (let b = back-at s stream at (slice_get streams s) refl in subst (FitsShapes W Z) b.2 (came s b.0 b.1).has.shapes);
      come = come-after;
      have = have-after;
    }

    -- The wave by itself.

    still-by : (s : ℕ) (o : Option StreamValue) (e : slice_get streams s ≡ o) → slice_get live s ≡ Some false → more-by s o e ≡ []
    still-by s None e dead = refl
    still-by s (Some stream) e dead = none-behind event_of stream.log (came s stream e).gone.deeds (sym (ap (λ (r : StreamValue). r.log) ((came s stream e).still dead)) ∙ (came s stream e).gone.log)

    new-logs-by : (s : ℕ) (o : Option StreamValue) (e : slice_get streams s ≡ o) → now.logs s ≡ log_from o ++ map event_of (more-by s o e)
    new-logs-by s None e = ap log_from (none-back s e) ∙ sym (append-nil [])
    new-logs-by s (Some stream) e = ap log_from (stream-back s stream e) ∙ (came s stream e).gone.log

    new-clocks-by : (s : ℕ) (o : Option StreamValue) (e : slice_get streams s ≡ o) → now.clocks s ≡ last_from (stream_clock o) (deed_stamps (more-by s o e))
    new-clocks-by s None e = ap stream_clock (none-back s e)
    new-clocks-by s (Some stream) e = ap stream_clock (stream-back s stream e) ∙ (came s stream e).gone.clock

    abbrev wave-histories : Site → List SiteEntry
    wave-histories = histories_of M lock wave-left.lines

    abbrev is-wave : IsWave W Z live (moment_over lock clock W streams locks.objects) (moment_over lock clock W (map stream_in returned) held)
    is-wave = record {
      deeds = more;
      histories = wave-histories;
      gathered = wave-left.gathered;
      still = λ s. still-by s (slice_get streams s) refl;
      logs = λ s. new-logs-by s (slice_get streams s) refl;
      climb = λ s. subst (λ t. RisesAbove t (deed_stamps (more s))) (come.clocks s) (wave-left.woven.climb s);
      rise = λ x. subst (λ t. RisesAbove t (entry_stamps (wave-histories x))) (carried-at (lock x)) (rises-at M x (locks.carried (lock x)) (wave-left.lines (lock x)) (wave-left.woven.rise (lock x)));
      clocks = λ s. new-clocks-by s (slice_get streams s) refl;
    }

    pub makes-wave : MakesWaveOver lock clock W Z live (moment_over lock clock W streams locks.objects) (moment_over lock clock W (map stream_in returned) held)
    makes-wave = record {
      wave = is-wave;
      times = λ apart x. left.clocks (lock x) ∙ ((times-after apart).clocks x ∙ (last-append (λ (e : SiteEntry). e.stamp) 0 (come.histories x) (wave-histories x) ∙ ap (λ t. last_from t (entry_stamps (wave-histories x))) (is.have.times apart x)));
    }

    stays-by : (s : ℕ) (o : Option StreamValue) → slice_get streams s ≡ o → slice_get live s ≡ Some false → slice_get (map stream_in returned) s ≡ o
    stays-by s None e dead = none-back s e
    stays-by s (Some stream) e dead = stream-back s stream e ∙ ap Some ((came s stream e).still dead)

    -- a stream that is not live is as it was
    pub stays : (s : ℕ) → slice_get live s ≡ Some false → slice_get (map stream_in returned) s ≡ slice_get streams s
    stays s dead = stays-by s (slice_get streams s) refl dead

    -- no clock that the wave has met is at its end
    unworn : (s : ℕ) (stream : StreamValue) (e : slice_get streams s ≡ Some stream) → IsWorn locks lock (came s stream e).back.stream (came s stream e).back.pass → ⊥
    unworn s stream e worn = elim worn [
      | inl own ↦ (let low = own-low in omega arith)
      | inr met ↦ (let low = max-low (max (came s stream e).back.stream.clock (locks.carried (lock met.0))) (last_stamp (entry_stamps (locks.sights (came s stream e).back.pass (lock met.0)))) (2 ^ 62)
          (max-low (came s stream e).back.stream.clock (locks.carried (lock met.0)) (2 ^ 62) own-low (carried-low (lock met.0))) (seen-low (lock met.0)) in let q = met.1 in omega arith)
    ] where
      own-low : (came s stream e).back.stream.clock < 2 ^ 62
      own-low = subst (λ k. k < 2 ^ 62) (ap stream_clock (stream-back s stream e)) (come-stream-unworn W Z is.valid is.stored n now come-after s)

      carried-low : (l : Lock) → locks.carried l < 2 ^ 62
      carried-low l = come-clock-low W Z is.valid is.stored n was come (locks.carried l) (subst (IsClock M come.deeds) (sym (carried-at l)) (is.have.clocks l))

      declares : s < locks.streams
      declares = (let lt = slice_get_within streams s stream e in let m : length streams ≡ W.streams = is.streams_are.many in omega (arith, count))

      seen-low : (l : Lock) → last_stamp (entry_stamps (locks.sights (came s stream e).back.pass l)) < 2 ^ 62
      seen-low l =
          let k : LockLeft M lock l locks.streams (λ r. seen r l) was.objects now.objects (left.closing l) = left.left l Z in
          let known : Extends s (sights_from locks (Some (came s stream e).back.pass) l) k.line = subst (λ o. Extends s (sights_from locks o l) k.line) (pass-back s stream e) (k.is_line.seen s declares) in
          let low : last_stamp (entry_stamps (locks.sights (came s stream e).back.pass l)) ≤ last_stamp (entry_stamps k.line) =
          subst (λ line. last_stamp (entry_stamps (locks.sights (came s stream e).back.pass l)) ≤ last_stamp (entry_stamps line)) known.0.1
          (prefix-low (λ (c : SiteCall). c.stamp) 0 (locks.sights (came s stream e).back.pass l) known.0.0 (subst (λ (line : List SiteCall). RisesAbove 0 (entry_stamps line)) (sym known.0.1) k.is_line.rises)) in
          let closes : left.closing l ≡ last_stamp (entry_stamps k.line) = k.last in
          let next : clock held l ≡ max (locks.carried l) (left.closing l) = left.clocks l in
          let end : clock held l < 2 ^ 62 = come-clock-low W Z is.valid is.stored n now come-after (clock held l) (have-after.clocks l) in
          omega arith

    -- Why streams left.

    module _ (s : ℕ) (stream : StreamValue) (e : slice_get streams s ≡ Some stream) where
      abbrev back : StreamValue
      back = (came s stream e).back.stream

      part-back : now.parts s ≡ back.held
      part-back = ap (held_from (start_part W s)) (stream-back s stream e)

      log-back : now.logs s ≡ back.log
      log-back = ap log_from (stream-back s stream e)

      ended-round : EndsRoundSince stream.log back → HasLeft W n was now s
      ended-round ends = record {
        fresh = ap (λ h. h.own.top.seen) part-back ∙ ends.fresh;
        why = inl (record {
          before = ends.before;
          last = ends.last;
          log = log-back ∙ (ends.log_is ∙ ap (λ log. log ++ (ends.before ++ ends.last ∷ [])) (sym (ap log_from e)));
          miss = ends.miss;
          empty = ap (λ h. h.own.top.empty) part-back ∙ ends.empty;
        });
      }

      is-spent : IsSpent W back → IsSpentIn W n now s
      is-spent spent = (
        (let lt = slice_get_within streams s stream e in let m : length streams ≡ W.streams = is.streams_are.many in omega arith),
        ap steps_in log-back ∙ (spent.1 ∙ ((came s stream e).gone.budget ∙ (is.streams_are.own s stream e).budget)),
        ap (due_of W s) part-back ∙ subst (λ k. due_of W k back.held ≡ StepDue) (ap (λ (k : StreamNo). k.0) (came s stream e).gone.number ∙ numbered s stream e) spent.0,
      )

      spent-left : IsSpentIn W n now s → HasLeft W n was now s
      spent-left spent = record { fresh = spent-fresh W Z is.valid is.stored n now come-after s spent; why = inr spent }

      left-by : (why : Stop) → why ≢ stop.Refused → (came s stream e).flag ≡ true → StopsBy locks lock W (came s stream e).flag stream.log back (came s stream e).back.pass why → HasLeft W n was now s
      left-by stop.Idle kept lives ends = ended-round (ends lives)
      left-by stop.Spent kept lives spent = spent-left (is-spent spent)
      left-by stop.Refused kept lives stops = absurd (kept refl)
      left-by stop.Worn kept lives worn = absurd (unworn s stream e worn)

    left-at : (s : ℕ) (o : Option StreamValue) → slice_get streams s ≡ o → ((back : Returned Pass) → slice_get returned s ≡ Some back → back.stop ≢ stop.Refused) → slice_get live s ≡ Some true → length live ≡ W.streams → HasLeft W n was now s
    left-at s None e kept lives marked = absurd (declared s e (let lt = slice_get_within live s true lives in omega (arith, marked)))
    left-at s (Some stream) e kept lives marked =
        let c = came s stream e in
        left-by s stream e c.back.stop (kept c.back c.at) (some-injective (sym c.marked ∙ lives)) c.stops

    -- a live stream has left, if none is out of memory
    pub has-left : (s : ℕ) → ((back : Returned Pass) → slice_get returned s ≡ Some back → back.stop ≢ stop.Refused) → slice_get live s ≡ Some true → length live ≡ W.streams → HasLeft W n was now s
    has-left s = left-at s (slice_get streams s) refl
