-- A run on lives: its start, a wave more, and its end.
use Rattle.std.proofs.Common.{◌≡◌, ◌≢◌, ℕ, ◌+◌, ◌≤◌, ◌∙◌, Bool, true, List, [], ◌∷◌, ◌++◌, length, map, filter, slice_get, Some, Result, Ok, Err, refl, sym, ap, subst, arith}
use Rattle.std.specs.Prelude.{Contains, IfOk}
use Rattle.std.specs.List.{All, range_with_len}
use Rattle.abt_machine.specs.declared.events.Event.{Event}
use Rattle.abt_machine.specs.declared.events.Outcome.{Outcome}
use Rattle.abt_machine.specs.declared.events.Outcome.TheVariants as outcome
use Rattle.abt_machine.specs.Stored.{Stored}
use Rattle.abt_machine.specs.declared.workload.Parts.{Parts}
use Rattle.abt_machine.specs.Outcomes.{steps_in}
use Rattle.abt_machine.specs.Rounds.{OrdersStored}
use Rattle.abt_machine.specs.Runs.{last_state, state_after}
use Rattle.abt_machine.specs.Start.{start}
use Rattle.abt_machine.specs.Valid.{IsValid}
use Rattle.abt_laws.proofs.LifeOver.{ends-are-the-journals}
use Rattle.abt_laws.proofs.LifeRuns.{runs-live}
use Rattle.abt_laws.proofs.SoundRuns.{runs-are-sound}
use Rattle.abt_bounds.specs.Laws.{HasNoFreeCall}
use Rattle.abt_flow.specs.Confluent.{Confluent}
use Rattle.abt_flow.specs.Flow.{IsFlow}
use Rattle.abt_flow.specs.Laws.{outputs}
use Rattle.abt_flow.proofs.Outputs.{outputs-are-flow}
use Rattle.abt_interleave.proofs.Members.{to-among}
use Rattle.abt_merge.specs.Logs.{log_of}
use Rattle.abt_simulation.specs.Journals.{MergesTo}
use Rattle.abt_commons.specs.Held.{ObjectsValue, object_at}
use Rattle.abt_commons.specs.Placing.{ArePlaced}
use Rattle.abt_outcomes.specs.Values.{HaveMade}
use Rattle.abt_stream.specs.Streams.{StreamValue}
use Rattle.abt_drain.specs.Crews.{AllKeep, AreStarted, moment_of}
use Rattle.abt_drain.specs.Looks.{steps_made}
use Rattle.abt_drain.proofs.Started.{crew-started, is-start}
use Rattle.abt_drain.proofs.Stopping.{made-same}
use Rattle.abt_waves.specs.Fleets.{IsFleet, MakesWave}
use Rattle.abt_waves.proofs.Fleets.{crew-is-fleet}
use Rattle.abt_waves.proofs.OneWave.{wave-journal, wave-leads}
use Rattle.abt_streams.specs.declared.life.Life.{Life}
use Rattle.abt_streams.specs.declared.wave.Wave.{Wave}
use Rattle.abt_streams.specs.Cutting.{behind, log_lengths}
use Rattle.abt_streams.specs.Ends.{EndsOn}
use Rattle.abt_streams.specs.Lives.{AreLives}
use Rattle.abt_streams.specs.Looks.{IsOutcomeOnLives, is_live_with}
use Rattle.abt_streams.specs.Runs.{HasLedTo}
use Rattle.abt_streams.specs.Waves.{HasRunOn, IsWaveOf}
use Rattle.abt_streams.proofs.Alive.{live-own, numbers-same}
use Rattle.abt_streams.proofs.Behind.{behind-cut}
use Rattle.abt_streams.proofs.Joined.{waves-push}
use Rattle.abt_streams.proofs.Lamports.{lives-lamport, logs-with-wave}
use Rattle.abt_streams.proofs.Rising.{all-below, all-rise}

-- what is known if it went well
pub if-ok : {A E : Type 0} (r : Result A E) (P Q : A → Type 0) → ((a : A) → P a → Q a) → IfOk r P → IfOk r Q
if-ok (Ok a) P Q more known = more a known
if-ok (Err e) P Q more known = known

-- at the start nothing has come
pub under-way-at-start : (W : Parts) (Z : Stored) (n : ℕ) (lives : List Life) (objects : ObjectsValue) (streams : List StreamValue) → IsValid W → OrdersStored W Z.orders → AreStarted W n W.streams streams → AllKeep true streams → ArePlaced W objects →
    HasLedTo W Z n lives objects streams [] []
under-way-at-start W Z n lives objects streams valid stored all kept placed =
    let is = is-start W n streams objects all placed in
    record {
      fleet = crew-is-fleet W Z n (record { workload = W; steps = n; keeps = true; objects = objects; streams = streams }) (crew-started W n streams objects all placed Z true valid stored kept);
      lead = record {
        run = tt;
        stand = record { streams = is.parts; sites = is.objects };
        made = λ s lt. sym (ap steps_in (is.logs s));
      };
      below = λ k d lt. absurd (omega arith);
      rise = tt;
      has_logs = record { all = λ s e c. subst (λ (l : List Event). Contains l e) (is.logs s) c; only = λ e c. absurd (to-among [] e c) };
      waves_are = refl;
      kept = kept;
    }

-- a wave more
module _ (W : Parts) (Z : Stored) (n : ℕ) (lives : List Life) (are : AreLives W lives) (objects left : ObjectsValue) (streams after : List StreamValue) (J : List Event) (waves : List Wave) (under : HasLedTo W Z n lives objects streams J waves)
    (flags : List Bool) (wave : Wave) (from_is : wave.from ≡ length J) (flags_are : flags ≡ map (is_live_with (object_at objects) lives) (range_with_len 0 W.streams)) (numbers_are : wave.streams ≡ filter (is_live_with (object_at objects) lives) (range_with_len 0 W.streams))
    (makes : MakesWave W Z flags (moment_of W streams objects) (moment_of W after left)) (fleet : IsFleet W Z n left after)
    (kept : AllKeep true after) (es : List Event) (merged : MergesTo (log_of (behind after (log_lengths streams))) es) where
  many : length after ≡ length streams
  many = fleet.streams_are.many ∙ sym under.fleet.streams_are.many

  is-wave : IsWaveOf W lives (state_after W (start W) J) (0 + length J) wave es
  is-wave = record {
    from = omega (arith, from_is);
    streams = numbers_are ∙ numbers-same W lives are (last_state W J) (object_at objects) under.lead.stand.sites;
    own = subst (λ (ns : List ℕ). All (λ (e : Event). Contains ns e.stream.0) es) (sym numbers_are)
        (live-own W Z (moment_of W streams objects) (moment_of W after left) flags makes.wave es
        (wave-journal W Z fleet.valid fleet.stored J (moment_of W streams objects) (moment_of W after left) under.lead flags makes.wave (log_of (behind after (log_lengths streams))) (behind-cut W Z objects left streams after flags makes.wave many) es merged)
        (is_live_with (object_at objects) lives) flags_are);
    in_order = merged.in_order;
  }

  further : HasLedTo W Z n lives left after (J ++ es) (waves ++ wave ∷ [])
  further =
      let cut = behind-cut W Z objects left streams after flags makes.wave many in
      let journal = wave-journal W Z fleet.valid fleet.stored J (moment_of W streams objects) (moment_of W after left) under.lead flags makes.wave (log_of (behind after (log_lengths streams))) cut es merged in
      record {
        fleet = fleet;
        lead = wave-leads W Z fleet.valid fleet.stored J (moment_of W streams objects) (moment_of W after left) under.lead flags makes.wave es journal;
        below = all-below W Z (moment_of W streams objects) (moment_of W after left) flags makes es journal J under.below;
        rise = all-rise W Z (moment_of W streams objects) (moment_of W after left) flags makes es journal J under.below under.rise;
        has_logs = logs-with-wave W Z flags (moment_of W streams objects) (moment_of W after left) makes.wave es journal J under.has_logs;
        waves_are = waves-push W lives (start W) 0 waves J wave es under.waves_are is-wave;
        kept = kept;
      }

  -- it goes on
  pub goes-on : (K : List Event) (more : List Wave) → K ≡ J ++ es → more ≡ waves ++ wave ∷ [] → HasLedTo W Z n lives left after K more
  goes-on K more journal_is waves_is =
      subst (λ (x : List Event). HasLedTo W Z n lives left after x more) (sym journal_is) (subst (λ (x : List Wave). HasLedTo W Z n lives left after (J ++ es) x) (sym waves_is) further)

module _ (W : Parts) (Z : Stored) (n : ℕ) (lives : List Life) (objects : ObjectsValue) (streams : List StreamValue) (J : List Event) (waves : List Wave) (under : HasLedTo W Z n lives objects streams J waves) where
  -- how many steps each stream made
  have-made : HaveMade W J (steps_made streams)
  have-made s lt = under.lead.made s lt ∙ sym (made-same (slice_get streams s))

  -- how the run ended
  pub has-ended-on : (o : Outcome) → IsOutcomeOnLives W lives n streams objects (Some o) → EndsOn W lives n J o
  has-ended-on o ended = ended Z J under.fleet.stored under.lead.run under.lead.stand have-made

  -- what the units put out
  puts-out : (o : Outcome) → EndsOn W lives n J o → o ≡ outcome.Finished → Confluent W → HasNoFreeCall W Z → IsFlow W Z.returns (outputs W (last_state W J))
  puts-out o ended finished confluent one = outputs-are-flow W Z under.fleet.valid under.fleet.stored confluent one J under.lead.run (subst (EndsOn W lives n J) finished ended).1

  -- the run
  pub has-run-on : (o : Outcome) → waves ≢ [] → EndsOn W lives n J o → HasRunOn W Z n lives J waves o
  has-run-on o some ended = record {
    run = under.lead.run;
    sound = λ i. runs-are-sound W Z under.fleet.valid under.fleet.stored J i under.lead.run;
    lives_are = runs-live W Z (runs-are-sound W Z) under.fleet.valid under.fleet.stored J under.lead.run;
    lamport = lives-lamport W Z n (moment_of W streams objects) under.fleet.reached J under.has_logs under.rise;
    within = λ s lt. subst (λ k. k ≤ n) (sym (under.lead.made s lt)) (under.fleet.reached.within s);
    some_wave = some;
    waves_are = under.waves_are;
    ended = ended;
    ends = ends-are-the-journals W Z (runs-are-sound W Z) under.fleet.valid under.fleet.stored J under.lead.run;
    flow = puts-out o ended;
  }
