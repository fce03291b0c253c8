-- Fleets at the start, over a lock for each site, and at the end.
use Rattle.std.proofs.Common.{◌≡◌, ℕ, ◌<◌, ◌≤◌, inl, inr, Bool, List, None, Some, slice_get, refl, sym, ◌∙◌, subst, arith}
use Rattle.std.specs.Prelude.{All}
use Rattle.abt_machine.specs.declared.events.Event.{Event}
use Rattle.abt_machine.specs.declared.events.Outcome.{Outcome}
use Rattle.abt_machine.specs.declared.events.Site.{Site}
use Rattle.abt_machine.specs.Stored.{Stored}
use Rattle.abt_machine.specs.declared.workload.Parts.{Parts}
use Rattle.abt_machine.specs.Rounds.{OrdersStored}
use Rattle.abt_machine.specs.Stamps.{Lamport}
use Rattle.abt_machine.specs.Start.{start}
use Rattle.abt_machine.specs.Valid.{IsValid}
use Rattle.abt_machine.specs.Values.{object_of, part_of}
use Rattle.abt_interleave.specs.Ticking.{IsClock}
use Rattle.abt_interleave.proofs.Ticks.{lasts-are-clocks}
use Rattle.abt_simulation.specs.Merging.{machine_of}
use Rattle.abt_commons.specs.Held.{ObjectsValue, clock_at}
use Rattle.abt_commons.specs.Placing.{ArePlaced}
use Rattle.abt_commons.specs.Splits.{own_lock}
use Rattle.abt_merge.specs.Logs.{AreLogs, log_of}
use Rattle.abt_outcomes.specs.Values.{LooksAs}
use Rattle.abt_report.specs.declared.pictures.Row.{Row}
use Rattle.abt_report.specs.Pictures.{IsPictureOf, SaysWordsOf}
use Rattle.abt_simulation.specs.Journals.{MergesTo}
use Rattle.abt_stream.specs.declared.stream.StreamParts.{StreamParts}
use Rattle.abt_stream.specs.Streams.{StreamValue}
use Rattle.abt_drain.specs.declared.run.Run.{Run}
use Rattle.abt_drain.specs.declared.streams.Rests.{Rests}
use Rattle.abt_drain.specs.Answers.{AllAnswered}
use Rattle.abt_drain.specs.Crews.{AllKeep, AreStarted, CrewValue, IsCrew, moment_in, moment_of}
use Rattle.abt_drain.specs.Ends.{AreLeft, HaveLeft, LeavesRotation, LeavesRun, logs_in}
use Rattle.abt_drain.specs.Looks.{EndedWith}
use Rattle.abt_drain.specs.Moments.{Moment, made_at}
use Rattle.abt_drain.specs.Pictures.{ShowsUnits}
use Rattle.abt_drain.specs.Rotations.{work_at}
use Rattle.abt_drain.specs.Runs.{HasRun, IsRunOf}
use Rattle.abt_drain.proofs.Answering.{merged-answers}
use Rattle.abt_drain.proofs.Closing.{come-logs, come-merges, come-picture}
use Rattle.abt_drain.proofs.Coming.{come-ran}
use Rattle.abt_drain.proofs.Journals.{come-lamport, has-come}
use Rattle.abt_drain.proofs.Started.{are-streams, is-start}
use Rattle.abt_drain.proofs.Starting.{start-come, start-fresh}
use Rattle.abt_drain.proofs.Stopping.{looks-at, made-same}
use Rattle.abt_waves.specs.Ends.{LeavesLogs, LeavesWaves}
use Rattle.abt_waves.specs.Fleets.{IsFleet, IsFleetOver, MakesWave, MakesWaveOver, moment_over}
use Rattle.abt_waves.specs.Leaving.{BeginsRounds, HasLeft, Lowers}
use Rattle.abt_waves.specs.Locks.{TellsSites}
use Rattle.abt_waves.specs.Waves.{HasEnded, IsFleetOf}
use Rattle.abt_waves.proofs.Falling.{wave-lowers}

-- the fleet as a value
abbrev pub fleet_of : Parts → ℕ → Bool → ObjectsValue → List StreamValue → CrewValue
fleet_of W n keeps objects streams = record { workload = W; steps = n; keeps = keeps; objects = objects; streams = streams }

-- A lock for each site.

-- a crew's streams and objects are a fleet
pub crew-is-fleet : (W : Parts) (Z : Stored) (n : ℕ) (crew : CrewValue) → IsCrew W Z n crew → IsFleet W Z n crew.objects crew.streams
crew-is-fleet W Z n crew is = record {
  valid = is.valid;
  stored = is.stored;
  workload = is.objects;
  streams_are = is.streams;
  shapes = is.shapes;
  reached = is.reached;
}

pub own-over : (W : Parts) (Z : Stored) (n : ℕ) (objects : ObjectsValue) (streams : List StreamValue) → IsFleet W Z n objects streams → IsFleetOver own_lock clock_at W Z n objects streams
own-over W Z n objects streams is = record {
  valid = is.valid;
  stored = is.stored;
  workload = is.workload;
  streams_are = is.streams_are;
  shapes = is.shapes;
  come = has-come W Z is.valid is.stored n (moment_of W streams objects) is.reached;
  have = record {
    above = λ x. subst (λ t. t ≤ clock_at objects x) (sym (is.reached.times x)) (omega arith);
    clocks = λ x. subst (IsClock (machine_of W Z) is.reached.deeds) (is.reached.times x)
        ((lasts-are-clocks (machine_of W Z) (part_of W (start W)) (object_of W (start W)) is.reached.deeds is.reached.histories (moment_of W streams objects).parts (moment_of W streams objects).objects is.reached.gathered).1 x);
    timed = λ apart. is.reached.timed;
    times = λ apart. is.reached.times;
  };
}

pub over-own : (W : Parts) (Z : Stored) (n : ℕ) (objects : ObjectsValue) (streams : List StreamValue) → IsFleetOver own_lock clock_at W Z n objects streams → IsFleet W Z n objects streams
over-own W Z n objects streams is = record {
  valid = is.valid;
  stored = is.stored;
  workload = is.workload;
  streams_are = is.streams_are;
  shapes = is.shapes;
  reached = record {
    deeds = is.come.deeds;
    histories = is.come.histories;
    gathered = is.come.gathered;
    timed = is.have.timed (λ x y e. e);
    logs = is.come.logs;
    clocks = is.come.clocks;
    times = is.have.times (λ x y e. e);
    few = is.come.few;
    within = is.come.within;
  };
}

pub own-wave : (W : Parts) (Z : Stored) (live : List Bool) (objects held : ObjectsValue) (streams out : List StreamValue) →
    MakesWaveOver own_lock clock_at W Z live (moment_over own_lock clock_at W streams objects) (moment_over own_lock clock_at W out held) → MakesWave W Z live (moment_of W streams objects) (moment_of W out held)
own-wave W Z live objects held streams out made = record { wave = made.wave; times = made.times (λ x y e. e) }

-- what ran so with several streams is a run
pub own-run : (W : Parts) (Z : Stored) (n : ℕ) (J : List Event) (o : Outcome) → 2 ≤ W.streams → IsRunOf W Z n J o → Lamport W J → HasRun W Z n J o
own-run W Z n J o several is lamport = record {
  run = is.run;
  stamped = is.stamped;
  lamport = lamport;
  sound = is.sound;
  lives = is.lives;
  ends = is.ends;
  within = is.within;
  ended = is.ended;
  flow = is.flow;
  stops = λ alone. absurd (let one : W.streams ≡ 1 = alone in omega arith);
  only = λ alone. absurd (let one : W.streams ≡ 1 = alone in omega arith);
}

-- what waves of several streams leave is what a run leaves
pub own-leaves : (W : Parts) (Z : Stored) (Answered : ℕ → ℕ → List ℕ → Type 0) (n : ℕ) (keeps : Bool) (left : Run) → 2 ≤ W.streams → LeavesWaves own_lock W Z Answered n keeps left → LeavesRun W Z Answered n keeps left
own-leaves W Z Answered n keeps left several leaves = record {
  events = leaves.events;
  holds = (own-run W Z n leaves.events left.outcome several leaves.holds.0 (leaves.holds.2 (λ x y e. e)), leaves.holds.1);
  kept = leaves.kept;
  pictured = leaves.pictured;
  counted = leaves.counted;
}

-- and so is what a rotation leaves
pub rotation-leaves : (W : Parts) (Z : Stored) (Answered : ℕ → ℕ → List ℕ → Type 0) (n : ℕ) (keeps : Bool) (left : Run) → LeavesRotation W Z Answered n keeps left → LeavesRun W Z Answered n keeps left
rotation-leaves W Z Answered n keeps left leaves = record { events = leaves.events; holds = (leaves.holds.0, leaves.holds.1); kept = leaves.kept; pictured = leaves.pictured; counted = leaves.counted }

-- Any locks.

module _ {Lock : Type 0} (lock : Site → Lock) (clock : ObjectsValue → Lock → ℕ) where
  -- the fleet at the start
  pub fleet-starts : (W : Parts) (Z : Stored) (n : ℕ) (keeps : Bool) (objects : ObjectsValue) (streams : List StreamValue) → IsValid W → OrdersStored W Z.orders → AreStarted W n W.streams streams → AllKeep keeps streams → ArePlaced W objects →
      ((l : Lock) → clock objects l ≡ 0) → IsFleetOf lock clock W Z n (fleet_of W n keeps objects streams)
  fleet-starts W Z n keeps objects streams valid stored started kept placed begins = record {
    workload = refl;
    steps = refl;
    kept = kept;
    fleet_is = record {
      valid = valid;
      stored = stored;
      workload = placed.workload;
      streams_are = are-streams W n streams objects started placed;
      shapes = λ s stream e held. absurd (held (started.own s stream e).order);
      come = start-come W (moment_of W streams objects) (is-start W n streams objects started placed) Z n;
      have = record {
        above = λ x. omega arith;
        clocks = λ l. inl (begins l);
        timed = λ apart s. tt;
        times = λ apart x. sym (begins (lock x));
      };
    };
    fresh = start-fresh W (moment_of W streams objects) (is-start W n streams objects started placed);
  }

  -- its own workload and number of steps are those that it is of
  pub own-fleet : (P : Parts → ℕ → Type 0) (W : Parts) (Z : Stored) (n : ℕ) (fleet : CrewValue) → IsFleetOf lock clock W Z n fleet → P fleet.workload fleet.steps → P W n
  own-fleet P W Z n fleet is p = subst (P W) is.steps (subst (λ V. P V fleet.steps) is.workload p)

  pub fleet-own : (P : Parts → ℕ → Type 0) (W : Parts) (Z : Stored) (n : ℕ) (fleet : CrewValue) → IsFleetOf lock clock W Z n fleet → P W n → P fleet.workload fleet.steps
  fleet-own P W Z n fleet is p = subst (λ V. P V fleet.steps) (sym is.workload) (subst (P W) (sym is.steps) p)

  -- if the fleet looks ended, it has ended so
  pub has-ended : (W : Parts) (Z : Stored) (n : ℕ) (fleet : CrewValue) (is : IsFleetOf lock clock W Z n fleet) (o : Outcome) → EndedWith fleet.workload fleet.steps fleet.streams fleet.objects (Some o) → HasEnded lock clock W Z n fleet o
  has-ended W Z n fleet is o ended = record {
    fleet_is = is;
    looks = looks-at W n fleet.streams fleet.objects o (own-fleet (λ V k. EndedWith V k fleet.streams fleet.objects (Some o)) W Z n fleet is ended);
  }

  -- a wave after which all streams have left it
  module _ (W : Parts) (Z : Stored) (n : ℕ) (objects held : ObjectsValue) (streams out : List StreamValue) (fresh : BeginsRounds W (moment_of W streams objects))
      (all : (s : ℕ) → s < W.streams → HasLeft W n (moment_of W streams objects) (moment_of W out held) s) where
    -- leaves no round under way
    pub fresh-after : BeginsRounds W (moment_of W out held)
    fresh-after s lt = (all s lt).fresh

    -- and less to do, unless nothing is left to do or a stream is spent
    pub lowers-after : IsFleetOver lock clock W Z n objects streams → IsFleetOver lock clock W Z n held out → (live : List Bool) → MakesWaveOver lock clock W Z live (moment_over lock clock W streams objects) (moment_over lock clock W out held) →
        Lowers W n (moment_of W streams objects) (moment_of W out held)
    lowers-after is later live made = wave-lowers W Z is.valid is.stored n (moment_over lock clock W streams objects) (moment_over lock clock W out held)
        (record {
          deeds = is.come.deeds;
          histories = is.come.histories;
          gathered = is.come.gathered;
          no_gap = is.come.no_gap;
          logs = is.come.logs;
          clocks = is.come.clocks;
          few = is.come.few;
          within = is.come.within;
        })
        later.come.within live made.wave fresh
        (λ s lt. record {
          fresh = (all s lt).fresh;
          why = elim (all s lt).why [
            | inl ended ↦ inl (record { before = ended.before; last = ended.last; log = ended.log; miss = ended.miss; empty = ended.empty })
            | inr spent ↦ inr spent
          ];
        })

  -- if the fleet goes on, a wave has lowered what is left
  pub goes-on-less : (W : Parts) (Z : Stored) (n : ℕ) (fleet : CrewValue) (is : IsFleetOf lock clock W Z n fleet) (old : Moment) → Lowers W n old (moment_in W fleet) → EndedWith fleet.workload fleet.steps fleet.streams fleet.objects None →
      work_at W n (moment_in W fleet) < work_at W n old
  goes-on-less W Z n fleet is old lowers goes =
      let own : EndedWith W n fleet.streams fleet.objects None = own-fleet (λ V k. EndedWith V k fleet.streams fleet.objects None) W Z n fleet is goes in
      lowers own.busy (λ s spent. own.steps s (spent.0, made-same (slice_get fleet.streams s) ∙ spent.1, spent.2))

  module _ (W : Parts) (Z : Stored) (n : ℕ) (fleet : CrewValue) (is : IsFleetOf lock clock W Z n fleet) where
    -- the logs of its streams are logs
    pub fleet-logs : AreLogs (logs_in fleet.streams)
    fleet-logs = come-logs W Z is.fleet_is.valid is.fleet_is.stored n fleet.streams fleet.objects is.fleet_is.streams_are is.fleet_is.come

    module _ (J : List Event) (merged : MergesTo (log_of (logs_in fleet.streams)) J) where
      merges : MergesTo (moment_of W fleet.streams fleet.objects).logs J
      merges = come-merges W Z is.fleet_is.valid is.fleet_is.stored n fleet.streams fleet.objects is.fleet_is.streams_are is.fleet_is.come J merged

      -- the merged journal is the run of one that ended
      pub fleet-ran : (o : Outcome) → LooksAs W n (moment_of W fleet.streams fleet.objects).parts (moment_of W fleet.streams fleet.objects).objects (made_at (moment_of W fleet.streams fleet.objects)) o → IsRunOf W Z n J o
      fleet-ran o looks = come-ran W Z is.fleet_is.valid is.fleet_is.stored n (moment_of W fleet.streams fleet.objects) is.fleet_is.come J merges o looks

      -- with Lamport's stamps, if each site has a lock of its own
      pub fleet-lamport : TellsSites lock → Lamport W J
      fleet-lamport apart = come-lamport W Z is.fleet_is.valid is.fleet_is.stored n (moment_of W fleet.streams fleet.objects) is.fleet_is.come (is.fleet_is.have.timed apart) J merges

      -- the picture is of where it ends
      pub fleet-picture : (rest : List StreamParts) (rows : List Row) → HaveLeft fleet.streams rest → ShowsUnits W rest fleet.objects rows → All (SaysWordsOf W) rows → IsPictureOf W J rows
      fleet-picture = come-picture W Z is.fleet_is.valid is.fleet_is.stored n fleet.streams fleet.objects is.fleet_is.streams_are is.fleet_is.come J merged

  -- what a run that ended so leaves
  pub fleet-leaves : (W : Parts) (Z : Stored) (n : ℕ) (fleet : CrewValue) (o : Outcome) → HasEnded lock clock W Z n fleet o → (rests : Rests) → AreLeft fleet.keeps fleet.streams rests →
      (rows : List Row) → ShowsUnits W rests.parts.items fleet.objects rows → All (SaysWordsOf W) rows → LeavesLogs lock W Z n fleet.keeps fleet.streams (record { journal = rests.journal; steps = rests.steps; picture = rows; outcome = o })
  fleet-leaves W Z n fleet o ended rests left rows shows words = record {
    events = left.events;
    holds = (fleet-ran W Z n fleet ended.fleet_is left.events left.merges o ended.looks, fleet-lamport W Z n fleet ended.fleet_is left.events left.merges, left.merges);
    kept = left.kept;
    pictured = fleet-picture W Z n fleet ended.fleet_is left.events left.merges rests.parts.items rows left.have shows words;
    counted = left.steps;
  }

  -- what a fleet leaves whose visits are answered
  pub waves-answers : (W : Parts) (Z : Stored) (Answered : ℕ → ℕ → List ℕ → Type 0) (n : ℕ) (fleet : CrewValue) (run : Run) → IsFleetOf lock clock W Z n fleet → AllAnswered W Answered fleet.streams
      → LeavesLogs lock W Z n fleet.keeps fleet.streams run → LeavesWaves lock W Z Answered n fleet.keeps run
  waves-answers W Z Answered n fleet run is all left = record {
    events = left.events;
    holds = (left.holds.0, merged-answers W Answered fleet.streams left.events (λ s stream e. (is.fleet_is.streams_are.own s stream e).number) all left.holds.2, left.holds.1);
    kept = left.kept;
    pictured = left.pictured;
    counted = left.counted;
  }
