-- What a crew leaves at the end.
use Rattle.std.proofs.Common.{◌≡◌, ℕ, zero, suc, false, ◌<◌, List, [], ◌∷◌, ◌++◌, length, Some, slice_get, refl, sym, ◌∙◌, ap, subst, inl, inr, All, arith}
use Rattle.std.proofs.lemmas.Option.{slice_get_within}
use Rattle.abt_machine.specs.declared.events.Event.{Event}
use Rattle.abt_machine.specs.declared.events.Outcome.{Outcome}
use Rattle.abt_machine.specs.Stored.{Stored}
use Rattle.abt_machine.specs.declared.workload.Parts.{Parts}
use Rattle.abt_machine.specs.Rounds.{OrdersStored}
use Rattle.abt_machine.specs.Runs.{last_state}
use Rattle.abt_machine.specs.Texts.{shown_units}
use Rattle.abt_machine.specs.Valid.{IsValid}
use Rattle.abt_calls.specs.Holders.{units_held}
use Rattle.abt_interleave.specs.Merges.{IsLogOf}
use Rattle.abt_interleave.proofs.Members.{Among, all-from-among}
use Rattle.abt_commons.specs.Held.{ObjectsValue}
use Rattle.abt_merge.specs.Logs.{AreLogs, log_of}
use Rattle.abt_outcomes.specs.Values.{LooksAs}
use Rattle.abt_report.specs.declared.pictures.Row.{Row}
use Rattle.abt_report.specs.Pictures.{IsPictureOf, SaysWordsOf}
use Rattle.abt_report.specs.Pictures as picture
use Rattle.abt_simulation.specs.Journals.{MergesTo}
use Rattle.abt_stream.specs.declared.stream.StreamParts.{StreamParts}
use Rattle.abt_stream.specs.Streams.{FitsStream, StreamValue}
use Rattle.abt_laws.proofs.Options.{some-injective}
use Rattle.abt_drain.specs.Crews.{CrewValue, HaveStopped, IsCrew, log_from, moment_in, moment_of}
use Rattle.abt_drain.specs.Ends.{AreLeft, HaveLeft, Leaves, LeavesLogs, logs_in}
use Rattle.abt_drain.specs.declared.run.Run.{Run}
use Rattle.abt_drain.specs.declared.streams.Rests.{Rests}
use Rattle.abt_record.specs.Records.{IsKept}
use Rattle.abt_drain.specs.InRotation.{IsMadeInRotation}
use Rattle.abt_drain.specs.Looks.{AreStreams, held_from}
use Rattle.abt_drain.specs.Moments.{HasCome, LeadTo, Moment, made_at}
use Rattle.abt_drain.specs.Pictures.{LeavesWhatFits, ShowsUnits, units_in_parts}
use Rattle.abt_drain.specs.Rotations.{IsAtStop}
use Rattle.abt_drain.specs.Runs.{HasRun}
use Rattle.abt_drain.proofs.Coming.{come-lead, come-log}
use Rattle.abt_drain.proofs.Ending.{has-run}
use Rattle.abt_drain.proofs.Journals.{has-come}
use Rattle.abt_drain.proofs.Leading.{lead-sound}
use Rattle.abt_drain.proofs.Leaving.{left-fits}
use Rattle.abt_drain.proofs.Stopping.{made-in-rotation}

-- Lists.

-- the log of a stream among those of all
pub log-at : (streams : List StreamValue) (s : ℕ) → log_of (logs_in streams) s ≡ log_from (slice_get streams s)
log-at [] s = refl
log-at (stream ∷ streams) zero = refl
log-at (stream ∷ streams) (suc s) = log-at streams s

-- the only element of a list is one
pub only-one : {A : Type 0} (x y : A) (xs : List A) → xs ≡ x ∷ [] → xs ≡ y ∷ [] → x ≡ y
only-one x y xs e f = head-is (sym e ∙ f) where
  head-is : {A : Type 0} {x y : A} → x ∷ [] ≡ y ∷ [] → x ≡ y
  head-is e = cc

pub none-left : HaveLeft [] []
none-left = tt

-- one stream more
pub left-push : (streams : List StreamValue) (rest : List StreamParts) (stream : StreamValue) (parts : StreamParts) → HaveLeft streams rest → Leaves stream parts →
    HaveLeft (streams ++ stream ∷ []) (rest ++ parts ∷ [])
left-push [] [] stream parts all next = (next, tt)
left-push [] (p ∷ rest) stream parts all next = absurd all
left-push (s ∷ streams) [] stream parts all next = absurd all
left-push (s ∷ streams) (p ∷ rest) stream parts all next = (all.0, left-push streams rest stream parts all.1 next)

pub left-many : (streams : List StreamValue) (rest : List StreamParts) → HaveLeft streams rest → length rest ≡ length streams
left-many [] [] all = refl
left-many [] (p ∷ rest) all = absurd all
left-many (s ∷ streams) [] all = absurd all
left-many (s ∷ streams) (p ∷ rest) all = ap suc (left-many streams rest all.1)

-- what stream s left
pub left-at : (streams : List StreamValue) (rest : List StreamParts) (s : ℕ) (parts : StreamParts) → HaveLeft streams rest → slice_get rest s ≡ Some parts →
    (stream : StreamValue) × (slice_get streams s ≡ Some stream) × (units_in_parts parts ≡ units_held stream.held)
left-at [] [] s parts all e = cc
left-at [] (p ∷ rest) s parts all e = absurd all
left-at (stream ∷ streams) [] s parts all e = absurd all
left-at (stream ∷ streams) (p ∷ rest) zero parts all e = (stream, refl, subst (λ q. units_in_parts q ≡ units_held stream.held) (some-injective e) all.0.0)
left-at (stream ∷ streams) (p ∷ rest) (suc s) parts all e = left-at streams rest s parts all.1 e

-- the units that they left fit the workload
pub all-fit : (W : Parts) (streams : List StreamValue) (rest : List StreamParts) → HaveLeft streams rest → ((s : ℕ) (stream : StreamValue) → slice_get streams s ≡ Some stream → FitsStream W stream) → All (LeavesWhatFits W) rest
all-fit W streams rest left fits = all-from-among (LeavesWhatFits W) rest (λ parts m. among streams rest parts left fits m) where
  among : (streams : List StreamValue) (rest : List StreamParts) (parts : StreamParts) → HaveLeft streams rest → ((s : ℕ) (stream : StreamValue) → slice_get streams s ≡ Some stream → FitsStream W stream) → Among parts rest → LeavesWhatFits W parts
  among streams [] parts left fits m = absurd m
  among [] (p ∷ rest) parts left fits m = absurd left
  among (stream ∷ streams) (p ∷ rest) parts left fits m = elim m [
    | inl e ↦ subst (LeavesWhatFits W) (sym e) (left-fits stream p W (fits 0 stream refl) left.0.0)
    | inr later ↦ among streams rest parts left.1 (λ s other at. fits (suc s) other at) later
  ]

-- the picture shows the units of each run that led to these streams and objects
pub lead-shows : (W : Parts) (n : ℕ) (streams : List StreamValue) (objects : ObjectsValue) (rest : List StreamParts) (rows : List Row) → IsValid W → AreStreams W n streams → HaveLeft streams rest → ShowsUnits W rest objects rows →
    (Z : Stored) (J : List Event) → OrdersStored W Z.orders → LeadTo W Z J (moment_of W streams objects) → shown_units W (last_state W J) ≡ picture.units_in_rows rows
lead-shows W n streams objects rest rows valid are left shows Z J stored lead = shows Z (last_state W J) (lead-sound W Z valid stored J (moment_of W streams objects) lead) (record {
  many = left-many streams rest left ∙ are.many;
  left = λ s parts e. (
      let at : (stream : StreamValue) × (slice_get streams s ≡ Some stream) × (units_in_parts parts ≡ units_held stream.held) = left-at streams rest s parts left e in
      at.2 ∙ ap units_held (sym (lead.stand.streams s (declared s at.0 at.1) ∙ ap (held_from _) at.1)));
  held = lead.stand.sites;
}) where
  declared : (s : ℕ) (stream : StreamValue) → slice_get streams s ≡ Some stream → s < W.streams
  declared s stream e = subst (λ k. s < k) are.many (slice_get_within streams s stream e)

-- after a rotation without a step an only stream is at its stop
stopped-at-stop : (W : Parts) (Z : Stored) (n : ℕ) (m : Moment) (o : Outcome) → HaveStopped W Z n m o → IsAtStop W n m
stopped-at-stop W Z n m o stopped alone = elim (stopped.turned.emptied refl 0 (omega arith)) [ inl emptied ↦ inl emptied.1 | inr spent ↦ inr spent ]

module _ (W : Parts) (Z : Stored) (valid : IsValid W) (stored : OrdersStored W Z.orders) (n : ℕ) (streams : List StreamValue) (objects : ObjectsValue) (are : AreStreams W n streams)
    (come : HasCome W Z n (moment_of W streams objects)) where
  -- the logs of streams that have come to a moment are logs
  pub come-logs : AreLogs (logs_in streams)
  come-logs s = subst (IsLogOf (λ (e : Event). e.stamp) (λ (e : Event). e.stream.0) s) (sym (log-at streams s)) (come-log W Z valid stored n (moment_of W streams objects) come s)

  module _ (J : List Event) (merged : MergesTo (log_of (logs_in streams)) J) where
    pub come-merges : MergesTo (moment_of W streams objects).logs J
    come-merges = record { in_order = merged.in_order; each = λ s. merged.each s ∙ log-at streams s }

    lead : LeadTo W Z J (moment_of W streams objects)
    lead = come-lead W Z valid stored n (moment_of W streams objects) come J come-merges

    -- the picture is of where it ends
    pub come-picture : (rest : List StreamParts) (rows : List Row) → HaveLeft streams rest → ShowsUnits W rest objects rows → All (SaysWordsOf W) rows → IsPictureOf W J rows
    come-picture rest rows left shows words = record { shown = lead-shows W n streams objects rest rows valid are left shows Z J stored lead; words = words }

module _ (W : Parts) (Z : Stored) (n : ℕ) (crew : CrewValue) (is : IsCrew W Z n crew) where
  come : HasCome W Z n (moment_in W crew)
  come = has-come W Z is.valid is.stored n (moment_in W crew) is.reached

  -- the logs of its streams are logs
  pub are-logs : AreLogs (logs_in crew.streams)
  are-logs = come-logs W Z is.valid is.stored n crew.streams crew.objects is.streams come

  module _ (J : List Event) (merged : MergesTo (log_of (logs_in crew.streams)) J) where
    merges : MergesTo (moment_in W crew).logs J
    merges = come-merges W Z is.valid is.stored n crew.streams crew.objects is.streams come J merged

    -- the merged journal is the run of a crew that looks as it ended so
    pub crew-ended : (o : Outcome) → IsAtStop W n (moment_in W crew) → LooksAs W n (moment_in W crew).parts (moment_in W crew).objects (made_at (moment_in W crew)) o → HasRun W Z n J o
    crew-ended o at_stop looks = has-run W Z is.valid is.stored n (moment_in W crew) is.reached is.going at_stop J merges o looks

    -- and of one that stopped
    pub crew-ran : (o : Outcome) → HaveStopped W Z n (moment_in W crew) o → HasRun W Z n J o
    crew-ran o stopped = crew-ended o (stopped-at-stop W Z n (moment_in W crew) o stopped) stopped.looks

    -- which were made in rotation
    pub crew-rotated : (o : Outcome) → HaveStopped W Z n (moment_in W crew) o → IsMadeInRotation W Z n J
    crew-rotated o stopped = made-in-rotation W Z n stopped.before (moment_in W crew) false stopped.turned stopped.rotated is.valid is.stored refl o stopped.looks J merges

    -- the picture is of where it ends
    pub crew-picture : (rest : List StreamParts) (rows : List Row) → HaveLeft crew.streams rest → ShowsUnits W rest crew.objects rows → All (SaysWordsOf W) rows → IsPictureOf W J rows
    crew-picture = come-picture W Z is.valid is.stored n crew.streams crew.objects is.streams come J merged

  -- what a crew leaves that stopped, when its streams left these, and this picture was made
  pub crew-leaves : (run : Run) (rests : Rests) → HaveStopped W Z n (moment_in W crew) run.outcome → AreLeft crew.keeps crew.streams rests → run.journal ≡ rests.journal → run.steps ≡ rests.steps →
      ShowsUnits W rests.parts.items crew.objects run.picture → All (SaysWordsOf W) run.picture → LeavesLogs W Z n crew.keeps crew.streams run
  crew-leaves run rests stopped left journal steps shows words = record {
    events = left.events;
    holds = (crew-ran left.events left.merges run.outcome stopped, crew-rotated left.events left.merges run.outcome stopped, left.merges);
    kept = subst (IsKept crew.keeps left.events) (sym journal) left.kept;
    pictured = crew-picture left.events left.merges rests.parts.items run.picture left.have shows words;
    counted = steps ∙ left.steps;
  }
