-- A turn of one stream in a wave.
use Rattle.std.proofs.Common.{◌≡◌, ℕ, suc, ◌<◌, ◌≤◌, ◌+◌, ◌==◌, inl, inr, true, false, List, [], ◌∷◌, ◌++◌, map, length, Option, Some, None, refl, sym, ◌∙◌, ap, subst, arith}
use Rattle.std.proofs.lemmas.Bool.{cond-true, eq-eqb}
use Rattle.std.proofs.lemmas.List.{append-nil, append_assoc, length-append, map-append}
use Rattle.abt_machine.specs.declared.events.Site.{Site}
use Rattle.abt_machine.specs.declared.events.What.{What}
use Rattle.abt_machine.specs.declared.events.What.TheVariants as what
use Rattle.abt_machine.specs.declared.numbers.PoolNo.{PoolNo}
use Rattle.abt_machine.specs.declared.numbers.StreamNo.{StreamNo}
use Rattle.abt_machine.specs.Stored.{Stored}
use Rattle.abt_machine.specs.declared.workload.Parts.{Parts}
use Rattle.abt_machine.specs.Acts.{Act}
use Rattle.abt_machine.specs.declared.events.Event.{Event}
use Rattle.abt_machine.specs.Frames.{frame_at, frame_missed}
use Rattle.abt_machine.specs.State.{Frame}
use Rattle.abt_machine.specs.Workloads.{pools_of}
use Rattle.abt_machine.specs.Turns.{Heard, Steps}
use Rattle.abt_interleave.specs.Histories.{Extends}
use Rattle.abt_interleave.specs.Lines.{Sees}
use Rattle.abt_interleave.specs.Machines.{Machine}
use Rattle.abt_interleave.proofs.Prefixes.{extends-self, gone-along, gone-further, gone-nowhere, own-deeds-show}
use Rattle.abt_simulation.specs.Merging.{StreamDeed, event_of, machine_of}
use Rattle.abt_order.specs.Schedulers.{SchedulerValue}
use Rattle.abt_commons.specs.Replies.{Told}
use Rattle.abt_stream.specs.Heeding.{Heeds}
use Rattle.abt_stream.specs.Streams.{Rooms, StreamValue}
use Rattle.abt_stream.specs.Turned.{IsPrepared, IsSpent, Made, MetEnd, MissesLast, Turned, Went}
use Rattle.abt_stream.specs.declared.turns.Turn.{Turn}
use Rattle.abt_stream.specs.declared.turns.Turn.TheVariants as turn
use Rattle.abt_waves.specs.Locks.{HasSeenNothing, LocksValue, Moves}
use Rattle.abt_waves.specs.Stops.{EndsRoundSince, TurnEnds}
use Rattle.abt_waves.specs.Voyages.{HasGone, IsWorn}
use Rattle.abt_interleave.proofs.Carried.{last-append}

module _ {Lock Pass : Type 0} (locks : LocksValue Lock Pass) (lock : Site → Lock) (Z : Stored) where
  abbrev W : Parts
  W = locks.objects.workload

  abbrev M : Machine
  M = machine_of W Z

  abbrev Heeded : Pass → Site → ℕ → Act → Told → Pass → Type 0
  Heeded = Heeds (Moves locks lock) W

  -- what stream s does with these stamp, event and call
  abbrev doing : ℕ → ℕ → What → Option Heard → StreamDeed
  doing s stamp w heard = record { stamp = stamp; stream = s; what = w; heard = heard }

  -- the call of a deed is seen
  sees : (s at stamp : ℕ) (w : What) (before after : Pass) (heard : Option Heard) → locks.number before ≡ s → Went Heeded at before heard stamp after →
      Sees M lock locks.carried s (locks.sights before) at (doing s stamp w heard) heard (locks.sights after)
  sees s at stamp w before after None own went =
      subst (λ p. Sees M lock locks.carried s (locks.sights before) at (doing s stamp w None) None (locks.sights p)) (sym went.1)
      (own-deeds-show M Lock lock locks.carried s at (locks.sights before) (doing s stamp w None) went.0)
  sees s at stamp w before after (Some h) own went =
      subst (λ r. Sees M lock locks.carried r (locks.sights before) at (doing r stamp w (Some h)) (Some h) (locks.sights after)) own (went.0 Z w)

  module _ (first old : StreamValue) (before : Pass) (new : StreamValue) (after : Pass) (own : locks.number before ≡ old.number.0) (gone : HasGone locks lock W Z first old before) where
    numbered : locks.number before ≡ first.number.0
    numbered = own ∙ ap (λ (k : StreamNo). k.0) gone.number

    -- one deed more
    made-gone : (w : What) → Made Heeded W Z old before w new after → new.number ≡ old.number → new.budget ≡ old.budget → new.keeps ≡ old.keeps → HasGone locks lock W Z first new after
    made-gone w made number budget keeps =
        let d : StreamDeed = doing first.number.0 new.clock w made.heard in
        record {
          deeds = gone.deeds ++ d ∷ [];
          gone = gone-further M Lock lock locks.carried first.number.0 first.clock first.held old.held new.held gone.deeds (locks.sights before) (locks.sights after) d gone.gone refl
              (subst (λ (k : StreamNo). Steps W Z k.0 old.held w made.heard new.held) gone.number made.steps)
              (subst (λ t. Sees M lock locks.carried first.number.0 (locks.sights before) t d made.heard (locks.sights after)) gone.clock
              (sees first.number.0 old.clock new.clock w before after made.heard numbered made.went));
          log = made.log ∙ ((λ i. gone.log i ++ record { stamp = new.clock; stream = gone.number i; what = w } ∷ [])
              ∙ (append_assoc first.log (map event_of gone.deeds) (event_of d ∷ []) ∙ ap (λ es. first.log ++ es) (sym (map-append event_of gone.deeds (d ∷ [])))));
          clock = sym (last-append (λ (e : StreamDeed). e.stamp) first.clock gone.deeds (d ∷ []));
          number = number ∙ gone.number;
          budget = budget ∙ gone.budget;
          keeps = keeps ∙ gone.keeps;
        }

    -- none
    same-gone : new ≡ old → after ≡ before → HasGone locks lock W Z first new after
    same-gone stream pass = subst (λ (q : StreamValue × Pass). HasGone locks lock W Z first q.0 q.1) (λ i. (sym stream i, sym pass i)) gone

    met-gone : new ≡ old → MetEnd Heeded W Z old before after → HasGone locks lock W Z first new after
    met-gone same met = elim met [
      | inl own ↦ same-gone same own.2
      | inr call ↦ subst (λ s. HasGone locks lock W Z first s after) (sym same) (record {
        deeds = gone.deeds;
        gone = gone-along M Lock lock locks.carried first.number.0 first.clock first.held old.held gone.deeds (locks.sights before) (locks.sights after) gone.gone
            (subst (λ r. (l : Lock) → Extends r (locks.sights before l) (locks.sights after l)) numbered (call.3.0 Z).extends);
        log = gone.log;
        clock = gone.clock;
        number = gone.number;
        budget = gone.budget;
        keeps = gone.keeps;
      })
    ]

    pub turned-gone : (t : Turn) → Turned Heeded W Z old before t new after → new.number ≡ old.number → new.budget ≡ old.budget → new.keeps ≡ old.keeps → HasGone locks lock W Z first new after
    turned-gone turn.Stepped h number budget keeps = made-gone h.0 h.1 number budget keeps
    turned-gone turn.EmptyRound h number budget keeps = made-gone (what.Miss h.0) h.1 number budget keeps
    turned-gone turn.Moved h number budget keeps = made-gone h.0 h.1 number budget keeps
    turned-gone turn.Spent h number budget keeps = same-gone h.1 h.2
    turned-gone turn.Worn h number budget keeps = met-gone h.0 h.1

  module _ (old : StreamValue) (before : Pass) (new : StreamValue) (after : Pass) where
    -- a miss of the last pool of a round ends it empty, and begins the next
    frame-ends : (f : Frame) (p : ℕ) → suc (length f.seen) ≡ length (pools_of W f.sched) → frame_missed W f p ≡ frame_at f.sched (suc f.round) true
    frame-ends f p e = cond-true (length (pools_of W f.sched) == suc (length f.seen)) (frame_at f.sched (suc f.round) true) (record { sched = f.sched; round = f.round; seen = f.seen ++ p ∷ []; empty = false })
        (eq-eqb (length (pools_of W f.sched)) (suc (length f.seen)) (sym e))

    round-ends : (p : PoolNo) → Made Heeded W Z old before (what.Miss p) new after → MissesLast W old → EndsRoundSince old.log new
    round-ends p made last =
        let top : new.held.own.top ≡ frame_at old.held.own.top.sched (suc old.held.own.top.round) true = ap (λ h. h.own.top) made.steps.3 ∙ frame-ends old.held.own.top p.0 last in
        record {
          before = [];
          last = record { stamp = new.clock; stream = old.number; what = what.Miss p };
          log_is = made.log;
          miss = tt;
          empty = ap (λ f. f.empty) top;
          fresh = ap (λ f. f.seen) top;
        }

    -- what a turn says of why the stream may leave after it
    pub turned-ends : (t : Turn) → Turned Heeded W Z old before t new after → TurnEnds locks lock W old.log new after t
    turned-ends turn.Stepped h = tt
    turned-ends turn.EmptyRound h = round-ends h.0 h.1 h.2
    turned-ends turn.Moved h = tt
    turned-ends turn.Spent h = subst (IsSpent W) (sym h.1) h.0
    turned-ends turn.Worn h = subst (λ s. IsWorn locks lock s after) (sym h.0) (elim h.1 [ inl own ↦ inl own.1 | inr call ↦ inr (call.0, (call.3.0 Z).worn) ])

    module _ (n : ℕ) (short : length old.log < n) where
      grown : (w : What) → Made Heeded W Z old before w new after → length new.log ≤ n
      grown w made = let e : length new.log ≡ length old.log + 1 = ap length made.log ∙ length-append old.log (_ ∷ []) in omega arith

      kept : new ≡ old → length new.log ≤ n
      kept e = let q : length new.log ≡ length old.log = ap (λ (s : StreamValue). length s.log) e in omega arith

      -- a log that was shorter than a bound is at most as long after the turn
      pub few-after : (t : Turn) → Turned Heeded W Z old before t new after → length new.log ≤ n
      few-after turn.Stepped h = grown h.0 h.1
      few-after turn.EmptyRound h = grown (what.Miss h.0) h.1
      few-after turn.Moved h = grown h.0 h.1
      few-after turn.Spent h = kept h.1
      few-after turn.Worn h = kept h.0

-- the stream with another scheduler, order and room
abbrev prepared : StreamValue → SchedulerValue → List PoolNo → Rooms → StreamValue
prepared s scheduler order rooms = record s { top = record s.top { scheduler = scheduler }; order = order; rooms = rooms }

module _ {Lock Pass : Type 0} (locks : LocksValue Lock Pass) (lock : Site → Lock) (W : Parts) (Z : Stored) where
  -- what a stream has done does not depend on what it took for a turn
  pub prepared-gone : (first old ready : StreamValue) (pass : Pass) → IsPrepared old ready → HasGone locks lock W Z first old pass → HasGone locks lock W Z first ready pass
  prepared-gone first old ready pass is g = subst (λ s. HasGone locks lock W Z first s pass) (sym is) (same ready.top.scheduler ready.order ready.rooms) where
    same : (scheduler : SchedulerValue) (order : List PoolNo) (rooms : Rooms) → HasGone locks lock W Z first (prepared old scheduler order rooms) pass
    same scheduler order rooms = record { deeds = g.deeds; gone = g.gone; log = g.log; clock = g.clock; number = g.number; budget = g.budget; keeps = g.keeps }

  -- when the wave begins a stream has done nothing, and its pass has seen nothing
  pub none-gone : (stream : StreamValue) (pass : Pass) → HasSeenNothing locks pass → HasGone locks lock W Z stream stream pass
  none-gone stream pass fresh = record {
    deeds = [];
    gone = gone-along (machine_of W Z) Lock lock locks.carried stream.number.0 stream.clock stream.held stream.held [] (λ l. []) (locks.sights pass)
        (gone-nowhere (machine_of W Z) Lock lock locks.carried stream.number.0 stream.clock stream.held)
        (λ l. subst (λ line. Extends stream.number.0 [] line) (sym (fresh l)) (extends-self stream.number.0 []));
    log = sym (append-nil stream.log);
    clock = refl;
    number = refl;
    budget = refl;
    keeps = refl;
  }

  -- a round that ended empty since a turn did so since the wave began
  pub ends-since : (first old stream : StreamValue) (pass : Pass) → HasGone locks lock W Z first old pass → EndsRoundSince old.log stream → EndsRoundSince first.log stream
  ends-since first old stream pass gone ends = record {
    before = map event_of gone.deeds ++ ends.before;
    last = ends.last;
    log_is = ends.log_is ∙ (ap (λ log. log ++ (ends.before ++ ends.last ∷ [])) gone.log
        ∙ (append_assoc first.log (map event_of gone.deeds) (ends.before ++ ends.last ∷ []) ∙ ap (λ es. first.log ++ es) (sym (append_assoc (map event_of gone.deeds) ends.before (ends.last ∷ [])))));
    miss = ends.miss;
    empty = ends.empty;
    fresh = ends.fresh;
  }
