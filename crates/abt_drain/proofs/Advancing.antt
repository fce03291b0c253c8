-- A turn of one stream over objects in the hands of one caller.
use Rattle.std.proofs.Common.{◌≡◌, ℕ, suc, max, ◌^◌, ◌==◌, ◌⊎◌, inl, inr, true, false, [], ◌∷◌, ◌++◌, length, Option, Some, None, refl, sym, ◌∙◌, ap, arith}
use Rattle.std.proofs.lemmas.Bool.{cases_lt, cond-true, cond-false, eq-eqb, ne_eqb}
use Rattle.abt_machine.specs.declared.events.Site.{Site}
use Rattle.abt_machine.specs.declared.events.What.{What}
use Rattle.abt_machine.specs.declared.events.What.TheVariants as what
use Rattle.abt_machine.specs.declared.numbers.PoolNo.{PoolNo}
use Rattle.abt_machine.specs.Stored.{Stored}
use Rattle.abt_machine.specs.declared.workload.Parts.{Parts}
use Rattle.abt_machine.specs.Frames.{frame_at, frame_missed}
use Rattle.abt_machine.specs.Gives.{SiteGives}
use Rattle.abt_machine.specs.Outcomes.{is_step}
use Rattle.abt_machine.specs.State.{Frame}
use Rattle.abt_machine.specs.Turns.{Heard}
use Rattle.abt_machine.specs.Workloads.{pools_of}
use Rattle.abt_interleave.specs.Deeds.{Answered}
use Rattle.abt_laws.specs.Laws.{IsMiss}
use Rattle.abt_commons.specs.Held.{ObjectsValue, clock_at, object_at}
use Rattle.abt_commons.specs.Plains.{PlainMoves}
use Rattle.abt_stream.specs.Heeding.{Heeds}
use Rattle.abt_stream.specs.Streams.{StreamValue}
use Rattle.abt_stream.specs.Turned.{MissesLast, IsMove, Made, MetEnd, Turned, Went}
use Rattle.abt_stream.specs.declared.turns.Turn.{Turn}
use Rattle.abt_stream.specs.declared.turns.Turn.TheVariants as turn
use Rattle.abt_drain.specs.Crews.{Advances, TurnsBy}
use Rattle.abt_drain.specs.Moments.{SetsClock, stamp_by}

-- what a call does, if there was one
record Called (before : ObjectsValue) (at : ℕ) (heard : Option Heard) (stamp : ℕ) (after : ObjectsValue) : Type 0 where
  answered : Answered SiteGives (object_at before) heard (object_at after)
  clock : stamp ≡ stamp_by at (clock_at before) heard
  times : SetsClock (clock_at before) heard stamp (clock_at after)

called : (W : Parts) (before after : ObjectsValue) (at stamp : ℕ) (heard : Option Heard) → Went (Heeds PlainMoves W) at before heard stamp after → Called before at heard stamp after
called W before after at stamp None went = record {
  answered = λ x. ap (λ o. object_at o x) went.1;
  clock = went.0;
  times = λ x. ap (λ o. clock_at o x) went.1;
}
called W before after at stamp (Some h) went = record {
  answered = (went.0.gives, went.0.other_objects);
  clock = went.0.stamped;
  times = (went.0.clock, went.0.other_clocks);
}

module _ (W : Parts) (Z : Stored) (old : StreamValue) (before : ObjectsValue) (new : StreamValue) (after : ObjectsValue) where
  made-advances : (w : What) → Made (Heeds PlainMoves W) W Z old before w new after → Advances W Z old before w new after
  made-advances w made =
      let c : Called before old.clock made.heard new.clock after = called W before after old.clock new.clock made.heard made.went in
      record { heard = made.heard; steps = made.steps; answered = c.answered; clock = c.clock; times = c.times; log = made.log }

  -- a miss of the last pool ends the round empty, and one of any other pool does not
  last-empties : (f : Frame) (p : ℕ) → suc (length f.seen) ≡ length (pools_of W f.sched) → (frame_missed W f p).empty ≡ true
  last-empties f p e = ap (λ g. g.empty) (cond-true (length (pools_of W f.sched) == suc (length f.seen)) (frame_at f.sched (suc f.round) true) (record { sched = f.sched; round = f.round; seen = f.seen ++ p ∷ []; empty = false })
      (eq-eqb (length (pools_of W f.sched)) (suc (length f.seen)) (sym e)))

  other-goes-on : (f : Frame) (p : ℕ) → (suc (length f.seen) ≡ length (pools_of W f.sched) → ⊥) → (frame_missed W f p).empty ≡ false
  other-goes-on f p ne = ap (λ g. g.empty) (cond-false (length (pools_of W f.sched) == suc (length f.seen)) (frame_at f.sched (suc f.round) true) (record { sched = f.sched; round = f.round; seen = f.seen ++ p ∷ []; empty = false })
      (ne_eqb (length (pools_of W f.sched)) (suc (length f.seen)) (λ e. ne (sym e))))

  missed-empty : (p : PoolNo) → Made (Heeds PlainMoves W) W Z old before (what.Miss p) new after → MissesLast W old → new.held.own.top.empty ≡ true
  missed-empty p made ends = ap (λ h. h.own.top.empty) made.steps.3 ∙ last-empties old.held.own.top p.0 ends

  move-is : (w : What) → Made (Heeds PlainMoves W) W Z old before w new after → IsMove W old w → (is_step w ≡ false) × (IsMiss w → new.held.own.top.empty ≡ false)
  move-is (what.Miss p) made move = (refl, λ miss. ap (λ h. h.own.top.empty) made.steps.3 ∙ other-goes-on old.held.own.top p.0 move)
  move-is (what.Take p u) made move = (refl, λ miss. absurd miss)
  move-is (what.Look u) made move = (refl, λ miss. absurd miss)
  move-is (what.Step u k c) made move = absurd move
  move-is (what.Call u k n) made move = absurd move
  move-is (what.Put u p) made move = (refl, λ miss. absurd miss)
  move-is (what.End u c) made move = (refl, λ miss. absurd miss)
  move-is (what.Enter u) made move = (refl, λ miss. absurd miss)
  move-is (what.Leave u) made move = (refl, λ miss. absurd miss)

  greater-ends : (a b m : ℕ) → max a b ≡ m → (a ≡ m) ⊎ (b ≡ m)
  greater-ends a b m e = elim (cases_lt a b) [ inl lt ↦ inr (omega arith) | inr le ↦ inl (omega arith) ]

  met-end : MetEnd (Heeds PlainMoves W) W Z old before after → (old.clock ≡ 2 ^ 62) ⊎ ((x : Site) × (clock_at before x ≡ 2 ^ 62))
  met-end met = elim met [
    | inl own ↦ inl own.1
    | inr call ↦ elim (greater-ends old.clock (clock_at before call.0) (2 ^ 62) call.3.0.0) [ inl e ↦ inl e | inr e ↦ inr (call.0, e) ]
  ]

  -- a turn over a plain pass
  pub turned-by : (t : Turn) → Turned (Heeds PlainMoves W) W Z old before t new after → TurnsBy W Z old before t new after
  turned-by turn.Stepped h = (h.0, made-advances h.0 h.1, h.2)
  turned-by turn.EmptyRound h = (h.0, made-advances (what.Miss h.0) h.1, missed-empty h.0 h.1 h.2)
  turned-by turn.Moved h = (h.0, made-advances h.0 h.1, (move-is h.0 h.1 h.2).0, (move-is h.0 h.1 h.2).1)
  turned-by turn.Spent h = (h.0.0, h.0.1, ap (λ (s : StreamValue). s.held) h.1, ap (λ (s : StreamValue). s.log) h.1, ap (λ (s : StreamValue). s.clock) h.1, h.2)
  turned-by turn.Worn h = (met-end h.1, ap (λ (s : StreamValue). s.log) h.0)
