-- A turn of a stream that took before what the turn needs.
use Rattle.std.proofs.Common.{◌≡◌, ℕ, ◌+◌, ◌<◌, ◌≤◌, List, [], ◌∷◌, length, subst, ap, arith, ◌∙◌}
use Rattle.std.proofs.lemmas.List.{length-append}
use Rattle.abt_machine.specs.declared.numbers.PoolNo.{PoolNo}
use Rattle.abt_machine.specs.declared.events.What.{What}
use Rattle.abt_machine.specs.Stored.{Stored}
use Rattle.abt_machine.specs.declared.workload.Parts.{Parts}
use Rattle.abt_commons.specs.Held.{ObjectsValue}
use Rattle.abt_order.specs.Schedulers.{SchedulerValue}
use Rattle.abt_stream.specs.Streams.{Rooms, StreamValue}
use Rattle.abt_stream.specs.Turned.{IsPrepared}
use Rattle.abt_stream.specs.declared.turns.Turn.{Turn}
use Rattle.abt_stream.specs.declared.turns.Turn.TheVariants as turn
use Rattle.abt_drain.specs.Crews.{Advances, TurnsBy}

-- the stream with another scheduler, order and room
abbrev prepared : StreamValue → SchedulerValue → List PoolNo → Rooms → StreamValue
prepared s scheduler order rooms = record s { top = record s.top { scheduler = scheduler }; order = order; rooms = rooms }

module _ (W : Parts) (Z : Stored) (old : StreamValue) (scheduler : SchedulerValue) (order : List PoolNo) (rooms : Rooms) (before : ObjectsValue) (new : StreamValue) (after : ObjectsValue) where
  same-advances : (w : What) → Advances W Z (prepared old scheduler order rooms) before w new after → Advances W Z old before w new after
  same-advances w a = record { heard = a.heard; steps = a.steps; answered = a.answered; clock = a.clock; times = a.times; log = a.log }

  same-turns : (t : Turn) → TurnsBy W Z (prepared old scheduler order rooms) before t new after → TurnsBy W Z old before t new after
  same-turns turn.Stepped h = (h.0, same-advances h.0 h.1, h.2)
  same-turns turn.EmptyRound h = (h.0, same-advances _ h.1, h.2)
  same-turns turn.Moved h = (h.0, same-advances h.0 h.1, h.2, h.3)
  same-turns turn.Spent h = h
  same-turns turn.Worn h = h

-- it is a turn of the stream as it was
pub prepared-turns : (W : Parts) (Z : Stored) (old ready : StreamValue) (before : ObjectsValue) (new : StreamValue) (after : ObjectsValue) (t : Turn) → IsPrepared old ready →
    TurnsBy W Z ready before t new after → TurnsBy W Z old before t new after
prepared-turns W Z old ready before new after t is h =
    same-turns W Z old ready.top.scheduler ready.order ready.rooms before new after t (subst (λ s. TurnsBy W Z s before t new after) is h)

module _ (W : Parts) (Z : Stored) (ready : StreamValue) (before : ObjectsValue) (new : StreamValue) (after : ObjectsValue) (n : ℕ) (short : length ready.log < n) where
  grown : (w : What) → Advances W Z ready before w new after → length new.log ≤ n
  grown w a = let e : length new.log ≡ length ready.log + 1 = ap length a.log ∙ length-append ready.log (_ ∷ []) in omega arith

  kept : new.log ≡ ready.log → length new.log ≤ n
  kept e = let q : length new.log ≡ length ready.log = ap length e in omega arith

  -- a log that was shorter than a bound is at most as long after the turn
  pub few-after : (t : Turn) → TurnsBy W Z ready before t new after → length new.log ≤ n
  few-after turn.Stepped h = grown h.0 h.1
  few-after turn.EmptyRound h = grown _ h.1
  few-after turn.Moved h = grown h.0 h.1
  few-after turn.Spent h = kept h.3
  few-after turn.Worn h = kept h.1
