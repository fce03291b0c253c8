-- What a closed hall has left, and what its passes see at first, in the words of waves.
use Rattle.std.proofs.Common.{◌≡◌, ℕ, max, List, [], slice_get, Option, None, Some, refl, ap, subst}
use Rattle.std.specs.List.{All}
use Rattle.std.proofs.lemmas.List.Elements.{All-weaker}
use mathlib.Core.Path.{fun_ext}
use Rattle.abt_machine.specs.declared.workload.Parts.{Parts}
use Rattle.abt_machine.specs.Valid.{IsValid}
use Rattle.abt_booth.specs.declared.booth.Seat.{Seat}
use Rattle.abt_booth.specs.declared.object.Object.{Ghosts}
use Rattle.abt_booth.specs.Seats.{opening_of, seats_of, seen_of}
use Rattle.abt_commons.specs.declared.acts.Ask.{Ask}
use Rattle.abt_commons.specs.declared.acts.Answer.{Answer}
use Rattle.abt_commons.specs.Halls.{HallLeft, HallValue, hall_line, seen_from, the_lock}
use Rattle.abt_commons.specs.Held.{ObjectsValue, object_at}
use Rattle.abt_commons.specs.Sights.{SiteCall, Leaves}
use Rattle.abt_waves.specs.Locks.{AreClosed, HasSeenNothing, LocksValue, sights_from}
use Rattle.hall_waves.specs.HallLocks.{clock_of_hall, locks_of_hall}
use Rattle.hall_waves.proofs.HallClocks.{every-is}

module _ (hall : HallValue) where
  abbrev W : Parts
  W = (opening_of hall.booth).workload

module _ {g : Ghosts ObjectsValue Ask Answer} (hall : HallValue) where
  abbrev locks : LocksValue (Unit {0}) (Seat ObjectsValue Ask Answer g)
  locks = locks_of_hall hall

  same-sights : (o : Option (Seat ObjectsValue Ask Answer g)) (l : Unit {0}) → hall_line (W hall) (seen_from o) ≡ sights_from locks o l
  same-sights None l = refl
  same-sights (Some pass) l = refl

  pub hall_fresh : (passes : List (Seat ObjectsValue Ask Answer g)) → All (λ pass. seen_of pass ≡ []) passes → All (HasSeenNothing locks) passes
  hall_fresh passes = All-weaker (λ pass. seen_of pass ≡ []) (HasSeenNothing locks) (λ pass nothing l. ap (hall_line (W hall)) nothing) passes

  pub hall-closed : (passes : List (Seat ObjectsValue Ask Answer g)) (held : ObjectsValue) → IsValid (W hall) → HallLeft hall.booth hall.clock passes held → AreClosed locks the_lock clock_of_hall passes held
  hall-closed passes held valid left = record {
    workload = left.workload;
    closing = λ l. left.closing;
    left = λ l. subst (λ (seen : ℕ → Unit {0} → List SiteCall). Leaves (W hall) the_lock (λ k. hall.clock) l (seats_of hall.booth) seen (object_at (opening_of hall.booth)) (object_at held) left.closing)
        (fun_ext {f = λ s k. hall_line (W hall) (seen_from (slice_get passes s))} {g = λ s. sights_from locks (slice_get passes s)}
        (λ s. fun_ext {f = λ k. hall_line (W hall) (seen_from (slice_get passes s))} {g = sights_from locks (slice_get passes s)} (λ k. same-sights (slice_get passes s) k))) left.left;
    clocks = λ l. every-is (W hall) held (max hall.clock left.closing) valid left.clocks left.every;
  }
