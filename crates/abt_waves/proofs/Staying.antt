-- Fleets of several streams over a lock for each site are crews, which stay so while one stream makes turns.
use Rattle.std.proofs.Common.{◌≡◌, ◌≢◌, ℕ, ◌<◌, ◌≤◌, ◌^◌, inl, inr, Bool, true, [], length, set, slice_get, get_or, Some, sym, ◌∙◌, ap, subst, arith}
use Rattle.std.proofs.lemmas.Bool.{cases_eq}
use Rattle.std.proofs.lemmas.List.{length-set, set-get_or, set-set}
use Rattle.abt_machine.specs.Stored.{Stored}
use Rattle.abt_machine.specs.declared.workload.Parts.{Parts}
use Rattle.abt_machine.specs.Outcomes.{steps_in}
use Rattle.abt_commons.specs.Held.{ObjectsValue, clock_at}
use Rattle.abt_commons.specs.Splits.{own_lock}
use Rattle.abt_calls.specs.Starts.{start_part}
use Rattle.abt_commons.proofs.Numbers.{get-set-here, get-set-other}
use Rattle.abt_stream.specs.Streams.{FitsShapes, FitsStream, StreamValue}
use Rattle.abt_stream.specs.declared.turns.Turn.{Turn}
use Rattle.abt_drain.specs.Crews.{CrewValue, IsCrew, TurnsBy, moment_in}
use Rattle.abt_drain.specs.Looks.{IsStreamOf, held_from}
use Rattle.abt_drain.specs.Rotations.{work_at}
use Rattle.abt_drain.proofs.Crewed.{crew-at, crew-turned}
use Rattle.abt_waves.specs.Staying.{BeginsAnew, MayEnd, StaysCrew, with_stream}
use Rattle.abt_waves.specs.Fleets.{IsFleet}
use Rattle.abt_waves.specs.Leaving.{BeginsRounds}
use Rattle.abt_waves.specs.Waves.{IsFleetOf}
use Rattle.abt_waves.proofs.Falling.{turn-fresh, turn-raises-none}
use Rattle.abt_waves.proofs.Fleets.{crew-is-fleet, over-own, own-over}

-- what there is several of is not one
several-not-one : {P : Type 0} (k : ℕ) → 2 ≤ k → k ≡ 1 → P
several-not-one k several one = absurd (let e : k ≡ 1 = one in omega arith)

pub fleet-crew : (W : Parts) (Z : Stored) (n : ℕ) (fleet : CrewValue) → 2 ≤ W.streams → IsFleetOf own_lock clock_at W Z n fleet → IsCrew W Z n fleet
fleet-crew W Z n fleet several is =
    let own : IsFleet W Z n fleet.objects fleet.streams = over-own W Z n fleet.objects fleet.streams is.fleet_is in
    record {
      valid = own.valid;
      stored = own.stored;
      workload = is.workload;
      steps = is.steps;
      objects = own.workload;
      kept = is.kept;
      streams = own.streams_are;
      shapes = own.shapes;
      reached = own.reached;
      going = λ alone. several-not-one W.streams several alone;
    }

pub crew-fleet : (W : Parts) (Z : Stored) (n : ℕ) (crew : CrewValue) → IsCrew W Z n crew → BeginsRounds W (moment_in W crew) → IsFleetOf own_lock clock_at W Z n crew
crew-fleet W Z n crew is fresh = record {
  workload = is.workload;
  steps = is.steps;
  kept = is.kept;
  fleet_is = own-over W Z n crew.objects crew.streams (crew-is-fleet W Z n crew is);
  fresh = fresh;
}

-- nothing changed
pub none-stays : (W : Parts) (Z : Stored) (stream : StreamValue) (objects : ObjectsValue) → StaysCrew W Z stream objects stream objects
none-stays W Z stream objects n s crew several inside is = (is, omega arith)

module _ (W : Parts) (Z : Stored) where
  -- one turn of the stream
  pub turn-stays : (old new : StreamValue) (before after : ObjectsValue) (t : Turn) → TurnsBy W Z old before t new after → FitsStream W new → FitsShapes W Z new → new.number ≡ old.number → new.keeps ≡ old.keeps → new.budget ≡ old.budget →
      length new.log ≤ 2 ^ 55 → steps_in new.log ≤ new.budget → after.workload ≡ W → StaysCrew W Z old before new after
  turn-stays old new before after t turn fits shapes number keeps budget few within objects n s crew several inside is =
      let at : slice_get (set crew.streams s old) s ≡ Some old = get-set-here crew.streams s old inside in
      let many : length crew.streams ≡ W.streams = sym (length-set crew.streams s old) ∙ is.streams.many in
      let turned = crew-turned W Z n (with_stream crew s old before) is s (subst (λ k. s < k) many inside) old new at after fits shapes number keeps budget few within objects t turn (λ alone. several-not-one W.streams several alone) in
      let next : CrewValue = record crew { objects = after; streams = set (set crew.streams s old) s new } in
      let less : work_at W n (moment_in W next) ≤ work_at W n (moment_in W (with_stream crew s old before)) =
      turn-raises-none W Z is.valid is.stored n s (moment_in W (with_stream crew s old before)) (moment_in W next) is.reached turned.1.0.reached t turned.0 in
      subst (λ streams. IsCrew W Z n (record crew { objects = after; streams = streams }) × (work_at W n (moment_in W (record crew { objects = after; streams = streams })) ≤ work_at W n (moment_in W (with_stream crew s old before))))
      (set-set crew.streams s old new) (turned.1.0, less)

  -- after the last turn the stream's round has seen no pool
  pub turn-begins : (first old new : StreamValue) (start before after : ObjectsValue) (putting : Bool) → (putting ≡ true → old.held.tray ≢ []) → (t : Turn) → MayEnd putting t → StaysCrew W Z first start old before →
      TurnsBy W Z old before t new after → FitsStream W new → FitsShapes W Z new → new.number ≡ old.number → new.keeps ≡ old.keeps → new.budget ≡ old.budget →
      length new.log ≤ 2 ^ 55 → steps_in new.log ≤ new.budget → after.workload ≡ W → BeginsAnew W Z first start new
  turn-begins first old new start before after putting full t may so_far turn fits shapes number keeps budget few within objects n s crew several inside was =
      let is : IsCrew W Z n (with_stream crew s old before) = (so_far n s crew several inside was).0 in
      let at : slice_get (set crew.streams s old) s ≡ Some old = get-set-here crew.streams s old inside in
      let many : length crew.streams ≡ W.streams = sym (length-set crew.streams s old) ∙ is.streams.many in
      let turned = crew-turned W Z n (with_stream crew s old before) is s (subst (λ k. s < k) many inside) old new at after fits shapes number keeps budget few within objects t turn (λ alone. several-not-one W.streams several alone) in
      let next : CrewValue = record crew { objects = after; streams = set (set crew.streams s old) s new } in
      let there : slice_get (set (set crew.streams s old) s new) s ≡ Some new = get-set-here (set crew.streams s old) s new (subst (λ k. s < k) (sym (length-set crew.streams s old)) inside) in
      ap (λ o. (held_from (start_part W s) o).own.top.seen) (sym there)
      ∙ turn-fresh W Z is.valid is.stored n s (moment_in W (with_stream crew s old before)) (moment_in W next) is.reached putting
      (λ put. subst (λ o. (held_from (start_part W s) o).tray ≢ []) (sym at) (full put)) t may turned.0

  -- one turn more
  pub turns-on : (first old new : StreamValue) (start before after : ObjectsValue) → StaysCrew W Z first start old before → StaysCrew W Z old before new after → StaysCrew W Z first start new after
  turns-on first old new start before after so_far turn n s crew several inside is =
      let first_ones = so_far n s crew several inside is in
      let one_more = turn n s crew several inside first_ones.0 in
      let a : work_at W n (moment_in W (with_stream crew s old before)) ≤ work_at W n (moment_in W (with_stream crew s first start)) = first_ones.1 in
      let b : work_at W n (moment_in W (with_stream crew s new after)) ≤ work_at W n (moment_in W (with_stream crew s old before)) = one_more.1 in
      (one_more.0, omega arith)

  module _ (n s : ℕ) (crew : CrewValue) (several : 2 ≤ W.streams) (is : IsCrew W Z n crew) (inside : s < length crew.streams) (old : StreamValue) (value : old ≡ get_or crew.streams s old) where
    -- the stream at that place
    pub stream-at : IsStreamOf W n s old
    stream-at = is.streams.own s old (crew-at crew.streams s old inside value)

    pub shapes-at : FitsShapes W Z old
    shapes-at = is.shapes s old (crew-at crew.streams s old inside value)

    same-streams : set crew.streams s old ≡ crew.streams
    same-streams = ap (set crew.streams s) value ∙ set-get_or crew.streams s old

    -- the streams after its turns, to which no more is left to do
    pub crew-stays : (new : StreamValue) (after : ObjectsValue) → StaysCrew W Z old crew.objects new after → IsCrew W Z n (with_stream crew s new after) × (work_at W n (moment_in W (with_stream crew s new after)) ≤ work_at W n (moment_in W crew))
    crew-stays new after stays =
        subst (λ streams. IsCrew W Z n (with_stream crew s new after) × (work_at W n (moment_in W (with_stream crew s new after)) ≤ work_at W n (moment_in W (record crew { streams = streams })))) same-streams
        (stays n s crew several inside (subst (λ streams. IsCrew W Z n (record crew { streams = streams })) (sym same-streams) is))

    pub begins-at : (new : StreamValue) → BeginsAnew W Z old crew.objects new → new.held.own.top.seen ≡ []
    begins-at new begins = begins n s crew several inside (subst (λ streams. IsCrew W Z n (record crew { streams = streams })) (sym same-streams) is)

    -- if its round has seen no pool, none has
    pub fresh-stays : (new : StreamValue) (after : ObjectsValue) → BeginsRounds W (moment_in W crew) → new.held.own.top.seen ≡ [] → BeginsRounds W (moment_in W (with_stream crew s new after))
    fresh-stays new after fresh own r lt = elim (cases_eq r s) [
      | inl same ↦ ap (λ o. (held_from (start_part W r) o).own.top.seen) (ap (slice_get (set crew.streams s new)) same ∙ get-set-here crew.streams s new inside) ∙ own
      | inr ne ↦ ap (λ o. (held_from (start_part W r) o).own.top.seen) (get-set-other crew.streams s r new ne) ∙ fresh r lt
    ]
