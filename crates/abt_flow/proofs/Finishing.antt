-- If nothing is left to do in an orderly workload, every unit is unborn or ended.
use Rattle.std.proofs.Common.{◌≡◌, ℕ, zero, suc, ◌<◌, ◌≤◌, List, [], length, Some, None, refl, sym, ◌∙◌, ap, subst, arith, inl, inr}
use Rattle.std.specs.Prelude.{IsSome}
use Rattle.std.proofs.lemmas.Bool.{cases_eq, cases_lt, true≢false}
use Rattle.std.proofs.lemmas.Option.{slice_get_within}
use Rattle.abt_machine.specs.declared.events.Cause.{Cause}
use Rattle.abt_machine.specs.declared.events.Event.{Event}
use Rattle.abt_machine.specs.declared.events.Outcome.{Outcome}
use Rattle.abt_machine.specs.declared.events.Outcome.TheVariants as outcome
use Rattle.abt_machine.specs.declared.events.Place.{Place}
use Rattle.abt_machine.specs.declared.events.Place.TheVariants as place
use Rattle.abt_machine.specs.declared.events.Spot.TheVariants as spot
use Rattle.abt_machine.specs.declared.numbers.ObjectNo.{ObjectNo}
use Rattle.abt_machine.specs.declared.numbers.PoolNo.{PoolNo}
use Rattle.abt_machine.specs.declared.numbers.UnitNo.{UnitNo}
use Rattle.abt_machine.specs.declared.operations.Op.{Op}
use Rattle.abt_machine.specs.declared.operations.Op.TheVariants as op
use Rattle.abt_machine.specs.declared.workload.Parts.{Parts}
use Rattle.abt_machine.specs.Lines.{Line, InHand, InNext, InPool, InTray, standing, ticket_in}
use Rattle.abt_machine.specs.Outcomes.{AllEnded, EndsAs, IsOver, Quiet, steps_in}
use Rattle.abt_machine.specs.Rounds.{OrdersStored}
use Rattle.abt_machine.specs.Runs.{Run, last_state}
use Rattle.abt_machine.specs.Numbers.{unit_no}
use Rattle.abt_machine.specs.Operations.{IsEventual}
use Rattle.abt_machine.specs.Sound.{HasNotEnded, HoldsUp, IsPlaced, Sound}
use Rattle.abt_machine.specs.State.{Carried, Frame, State}
use Rattle.abt_machine.specs.Stored.{Stored}
use Rattle.abt_machine.specs.Valid.{IsValid}
use Rattle.abt_machine.specs.Workloads.{body_at, op_at, ops_of, thing_at}
use Rattle.abt_machine.proofs.Declared.{op-declared}
use Rattle.abt_laws.proofs.Lists.{Among}
use Rattle.abt_laws.proofs.Options.{none≢some}
use Rattle.abt_laws.proofs.Places.{same-self}
use Rattle.abt_laws.proofs.RunParts.{last_state-sound}
use Rattle.abt_laws.proofs.SoundRuns.{runs-are-sound}
use Rattle.abt_laws.proofs.Standing.{among-standing}
use Rattle.abt_bounds.specs.Laws.{HasNoFreeCall, ops_in}
use Rattle.abt_bounds.proofs.Budgets.{steps-bound-budgets}
use Rattle.abt_flow.specs.Finishing.{IsListed, IsOrderly, OrderlyEnd, OrderlyFinish, op_count}
use Rattle.abt_flow.specs.Flow.{Created, IsReached, Starts}
use Rattle.abt_flow.proofs.Outputs.{no-revive}
use Rattle.abt_flow.proofs.Runs.{CallsAreOne, run-flows}
use Rattle.abt_flow.proofs.Settling.{Settled, Stands, run-settles}
use Rattle.abt_flow.proofs.Stepping.{is_unborn-cases}
use Rattle.abt_flow.proofs.Tells.{Flowing, Tells}

module _ (W : Parts) (Z : Stored) (valid : IsValid W) (orderly : IsOrderly W) (t : ℕ) (S : State) (sound : Sound W Z S) (flowing : Flowing W Z.returns t S) (settled : Settled W S) (quiet : Quiet W S) where
  abbrev rank : ℕ → ℕ → ℕ
  rank = orderly.rank

  -- Who stands in no line.

  in-no-line : (l : Line) (u k : ℕ) → standing W S l ≡ [] → ticket_in l (S.place u) ≡ Some k → ⊥
  in-no-line l u k none at = subst (Among u) none (among-standing W S sound.undeclared l u k at)

  in-no-pool : (u : ℕ) (p : PoolNo) (k : ℕ) → S.place u ≡ place.Pool p k → IsListed W p.0 → ⊥
  in-no-pool u p k at listed = in-no-line (InPool p.0) u k (quiet.pools listed.0 p.0 listed.1 listed.2) (ap (ticket_in (InPool p.0)) at ∙ same-self p.0 k)

  -- Units that are born.

  -- is reached
  told-reached : (u : ℕ) (c : Carried) (pl : Place) → (pl ≡ place.Unborn → ⊥) → Tells W Z.returns t u c pl → IsReached W u
  told-reached u c place.Unborn born h = absurd (born refl)
  told-reached u c (place.Pool p k) born h = h.0
  told-reached u c (place.Hand s) born h = h.0
  told-reached u c (place.Next s) born h = h.0
  told-reached u c (place.Tray s k) born h = h.0
  told-reached u c (place.Frame s k) born h = h.0
  told-reached u c (place.Blocked spot.Suspended k) born h = h.0
  told-reached u c (place.Blocked (spot.Join v) k) born h = h.0
  told-reached u c (place.Blocked (spot.Object x) k) born (inl h) = h.1.0
  told-reached u c (place.Blocked (spot.Object x) k) born (inr h) = h.reached
  told-reached u c (place.Ended e) born h = h.0.0

  -- What was done. The end of a unit counts as one operation more.

  -- unit u is past its operation k, or has ended
  abbrev IsDone : ℕ → ℕ → Type 0
  IsDone u k = (k < op_count W u → k < (S.carried u).position) × (k ≡ op_count W u → (c : Cause) × (S.place u ≡ place.Ended c))

  -- all that ranks below n
  abbrev AreDone : ℕ → Type 0
  AreDone n = (u k : ℕ) → IsReached W u → k ≤ op_count W u → rank u k < n → IsDone u k

  rises-to : (u j k : ℕ) → j < k → k ≤ op_count W u → rank u j < rank u k
  rises-to u j zero l few = absurd (omega arith)
  rises-to u j (suc k) l few =
      let step : rank u k < rank u (suc k) = orderly.ranked.rises u k (omega arith) in
      elim (cases_eq j k) [
        | inl same ↦ subst (λ i. rank u i < rank u (suc k)) (sym same) step
        | inr other ↦ (let before : rank u j < rank u k = rises-to u j k (omega arith) (omega arith) in omega arith)
      ]

  op-inside : (u k : ℕ) (o : Op) → op_at W u k ≡ Some o → k < op_count W u
  op-inside u k o is = slice_get_within (ops_of (body_at W u)) k o is

  from-first : (u k : ℕ) → k ≤ op_count W u → rank u 0 ≤ rank u k
  from-first u zero few = omega arith
  from-first u (suc k) few = let l : rank u 0 < rank u (suc k) = rises-to u 0 (suc k) (omega arith) few in omega arith

  -- a unit that waits at its operation j is past those before it, and past none behind it
  waits-done : (u k j : ℕ) → (S.carried u).position ≡ suc j → j < op_count W u → (j < k → ⊥) → IsDone u k
  waits-done u k j at inside never = ((λ l. elim (cases_lt j k) [ inl a ↦ absurd (never a) | inr b ↦ (let p = at in omega arith) ]), λ e. absurd (never (omega arith)))

  module _ (n : ℕ) (done : AreDone n) where
    -- a reached unit is born
    born : (u k : ℕ) → IsReached W u → k ≤ op_count W u → rank u k ≤ n → S.place u ≡ place.Unborn → ⊥
    born u k (Starts _ p start) few low unborn =
        let late : Tells W Z.returns t u (S.carried u) place.Unborn = subst (Tells W Z.returns t u (S.carried u)) unborn (flowing.units u) in none≢some (sym late.0 ∙ start)
    born u k (Created _ v i p reached creates) few low unborn =
        let inside : i < op_count W v = op-inside v i (op.Create (unit_no u) p) creates in
        let first : rank v i < rank u 0 = orderly.ranked.creates v i (unit_no u) p creates in
        let below : rank u 0 ≤ rank u k = from-first u k few in
        let is : IsDone v i = done v i reached (omega arith) (omega arith) in
        flowing.born u (record { creator = v; at = i; pool = p; creates = creates; behind = is.0 inside }) unborn

    -- no unit joins one that has ended
    no-join : (u k j : ℕ) (v : UnitNo) → op_at W u j ≡ Some (op.Join v) → HasNotEnded (S.place v.0) → k ≤ op_count W u → rank u k ≤ n → j < k → ⊥
    no-join u k j v is alive few low l =
        let needs : IsReached W v.0 × (rank v.0 (op_count W v.0) < rank u j) = orderly.ranked.joins u j v is in
        let lower = needs.1 in
        let above : rank u j < rank u k = rises-to u j k l few in
        let is-done : IsDone v.0 (op_count W v.0) = done v.0 (op_count W v.0) needs.0 (omega arith) (omega arith) in
        let ended : (c : Cause) × (S.place v.0 ≡ place.Ended c) = is-done.1 refl in
        true≢false (subst HasNotEnded ended.1 alive)

    -- no unit waits for an eventual that has a value
    no-wait : (u k j : ℕ) (x : ObjectNo) → op_at W u j ≡ Some (op.EvWait x) → HoldsUp W S x.0 (thing_at W x.0) → k ≤ op_count W u → rank u k ≤ n → j < k → ⊥
    no-wait u k j x is holds few low l =
        let needs = orderly.ranked.waits u j x is in
        let lower : rank needs.0 needs.1 < rank u j = needs.4 in
        let above : rank u j < rank u k = rises-to u j k l few in
        let inside : needs.1 < op_count W needs.0 = op-inside needs.0 needs.1 (op.EvSet x) needs.3 in
        let is-done : IsDone needs.0 needs.1 = done needs.0 needs.1 needs.2 (omega arith) (omega arith) in
        let some : IsSome (S.eventual x.0) = settled.sets needs.0 needs.1 x needs.3 (is-done.0 inside) in
        let eventual : IsEventual W x.0 = op-declared W u j (op.EvWait x) valid is in
        let none : S.eventual x.0 ≡ None = subst (HoldsUp W S x.0) eventual holds in
        true≢false (sym (subst IsSome none some))

    -- by the place of the unit
    at-place : (u k : ℕ) → IsReached W u → k ≤ op_count W u → rank u k ≤ n → (pl : Place) → S.place u ≡ pl → IsPlaced W S u pl → Stands W u (S.carried u) pl →
        Tells W Z.returns t u (S.carried u) pl → IsDone u k
    at-place u k reached few low place.Unborn at placed stands tells = absurd (born u k reached few low at)
    at-place u k reached few low (place.Pool p i) at placed stands tells = absurd (in-no-pool u p i at stands.1)
    at-place u k reached few low (place.Hand s) at placed stands tells = absurd (in-no-line (InHand s.0) u 0 (quiet.hands s.0 placed.0) (ap (ticket_in (InHand s.0)) at ∙ same-self s.0 0))
    at-place u k reached few low (place.Next s) at placed stands tells = absurd (in-no-line (InNext s.0) u 0 (quiet.nexts s.0 placed.0) (ap (ticket_in (InNext s.0)) at ∙ same-self s.0 0))
    at-place u k reached few low (place.Tray s i) at placed stands tells = absurd (in-no-line (InTray s.0) u i (quiet.trays s.0 placed.0) (ap (ticket_in (InTray s.0)) at ∙ same-self s.0 i))
    at-place u k reached few low (place.Frame s d) at placed stands tells =
        let none : d < 0 = subst (λ (fs : List Frame). d < length fs) (quiet.frames s.0 placed.0) placed.1 in absurd (omega arith)
    at-place u k reached few low (place.Ended c) at placed stands tells = ((λ l. (let over = tells.1 in omega arith)), λ e. (c, at))
    at-place u k reached few low (place.Blocked spot.Suspended i) at placed stands tells = absurd stands
    at-place u k reached few low (place.Blocked (spot.Join v) i) at placed stands tells =
        let past = stands.1 in waits-done u k past.0 past.1 (op-inside u past.0 (op.Join v) past.2) (no-join u k past.0 v past.2 placed.2 few low)
    at-place u k reached few low (place.Blocked (spot.Object x) i) at placed stands tells =
        let past = stands.1 in waits-done u k past.0 past.1 (op-inside u past.0 (op.EvWait x) past.2) (no-wait u k past.0 x past.2 placed.1 few low)

  all-done : (n : ℕ) → AreDone n
  all-done zero u k reached few l = absurd (omega arith)
  all-done (suc n) u k reached few l = at-place n (all-done n) u k reached few (omega arith) (S.place u) refl (sound.placed u) (settled.stands u) (flowing.units u)

  -- every unit is unborn or ended
  all-over : AllEnded S
  all-over u =
      elim (is_unborn-cases (S.place u)) [
        | inl unborn ↦ subst IsOver (sym unborn) tt
        | inr there ↦ (let done : IsDone u (op_count W u) = all-done (suc (rank u (op_count W u))) u (op_count W u) (told-reached u (S.carried u) (S.place u) there (flowing.units u)) (omega arith) (omega arith) in
            let ended : (c : Cause) × (S.place u ≡ place.Ended c) = done.1 refl in subst IsOver (sym ended.1) tt)
      ]

pub orderly-end : (W : Parts) (Z : Stored) → OrderlyEnd W Z
orderly-end W Z valid stored one orderly J run quiet =
    let each : CallsAreOne W Z.returns = λ u k f t m reached at is. one u k f m.acc m.keys is in
    all-over W Z valid orderly (steps_in J) (last_state W J) (last_state-sound W Z J (runs-are-sound W Z) valid stored run) (run-flows W Z valid orderly.confluent each J run)
    (run-settles W Z valid orderly each J run) quiet

finished : (W : Parts) (Z : Stored) → IsValid W → OrdersStored W Z.orders → HasNoFreeCall W Z → IsOrderly W → (n : ℕ) (J : List Event) (o : Outcome) → ops_in W ≤ n → Run W Z J → EndsAs W n J o →
    o ≡ outcome.Finished
finished W Z valid stored one orderly n J outcome.Finished enough run ends = refl
finished W Z valid stored one orderly n J outcome.Stuck enough run ends = absurd (ends.1 (orderly-end W Z valid stored one orderly J run ends.0))
finished W Z valid stored one orderly n J (outcome.Budget s) enough run ends = absurd (steps-bound-budgets W Z valid stored (no-revive W orderly.confluent) n s.0 J enough run ends.0)

pub orderly-finish : (W : Parts) (Z : Stored) → OrderlyFinish W Z
orderly-finish W Z = finished W Z
