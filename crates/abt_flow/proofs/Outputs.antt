-- If all units of a run have ended, their outputs are the flow's.
use Rattle.std.proofs.Common.{◌≡◌, ℕ, zero, suc, ◌<◌, ◌≤◌, List, [], ◌∷◌, ◌++◌, length, map, Some, refl, sym, ◌∙◌, ap, subst, arith, ◌⊎◌, inl, inr}
use Rattle.std.specs.Prelude.{slice_get}
use Rattle.std.proofs.lemmas.List.{length-map}
use Rattle.std.proofs.lemmas.Option.{slice_get_within}
use Rattle.abt_machine.specs.declared.events.Event.{Event}
use Rattle.abt_machine.specs.declared.events.Piece.{Piece}
use Rattle.abt_machine.specs.declared.events.Place.{Place}
use Rattle.abt_machine.specs.declared.events.Place.TheVariants as place
use Rattle.abt_machine.specs.declared.operations.Op.TheVariants as op
use Rattle.abt_machine.specs.Stored.{Stored}
use Rattle.abt_machine.specs.declared.workload.Parts.{Parts}
use Rattle.abt_machine.specs.Lives.{count_up}
use Rattle.abt_machine.specs.Outcomes.{AllEnded, IsOver, steps_in}
use Rattle.abt_machine.specs.Rounds.{OrdersStored}
use Rattle.abt_machine.specs.Runs.{Run, last_state}
use Rattle.abt_machine.specs.Valid.{IsValid}
use Rattle.abt_machine.specs.Sound.{Sound}
use Rattle.abt_machine.specs.State.{State, Carried}
use Rattle.abt_machine.specs.Workloads.{body_at, ops_of}
use Rattle.abt_laws.proofs.LifeLists.{length-count_up}
use Rattle.abt_laws.proofs.Options.{none≢some, some-injective}
use Rattle.abt_laws.proofs.RunParts.{last_state-sound}
use Rattle.abt_laws.proofs.SoundRuns.{runs-are-sound}
use Rattle.abt_bounds.specs.Laws.{HasNoRevive, ops_in}
use Rattle.abt_bounds.proofs.Budgets.{steps-are-few}
use Rattle.abt_flow.specs.Confluent.{Confluent}
use Rattle.abt_flow.specs.Effects.{Memory}
use Rattle.abt_flow.specs.Flow.{AtPoint, Created, Functions, IsFlow, IsReached, IsRow, Starts}
use Rattle.abt_flow.specs.Laws.{OutputsAreFlow, outputs}
use Rattle.abt_flow.proofs.Points.{points-within}
use Rattle.abt_flow.proofs.Runs.{CallsAreOne, run-flows}
use Rattle.abt_flow.proofs.Tells.{Before, Flowing, Tells, memory_of}

-- The list of outputs.

get-push : {A : Type 0} (xs : List A) (x y : A) (k : ℕ) → slice_get (xs ++ x ∷ []) k ≡ Some y → (slice_get xs k ≡ Some y) ⊎ ((k ≡ length xs) × (x ≡ y))
get-push [] x y zero e = inr (refl, some-injective e)
get-push [] x y (suc k) e = absurd (none≢some e)
get-push (z ∷ xs) x y zero e = inl e
get-push (z ∷ xs) x y (suc k) e = elim (get-push xs x y k e) [ inl a ↦ inl a | inr b ↦ inr (ap (λ n. suc n) b.0, b.1) ]

counted : (n k v : ℕ) → slice_get (count_up n) k ≡ Some v → k ≡ v
counted zero k v e = absurd (none≢some e)
counted (suc n) k v e = elim (get-push (count_up n) n v k e) [ inl a ↦ counted n k v a | inr b ↦ b.0 ∙ (length-count_up n ∙ b.1) ]

pub get-map : {A B : Type 0} (f : A → B) (xs : List A) (k : ℕ) (y : B) → slice_get (map f xs) k ≡ Some y → (x : A) × (slice_get xs k ≡ Some x) × (f x ≡ y)
get-map f [] k y e = absurd (none≢some e)
get-map f (x ∷ xs) zero y e = (x, refl, some-injective e)
get-map f (x ∷ xs) (suc k) y e = get-map f xs k y e

output-at : (W : Parts) (S : State) (u : ℕ) (row : List Piece) → slice_get (outputs W S) u ≡ Some row → (S.carried u).output ≡ row
output-at W S u row e =
    let is : (v : ℕ) × (slice_get (count_up (length W.units)) u ≡ Some v) × ((S.carried v).output ≡ row) = get-map (λ v. (S.carried v).output) (count_up (length W.units)) u row e in
    ap (λ v. (S.carried v).output) (counted (length W.units) u is.0 is.1) ∙ is.2

-- The last state.

module _ (W : Parts) (R : Functions) (t : ℕ) (S : State) (flowing : Flowing W R t S) (few : t ≤ ops_in W) (ended : AllEnded S)
    (positions : (u : ℕ) → (S.carried u).position ≤ length (ops_of (body_at W u))) where
  tells-over : (u : ℕ) (c : Carried) (pl : Place) → IsOver pl → (pl ≡ place.Unborn → ⊥) → Tells W R t u c pl → Before W R t u c × (length (ops_of (body_at W u)) ≤ c.position)
  tells-over u c place.Unborn over born h = absurd (born refl)
  tells-over u c (place.Ended e) over born h = h
  tells-over u c (place.Pool p k) over born h = absurd over
  tells-over u c (place.Hand s) over born h = absurd over
  tells-over u c (place.Next s) over born h = absurd over
  tells-over u c (place.Tray s k) over born h = absurd over
  tells-over u c (place.Frame s d) over born h = absurd over
  tells-over u c (place.Blocked x k) over born h = absurd over

  -- a reached unit was born, since whoever creates it has ended
  reached-born : (u : ℕ) → IsReached W u → S.place u ≡ place.Unborn → ⊥
  reached-born u (Starts _ p start) unborn =
      let late : Tells W R t u (S.carried u) place.Unborn = subst (Tells W R t u (S.carried u)) unborn (flowing.units u) in none≢some (sym late.0 ∙ start)
  reached-born u (Created _ v k p reached creates) unborn =
      let over : Before W R t v (S.carried v) × (length (ops_of (body_at W v)) ≤ (S.carried v).position) = tells-over v (S.carried v) (S.place v) (ended v) (reached-born v reached)
      (flowing.units v) in
      let inside : k < length (ops_of (body_at W v)) = slice_get_within (ops_of (body_at W v)) k (op.Create (record { 0 = u }) p) creates in
      let l = over.1 in
      flowing.born u (record { creator = v; at = k; pool = p; creates = creates; behind = omega arith }) unborn

  row-here : (u : ℕ) (pl : Place) → S.place u ≡ pl → IsOver pl → IsRow W R u (S.carried u).output
  row-here u place.Unborn at over =
      let fresh : Tells W R t u (S.carried u) place.Unborn = subst (Tells W R t u (S.carried u)) at (flowing.units u) in
      inr (λ reached. reached-born u reached at, ap (λ (m : Memory). m.output) fresh.2)
  row-here u (place.Ended e) at over =
      let is : Before W R t u (S.carried u) × (length (ops_of (body_at W u)) ≤ (S.carried u).position) = subst (Tells W R t u (S.carried u)) at (flowing.units u) in
      let below : (S.carried u).position ≤ length (ops_of (body_at W u)) = positions u in
      let above = is.1 in
      let same : (S.carried u).position ≡ length (ops_of (body_at W u)) = omega arith in
      inl (
        is.0.0,
        (
          memory_of (S.carried u),
          subst (λ k. AtPoint W R (suc (ops_in W)) u k (memory_of (S.carried u))) same
              (points-within W R (suc t) (suc (ops_in W)) u (S.carried u).position (memory_of (S.carried u)) (omega arith) is.0.1),
          refl,
        ),
      )
  row-here u (place.Pool p k) at over = absurd over
  row-here u (place.Hand s) at over = absurd over
  row-here u (place.Next s) at over = absurd over
  row-here u (place.Tray s k) at over = absurd over
  row-here u (place.Frame s d) at over = absurd over
  row-here u (place.Blocked x k) at over = absurd over

pub no-revive : (W : Parts) → Confluent W → HasNoRevive W
no-revive W confluent u k v p is = confluent.ops u k (op.Revive v p) is

-- if each call that a unit comes to may return one word alone
pub are-flow : (W : Parts) (Z : Stored) → IsValid W → OrdersStored W Z.orders → Confluent W → CallsAreOne W Z.returns → (J : List Event) → Run W Z J → AllEnded (last_state W J) →
    IsFlow W Z.returns (outputs W (last_state W J))
are-flow W Z valid stored confluent one J run ended =
    let S : State = last_state W J in
    let sound : Sound W Z S = last_state-sound W Z J (runs-are-sound W Z) valid stored run in
    let few : steps_in J ≤ ops_in W = steps-are-few W Z valid stored (no-revive W confluent) J run in
    record {
      one_each = length-map (count_up (length W.units)) (λ u. (S.carried u).output) ∙ length-count_up (length W.units);
      each = λ u row e. subst (IsRow W Z.returns u) (output-at W S u row e)
          (row-here W Z.returns (steps_in J) S (run-flows W Z valid confluent one J run) few ended sound.positions u (S.place u) refl (ended u));
    }

pub outputs-are-flow : (W : Parts) (Z : Stored) → OutputsAreFlow W Z
outputs-are-flow W Z valid stored confluent one J run ended = are-flow W Z valid stored confluent (λ u k f t m reached at is. one u k f m.acc m.keys is) J run ended
