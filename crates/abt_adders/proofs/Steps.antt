-- A step of a unit, in a state of the machine.
use Rattle.std.proofs.Common.{◌≡◌, ◌≢◌, ℕ, suc, ◌<◌, ◌≤◌, ◌+◌, List, [], ◌∷◌, Option, Some, None, refl, sym, ◌∙◌, ap, ap₂, subst, arith}
use Rattle.std.proofs.lemmas.Bool.{cond-true, eq-eqb}
use Rattle.abt_machine.specs.declared.events.Code.{Code}
use Rattle.abt_machine.specs.declared.events.Code.TheVariants as code
use Rattle.abt_machine.specs.declared.events.Place.{Place}
use Rattle.abt_machine.specs.declared.events.Place.TheVariants as place
use Rattle.abt_machine.specs.declared.operations.Op.{Op}
use Rattle.abt_machine.specs.Carrying.{advanced}
use Rattle.abt_machine.specs.Changes.{Change, changed, goes_on, goes_with, to_tray}
use Rattle.abt_machine.specs.Codes.{code_at, code_of, owned_by, unless}
use Rattle.abt_machine.specs.Fronts.{is_some_of}
use Rattle.abt_machine.specs.Lines.{Waiting, standing, tray_end}
use Rattle.abt_machine.specs.Maps.{put_all, put_at}
use Rattle.abt_machine.specs.Numbers.{stream_no}
use Rattle.abt_machine.specs.Queues.{first, first_alone}
use Rattle.abt_machine.specs.State.{Carried, Mutex, State}
use Rattle.abt_machine.specs.Steps.{hands_over, op_row, set_owner, step_row}
use Rattle.abt_laws.proofs.Lists.{EachOf}
use Rattle.abt_laws.proofs.Maps.{put_at-other, put_at-same}
use Rattle.abt_laws.proofs.Standing.{StandsIn, each-stands}
use Rattle.abt_generate.specs.Generated.{generated}
use Rattle.abt_adders.proofs.Calm.{calm-after}
use Rattle.abt_adders.proofs.Going.{Adds, stages}
use Rattle.abt_adders.proofs.Moving.{Hands, adder-moves, first-moves, served}
use Rattle.abt_adders.proofs.Programs.{unit-count}
use Rattle.abt_adders.proofs.Stages.{AdderAt, FirstAt, Joins, Mine, Over, Stage, Waits, stage, stored}

-- what is done under the mutex goes through
pub owned-ok : (S : State) (u : ℕ) → Mine (S.mutex 0) u → unless (owned_by S u 0) code.NotOwner code.Ok ≡ code.Ok
owned-ok S u mine = cond-true (owned_by S u 0) code.Ok code.NotOwner (ap (is_some_of u) mine ∙ eq-eqb u u refl)

module _ (n t : ℕ) (S : State) (adds : Adds n t S) (s u : ℕ) where
  -- by the operation that the unit comes to, which goes through
  pub by-op : (T : ℕ) (o : Option Op) (q : Code) (p : Op) → o ≡ Some p → q ≡ code_at (generated n) S s u o → code_of (generated n) S s u p ≡ code.Ok → Adds n T (changed S (op_row (generated n) S s u p)) →
      Adds n T (changed S (step_row (generated n) S s u o q))
  by-op T o q p e is ok done = subst (λ (c : Change). Adds n T (changed S c)) (sym (ap₂ (step_row (generated n) S s u) e (is ∙ (ap (code_at (generated n) S s u) e ∙ ok)))) done

  -- unit u goes on with this to carry, and units move
  module _ (e : Carried) (ms : List (ℕ × Place)) (js os : List (ℕ × ℕ)) (ks : List (ℕ × Mutex)) where
    abbrev row : Change
    row = record (goes_with u e) { moves = ms; join_next = js; object_next = os; mutexes = ks }

    abbrev new : Mutex
    new = put_all S.mutex ks 0

    abbrev gone : ℕ → Carried
    gone = put_at S.carried u (advanced e)

    module _ (others : (w : ℕ) → w ≢ u → put_all S.place ms w ≡ S.place w) (a : Stage) (at : stage (put_all S.place ms u) ≡ a) (hands : Hands n (S.mutex 0) new u) (same : e.position ≡ (S.carried u).position) where
      stays : (w : ℕ) → w ≢ u → (stage (put_all S.place ms w) ≡ stage (S.place w)) × (gone w ≡ S.carried w)
      stays w ne = (ap stage (others w ne), put_at-other S.carried u (advanced e) w ne)

      now : gone u ≡ advanced e
      now = put_at-same S.carried u (advanced e)

      position : (gone u).position ≡ suc (S.carried u).position
      position = ap (λ (c : Carried). c.position) now ∙ ap suc same

      -- an adder
      pub adder-step : 0 < u → u ≤ n → AdderAt (S.carried 0).position new u (advanced e) a → (stage (S.place u) ≡ Over → a ≡ Over) → e.output ≡ [] →
          new.number + stored u (S.carried u).position ≡ (S.mutex 0).number + stored u (suc (S.carried u).position) → Adds n (suc t) (changed S row)
      adder-step some most mine over silent number = record {
        adding =
            let later : stored u (gone u).position ≡ stored u (suc (S.carried u).position) = ap (stored u) position in
            adder-moves n t (stages S) (λ w. stage (put_all S.place ms w)) S.carried gone (S.mutex 0) new adds.adding u stays hands (suc t) some most
            (subst (λ c. AdderAt (S.carried 0).position new u c (stage (put_all S.place ms u))) (sym now) (subst (AdderAt (S.carried 0).position new u (advanced e)) (sym at) mine))
            (λ o. at ∙ over o) (ap (λ (c : Carried). c.output) now ∙ silent) (omega (arith, position)) (omega (arith, position));
        calm = calm-after S row adds.calm tt tt;
      }

    -- the facts of unit 0 that do not depend on the number of the unit
    pub first-step : u ≡ 0 → ((w : ℕ) → w ≢ 0 → put_all S.place ms w ≡ S.place w) → (a : Stage) → stage (put_all S.place ms 0) ≡ a → Hands n (S.mutex 0) new 0 → e.position ≡ (S.carried 0).position →
        FirstAt n new (advanced e) a → n ≤ (S.carried 0).position →
        ((v : ℕ) → 0 < v → v ≤ n → n + v ≤ suc (S.carried 0).position → (a ≡ Joins v → ⊥) → stage (S.place v) ≡ Over) → new.number ≡ (S.mutex 0).number → Adds n (suc t) (changed S row)
    first-step zero others a at hands same mine born ended number =
        let now : gone 0 ≡ advanced e = subst (λ w. put_at S.carried w (advanced e) 0 ≡ advanced e) (sym zero) (put_at-same S.carried 0 (advanced e)) in
        let position : (gone 0).position ≡ suc (S.carried 0).position = ap (λ (c : Carried). c.position) now ∙ ap suc same in
        record {
          adding =
              first-moves n t (stages S) (λ w. stage (put_all S.place ms w)) S.carried gone (S.mutex 0) new adds.adding
              (λ w ne. (ap stage (others w ne), put_at-other S.carried u (advanced e) w (λ q. ne (q ∙ zero)))) hands (suc t)
              (subst (λ c. FirstAt n new c (stage (put_all S.place ms 0))) (sym now) (subst (FirstAt n new (advanced e)) (sym at) mine))
              (omega arith) (λ v most l. omega arith) (λ v some most l none. ended v some most (omega arith) (λ q. none (at ∙ q))) number (omega (arith, position));
          calm = calm-after S row adds.calm tt tt;
        }

  -- An unlock.

  -- unit u goes on, and the mutex has this owner
  abbrev freed : State
  freed = changed S (record (goes_on S u) { mutexes = (0, set_owner None (S.mutex 0)) ∷ [] })

  waiter-in : (w : ℕ) → StandsIn (generated n) S (Waiting 0) w → (w ≤ n) × (stage (S.place w) ≡ Waits 0)
  waiter-in w is = (let l = is.declared in omega (arith, unit-count n), ap stage is.at)

  unlocks-to : (us : List ℕ) → EachOf (StandsIn (generated n) S (Waiting 0)) us → Adds n (suc t) freed →
      Adds n (suc t) (changed S (record (goes_on S u) { moves = to_tray (generated n) S s (first_alone us); mutexes = (0, set_owner (first us) (S.mutex 0)) ∷ [] }))
  unlocks-to [] each done = done
  unlocks-to (w ∷ ws) each done =
      let to : Place = place.Tray (stream_no s) (tray_end (generated n) S s) in
      let is : (w ≤ n) × (stage (S.place w) ≡ Waits 0) = waiter-in w each.0 in
      record {
        adding =
            served n (suc t) (stages S) freed.carried (set_owner None (S.mutex 0)) done.adding (λ v. stage (put_at S.place w to v)) w is.0 refl is.1 (ap stage (put_at-same S.place w to))
            (λ v ne. ap stage (put_at-other S.place w to v ne));
        calm = calm-after S (record (goes_on S u) { moves = (w, to) ∷ []; mutexes = (0, set_owner (Some w) (S.mutex 0)) ∷ [] }) adds.calm tt tt;
      }

  pub unlocks : Adds n (suc t) freed → Adds n (suc t) (changed S (hands_over (generated n) S s u 0))
  unlocks done = unlocks-to (standing (generated n) S (Waiting 0)) (each-stands (generated n) S (Waiting 0)) done
