-- Each operation of a confluent workload makes what the flow says.
use Rattle.std.proofs.Common.{◌≡◌, ◌≢◌, ℕ, suc, ◌==◌, List, [], ◌∷◌, length, Option, Some, None, refl, sym, ◌∙◌, subst, arith, inl, inr}
use Rattle.std.proofs.lemmas.Bool.{cond_both}
use Rattle.abt_machine.specs.declared.events.Place.{Place}
use Rattle.abt_machine.specs.declared.events.Place.TheVariants as place
use Rattle.abt_machine.specs.declared.events.Spot.TheVariants as spot
use Rattle.abt_machine.specs.declared.numbers.ObjectNo.{ObjectNo}
use Rattle.abt_machine.specs.declared.numbers.PoolNo.{PoolNo}
use Rattle.abt_machine.specs.declared.numbers.UnitNo.{UnitNo}
use Rattle.abt_machine.specs.declared.operations.Op.{Op}
use Rattle.abt_machine.specs.declared.operations.Op.TheVariants as op
use Rattle.abt_machine.specs.declared.operations.Thing.TheVariants as thing
use Rattle.abt_machine.specs.declared.workload.Parts.{Parts}
use Rattle.abt_machine.specs.Carrying.{advanced, with_acc}
use Rattle.abt_machine.specs.Changes.{changed, goes_on, goes_with, to_tray}
use Rattle.abt_machine.specs.Lines.{Waiting, standing, tray_end}
use Rattle.abt_machine.specs.Numbers.{object_no, stream_no, unit_no}
use Rattle.abt_machine.specs.Operations.{IsBarrier, IsEventual}
use Rattle.abt_machine.specs.State.{State, Carried}
use Rattle.abt_machine.specs.Steps.{arrives, awaits, joins, waits, wakes}
use Rattle.abt_machine.specs.Valid.{IsValid}
use Rattle.abt_machine.specs.Workloads.{op_at, size_of}
use Rattle.abt_machine.proofs.Declared.{op-declared}
use Rattle.abt_laws.proofs.LineMoves.{tray_moves-each}
use Rattle.abt_laws.proofs.Standing.{StandsIn, each-stands}
use Rattle.abt_flow.specs.Effects.{effect}
use Rattle.abt_flow.specs.Flow.{Becomes, Functions}
use Rattle.abt_flow.proofs.Moving.{Lands, before, carries, carries-here, elsewhere, others-tell, steps-moving, went}
use Rattle.abt_flow.proofs.Points.{HasValue, points-within}
use Rattle.abt_flow.proofs.Stepping.{Stepped}
use Rattle.abt_flow.proofs.Tells.{Before, Flowing, IsSet, Tells, Waits, memory_of}

module _ (W : Parts) (R : Functions) (t : ℕ) (S : State) (flowing : Flowing W R t S) (s u : ℕ) (held : S.place u ≡ place.Hand (stream_no s)) where
  -- unit u goes on with this to carry
  pub row-goes_with : (o : Op) → op_at W u (S.carried u).position ≡ Some o → ((x : ℕ) → o ≡ op.EvSet (object_no x) → ⊥) → ((v : ℕ) (q : PoolNo) → o ≡ op.Create (unit_no v) q → ⊥) →
      (c : Carried) → c.position ≡ (S.carried u).position → Becomes R u (HasValue W R t) (effect o) (memory_of (S.carried u)) (memory_of c) → Stepped W R t S (changed S (goes_with u c)) u o
  row-goes_with o is no_set no_create c p leads = steps-moving W R t S flowing s u held o is c p no_set no_create [] tt (λ out. went W R t S flowing s u held o is c p leads) [] []

  -- unit u goes on, and comes to another place
  pub row-goes_to : (o : Op) (is : op_at W u (S.carried u).position ≡ Some o) → ((x : ℕ) → o ≡ op.EvSet (object_no x) → ⊥) → ((v : ℕ) (q : PoolNo) → o ≡ op.Create (unit_no v) q → ⊥) →
      (pl : Place) → (pl ≡ place.Unborn → ⊥) → Tells W R (suc t) u (advanced (S.carried u)) pl → (js os : List (ℕ × ℕ)) →
      Stepped W R t S (changed S (record (goes_on S u) { moves = (u, pl) ∷ []; join_next = js; object_next = os })) u o
  row-goes_to o is no_set no_create pl born tells js os =
      steps-moving W R t S flowing s u held o is (S.carried u) refl no_set no_create ((u, pl) ∷ []) (
        record {
          was = λ e. (let h : place.Hand (stream_no s) ≡ place.Unborn = sym held ∙ e in cc);
          born = born;
          tells = subst (λ d. Tells W R (suc t) u d pl)
              (sym (carries-here W R t S flowing s u held o is (S.carried u) refl)) tells;
        },
        tt,
      )
      (λ out. absurd (out (inl refl))) js os

  pub row-joins : (v : UnitNo) → op_at W u (S.carried u).position ≡ Some (op.Join v) → (pl : Place) → Stepped W R t S (changed S (joins S u v.0 pl)) u (op.Join v)
  row-joins v is (place.Ended e) = row-goes_with (op.Join v) is (λ x e. cc) (λ v q e. cc) (S.carried u) refl refl
  row-joins v is _ = row-goes_to (op.Join v) is (λ x e. cc) (λ v q e. cc) (place.Blocked (spot.Join v) (S.join_next v.0)) (λ e. cc)
      (went W R t S flowing s u held (op.Join v) is (S.carried u) refl refl) ((v.0, suc (S.join_next v.0)) ∷ []) []

  -- if the eventual has no value, unit u waits
  pub row-awaits : (x : ObjectNo) → op_at W u (S.carried u).position ≡ Some (op.EvWait x) → (o : Option ℕ) → S.eventual x.0 ≡ o → Stepped W R t S (changed S (awaits S u x.0 o)) u (op.EvWait x)
  row-awaits x is None e =
      let b : Before W R t u (S.carried u) = before W R t S flowing s u held (op.EvWait x) is in
      row-goes_to (op.EvWait x) is (λ x e. cc) (λ v q e. cc) (place.Blocked (spot.Object x) (S.object_next x.0)) (λ e. cc)
      (inr (record {
        at = (S.carried u).position;
        position = refl;
        waits = is;
        reached = b.0;
        made = points-within W R (suc t) (suc (suc t)) u (S.carried u).position (memory_of (S.carried u))
            (omega arith) b.1;
      }))
      [] ((x.0, suc (S.object_next x.0)) ∷ [])
  row-awaits x is (Some n) e =
      let set : IsSet W R t S x.0 n = flowing.values x.0 n e in
      row-goes_with (op.EvWait x) is (λ x e. cc) (λ v q e. cc) (with_acc n (S.carried u)) refl
      (n, (set.setter, set.at, set.memory, set.reached, set.sets, set.made, set.value), refl)

  -- Who waits at a barrier is past its operation.

  no-eventual : (x : ObjectNo) → IsBarrier W x.0 → IsEventual W x.0 → ⊥
  no-eventual x barrier eventual = let e : Some thing.Eventual ≡ Some (thing.Barrier barrier.0) = sym eventual ∙ barrier.1 in cc

  pub row-arrives : IsValid W → (x : ObjectNo) → op_at W u (S.carried u).position ≡ Some (op.BarWait x) → Stepped W R t S (changed S (arrives W S s u x.0)) u (op.BarWait x)
  row-arrives valid x is =
      cond_both (suc (length (standing W S (Waiting x.0))) == size_of W x.0) (wakes W S s u (standing W S (Waiting x.0))) (waits S u x.0)
      (λ c. Stepped W R t S (changed S c) u (op.BarWait x)) (λ _. wakes-all) (λ _. rests) where
        barrier : IsBarrier W x.0
        barrier = op-declared W u (S.carried u).position (op.BarWait x) valid is

        own : Before W R (suc t) u (advanced (S.carried u))
        own = went W R t S flowing s u held (op.BarWait x) is (S.carried u) refl refl

        rests : Stepped W R t S (changed S (waits S u x.0)) u (op.BarWait x)
        rests = row-goes_to (op.BarWait x) is (λ x e. cc) (λ v q e. cc) (place.Blocked (spot.Object x) (S.object_next x.0)) (λ e. cc) (inl (no-eventual x barrier, own)) []
            ((x.0, suc (S.object_next x.0)) ∷ [])

        past : (v : ℕ) (c : Carried) → Waits W R (suc t) v x.0 c → Before W R (suc t) v c
        past v c (inl h) = h.1
        past v c (inr h) = absurd (no-eventual x barrier (op-declared W v h.at (op.EvWait x) valid h.waits))

        lands : (v k : ℕ) → StandsIn W S (Waiting x.0) v → Lands W R t S flowing s u held (op.BarWait x) is v (carries W R t S flowing s u held (op.BarWait x) is (S.carried u) refl v)
            (place.Tray (stream_no s) k)
        lands v k stands =
            let other : v ≢ u = elsewhere W R t S flowing s u held (op.BarWait x) is v (place.Blocked (spot.Object x) stands.ticket) stands.at (λ e. cc) in
            let c : Carried = carries W R t S flowing s u held (op.BarWait x) is (S.carried u) refl v in
            record {
              was = λ e. (let h : place.Blocked (spot.Object x) stands.ticket ≡ place.Unborn = sym stands.at ∙ e in cc);
              born = λ e. cc;
              tells = past v c (subst (Tells W R (suc t) v c) stands.at (others-tell W R t S flowing s u held (op.BarWait x) is (S.carried u) refl v other));
            }

        wakes-all : Stepped W R t S (changed S (wakes W S s u (standing W S (Waiting x.0)))) u (op.BarWait x)
        wakes-all =
            steps-moving W R t S flowing s u held (op.BarWait x) is (S.carried u) refl (λ x e. cc) (λ v q e. cc) (to_tray W S s (standing W S (Waiting x.0)))
            (tray_moves-each (λ m. Lands W R t S flowing s u held (op.BarWait x) is m.0 (carries W R t S flowing s u held (op.BarWait x) is (S.carried u) refl m.0) m.1)
            (StandsIn W S (Waiting x.0)) s (tray_end W S s) (standing W S (Waiting x.0)) lands (each-stands W S (Waiting x.0)))
            (λ out. own) [] []
