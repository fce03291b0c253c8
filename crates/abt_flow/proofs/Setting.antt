-- A set of an eventual of a confluent workload goes through, and those who wait for it get its value.
use Rattle.std.proofs.Common.{◌≡◌, ◌≢◌, ℕ, suc, ◌<◌, List, [], ◌∷◌, map, is_none, Option, Some, None, refl, sym, ◌∙◌, ap, subst, arith, ◌⊎◌, inl, inr}
use Rattle.std.proofs.lemmas.Bool.{cases_eq}
use Rattle.abt_machine.specs.declared.events.Code.TheVariants as code
use Rattle.abt_machine.specs.declared.events.Place.{Place}
use Rattle.abt_machine.specs.declared.events.Place.TheVariants as place
use Rattle.abt_machine.specs.declared.events.Spot.TheVariants as spot
use Rattle.abt_machine.specs.declared.numbers.ObjectNo.{ObjectNo}
use Rattle.abt_machine.specs.declared.operations.Op.TheVariants as op
use Rattle.abt_machine.specs.declared.workload.Parts.{Parts}
use Rattle.abt_machine.specs.Carrying.{advanced, with_acc}
use Rattle.abt_machine.specs.Changes.{changed, to_tray}
use Rattle.abt_machine.specs.Codes.{code_of, unless}
use Rattle.abt_machine.specs.Lines.{Waiting, standing, tray_end}
use Rattle.abt_machine.specs.Numbers.{object_no, stream_no}
use Rattle.abt_machine.specs.State.{State, Carried}
use Rattle.abt_machine.specs.Steps.{op_row, receives}
use Rattle.abt_machine.specs.Valid.{IsValid}
use Rattle.abt_machine.specs.Workloads.{op_at}
use Rattle.abt_machine.proofs.Declared.{op-declared}
use Rattle.abt_laws.proofs.LineMoves.{tray_moves-among, tray_moves-each, tray_moves-key}
use Rattle.abt_laws.proofs.Lists.{Among, EachOf-all, EachOf-map, EachOf-then}
use Rattle.abt_laws.proofs.Maps.{KeyOf, KeyOf-cases, put_all-kept, put_all-other, put_all-value, put_at-cases}
use Rattle.abt_laws.proofs.Options.{some-injective}
use Rattle.abt_laws.proofs.Pushes.{EachOf-among}
use Rattle.abt_laws.proofs.Standing.{StandsIn, each-stands}
use Rattle.abt_flow.specs.Confluent.{Confluent}
use Rattle.abt_flow.specs.Effects.{Memory}
use Rattle.abt_flow.specs.Effects as flow
use Rattle.abt_flow.specs.Flow.{AtPoint, Functions}
use Rattle.abt_flow.proofs.Moving.{before, carries, carries-here, carries-there, elsewhere, others-tell, went}
use Rattle.abt_flow.proofs.Points.{point-next, points-within}
use Rattle.abt_flow.proofs.Stepping.{Stepped}
use Rattle.abt_flow.proofs.Tells.{Before, Flowing, IsSet, Tells, Waits, memory_of}

-- who receives is among those who are given to
received-among : (S : State) (n : ℕ) (us : List ℕ) (v : ℕ) → KeyOf v (map (receives S n) us) → Among v us
received-among S n [] v k = k
received-among S n (u ∷ us) v (inl e) = inl e
received-among S n (u ∷ us) v (inr k) = inr (received-among S n us v k)

among-received : (S : State) (n : ℕ) (us : List ℕ) (v : ℕ) → Among v us → KeyOf v (map (receives S n) us)
among-received S n [] v k = k
among-received S n (u ∷ us) v (inl e) = inl e
among-received S n (u ∷ us) v (inr k) = inr (among-received S n us v k)

module _ (W : Parts) (R : Functions) (valid : IsValid W) (confluent : Confluent W) (t : ℕ) (S : State) (flowing : Flowing W R t S) (s u : ℕ) (held : S.place u ≡ place.Hand (stream_no s))
    (x : ObjectNo) (is : op_at W u (S.carried u).position ≡ Some (op.EvSet x)) where
  abbrev acc : ℕ
  acc = (S.carried u).acc

  -- the eventual has no value yet, since no other operation sets it
  unset : S.eventual x.0 ≡ None
  unset = by (S.eventual x.0) refl where
    by : (o : Option ℕ) → S.eventual x.0 ≡ o → o ≡ None
    by None e = refl
    by (Some n) e =
        let set : IsSet W R t S x.0 n = flowing.values x.0 n e in
        let same : (set.setter ≡ u) × (set.at ≡ (S.carried u).position) = confluent.sets_once set.setter u set.at (S.carried u).position x set.sets is in
        let behind : set.at < (S.carried u).position = subst (λ k. set.at < (S.carried k).position) same.0 set.behind in
        let here : set.at ≡ (S.carried u).position = same.1 in absurd (omega arith)

  pub set-ok : code_of W S s u (op.EvSet x) ≡ code.Ok
  set-ok = ap (λ o. unless (is_none o) code.EventualSet code.Ok) unset

  own : Before W R t u (S.carried u)
  own = before W R t S flowing s u held (op.EvSet x) is

  abbrev waiters : List ℕ
  waiters = standing W S (Waiting x.0)

  abbrev keeps : ℕ → Carried
  keeps = carries W R t S flowing s u held (op.EvSet x) is (S.carried u) refl

  abbrev then : State
  then = changed S (op_row W S s u (op.EvSet x))

  -- a unit that waits gets the value
  waiter-told : (v : ℕ) → Waits W R t v x.0 (S.carried v) → Before W R (suc t) v (with_acc acc (S.carried v))
  waiter-told v (inl h) = absurd (h.0 (op-declared W u (S.carried u).position (op.EvSet x) valid is))
  waiter-told v (inr h) =
      let old : Memory = memory_of (S.carried v) in
      let made : AtPoint W R (suc (suc t)) v (suc h.at) (flow.with_acc acc old) =
      point-next W R (suc t) v h.at (op.EvWait x) old (flow.with_acc acc old) h.waits (points-within W R (suc t) (suc (suc t)) v h.at old (omega arith) h.made)
      (acc, (u, (S.carried u).position, memory_of (S.carried u), own.0, is, own.1, refl), refl) in
      (h.reached, subst (λ k. AtPoint W R (suc (suc t)) v k (flow.with_acc acc old)) (sym h.position) made)

  waiter-other : (v : ℕ) → StandsIn W S (Waiting x.0) v → v ≢ u
  waiter-other v stands = elsewhere W R t S flowing s u held (op.EvSet x) is v (place.Blocked (spot.Object x) stands.ticket) stands.at (λ e. cc)

  waiter-tells : (v : ℕ) → StandsIn W S (Waiting x.0) v → Before W R (suc t) v (with_acc acc (S.carried v))
  waiter-tells v stands = waiter-told v (subst (Tells W R t v (S.carried v)) stands.at (flowing.units v))

  -- what a waiter has afterwards
  given : (v : ℕ) → Among v waiters → then.carried v ≡ with_acc acc (S.carried v)
  given v among =
      put_all-value (λ n (c : Carried). c ≡ with_acc acc (S.carried n)) keeps (map (receives S acc) waiters) v
      (EachOf-map (λ (m : ℕ × Carried). m.1 ≡ with_acc acc (S.carried m.0)) (λ _. Unit {0}) (receives S acc) waiters (λ n _. refl) (EachOf-all (λ _. Unit {0}) waiters (λ _. tt)))
      (among-received S acc waiters v among)

  not-given : (v : ℕ) → (Among v waiters → ⊥) → then.carried v ≡ keeps v
  not-given v out = put_all-other keeps (map (receives S acc) waiters) v (λ k. out (received-among S acc waiters v k))

  own-not_waiting : Among u waiters → ⊥
  own-not_waiting among = EachOf-among (λ v. v ≢ u) waiters u (EachOf-then (StandsIn W S (Waiting x.0)) (λ v. v ≢ u) waiters waiter-other (each-stands W S (Waiting x.0))) among refl

  went-on : Tells W R (suc t) u (keeps u) (S.place u)
  went-on =
      subst (λ d. Tells W R (suc t) u d (S.place u)) (sym (carries-here W R t S flowing s u held (op.EvSet x) is (S.carried u) refl))
      (subst (Tells W R (suc t) u (advanced (S.carried u))) (sym held) (went W R t S flowing s u held (op.EvSet x) is (S.carried u) refl refl))

  not-woken : (n : ℕ) → Tells W R (suc t) n (keeps n) (S.place n)
  not-woken n =
      elim (cases_eq n u) [
        | inl same ↦ subst (λ k. Tells W R (suc t) k (keeps k) (S.place k)) (sym same) went-on
        | inr away ↦ others-tell W R t S flowing s u held (op.EvSet x) is (S.carried u) refl n away
      ]

  abbrev moves : List (ℕ × Place)
  moves = to_tray W S s waiters

  woken : (v k : ℕ) → Before W R (suc t) v (with_acc acc (S.carried v)) → Among v waiters → Tells W R (suc t) v (then.carried v) (place.Tray (stream_no s) k)
  woken v k b among = subst (Before W R (suc t) v) (sym (given v among)) b

  tell : (n : ℕ) → Tells W R (suc t) n (then.carried n) (then.place n)
  tell n =
      elim (KeyOf-cases n moves) [
        | inl key ↦ (let among : Among n waiters = tray_moves-among s (tray_end W S s) waiters n key in
            let b : Before W R (suc t) n (with_acc acc (S.carried n)) = EachOf-among (λ v. Before W R (suc t) v (with_acc acc (S.carried v))) waiters n
            (EachOf-then (StandsIn W S (Waiting x.0)) (λ v. Before W R (suc t) v (with_acc acc (S.carried v))) waiters waiter-tells (each-stands W S (Waiting x.0))) among in
            put_all-value (λ v pl. v ≡ n → Tells W R (suc t) n (then.carried n) pl) S.place moves n
            (tray_moves-each (λ (m : ℕ × Place). m.0 ≡ n → Tells W R (suc t) n (then.carried n) m.1) (λ _. Unit {0}) s (tray_end W S s) waiters (λ v k _ _. woken n k b among)
            (EachOf-all (λ _. Unit {0}) waiters (λ _. tt))) key refl)
        | inr out ↦ subst (Tells W R (suc t) n (then.carried n)) (sym (put_all-other S.place moves n out))
            (subst (λ d. Tells W R (suc t) n d (S.place n)) (sym (not-given n (λ among. out (tray_moves-key s (tray_end W S s) waiters n among)))) (not-woken n))
      ]

  position-of : (n : ℕ) → n ≢ u → (then.carried n).position ≡ (S.carried n).position
  position-of n away =
      put_all-kept (λ k (c : Carried). k ≢ u → c.position ≡ (S.carried k).position) keeps (map (receives S acc) waiters) n
      (EachOf-map (λ (m : ℕ × Carried). m.0 ≢ u → m.1.position ≡ (S.carried m.0).position) (λ _. Unit {0}) (receives S acc) waiters (λ k _ _. refl) (EachOf-all (λ _. Unit {0}) waiters (λ _. tt)))
      (λ out. ap (λ (c : Carried). c.position) (carries-there W R t S flowing s u held (op.EvSet x) is (S.carried u) refl n out)) away

  own-position : (then.carried u).position ≡ suc (S.carried u).position
  own-position = ap (λ (c : Carried). c.position) (not-given u own-not_waiting) ∙ ap (λ (c : Carried). c.position) (carries-here W R t S flowing s u held (op.EvSet x) is (S.carried u) refl)

  were-unborn : (n : ℕ) → then.place n ≡ place.Unborn → S.place n ≡ place.Unborn
  were-unborn n = put_all-kept (λ k pl. pl ≡ place.Unborn → S.place k ≡ place.Unborn) S.place moves n
      (tray_moves-each (λ (m : ℕ × Place). m.1 ≡ place.Unborn → S.place m.0 ≡ place.Unborn) (λ _. Unit {0}) s (tray_end W S s) waiters (λ v k _ e. cc)
      (EachOf-all (λ _. Unit {0}) waiters (λ _. tt))) (λ e. e)

  still : (n : ℕ) → S.place n ≡ place.Unborn → then.place n ≡ place.Unborn
  still n = put_all-kept (λ k pl. S.place k ≡ place.Unborn → pl ≡ place.Unborn) S.place moves n
      (tray_moves-each (λ (m : ℕ × Place). S.place m.0 ≡ place.Unborn → m.1 ≡ place.Unborn) (StandsIn W S (Waiting x.0)) s (tray_end W S s) waiters
      (λ v k stands e. (let h : place.Blocked (spot.Object x) stands.ticket ≡ place.Unborn = sym stands.at ∙ e in absurd cc)) (each-stands W S (Waiting x.0))) (λ e. e)

  set-to : (y n : ℕ) → then.eventual y ≡ Some n → (S.eventual y ≡ Some n) ⊎ ((op.EvSet x ≡ op.EvSet (object_no y)) × (acc ≡ n))
  set-to y n e =
      elim (put_at-cases S.eventual x.0 (Some acc) y) [
        | inl here ↦ inr (ap (λ k. op.EvSet (object_no k)) (sym here.0), some-injective (sym here.1 ∙ e))
        | inr away ↦ inl (sym away.1 ∙ e)
      ]

  pub row-sets : Stepped W R t S then u (op.EvSet x)
  row-sets = record {
    units = tell;
    own = own-position;
    others = position-of;
    unborn = λ n e. inl (still n e);
    stays = were-unborn;
    creates = λ v q e. cc;
    values = set-to;
    calm = flowing.calm;
    marks = flowing.marks;
  }
