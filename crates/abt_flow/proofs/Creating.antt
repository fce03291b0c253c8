-- A creation of a confluent workload goes through, and its unit begins.
use Rattle.std.proofs.Common.{◌≡◌, ◌≢◌, ℕ, suc, ◌<◌, true, length, replicate, Some, refl, sym, ◌∙◌, ap, subst, arith, ◌⊎◌, inl, inr}
use Rattle.std.proofs.lemmas.Bool.{cases_eq}
use Rattle.std.proofs.lemmas.List.{length-replicate}
use Rattle.abt_machine.specs.declared.events.Code.TheVariants as code
use Rattle.abt_machine.specs.declared.events.Place.{Place}
use Rattle.abt_machine.specs.declared.events.Place.TheVariants as place
use Rattle.abt_machine.specs.declared.numbers.PoolNo.{PoolNo}
use Rattle.abt_machine.specs.declared.numbers.UnitNo.{UnitNo}
use Rattle.abt_machine.specs.declared.operations.Access.{Access}
use Rattle.abt_machine.specs.declared.operations.Access.TheVariants as access
use Rattle.abt_machine.specs.declared.operations.Op.TheVariants as op
use Rattle.abt_machine.specs.declared.workload.Parts.{Parts}
use Rattle.abt_machine.specs.Access.{may_put, puts}
use Rattle.abt_machine.specs.Carrying.{advanced, newborn}
use Rattle.abt_machine.specs.Changes.{changed}
use Rattle.abt_machine.specs.Codes.{code_of, is_unborn, unless}
use Rattle.abt_machine.specs.Lines.{tray_end}
use Rattle.abt_machine.specs.Numbers.{stream_no, unit_no}
use Rattle.abt_machine.specs.State.{State, Carried, Desk}
use Rattle.abt_machine.specs.Steps.{begins}
use Rattle.abt_machine.specs.Workloads.{access_of, op_at}
use Rattle.abt_laws.proofs.Maps.{put_at-cases, put_at-other, put_at-same}
use Rattle.abt_flow.specs.Confluent.{Confluent, IsOpen}
use Rattle.abt_flow.specs.Effects.{Memory, fresh}
use Rattle.abt_flow.specs.Flow.{Created, Functions}
use Rattle.abt_flow.proofs.Moving.{before, carries, carries-here, carries-there, elsewhere, others-tell, went}
use Rattle.abt_flow.proofs.Stepping.{Stepped, is_unborn-cases}
use Rattle.abt_flow.proofs.Tells.{Before, Flowing, IsCreated, Tells, memory_of}

-- Every stream may put into an open pool.

open-puts : (a : Access) (s : ℕ) → IsOpen a → puts a s ≡ true
open-puts (access.Priv a) s h = absurd h
open-puts (access.Spsc a b) s h = absurd h
open-puts (access.Mpsc b) s h = refl
open-puts (access.Spmc a) s h = absurd h
open-puts access.Mpmc s h = refl

module _ (W : Parts) (R : Functions) (confluent : Confluent W) (t : ℕ) (S : State) (flowing : Flowing W R t S) (s u : ℕ) (held : S.place u ≡ place.Hand (stream_no s)) (v : UnitNo) (p : PoolNo)
    (is : op_at W u (S.carried u).position ≡ Some (op.Create v p)) where
  -- the unit is not created yet, since no other operation creates it
  unborn : S.place v.0 ≡ place.Unborn
  unborn =
      elim (is_unborn-cases (S.place v.0)) [
        | inl e ↦ e
        | inr there ↦ (let c : IsCreated W S v.0 = flowing.created v.0 there (confluent.creates_later u (S.carried u).position v p is) in
            let same : (c.creator ≡ u) × (c.at ≡ (S.carried u).position) = confluent.creates_once c.creator u c.at (S.carried u).position v c.pool p c.creates is in
            let behind : c.at < (S.carried u).position = subst (λ n. c.at < (S.carried n).position) same.0 c.behind in
            let here : c.at ≡ (S.carried u).position = same.1 in absurd (omega arith))
      ]

  pub create-ok : code_of W S s u (op.Create v p) ≡ code.Ok
  create-ok =
      let put : may_put W s p.0 ≡ true = open-puts (access_of W p.0) s (confluent.creates_open u (S.carried u).position v p is) in
      ap (λ b. unless b code.PoolAccess (unless (is_unborn (S.place v.0)) code.Exists code.Ok)) put ∙ ap (λ pl. unless (is_unborn pl) code.Exists code.Ok) unborn

  other : v.0 ≢ u
  other = elsewhere W R t S flowing s u held (op.Create v p) is v.0 place.Unborn unborn (λ e. cc)

  own : Before W R t u (S.carried u)
  own = before W R t S flowing s u held (op.Create v p) is

  tells : Tells W R t v.0 (S.carried v.0) place.Unborn
  tells = subst (Tells W R t v.0 (S.carried v.0)) unborn (flowing.units v.0)

  -- it begins with the memory of a unit that begins
  begun : memory_of (newborn p.0 (S.carried v.0)) ≡ fresh W
  begun =
      let keys : (S.carried v.0).keys ≡ replicate W.keys 0 = ap (λ (m : Memory). m.keys) tells.2 in
      let output : (S.carried v.0).output ≡ (fresh W).output = ap (λ (m : Memory). m.output) tells.2 in
      let few : length (S.carried v.0).keys ≡ W.keys = ap length keys ∙ length-replicate W.keys 0 in
      let first : memory_of (newborn p.0 (S.carried v.0)) ≡ record { acc = 0; keys = replicate W.keys 0; output = (S.carried v.0).output } = ap
      (λ n. let m : Memory = record { acc = 0; keys = replicate n 0; output = (S.carried v.0).output } in m) few in
      first ∙ ap (λ out. let m : Memory = record { acc = 0; keys = replicate W.keys 0; output = out } in m) output

  began : Before W R (suc t) v.0 (newborn p.0 (S.carried v.0))
  began = (Created v.0 u (S.carried u).position p own.0 is, begun)

  abbrev keeps : ℕ → Carried
  keeps = carries W R t S flowing s u held (op.Create v p) is (S.carried u) refl

  abbrev then : State
  then = changed S (begins W S s u v.0 p.0)

  went-on : Tells W R (suc t) u (keeps u) (S.place u)
  went-on =
      subst (λ d. Tells W R (suc t) u d (S.place u)) (sym (carries-here W R t S flowing s u held (op.Create v p) is (S.carried u) refl))
      (subst (Tells W R (suc t) u (advanced (S.carried u))) (sym held) (went W R t S flowing s u held (op.Create v p) is (S.carried u) refl refl))

  not-created : (n : ℕ) → Tells W R (suc t) n (keeps n) (S.place n)
  not-created n =
      elim (cases_eq n u) [
        | inl same ↦ subst (λ k. Tells W R (suc t) k (keeps k) (S.place k)) (sym same) went-on
        | inr away ↦ others-tell W R t S flowing s u held (op.Create v p) is (S.carried u) refl n away
      ]

  abbrev tray : Place
  tray = place.Tray (stream_no s) (tray_end W S s)

  tell : (n : ℕ) → Tells W R (suc t) n (then.carried n) (then.place n)
  tell n =
      elim (put_at-cases S.place v.0 tray n) [
        | inl created ↦ subst (Tells W R (suc t) n (then.carried n)) (sym created.1)
            (subst (Before W R (suc t) n) (sym (ap (then.carried) created.0 ∙ put_at-same keeps v.0 (newborn p.0 (S.carried v.0))))
            (subst (λ k. Before W R (suc t) k (newborn p.0 (S.carried v.0))) (sym created.0) began))
        | inr away ↦ subst (Tells W R (suc t) n (then.carried n)) (sym away.1)
            (subst (λ d. Tells W R (suc t) n d (S.place n)) (sym (put_at-other keeps v.0 (newborn p.0 (S.carried v.0)) n away.0)) (not-created n))
      ]

  position-of : (n : ℕ) → n ≢ u → (then.carried n).position ≡ (S.carried n).position
  position-of n away =
      elim (put_at-cases keeps v.0 (newborn p.0 (S.carried v.0)) n) [
        | inl created ↦ ap (λ (d : Carried). d.position) created.1 ∙ (sym tells.1 ∙ ap (λ k. (S.carried k).position) (sym created.0))
        | inr out ↦ ap (λ (d : Carried). d.position) out.1 ∙ ap (λ (d : Carried). d.position) (carries-there W R t S flowing s u held (op.Create v p) is (S.carried u) refl n away)
      ]

  own-position : (then.carried u).position ≡ suc (S.carried u).position
  own-position =
      ap (λ (d : Carried). d.position) (put_at-other keeps v.0 (newborn p.0 (S.carried v.0)) u (λ e. other (sym e))) ∙ ap (λ (d : Carried). d.position)
      (carries-here W R t S flowing s u held (op.Create v p) is (S.carried u) refl)

  were-unborn : (n : ℕ) → then.place n ≡ place.Unborn → S.place n ≡ place.Unborn
  were-unborn n e = elim (put_at-cases S.place v.0 tray n) [ inl created ↦ (let h : tray ≡ place.Unborn = sym created.1 ∙ e in absurd cc) | inr away ↦ sym away.1 ∙ e ]

  still : (n : ℕ) → S.place n ≡ place.Unborn → (then.place n ≡ place.Unborn) ⊎ ((q : PoolNo) × (op.Create v p ≡ op.Create (unit_no n) q))
  still n e = elim (put_at-cases S.place v.0 tray n) [ inl created ↦ inr (p, ap (λ k. op.Create (unit_no k) p) (sym created.0)) | inr away ↦ inl (away.1 ∙ e) ]

  is-created : (n : ℕ) (q : PoolNo) → op.Create v p ≡ op.Create (unit_no n) q → then.place n ≡ place.Unborn → ⊥
  is-created n q e unborn =
      let same : v ≡ unit_no n = cc in
      let at : v.0 ≡ n = ap (λ (k : UnitNo). k.0) same in
      let h : tray ≡ place.Unborn = sym (put_at-same S.place v.0 tray) ∙ (ap then.place at ∙ unborn) in cc

  pub row-creates : Stepped W R t S then u (op.Create v p)
  row-creates = record {
    units = tell;
    own = own-position;
    others = position-of;
    unborn = still;
    stays = were-unborn;
    creates = is-created;
    values = λ x n e. inl e;
    calm = λ n. elim (put_at-cases S.desk v.0 (let d : Desk = record (S.desk v.0) { life = suc (S.desk v.0).life } in d) n) [
      | inl created ↦ ap (λ (d : Desk). d.cancel) created.1
          ∙ flowing.calm v.0
      | inr away ↦ ap (λ (d : Desk). d.cancel) away.1 ∙ flowing.calm n
    ];
    marks = flowing.marks;
  }
