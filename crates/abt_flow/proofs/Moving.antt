-- A step that moves units and lets its unit go on.
use Rattle.std.proofs.Common.{◌≡◌, ◌≢◌, ℕ, suc, List, Some, sym, ◌∙◌, ap, subst, arith, inl, inr}
use Rattle.std.proofs.lemmas.Bool.{cases_eq}
use Rattle.abt_machine.specs.declared.events.Place.{Place}
use Rattle.abt_machine.specs.declared.events.Place.TheVariants as place
use Rattle.abt_machine.specs.declared.numbers.PoolNo.{PoolNo}
use Rattle.abt_machine.specs.declared.operations.Op.{Op}
use Rattle.abt_machine.specs.declared.operations.Op.TheVariants as op
use Rattle.abt_machine.specs.declared.workload.Parts.{Parts}
use Rattle.abt_machine.specs.Carrying.{advanced}
use Rattle.abt_machine.specs.Changes.{changed, goes_with}
use Rattle.abt_machine.specs.Maps.{put_at}
use Rattle.abt_machine.specs.Numbers.{object_no, stream_no, unit_no}
use Rattle.abt_machine.specs.State.{State, Carried}
use Rattle.abt_machine.specs.Workloads.{op_at}
use Rattle.abt_laws.proofs.Lists.{EachOf, EachOf-then}
use Rattle.abt_laws.proofs.Maps.{KeyOf, KeyOf-cases, put_all-kept, put_all-other, put_all-value, put_at-other, put_at-same}
use Rattle.abt_flow.specs.Effects.{effect}
use Rattle.abt_flow.specs.Flow.{AtPoint, Becomes, Functions}
use Rattle.abt_flow.proofs.Points.{HasValue, point-next, points-within}
use Rattle.abt_flow.proofs.Stepping.{Stepped}
use Rattle.abt_flow.proofs.Tells.{Before, Flowing, Tells, memory_of, plain-tells, tells-more}

-- A unit in a hand does operation o.

module _ (W : Parts) (R : Functions) (t : ℕ) (S : State) (flowing : Flowing W R t S) (s u : ℕ) (held : S.place u ≡ place.Hand (stream_no s)) (o : Op)
    (is : op_at W u (S.carried u).position ≡ Some o) where
  pub before : Before W R t u (S.carried u)
  before = plain-tells W R t u (S.carried u) (place.Hand (stream_no s)) tt (subst (Tells W R t u (S.carried u)) held (flowing.units u))

  pub elsewhere : (v : ℕ) (pl : Place) → S.place v ≡ pl → (pl ≡ place.Hand (stream_no s) → ⊥) → v ≢ u
  elsewhere v pl at h same = h (sym at ∙ (ap S.place same ∙ held))

  -- what the operation makes
  pub went : (c : Carried) → c.position ≡ (S.carried u).position → Becomes R u (HasValue W R t) (effect o) (memory_of (S.carried u)) (memory_of c) → Before W R (suc t) u (advanced c)
  went c p leads =
      let made : AtPoint W R (suc t) u (suc (S.carried u).position) (memory_of c) = point-next W R t u (S.carried u).position o (memory_of (S.carried u)) (memory_of c) is before.1 leads in
      (before.0, subst (λ k. AtPoint W R (suc (suc t)) u (suc k) (memory_of c)) (sym p) (points-within W R (suc t) (suc (suc t)) u (suc (S.carried u).position) (memory_of c) (omega arith) made))

  -- unit n comes to a place with these things to carry
  pub record Lands (n : ℕ) (carries : Carried) (pl : Place) : Type 0 where
    pub was : S.place n ≡ place.Unborn → ⊥
    pub born : pl ≡ place.Unborn → ⊥
    pub tells : Tells W R (suc t) n carries pl

  module _ (c : Carried) (p : c.position ≡ (S.carried u).position) where
    abbrev pub carries : ℕ → Carried
    carries = put_at S.carried u (advanced c)

    pub carries-here : carries u ≡ advanced c
    carries-here = put_at-same S.carried u (advanced c)

    pub carries-there : (v : ℕ) → v ≢ u → carries v ≡ S.carried v
    carries-there v other = put_at-other S.carried u (advanced c) v other

    -- the others are as they were
    pub others-tell : (v : ℕ) → v ≢ u → Tells W R (suc t) v (carries v) (S.place v)
    others-tell v other = subst (λ d. Tells W R (suc t) v d (S.place v)) (sym (carries-there v other)) (tells-more W R t v (S.carried v) (S.place v) (flowing.units v))

    module _ (no_set : (x : ℕ) → o ≡ op.EvSet (object_no x) → ⊥) (no_create : (v : ℕ) (q : PoolNo) → o ≡ op.Create (unit_no v) q → ⊥) (ms : List (ℕ × Place))
        (lands : EachOf (λ (m : ℕ × Place). Lands m.0 (carries m.0) m.1) ms) (stays : (KeyOf u ms → ⊥) → Before W R (suc t) u (advanced c)) (js os : List (ℕ × ℕ)) where
      abbrev moved : State
      moved = changed S (record (goes_with u c) { moves = ms; join_next = js; object_next = os })

      unmoved : (v : ℕ) → (KeyOf v ms → ⊥) → Tells W R (suc t) v (carries v) (S.place v)
      unmoved v out =
          elim (cases_eq v u) [
            | inr other ↦ others-tell v other
            | inl same ↦ subst (λ n. Tells W R (suc t) n (carries n) (S.place n)) (sym same)
                (subst (λ d. Tells W R (suc t) u d (S.place u)) (sym carries-here) (subst (Tells W R (suc t) u (advanced c)) (sym held) (stays (subst (λ n. KeyOf n ms → ⊥) same out))))
          ]

      tell : (v : ℕ) → Tells W R (suc t) v (carries v) (moved.place v)
      tell v =
          elim (KeyOf-cases v ms) [
            | inl key ↦ put_all-value (λ n pl. Tells W R (suc t) n (carries n) pl) S.place ms v
                (EachOf-then (λ (m : ℕ × Place). Lands m.0 (carries m.0) m.1) (λ (m : ℕ × Place). Tells W R (suc t) m.0 (carries m.0) m.1) ms (λ m l. l.tells) lands) key
            | inr out ↦ subst (Tells W R (suc t) v (carries v)) (sym (put_all-other S.place ms v out)) (unmoved v out)
          ]

      still-unborn : (v : ℕ) → S.place v ≡ place.Unborn → moved.place v ≡ place.Unborn
      still-unborn v = put_all-kept (λ n pl. S.place n ≡ place.Unborn → pl ≡ place.Unborn) S.place ms v
          (EachOf-then (λ (m : ℕ × Place). Lands m.0 (carries m.0) m.1) (λ (m : ℕ × Place). S.place m.0 ≡ place.Unborn → m.1 ≡ place.Unborn) ms (λ m l e. absurd (l.was e)) lands) (λ e. e)

      were-unborn : (v : ℕ) → moved.place v ≡ place.Unborn → S.place v ≡ place.Unborn
      were-unborn v = put_all-kept (λ n pl. pl ≡ place.Unborn → S.place n ≡ place.Unborn) S.place ms v
          (EachOf-then (λ (m : ℕ × Place). Lands m.0 (carries m.0) m.1) (λ (m : ℕ × Place). m.1 ≡ place.Unborn → S.place m.0 ≡ place.Unborn) ms (λ m l e. absurd (l.born e)) lands) (λ e. e)

      pub steps-moving : Stepped W R t S moved u o
      steps-moving = record {
        units = tell;
        own = ap (λ (d : Carried). d.position) carries-here ∙ ap (λ k. suc k) p;
        others = λ v other. ap (λ (d : Carried). d.position) (carries-there v other);
        unborn = λ v e. inl (still-unborn v e);
        stays = were-unborn;
        creates = λ v q e. absurd (no_create v q e);
        values = λ x n e. inl e;
        calm = flowing.calm;
        marks = flowing.marks;
      }
