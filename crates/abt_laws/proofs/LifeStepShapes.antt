-- The shapes of steps: what a step of one unit means to it and to the others.
use Rattle.std.proofs.Common.{◌≡◌, ◌≢◌, ℕ, suc, ◌==◌, if◌then◌else◌, Bool, false, List, [], ◌∷◌, ◌++◌, take, Some, refl, sym, ◌∙◌, ap, subst, ◌⊎◌, inl, inr}
use Rattle.std.proofs.lemmas.Bool.{cases_eq, cond-true, cond-false, eq-eqb, ne_eqb, true≢false}
use Rattle.abt_machine.specs.declared.events.Code.{Code}
use Rattle.abt_machine.specs.declared.events.Place.{Place}
use Rattle.abt_machine.specs.declared.events.Place.TheVariants as place
use Rattle.abt_machine.specs.declared.events.What.TheVariants as what
use Rattle.abt_machine.specs.declared.numbers.UnitNo.{UnitNo}
use Rattle.abt_machine.specs.declared.operations.Body.{Body}
use Rattle.abt_machine.specs.declared.workload.Parts.{Parts}
use Rattle.abt_machine.specs.Numbers.{stream_no}
use Rattle.abt_machine.specs.Maps.{put_at, put_all}
use Rattle.abt_machine.specs.Workloads.{body_at, ops_of, is_sched}
use Rattle.abt_machine.specs.Carrying.{advanced, newborn}
use Rattle.abt_machine.specs.State.{State, Stream, Carried, Desk}
use Rattle.abt_machine.specs.Lines.{tray_end}
use Rattle.abt_machine.specs.Outcomes.{IsOver}
use Rattle.abt_machine.specs.Changes.{Change, changed}
use Rattle.abt_machine.specs.Steps.{begins}
use Rattle.abt_machine.specs.Fronts.{is_some_of}
use Rattle.abt_machine.specs.Lives.{life_after, count_up}
use Rattle.abt_laws.proofs.Options.{none≢some}
use Rattle.abt_laws.proofs.Lists.{EachOf, EachOf-then}
use Rattle.abt_laws.proofs.Maps.{put_at-same, put_at-other, put_all-kept}
use Rattle.abt_laws.proofs.Exits.{exited_at, HasDone, done-kept}
use Rattle.abt_laws.proofs.LifeTies.{IsOutside, IsBusy, IsBusy-outside, ends-busy, exited-outside, Drifts, Acts, Begins, Fate, Drifting, Acting, Beginning}

-- Changes by a step.

-- unit x goes to its next position, and others with new things to carry keep theirs
abbrev pub CarriesOn : State → ℕ → List (ℕ × Carried) → Type 0
CarriesOn S x [] = ⊥
CarriesOn S x (p ∷ ps) = (p.0 ≡ x) × (p.1.position ≡ suc (S.carried x).position) × EachOf (λ (q : ℕ × Carried). (q.0 ≢ x) × (q.1.position ≡ (S.carried q.0).position)) ps

-- a move of unit x, or of another from outside, to outside
abbrev pub StaysOutside : State → ℕ → ℕ × Place → Type 0
StaysOutside S x m = ((m.0 ≡ x) ⊎ IsOutside (S.place m.0)) × IsOutside m.1

-- a change by a step of unit x with which no life begins
pub record IsStep (S : State) (x : ℕ) (moves : List (ℕ × Place)) (carried : List (ℕ × Carried)) (desks : List (ℕ × Desk)) (streams : List (ℕ × Stream)) : Type 0 where
  pub stay_outside : EachOf (StaysOutside S x) moves
  pub goes_on : CarriesOn S x carried
  pub same_lives : EachOf (λ (d : ℕ × Desk). d.1.life ≡ (S.desk d.0).life) desks
  pub same_streams : streams ≡ []

abbrev pub Steps : State → ℕ → Change → Type 0
Steps S x c = IsStep S x c.moves c.carried c.desks c.streams

-- To the others.

carried-other : (S : State) (x u : ℕ) (ps : List (ℕ × Carried)) → u ≢ x → CarriesOn S x ps → (put_all S.carried ps u).position ≡ (S.carried u).position
carried-other S x u [] ne h = absurd h
carried-other S x u (p ∷ ps) ne h =
    elim (put_all-kept (λ n (c : Carried). (n ≡ x) ⊎ (c.position ≡ (S.carried n).position)) (put_at S.carried p.0 p.1) ps u
    (EachOf-then _ _ ps (λ q other. inr other.1) h.2) (inr (ap (λ (c : Carried). c.position) (put_at-other S.carried p.0 p.1 u (λ e. ne (e ∙ h.0))))))
    [ inl same ↦ absurd (ne same) | inr is ↦ is ]

-- a move of unit x, or of another from outside to outside
abbrev pub LeavesOthers : State → ℕ → ℕ × Place → Type 0
LeavesOthers S x m = (m.0 ≡ x) ⊎ (IsOutside (S.place m.0) × IsOutside m.1)

pub moved-other : (S : State) (x u : ℕ) (ms : List (ℕ × Place)) → u ≢ x → EachOf (LeavesOthers S x) ms → (put_all S.place ms u ≡ S.place u) ⊎ (IsOutside (S.place u) × IsOutside (put_all S.place ms u))
moved-other S x u ms ne h =
    elim (put_all-kept (λ n pl. (n ≡ x) ⊎ ((pl ≡ S.place n) ⊎ (IsOutside (S.place n) × IsOutside pl))) S.place ms u
    (EachOf-then _ _ ms (λ m leaves. elim leaves [ inl own ↦ inl own | inr out ↦ inr (inr out) ]) h) (inr (inl refl)))
    [ inl same ↦ absurd (ne same) | inr is ↦ is ]

leaves-others : (S : State) (x : ℕ) (ms : List (ℕ × Place)) → EachOf (StaysOutside S x) ms → EachOf (LeavesOthers S x) ms
leaves-others S x ms a = EachOf-then (StaysOutside S x) (LeavesOthers S x) ms (λ m stays. elim stays.0 [ inl own ↦ inl own | inr out ↦ inr (out, stays.1) ]) a

same-life : (S : State) (u : ℕ) (ds : List (ℕ × Desk)) → EachOf (λ (d : ℕ × Desk). d.1.life ≡ (S.desk d.0).life) ds → (put_all S.desk ds u).life ≡ (S.desk u).life
same-life S u ds h = put_all-kept (λ n (d : Desk). d.life ≡ (S.desk n).life) S.desk ds u h refl

step-drifts : (S : State) (x u : ℕ) (c : Change) → u ≢ x → Steps S x c → Drifts u S (changed S c)
step-drifts S x u c ne step = record {
  life = same-life S u c.desks step.same_lives;
  position = carried-other S x u c.carried ne step.goes_on;
  moves = moved-other S x u c.moves ne (leaves-others S x c.moves step.stay_outside);
  marks = λ r h. ap (λ ss. (put_all S.stream ss r.0).mark) step.same_streams;
}

-- To the unit that makes it.

carried-own : (S : State) (x : ℕ) (ps : List (ℕ × Carried)) → CarriesOn S x ps → (put_all S.carried ps x).position ≡ suc (S.carried x).position
carried-own S x [] h = absurd h
carried-own S x (p ∷ ps) h =
    elim (put_all-kept (λ n (c : Carried). (n ≡ x → ⊥) ⊎ (c.position ≡ suc (S.carried x).position)) (put_at S.carried p.0 p.1) ps x
    (EachOf-then _ _ ps (λ q other. inl other.0) h.2) (inr (ap (λ (c : Carried). c.position) (subst (λ n. put_at S.carried p.0 p.1 n ≡ p.1) h.0 (put_at-same S.carried p.0 p.1)) ∙ h.1)))
    [ inl other ↦ absurd (other refl) | inr is ↦ is ]

moved-own : (S : State) (x : ℕ) (ms : List (ℕ × Place)) → IsBusy (S.place x) → EachOf (StaysOutside S x) ms → IsBusy (put_all S.place ms x)
moved-own S x ms busy h = put_all-kept (λ n pl. IsBusy pl) S.place ms x (EachOf-then (StaysOutside S x) (λ m. IsBusy m.1) ms (λ m stays. IsBusy-outside m.1 stays.1) h) busy

-- where unit u has done an operation more than k, it has ended itself afterwards or not
abbrev pub DoesNext : Body → ℕ → ℕ → State → Bool → Type 0
DoesNext b u k S now = HasDone (exited_at S.stream (S.place u)) (take k (ops_of b)) → HasDone now (take (suc k) (ops_of b))

-- a unit that makes a step goes on, whatever else changes
pub acts-by_step : (b : Body) (v : UnitNo) (k : ℕ) (c : Code) (S T : State) (now : Bool) → is_sched b ≡ false → (S.carried v.0).position ≡ k → IsBusy (S.place v.0) → IsBusy (T.place v.0) → (T.desk v.0).life ≡ (S.desk v.0).life → (T.carried v.0).position ≡ suc (S.carried v.0).position →
    exited_at T.stream (T.place v.0) ≡ now → DoesNext b v.0 k S now → Acts b v.0 (what.Step v k c) S T
acts-by_step b v k c S T now program at busy stays life position exited does = record {
  busy = busy;
  born = λ e. subst IsBusy e stays;
  life = life;
  steps = ap count_up position ∙ ap (λ n. count_up (S.carried v.0).position ++ n ∷ []) at;
  ends = ends-busy (T.place v.0) stays;
  passes = λ h. absurd (true≢false (sym h ∙ program));
  done = λ done.
      done-kept (ops_of b) now (exited_at T.stream (T.place v.0)) (suc k) (T.carried v.0).position exited (position ∙ ap (λ n. suc n) at)
      (does (subst (λ n. HasDone (exited_at S.stream (S.place v.0)) (take n (ops_of b))) at done));
  cause = λ x h. absurd (none≢some h);
}

-- so does one that makes a call
pub acts-by_call : (b : Body) (v : UnitNo) (k : ℕ) (n : ℕ) (S T : State) (now : Bool) → is_sched b ≡ false → (S.carried v.0).position ≡ k → IsBusy (S.place v.0) → IsBusy (T.place v.0) →
    (T.desk v.0).life ≡ (S.desk v.0).life → (T.carried v.0).position ≡ suc (S.carried v.0).position →
    exited_at T.stream (T.place v.0) ≡ now → DoesNext b v.0 k S now → Acts b v.0 (what.Call v k n) S T
acts-by_call b v k n S T now program at busy stays life position exited does = record {
  busy = busy;
  born = λ e. subst IsBusy e stays;
  life = life;
  steps = ap count_up position ∙ ap (λ i. count_up (S.carried v.0).position ++ i ∷ []) at;
  ends = ends-busy (T.place v.0) stays;
  passes = λ h. absurd (true≢false (sym h ∙ program));
  done = λ done.
      done-kept (ops_of b) now (exited_at T.stream (T.place v.0)) (suc k) (T.carried v.0).position exited (position ∙ ap (λ i. suc i) at)
      (does (subst (λ i. HasDone (exited_at S.stream (S.place v.0)) (take i (ops_of b))) at done));
  cause = λ x h. absurd (none≢some h);
}

-- a unit that has not ended itself has not after such a step
alive-own : (S : State) (x : ℕ) (ch : Change) → exited_at S.stream (S.place x) ≡ false → Steps S x ch → exited_at (changed S ch).stream ((changed S ch).place x) ≡ false
alive-own S x ch alive step =
    subst (λ ss. exited_at (put_all S.stream ss) (put_all S.place ch.moves x) ≡ false) (sym step.same_streams)
    (put_all-kept (λ n pl. exited_at S.stream pl ≡ false) S.place ch.moves x (EachOf-then (StaysOutside S x) (λ m. exited_at S.stream m.1 ≡ false) ch.moves (λ m stays. exited-outside S.stream m.1 stays.1) step.stay_outside) alive)

step-acts : (b : Body) (v : UnitNo) (k : ℕ) (c : Code) (S : State) (ch : Change) → is_sched b ≡ false → (S.carried v.0).position ≡ k → IsBusy (S.place v.0) → exited_at S.stream (S.place v.0) ≡ false → DoesNext b v.0 k S false → Steps S v.0 ch → Acts b v.0 (what.Step v k c) S (changed S ch)
step-acts b v k c S ch program at busy alive does step =
    acts-by_step b v k c S (changed S ch) false program at busy (moved-own S v.0 ch.moves busy step.stay_outside) (same-life S v.0 ch.desks step.same_lives) (carried-own S v.0 ch.carried step.goes_on) (alive-own S v.0 ch alive step) does

-- Fates.

pub not-of : (u : ℕ) (v : UnitNo) → u ≢ v.0 → is_some_of u (Some v.0) ≡ false
not-of u v ne = ne_eqb v.0 u (λ e. ne (sym e))

-- what a step with which no life begins means to unit u
pub step-fate : (W : Parts) (S : State) (v : UnitNo) (k : ℕ) (c : Code) (u : ℕ) (ch : Change) → is_sched (body_at W v.0) ≡ false → (S.carried v.0).position ≡ k → IsBusy (S.place v.0) → exited_at S.stream (S.place v.0) ≡ false →
    DoesNext (body_at W v.0) v.0 k S false → ((n : ℕ) → life_after W u n (what.Step v k c) ≡ n) → Steps S v.0 ch → Fate W u (what.Step v k c) S (changed S ch)
step-fate W S v k c u ch program at busy alive does same step =
    elim (cases_eq u v.0) [
      | inl own ↦ Acting (ap (λ (n : ℕ). Some n) (sym own)) same (subst (λ n. Acts (body_at W n) n (what.Step v k c) S (changed S ch)) (sym own) (step-acts (body_at W v.0) v k c S ch program at busy alive does step))
      | inr other ↦ Drifting (not-of u v other) same (step-drifts S v.0 u ch other step)
    ]

over-not-busy : (pl : Place) → IsOver pl → IsBusy pl → ⊥
over-not-busy place.Unborn over busy = busy
over-not-busy (place.Ended c) over busy = busy
over-not-busy (place.Pool p t) over busy = over
over-not-busy (place.Hand s) over busy = over
over-not-busy (place.Next s) over busy = over
over-not-busy (place.Tray s t) over busy = over
over-not-busy (place.Frame s d) over busy = over
over-not-busy (place.Blocked x t) over busy = over

module _ (W : Parts) (S : State) (s : ℕ) (v w : UnitNo) (p k : ℕ) (c : Code) (program : is_sched (body_at W v.0) ≡ false) (at : (S.carried v.0).position ≡ k) (busy : IsBusy (S.place v.0)) (alive : exited_at S.stream (S.place v.0) ≡ false) (does : DoesNext (body_at W v.0) v.0 k S false) (over : IsOver (S.place w.0)) where
  abbrev T : State
  T = changed S (begins W S s v.0 w.0 p)

  apart : (u : ℕ) → u ≡ v.0 → u ≢ w.0
  apart u own born = over-not-busy (S.place w.0) over (subst (λ n. IsBusy (S.place n)) (sym own ∙ born) busy)

  birth-begins : Begins w.0 S T
  birth-begins = record {
    over = over;
    outside = subst IsOutside (sym (put_at-same S.place w.0 (place.Tray (stream_no s) (tray_end W S s)))) tt;
    life = ap (λ (d : Desk). d.life) (put_at-same S.desk w.0 (record (S.desk w.0) { life = suc (S.desk w.0).life }));
    position = ap (λ (d : Carried). d.position) (put_at-same (put_at S.carried v.0 (advanced (S.carried v.0))) w.0 (newborn p (S.carried w.0)));
  }

  place-other : (u : ℕ) → u ≢ w.0 → T.place u ≡ S.place u
  place-other u ne = put_at-other S.place w.0 (place.Tray (stream_no s) (tray_end W S s)) u ne

  life-other : (u : ℕ) → u ≢ w.0 → (T.desk u).life ≡ (S.desk u).life
  life-other u ne = ap (λ (d : Desk). d.life) (put_at-other S.desk w.0 (record (S.desk w.0) { life = suc (S.desk w.0).life }) u ne)

  carried-before : (u : ℕ) → u ≢ w.0 → T.carried u ≡ put_at S.carried v.0 (advanced (S.carried v.0)) u
  carried-before u ne = put_at-other (put_at S.carried v.0 (advanced (S.carried v.0))) w.0 (newborn p (S.carried w.0)) u ne

  birth-drifts : (u : ℕ) → u ≢ v.0 → u ≢ w.0 → Drifts u S T
  birth-drifts u ne other = record {
    life = life-other u other;
    position = ap (λ (d : Carried). d.position) (carried-before u other ∙ put_at-other S.carried v.0 (advanced (S.carried v.0)) u ne);
    moves = inl (place-other u other);
    marks = λ r h. refl;
  }

  birth-acts : Acts (body_at W v.0) v.0 (what.Step v k c) S T
  birth-acts =
      let other : v.0 ≢ w.0 = apart v.0 refl in
      acts-by_step (body_at W v.0) v k c S T false program at busy (subst IsBusy (sym (place-other v.0 other)) busy) (life-other v.0 other)
      (ap (λ (d : Carried). d.position) (carried-before v.0 other ∙ put_at-same S.carried v.0 (advanced (S.carried v.0))))
      (ap (exited_at S.stream) (place-other v.0 other) ∙ alive) does

  -- what a step with which a life of unit w begins means to unit u
  pub birth-fate : (u : ℕ) → ((n : ℕ) → life_after W u n (what.Step v k c) ≡ (if w.0 == u then suc n else n)) → Fate W u (what.Step v k c) S T
  birth-fate u life =
      elim (cases_eq u w.0) [
        | inl born ↦ Beginning (not-of u v (λ own. apart u own born)) (λ n. life n ∙ cond-true (w.0 == u) (suc n) n (eq-eqb w.0 u (sym born))) (subst (λ n. Begins n S T) (sym born) birth-begins)
        | inr other ↦ (
            let same : (n : ℕ) → life_after W u n (what.Step v k c) ≡ n = λ n. life n ∙ cond-false (w.0 == u) (suc n) n (ne_eqb w.0 u (λ e. other (sym e))) in
            elim (cases_eq u v.0) [
              | inl own ↦ Acting (ap (λ (n : ℕ). Some n) (sym own)) same (subst (λ n. Acts (body_at W n) n (what.Step v k c) S T) (sym own) birth-acts)
              | inr ne ↦ Drifting (not-of u v ne) same (birth-drifts u ne other)
            ])
      ]
