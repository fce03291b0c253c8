-- Along a run those that stand in a pool keep their order, and a FIFO pool serves in that order.
use Rattle.std.proofs.Common.{◌≡◌, ◌≤◌, ◌+◌, ◌==◌, ℕ, Bool, true, false, if◌then◌else◌, List, [], ◌∷◌, ◌++◌, length, Some, refl, sym, ◌∙◌, ap, ap₂, subst, append_assoc, arith, ◌⊎◌, inl, inr, Contains}
use Rattle.std.specs.Prelude.{cond, filter, not}
use Rattle.std.proofs.lemmas.List.Sums.{sum_by-cons}
use Rattle.std.proofs.lemmas.Bool.{cases_eq, cond-false, cond-true, cond_both, eq-eqb, ne_eqb, true≢false}
use Rattle.std.proofs.lemmas.List.{append-nil}
use Rattle.std.proofs.lemmas.List.Elements.{Contains-append_right, filter-append}
use Rattle.abt_machine.specs.declared.events.Event.{Event}
use Rattle.abt_machine.specs.declared.events.What.{What}
use Rattle.abt_machine.specs.declared.events.What.TheVariants as what
use Rattle.abt_machine.specs.declared.numbers.PoolNo.{PoolNo}
use Rattle.abt_machine.specs.declared.numbers.UnitNo.{UnitNo}
use Rattle.abt_machine.specs.declared.operations.Kind.{Kind}
use Rattle.abt_machine.specs.declared.operations.Kind.TheVariants as kind
use Rattle.abt_machine.specs.Stored.{Stored}
use Rattle.abt_machine.specs.declared.workload.Parts.{Parts}
use Rattle.abt_machine.specs.Events.{After, May, after}
use Rattle.abt_machine.specs.Fronts.{at_end, owns, side_by}
use Rattle.abt_machine.specs.Queues.{first}
use Rattle.abt_machine.specs.Rounds.{OrdersStored}
use Rattle.abt_machine.specs.Runs.{RunFrom, last_state, state_after}
use Rattle.abt_machine.specs.Sound.{Sound}
use Rattle.abt_machine.specs.Start.{start}
use Rattle.abt_machine.specs.State.{State}
use Rattle.abt_machine.specs.Valid.{IsValid}
use Rattle.abt_machine.specs.Workloads.{kind_of}
use Rattle.abt_laws.proofs.Filters.{filter-all}
use Rattle.abt_laws.proofs.Lists.{EachOf-all}
use Rattle.abt_laws.proofs.Options.{some-injective}
use Rattle.abt_laws.proofs.RunParts.{last_state-sound, run-front, run-rest, state_after-append}
use Rattle.abt_laws.proofs.SoundRuns.{events-keep-sound, runs-are-sound}
use Rattle.abt_service.specs.Pools.{FewAreBefore, PooledKeepOrder, TakenInOrder, is_taken, pooled, taken_in, takes, takes_from}
use Rattle.abt_service.proofs.Pooling.{events-keep-pools}

-- a choice of a choice
filter-twice : (p q r : ℕ → Bool) (us : List ℕ) → ((u : ℕ) → r u ≡ (if p u then q u else false)) → filter q (filter p us) ≡ filter r us
filter-twice p q r [] both = refl
filter-twice p q r (u ∷ us) both = by (p u) refl (filter-twice p q r us both) where
  by : (b : Bool) → p u ≡ b → filter q (filter p us) ≡ filter r us → filter q (filter p (u ∷ us)) ≡ filter r (u ∷ us)
  by true e rest =
      ap (filter q) (cond-true (p u) (u ∷ filter p us) (filter p us) e)
      ∙ ap₂ (λ (b : Bool) (vs : List ℕ). if b then u ∷ vs else vs) (sym (both u ∙ cond-true (p u) (q u) false e)) rest
  by false e rest =
      ap (filter q) (cond-false (p u) (u ∷ filter p us) (filter p us) e) ∙ (rest ∙ sym (cond-false (r u) (u ∷ filter r us) (filter r us) (both u ∙ cond-false (p u) (q u) false e)))

-- neither now nor later
not-or : (a b : Bool) → not (if a then true else b) ≡ (if not a then not b else false)
not-or true b = refl
not-or false b = refl

module _ (W : Parts) (Z : Stored) (valid : IsValid W) (stored : OrdersStored W Z.orders) (p : ℕ) where
  -- the line is another without those that were taken, and others behind
  abbrev LeftBy : List Event → List ℕ → List ℕ → Type 0
  LeftBy es us vs = (ws : List ℕ) × (vs ≡ filter (λ u. not (taken_in W u es)) us ++ ws)

  left-after : (e : Event) (es : List Event) (us vs ws : List ℕ) (new : List ℕ) → vs ≡ filter (λ u. not (is_taken W u e.what)) us ++ new → LeftBy es vs ws → LeftBy (e ∷ es) us ws
  left-after e es us vs ws new one rest =
      let now : ℕ → Bool = λ u. not (is_taken W u e.what) in
      let later : ℕ → Bool = λ u. not (taken_in W u es) in
      let all : ℕ → Bool = λ u. not (taken_in W u (e ∷ es)) in (
        filter later new ++ rest.0,
        rest.1
            ∙ (ap (λ xs. filter later xs ++ rest.0) one
            ∙ (ap (λ xs. xs ++ rest.0) (filter-append later (filter now us) new ∙ ap (λ xs. xs ++ filter later new) (filter-twice now later all us (λ u. not-or (is_taken W u e.what) (taken_in W u es))))
            ∙ append_assoc (filter all us) (filter later new) rest.0)),
      )

  left-from : (S : State) (es : List Event) → Sound W Z S → RunFrom W Z S es → LeftBy es (pooled W S p) (pooled W (state_after W S es) p)
  left-from S [] sound run =
      ([], sym (append-nil (filter (λ u. true) (pooled W S p)) ∙ filter-all (λ u. true) (pooled W S p) (EachOf-all (λ u. true ≡ true) (pooled W S p) (λ u. refl))))
  left-from S (e ∷ es) sound run =
      let T : State = after W S e.stream.0 e.what in
      let came : After W Z S e T = (run.0, run.1, refl) in
      let one : (us : List ℕ) × (pooled W T p ≡ filter (λ u. not (is_taken W u e.what)) (pooled W S p) ++ us) = events-keep-pools W Z valid stored S T e p sound came in
      left-after e es (pooled W S p) (pooled W T p) (pooled W (state_after W T es) p) one.0 one.1 (left-from T es (events-keep-sound W Z valid stored S T e sound came) run.2)

pub pooled-keep-order : (W : Parts) (Z : Stored) → PooledKeepOrder W Z
pooled-keep-order W Z valid stored J K p run =
    let S : State = last_state W J in
    let sound : Sound W Z S = last_state-sound W Z J (runs-are-sound W Z) valid stored (run-front W Z (start W) J K run) in
    subst (λ (T : State). LeftBy W Z valid stored p K (pooled W S p) (pooled W T p)) (sym (state_after-append W (start W) J K)) (left-from W Z valid stored p S K sound (run-rest W Z (start W) J K run))

-- the first of a line in which u is left is u or stood before it
first-before : (keep : ℕ → Bool) (xs ys us : List ℕ) (u v : ℕ) → keep u ≡ true → first (filter keep (xs ++ u ∷ ys) ++ us) ≡ Some v → (v ≡ u) ⊎ Contains xs v
first-before keep [] ys us u v e h = inl (sym (some-injective (ap (λ ws. first (ws ++ us)) (sym (cond-true (keep u) (u ∷ filter keep ys) (filter keep ys) e)) ∙ h)))
first-before keep (x ∷ xs) ys us u v e h = by (keep x) refl (λ k. first-before keep xs ys us u v e (ap (λ ws. first (ws ++ us)) (sym (cond-false (keep x) (x ∷ rest) rest k)) ∙ h)) where
  rest : List ℕ
  rest = filter keep (xs ++ u ∷ ys)

  by : (b : Bool) → keep x ≡ b → (keep x ≡ false → (v ≡ u) ⊎ Contains xs v) → (v ≡ u) ⊎ Contains (x ∷ xs) v
  by true k further = inr (0, omega arith, some-injective (ap (λ ws. first (ws ++ us)) (sym (cond-true (keep x) (x ∷ rest) rest k)) ∙ h))
  by false k further = elim (further k) [ inl own ↦ inl own | inr before ↦ inr (Contains-append_right (x ∷ []) xs v before) ]

-- what a stream takes from a FIFO pool is the first of its line
takes-first : (W : Parts) (Z : Stored) (S : State) (s : ℕ) (p : PoolNo) (v : UnitNo) → kind_of W p.0 ≡ kind.Fifo → May W Z S s (what.Take p v) → first (pooled W S p.0) ≡ Some v.0
takes-first W Z S s p v fifo may = sym (ap (λ (k : Kind). at_end (side_by k (owns W s p.0)) (pooled W S p.0)) fifo) ∙ may.1

pub taken-in-order : (W : Parts) (Z : Stored) → TakenInOrder W Z
taken-in-order W Z valid stored J K s u xs ys p v fifo run stood stays may =
    let S : State = last_state W (J ++ K) in
    let left : (us : List ℕ) × (pooled W S p.0 ≡ filter (λ w. not (taken_in W w K)) (pooled W (last_state W J) p.0) ++ us) = pooled-keep-order W Z valid stored J K p.0 run in
    first-before (λ w. not (taken_in W w K)) xs ys left.0 u v.0 (ap not stays) (ap first (sym (left.1 ∙ ap (λ ws. filter (λ w. not (taken_in W w K)) ws ++ left.0) stood)) ∙ takes-first W Z S s p v fifo may)

-- How many are taken before.

abbrev one_if : Bool → ℕ
one_if b = cond b 1 0

length-filter : (keep : ℕ → Bool) (us : List ℕ) → length (filter keep us) ≤ length us
length-filter keep [] = omega arith
length-filter keep (u ∷ us) =
    let rest : length (filter keep us) ≤ length us = length-filter keep us in
    cond_both (keep u) (u ∷ filter keep us) (filter keep us) (λ vs. length vs ≤ length (u ∷ us)) (λ _. omega arith) (λ _. omega arith)

module _ (W : Parts) (Z : Stored) (p u : ℕ) (fifo : kind_of W p ≡ kind.Fifo) where
  abbrev left : What → List ℕ → List ℕ
  left w us = filter (λ v. not (is_taken W v w)) us

  -- the first of the line is taken, who is not u
  first-gone : (q : PoolNo) (v : UnitNo) (xs ys : List ℕ) → first (xs ++ u ∷ ys) ≡ Some v.0 → (v.0 == u) ≡ false → 1 + length (left (what.Take q v) xs) ≤ length xs
  first-gone q v [] ys h other = absurd (true≢false (sym (eq-eqb v.0 u (sym (some-injective h))) ∙ other))
  first-gone q v (x ∷ xs) ys h other =
      let gone : left (what.Take q v) (x ∷ xs) ≡ left (what.Take q v) xs =
      cond-false (not (v.0 == x)) (x ∷ left (what.Take q v) xs) (left (what.Take q v) xs) (ap not (eq-eqb v.0 x (sym (some-injective h)))) in
      let rest : length (left (what.Take q v) xs) ≤ length xs = length-filter (λ w. not (is_taken W w (what.Take q v))) xs in
      let same : length (left (what.Take q v) (x ∷ xs)) ≡ length (left (what.Take q v) xs) = ap length gone in omega arith

  module _ (S : State) (s : ℕ) (xs ys : List ℕ) (stood : pooled W S p ≡ xs ++ u ∷ ys) where
    take-counts : (q : PoolNo) (v : UnitNo) → May W Z S s (what.Take q v) → (v.0 == u) ≡ false → one_if (q.0 == p) + length (left (what.Take q v) xs) ≤ length xs
    take-counts q v may other =
        elim (cases_eq q.0 p) [
          | inl same ↦ (let here : first (xs ++ u ∷ ys) ≡ Some v.0 =
              ap first (sym stood) ∙ (ap (λ n. first (pooled W S n)) (sym same) ∙ takes-first W Z S s q v (ap (kind_of W) same ∙ fifo) may) in
              let one : one_if (q.0 == p) ≡ 1 = ap one_if (eq-eqb q.0 p same) in
              let gone : 1 + length (left (what.Take q v) xs) ≤ length xs = first-gone q v xs ys here other in omega arith)
          | inr away ↦ (let none : one_if (q.0 == p) ≡ 0 = ap one_if (ne_eqb q.0 p away) in
              let few : length (left (what.Take q v) xs) ≤ length xs = length-filter (λ w. not (is_taken W w (what.Take q v))) xs in omega arith)
        ]

    event-counts : (w : What) → May W Z S s w → is_taken W u w ≡ false → one_if (takes_from p w) + length (left w xs) ≤ length xs
    event-counts (what.Take q v) may other = take-counts q v may other
    event-counts w may other = let few : length (left w xs) ≤ length xs = length-filter (λ v. not (is_taken W v w)) xs in no-take few where
      no-take : length (left w xs) ≤ length xs → 0 + length (left w xs) ≤ length xs
      no-take few = omega arith

  -- who is not taken is neither taken now nor later
  stays-now : (a b : Bool) → (if a then true else b) ≡ false → (a ≡ false) × (b ≡ false)
  stays-now true b e = absurd (true≢false e)
  stays-now false b e = (refl, e)

  module _ (valid : IsValid W) (stored : OrdersStored W Z.orders) where
    few-from : (S : State) (es : List Event) (xs ys : List ℕ) → Sound W Z S → RunFrom W Z S es → pooled W S p ≡ xs ++ u ∷ ys → taken_in W u es ≡ false → takes p es ≤ length xs
    few-from S [] xs ys sound run stood stays = omega arith
    few-from S (e ∷ es) xs ys sound run stood stays =
        let T : State = after W S e.stream.0 e.what in
        let came : After W Z S e T = (run.0, run.1, refl) in
        let both : (is_taken W u e.what ≡ false) × (taken_in W u es ≡ false) = stays-now (is_taken W u e.what) (taken_in W u es) stays in
        let one : (us : List ℕ) × (pooled W T p ≡ left e.what (pooled W S p) ++ us) = events-keep-pools W Z valid stored S T e p sound came in
        let later : pooled W T p ≡ left e.what xs ++ u ∷ (left e.what ys ++ one.0) =
        one.1
        ∙ (ap (λ ws. left e.what ws ++ one.0) stood
        ∙ (ap (λ ws. ws ++ one.0) (filter-append (λ v. not (is_taken W v e.what)) xs (u ∷ ys)
        ∙ ap (λ ws. left e.what xs ++ ws) (cond-true (not (is_taken W u e.what)) (u ∷ left e.what ys) (left e.what ys) (ap not both.0)))
        ∙ append_assoc (left e.what xs) (u ∷ left e.what ys) one.0)) in
        let rest : takes p es ≤ length (left e.what xs) = few-from T es (left e.what xs) (left e.what ys ++ one.0) (events-keep-sound W Z valid stored S T e sound came) run.2 later both.1 in
        let here : one_if (takes_from p e.what) + length (left e.what xs) ≤ length xs = event-counts S e.stream.0 xs ys stood e.what run.1 both.0 in
        let all : takes p (e ∷ es) ≡ one_if (takes_from p e.what) + takes p es = sum_by-cons (λ (x : Event). one_if (takes_from p x.what)) e es in omega arith

pub few-are-before : (W : Parts) (Z : Stored) → FewAreBefore W Z
few-are-before W Z valid stored J K p u xs ys fifo run stood stays =
    few-from W Z p u fifo valid stored (last_state W J) K xs ys (last_state-sound W Z J (runs-are-sound W Z) valid stored (run-front W Z (start W) J K run)) (run-rest W Z (start W) J K run) stood stays
