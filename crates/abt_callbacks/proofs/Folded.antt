-- Histories of sets alone.
use Rattle.std.proofs.Common.{◌≡◌, ℕ, ◌+◌, ◌*◌, ◌%◌, ◌<◌, ◌≤◌, ◌^◌, cond, List, [], ◌∷◌, ◌++◌, length, length-append, map, Some, refl, sym, ap, ◌∙◌, subst, arith, zero-add}
use Rattle.std.specs.List.{All, count_by, sum_by}
use Rattle.std.proofs.Math.Nat.{mul-le-mul}
use Rattle.std.proofs.lemmas.List.{append_assoc}
use Rattle.std.proofs.lemmas.List.Elements.{All-head, All-map, All-tail}
use Rattle.std.proofs.lemmas.List.Sums.{sum-map, sum_by-cons}
use Rattle.abt_interleave.specs.declared.entries.Entry.{Entry}
use Rattle.abt_interleave.specs.Histories.{calls_of, Leads}
use Rattle.abt_booth.specs.Calls.{IsClosed}
use Rattle.booth_caller.specs.Calling.{HasAsked}
use Rattle.booth_caller.proofs.Calling.{acts-hold, all-of-classes, calls-count, weighed, wholly-asked}
use Rattle.abt_callbacks.specs.declared.fold.FoldShape.{FoldShape}
use Rattle.abt_callbacks.specs.declared.fold.FoldShape.TheVariants.{Sum}
use Rattle.abt_callbacks.specs.declared.acts.FutureAct.{FutureAct}
use Rattle.abt_callbacks.specs.declared.acts.FutureAct.TheVariants.{Set, Read, Reset}
use Rattle.abt_callbacks.specs.declared.acts.FutureAnswer.{FutureAnswer}
use Rattle.abt_callbacks.specs.declared.acts.FutureAnswer.TheVariants.{Kept, Ready, Vacant, Full}
use Rattle.abt_callbacks.specs.Folding.{Folds, number_limit}
use Rattle.abt_callbacks.specs.Futures.{Does, CalledFutureValue, empty, with_answer, with_value}
use Rattle.abt_callbacks.specs.Runs.{is_ready, numbers_for, plain_sum, sets_of, IsFolded}
use Rattle.abt_callbacks.proofs.Numbers.{sets-count, value_of, values-sum}

-- what leads a future on leads on what is seen of it
pub leads-seen : {O P A R : Type 0} (see : O → P) (does : P → A → R → P → Type 0) (o : O) (h : List (Entry A R)) (o' : O) → Leads (λ old act answer new. does (see old) act answer (see new)) o h o' → Leads does (see o) h (see o')
leads-seen see does o [] o' l = ap see l
leads-seen see does o (e ∷ es) o' l = (see l.0, l.1, leads-seen see does l.0 es o' l.2)

-- the act is a set
abbrev pub IsSet : FutureAct → Type 0
IsSet (Set v) = Unit {0}
IsSet Read = ⊥
IsSet Reset = ⊥

-- the values that a history sets, in order
abbrev pub values_in : List (Entry FutureAct FutureAnswer) → List ℕ
values_in h = map (λ e. value_of e.act) h

module _ {F : Type 0} (shape_of : F → FoldShape) (May : F → List ℕ → ℕ → Type 0) where
  -- the last value is answered with the fold's answer
  last-set : (o m : CalledFutureValue F) (act : FutureAct) (answer : FutureAnswer) → Does shape_of May o act answer m → IsSet act → length o.values + 1 ≡ o.most
      → (r : ℕ) × (answer ≡ Ready r) × (m ≡ with_answer o (value_of act) r) × Folds (shape_of o.fold) (o.values ++ value_of act ∷ []) r
  last-set o m (Set v) Kept does set last = absurd (let lt = does.0 in omega arith)
  last-set o m (Set v) (Ready r) does set last = (r, refl, does.3, does.1)
  last-set o m (Set v) Vacant does set last = absurd does
  last-set o m (Set v) Full does set last = absurd (let full = does.1 in omega arith)
  last-set o m Read answer does set last = absurd set
  last-set o m Reset answer does set last = absurd set

  -- each value before it is kept
  early-set : (o m : CalledFutureValue F) (act : FutureAct) (answer : FutureAnswer) → Does shape_of May o act answer m → IsSet act → length o.values + 1 < o.most → (answer ≡ Kept) × (m ≡ with_value o (value_of act))
  early-set o m (Set v) Kept does set early = (refl, does.1)
  early-set o m (Set v) (Ready r) does set early = absurd (let last = does.0 in omega arith)
  early-set o m (Set v) Vacant does set early = absurd does
  early-set o m (Set v) Full does set early = absurd (let full = does.1 in omega arith)
  early-set o m Read answer does set early = absurd set
  early-set o m Reset answer does set early = absurd set

  -- as many sets as a future wants: exactly one is answered with the fold's answer over all values, which is kept
  pub sets-fold : (o : CalledFutureValue F) (h : List (Entry FutureAct FutureAnswer)) (o' : CalledFutureValue F) → Leads (Does shape_of May) o h o' → All (λ e. IsSet e.act) h → 0 < length h → length o.values + length h ≡ o.most
      → (r : ℕ) × (o'.answer ≡ Some r) × Folds (shape_of o.fold) (o.values ++ values_in h) r × (count_by (λ e. is_ready e.answer) h ≡ 1)
  sets-fold o [] o' leads sets some many = absurd (omega arith)
  sets-fold o (e ∷ []) o' leads sets some many =
      let s = last-set o leads.0 e.act e.answer leads.1 (All-head (λ (x : Entry FutureAct FutureAnswer). IsSet x.act) e [] sets) many in
      let count = sum_by-cons (λ (x : Entry FutureAct FutureAnswer). cond (is_ready x.answer) 1 0) e [] in
      let one : ◌≡◌ {A = ℕ} (cond (is_ready e.answer) 1 0) 1 = ap (λ (a : FutureAnswer). cond (is_ready a) 1 0) s.1 in
      (s.0, ap (λ f. f.answer) (sym leads.2 ∙ s.2), s.3, count ∙ ap (λ k. k + 0) one)
  sets-fold o (e ∷ d ∷ ds) o' leads sets some many =
      let P : Entry FutureAct FutureAnswer → Type 0 = λ x. IsSet x.act in
      let v = value_of e.act in
      let early : length o.values + 1 < o.most = omega arith in
      let s = early-set o leads.0 e.act e.answer leads.1 (All-head P e (d ∷ ds) sets) early in
      let grown = length-append o.values (v ∷ []) in
      let rest = sets-fold (with_value o v) (d ∷ ds) o' (subst (λ z. Leads (Does shape_of May) z (d ∷ ds) o') s.1 leads.2) (All-tail P e (d ∷ ds) sets) (omega arith) (omega arith) in
      let count = sum_by-cons (λ (x : Entry FutureAct FutureAnswer). cond (is_ready x.answer) 1 0) e (d ∷ ds) in
      let none : ◌≡◌ {A = ℕ} (cond (is_ready e.answer) 1 0) 0 = ap (λ (a : FutureAnswer). cond (is_ready a) 1 0) s.0 in
      (rest.0, rest.1, subst (λ l. Folds (shape_of o.fold) l rest.0) (append_assoc o.values (v ∷ []) (values_in (d ∷ ds))) rest.2, count ∙ (ap (λ k. k + count_by (λ (x : Entry FutureAct FutureAnswer). is_ready x.answer) (d ∷ ds)) none ∙ (zero-add (count_by (λ (x : Entry FutureAct FutureAnswer). is_ready x.answer) (d ∷ ds)) ∙ rest.3)))

-- the plain sum of at most 4,096 numbers is below 2^64
small-sum : (n : ℕ) → n ≤ number_limit → plain_sum n % 2 ^ 64 ≡ plain_sum n
small-sum n few = let m : n * (n + 1) ≤ 4096 * 4097 = mul-le-mul {n₂ = 4096} {m₂ = 4097} few (omega arith) in omega arith

module _ {F : Type 0} (shape_of : F → FoldShape) (May : F → List ℕ → ℕ → Type 0) (fold : F) (sums : shape_of fold ≡ Sum) (workers n : ℕ) (some : 0 < workers) (numbers : (1 ≤ n) × (n ≤ number_limit)) where
  -- what a closed booth round a future is left with, if each seat was to set its numbers
  pub folded-whole : {O : Type 0} (see : O → CalledFutureValue F) (opening object : O) (known : List (ℕ × List (Entry FutureAct FutureAnswer))) (clock : ℕ) → see opening ≡ empty fold n
      → (closed : IsClosed (λ old act answer new. Does shape_of May (see old) act answer (see new)) opening workers known object clock)
      → ((k : ℕ) → k < workers → HasAsked k (sets_of workers n k) closed.history) → IsFolded shape_of May fold workers n (see object) clock
  folded-whole see opening object known clock is closed asked =
      let h = closed.history in
      let E : Type 0 = Entry FutureAct FutureAnswer in
      let acts : ℕ → List FutureAct = sets_of workers n in
      let total = sets-count workers n some in
      let few = numbers.1 in
      let all = wholly-asked workers acts h closed.of_seats asked (omega arith) in
      let count = calls-count workers acts h closed.of_seats asked all in
      let all_sets : All (λ (e : E). IsSet e.act) h = all-of-classes (λ (e : E). e.caller) (λ e. IsSet e.act) workers h closed.of_seats
      (λ k lt. let b = (asked k lt).begun in acts-hold IsSet (calls_of k h) b.0 (subst (All IsSet) (sym b.1) (All-map IsSet Set (numbers_for workers n k) (λ _ _ _. tt)))) in
      let leads : Leads (Does shape_of May) (empty fold n) h (see object) = subst (λ o. Leads (Does shape_of May) o h (see object)) is (leads-seen see (Does shape_of May) opening h object closed.legal.1) in
      let least = numbers.0 in
      let f = sets-fold shape_of May (empty fold n) h (see object) leads all_sets (omega arith) (omega arith) in
      let plain : sum_by (λ (e : E). value_of e.act) h ≡ plain_sum n = weighed workers acts h closed.of_seats asked value_of all ∙ values-sum workers n some in
      let folds : Folds Sum (values_in h) f.0 = subst (λ s. Folds s (values_in h) f.0) sums f.2 in
      let answer : f.0 ≡ plain_sum n = folds ∙ (ap (λ s. s % 2 ^ 64) (sum-map (λ (e : E). value_of e.act) h ∙ plain) ∙ small-sum n few) in record {
        history = h;
        legal = (closed.legal.0, leads);
        last = closed.last;
        of_workers = closed.of_seats;
        sets = all;
        once = f.3;
        kept = f.1 ∙ ap Some answer;
      }
