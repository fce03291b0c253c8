-- How the table of what is named goes on from operation to operation.
use Rattle.std.proofs.Common.{◌≡◌, ℕ, ◌+◌, ◌<◌, ◌≤◌, Bool, true, false, List, length, Option, Some, None, set, get_or, length-set, refl, sym, ◌∙◌, ap, subst, arith, ◌⊎◌, inl, inr}
use Rattle.std.proofs.lemmas.Bool.{cases_eq, cases_lt, true≢false}
use Rattle.std.proofs.lemmas.Option.{slice_get_past, slice_get_within, get_or_from_slice_get}
use Rattle.std.specs.Prelude.{slice_get}
use Rattle.abt_machine.specs.declared.operations.Op.{Op}
use Rattle.abt_machine.specs.declared.operations.Op.TheVariants as op
use Rattle.abt_machine.specs.declared.operations.Thing.TheVariants as thing
use Rattle.abt_machine.specs.declared.workload.Parts.{Parts}
use Rattle.abt_machine.specs.Operations.{IsDeclared}
use Rattle.abt_machine.specs.Valid.{IsValid}
use Rattle.abt_machine.specs.Workloads.{body_at, body_from, op_at, ops_of}
use Rattle.abt_machine.proofs.Declared.{op-declared}
use Rattle.abt_laws.proofs.Options.{none≢some, some-injective}
use Rattle.abt_flow.specs.declared.naming.Naming.{Naming}
use Rattle.abt_flow.specs.declared.naming.Naming.TheVariants.{Sets, Creates}
use Rattle.abt_flow.proofs.Marks.{marked-here, marked-still, was-marked}
use Rattle.abt_flow.specs.Checks.{HasNamed, Prior, named_at, named_by, named_from, names_in}

-- What is named is declared.

named-declared : (W : Parts) (n : Naming) (o : Op) (x : ℕ) → IsDeclared W o → named_by n o ≡ Some x → x < names_in W n
named-declared W Sets (op.EvSet y) x declared e = subst (λ k. k < length W.objects) (some-injective e) (slice_get_within W.objects y.0 thing.Eventual declared)
named-declared W Sets _ x declared e = absurd (none≢some e)
named-declared W Creates (op.Create v p) x declared e = subst (λ k. k < length W.units) (some-injective e) declared.0
named-declared W Creates _ x declared e = absurd (none≢some e)

named-op : (n : Naming) (o : Option Op) (x : ℕ) → named_from n o ≡ Some x → (p : Op) × (o ≡ Some p) × (named_by n p ≡ Some x)
named-op n None x e = absurd (none≢some e)
named-op n (Some p) x e = (p, refl, e)

pub named-below : (W : Parts) (n : Naming) (u k x : ℕ) → IsValid W → named_at W n u k ≡ Some x → x < names_in W n
named-below W n u k x valid e =
    let is : (p : Op) × (op_at W u k ≡ Some p) × (named_by n p ≡ Some x) = named-op n (op_at W u k) x e in
    named-declared W n is.0 x (op-declared W u k is.0 valid is.1) is.2

-- a unit that has an operation is declared
pub op-unit : (W : Parts) (u k : ℕ) (o : Op) → op_at W u k ≡ Some o → u < length W.units
op-unit W u k o is =
    elim (cases_lt u (length W.units)) [
      | inl l ↦ l
      | inr l ↦ absurd (none≢some (sym (ap (λ p. slice_get (ops_of (body_from p)) k) (slice_get_past W.units u l)) ∙ is))
    ]

pub named-unit : (W : Parts) (n : Naming) (u k x : ℕ) → named_at W n u k ≡ Some x → (u < length W.units) × (k < length (ops_of (body_at W u)))
named-unit W n u k x e =
    let is : (p : Op) × (op_at W u k ≡ Some p) × (named_by n p ≡ Some x) = named-op n (op_at W u k) x e in
    (op-unit W u k is.0 is.1, slice_get_within (ops_of (body_at W u)) k is.0 is.1)

-- Order.

prior-more : (v j u k : ℕ) → Prior v j u k → Prior v j u (k + 1)
prior-more v j u k (inl l) = inl l
prior-more v j u k (inr h) = inr (h.0, (let l = h.1 in omega arith))

pub prior-cases : (v j u k : ℕ) → Prior v j u (k + 1) → Prior v j u k ⊎ ((v ≡ u) × (j ≡ k))
prior-cases v j u k (inl l) = inl (inl l)
prior-cases v j u k (inr h) = elim (cases_eq j k) [ inl same ↦ inr (h.0, same) | inr other ↦ inl (inr (h.0, (let l = h.1 in omega arith))) ]

pub never-prior : (v j u k : ℕ) → Prior v j u k → v ≡ u → j ≡ k → ⊥
never-prior v j u k (inl l) e f = absurd (omega arith)
never-prior v j u k (inr h) e f = (let l = h.1 in absurd (omega arith))

pub prior-prior : (w i v j u k : ℕ) → Prior w i v j → Prior v j u k → Prior w i u k
prior-prior w i v j u k (inl l) (inl m) = inl (omega arith)
prior-prior w i v j u k (inl l) (inr h) = inl (let e = h.0 in omega arith)
prior-prior w i v j u k (inr h) (inl l) = inl (let e = h.0 in omega arith)
prior-prior w i v j u k (inr h) (inr m) = inr (h.0 ∙ m.0, (let l = h.1 in let k = m.1 in omega arith))

-- One more operation.

module _ (W : Parts) (n : Naming) (u k : ℕ) (seen : List Bool) (has : HasNamed W n u k seen) where
  -- one that names nothing
  module _ (none : named_at W n u k ≡ None) where
    names-none : (v j x : ℕ) → v ≡ u → j ≡ k → named_at W n v j ≡ Some x → ⊥
    names-none v j x e f named = none≢some (sym none ∙ subst (λ i. named_at W n u i ≡ Some x) f (subst (λ w. named_at W n w j ≡ Some x) e named))

    was-prior : (v j x : ℕ) → named_at W n v j ≡ Some x → Prior v j u (k + 1) → Prior v j u k
    was-prior v j x named prior = elim (prior-cases v j u k prior) [ inl before ↦ before | inr now ↦ absurd (names-none v j x now.0 now.1 named) ]

    pub named-past : HasNamed W n u (k + 1) seen
    named-past = record {
      all = has.all;
      marked = λ v j x prior named. has.marked v j x (was-prior v j x named prior) named;
      from = λ x e. (let earlier = has.from x e in (earlier.0, earlier.1, prior-more earlier.0 earlier.1 u k earlier.2, earlier.3));
      once = λ v w j i x first second named also. has.once v w j i x (was-prior v j x named first) (was-prior w i x also second) named also;
    }

  module _ (y : ℕ) (here : named_at W n u k ≡ Some y) (unmarked : get_or seen y false ≡ false) (below : y < length seen) where
    name-of : (v j x : ℕ) → v ≡ u → j ≡ k → named_at W n v j ≡ Some x → y ≡ x
    name-of v j x e f named = some-injective (sym here ∙ subst (λ i. named_at W n u i ≡ Some x) f (subst (λ w. named_at W n w j ≡ Some x) e named))

    not-before : (v j : ℕ) → Prior v j u k → named_at W n v j ≡ Some y → ⊥
    not-before v j prior named = true≢false (sym (get_or_from_slice_get seen y true false (has.marked v j y prior named)) ∙ unmarked)

    -- one that names something new
    pub named-more : HasNamed W n u (k + 1) (set seen y true)
    named-more = record {
      all = length-set seen y true ∙ has.all;
      marked = λ v j x prior named. elim (prior-cases v j u k prior) [
        | inl before ↦ marked-still seen y below x (has.marked v j x before named)
        | inr now ↦ subst (λ z. slice_get (set seen y true) z ≡ Some true) (name-of v j x now.0 now.1 named) (marked-here seen y below)
      ];
      from = λ x e. elim (cases_eq x y) [
        | inl same ↦ (u, k, inr (refl, (let l : k < k + 1 = omega arith in l)), here ∙ ap (λ z. Some z) (sym same))
        | inr other ↦ (let earlier = has.from x (was-marked seen y x other e) in (earlier.0, earlier.1, prior-more earlier.0 earlier.1 u k earlier.2, earlier.3))
      ];
      once = λ v w j i x first second named also. elim (prior-cases v j u k first) [
        | inl a ↦ elim (prior-cases w i u k second) [
          | inl b ↦ has.once v w j i x a b named also
          | inr b ↦ absurd (not-before v j a (named ∙ ap (λ z. Some z) (sym (name-of w i x b.0 b.1 also))))
        ]
        | inr a ↦ elim (prior-cases w i u k second) [
          | inl b ↦ absurd (not-before w i b (also ∙ ap (λ z. Some z) (sym (name-of v j x a.0 a.1 named))))
          | inr b ↦ (a.0 ∙ sym b.0, a.1 ∙ sym b.1)
        ]
      ];
    }

-- From unit to unit.

module _ (W : Parts) (n : Naming) (u k : ℕ) (seen : List Bool) (has : HasNamed W n u k seen) (over : length (ops_of (body_at W u)) ≤ k) where
  passed : (v j x : ℕ) → named_at W n v j ≡ Some x → Prior v j (u + 1) 0 → Prior v j u k
  passed v j x named (inr h) = (let l = h.1 in absurd (omega arith))
  passed v j x named (inl l) =
      elim (cases_eq v u) [
        | inl same ↦ (let inside : j < length (ops_of (body_at W u)) = subst (λ w. j < length (ops_of (body_at W w))) same (named-unit W n v j x named).1 in inr (same, omega arith))
        | inr other ↦ inl (omega arith)
      ]

  later : (v j : ℕ) → Prior v j u k → Prior v j (u + 1) 0
  later v j (inl l) = inl (omega arith)
  later v j (inr h) = inl (let e = h.0 in omega arith)

  pub named-on : HasNamed W n (u + 1) 0 seen
  named-on = record {
    all = has.all;
    marked = λ v j x prior named. has.marked v j x (passed v j x named prior) named;
    from = λ x e. (let earlier = has.from x e in (earlier.0, earlier.1, later earlier.0 earlier.1 earlier.2, earlier.3));
    once = λ v w j i x first second named also. has.once v w j i x (passed v j x named first) (passed w i x also second) named also;
  }
