-- The small machine meets what the laws suppose, by computation.
use Rattle.std.proofs.Common.{◌≡◌, ◌≢◌, ℕ, zero, suc, ◌<◌, ◌≤◌, ◌+◌, ◌==◌, Bool, true, false, [], ◌∷◌, Option, Some, None, refl, sym, ◌∙◌, ap, subst, arith, inl, inr}
use Rattle.std.specs.Prelude.{Contains}
use Rattle.std.proofs.lemmas.Bool.{cond-true, cond-false, cond_both, eq-eqb, ne_eqb}
use Rattle.abt_interleave.specs.Histories.{Legal}
use Rattle.abt_interleave.specs.Deeds.{Answered, Course}
use Rattle.abt_interleave.specs.Logs.{LeavesEntry, IsBefore, InOrder, IsSorted}
use Rattle.abt_interleave.specs.Machines.{DeedOf, EntryOf, TellsPlaces, IsSimulated, Gathered}
use Rattle.abt_interleave.specs.Stamps.{AllTimed}
use Rattle.abt_interleave.specs.Counters.{Adds, CountsUp, same_counter, counters, zeros, adds, entry, logs, histories, notes, totals, merged, CountersMerge}
use Rattle.abt_interleave.proofs.Members.{Among, to-among, from-among}
use Rattle.abt_interleave.proofs.Merged.{logs-merge}
use Rattle.abt_interleave.proofs.Stamping.{stamps-are-lamports}

pub differ : {A : Type 0} → false ≡ true → A
differ e = absurd cc

pub tells : TellsPlaces counters
tells true true = (λ e. refl, λ e. refl)
tells false false = (λ e. refl, λ e. refl)
tells true false = (λ e. differ e, λ e. differ (sym e))
tells false true = (λ e. differ e, λ e. differ e)

same-is : (x y : Bool) → same_counter x y ≡ true → x ≡ y
same-is x y e = (tells x y).0 e

heard-is : (w v : Bool × ℕ × ℕ) → ◌≡◌ {A = Option (Bool × ℕ × ℕ)} (Some w) (Some v) → w ≡ v
heard-is w v e = ap (get w) e where
  get : Bool × ℕ × ℕ → Option (Bool × ℕ × ℕ) → Bool × ℕ × ℕ
  get d None = d
  get d (Some p) = p

simulated : IsSimulated counters
simulated S s w heard part objects sound declared step answered =
    let a : CountsUp (S.count w.0) w.1 part (objects w.0) × ((x : Bool) → w.0 ≢ x → objects x ≡ S.count x) = subst (λ h. Answered CountsUp S.count h objects) step answered in
    record {
      may = tt;
      sound = tt;
      own = cond-true (s == s) (S.count w.0) (S.noted s) (eq-eqb s s refl) ∙ sym a.0.0;
      others = λ r ne. cond-false (r == s) (S.count w.0) (S.noted r) (ne_eqb r s ne);
      called = λ x. cond_both (same_counter w.0 x) (S.count w.0 + w.1) (S.count x) (λ n. n ≡ objects x)
          (λ e. subst (λ y. S.count w.0 + w.1 ≡ objects y) (same-is w.0 x e) (sym a.0.1))
          (λ e. sym (a.1 x (λ q. differ (sym e ∙ (tells w.0 x).1 q))));
    }

-- what a deed leaves
left-is : (t s n f : ℕ) (y x : Bool) (e : EntryOf counters) (d : DeedOf counters) → d ≡ adds t s y n f → LeavesEntry d x e → (y ≡ x) × (e ≡ entry t s n f)
left-is t s n f y x e d i l =
    let k : LeavesEntry (adds t s y n f) x e = subst (λ z. LeavesEntry z x e) i l in
    let h : (y, n, f) ≡ (x, e.act, e.answer) = heard-is (y, n, f) (x, e.act, e.answer) k.2 in
    (ap (λ (p : Bool × ℕ × ℕ). p.0) h, λ j. record { stamp = sym k.0 j; caller = sym k.1 j; act = ap (λ (p : Bool × ℕ × ℕ). p.1) (sym h) j; answer = ap (λ (p : Bool × ℕ × ℕ). p.2) (sym h) j })

has-entry : (s : ℕ) (d : DeedOf counters) (x : Bool) (e : EntryOf counters) → Among d (logs s) → LeavesEntry d x e → Among e (histories x)
has-entry zero d x e m l = elim m [
  | inl i ↦ (let k : (true ≡ x) × (e ≡ entry 1 0 5 0) = left-is 1 0 5 0 true x e d i l in subst (λ y. Among e (histories y)) k.0 (inl k.1))
  | inr n ↦ elim n [
    | inl i ↦ (let k : (false ≡ x) × (e ≡ entry 2 0 1 0) = left-is 2 0 1 0 false x e d i l in subst (λ y. Among e (histories y)) k.0 (inl k.1))
    | inr o ↦ absurd o
  ]
]
has-entry (suc zero) d x e m l = elim m [
  | inl i ↦ (let k : (true ≡ x) × (e ≡ entry 2 1 2 5) = left-is 2 1 2 5 true x e d i l in subst (λ y. Among e (histories y)) k.0 (inr (inl k.1)))
  | inr n ↦ elim n [
    | inl i ↦ (let k : (false ≡ x) × (e ≡ entry 3 1 4 1) = left-is 3 1 4 1 false x e d i l in subst (λ y. Among e (histories y)) k.0 (inr (inl k.1)))
    | inr o ↦ absurd o
  ]
]
has-entry (suc (suc s)) d x e m l = absurd m

abbrev IsLeft : Bool → EntryOf counters → Type 0
IsLeft x e = (d : DeedOf counters) × Contains (logs e.caller) d × LeavesEntry d x e

has-deed : (x : Bool) (e : EntryOf counters) → Among e (histories x) → IsLeft x e
has-deed true e m = elim m [
  | inl i ↦ subst (IsLeft true) (sym i) (adds 1 0 true 5 0, from-among (logs 0) _ (inl refl), (refl, refl, refl))
  | inr n ↦ elim n [ inl i ↦ subst (IsLeft true) (sym i) (adds 2 1 true 2 5, from-among (logs 1) _ (inl refl), (refl, refl, refl)) | inr o ↦ absurd o ]
]
has-deed false e m = elim m [
  | inl i ↦ subst (IsLeft false) (sym i) (adds 2 0 false 1 0, from-among (logs 0) _ (inr (inl refl)), (refl, refl, refl))
  | inr n ↦ elim n [ inl i ↦ subst (IsLeft false) (sym i) (adds 3 1 false 4 1, from-among (logs 1) _ (inr (inl refl)), (refl, refl, refl)) | inr o ↦ absurd o ]
]

gathered : Gathered counters zeros.noted zeros.count logs histories notes totals
gathered = record {
  courses = by;
  undeclared = none;
  legal = legal;
  matched = record {
    has_entry = λ d x e m l. from-among (histories x) e (has-entry d.stream d x e (to-among (logs d.stream) d m) l);
    has_deed = λ x e m. has-deed x e (to-among (histories x) e m);
  };
} where
  by : (s : ℕ) → s < 2 → Course Adds s 0 (logs s) (notes s)
  by zero lt = ((omega arith, (omega arith, tt)), (refl, 0, refl, (refl, 0, refl, refl)))
  by (suc zero) lt = ((omega arith, (omega arith, tt)), (refl, 5, refl, (refl, 1, refl, refl)))
  by (suc (suc s)) lt = absurd (omega arith)

  none : (s : ℕ) → 2 ≤ s → logs s ≡ []
  none zero le = absurd (omega arith)
  none (suc zero) le = absurd (omega arith)
  none (suc (suc s)) le = refl

  legal : (x : Bool) → Legal CountsUp 0 (histories x) (totals x)
  legal true = ((omega arith, (omega arith, tt)), (5, (refl, refl), (7, (refl, refl), refl)))
  legal false = ((omega arith, (omega arith, tt)), (1, (refl, refl), (5, (refl, refl), refl)))

sorted : IsSorted logs merged
sorted = record { in_order = order; all = λ s d m. from-among merged d (all s d (to-among (logs s) d m)); only = λ d m. from-among (logs d.stream) d (only d (to-among merged d m)) } where
  order : InOrder IsBefore merged
  order = (
    (inl (omega arith), (inl (omega arith), (inl (omega arith), tt))),
    ((inr (refl, omega arith), (inl (omega arith), tt)), ((inl (omega arith), tt), (tt, tt))),
  )

  all : (s : ℕ) (d : DeedOf counters) → Among d (logs s) → Among d merged
  all zero d m = elim m [ inl i ↦ inl i | inr n ↦ elim n [ inl i ↦ inr (inl i) | inr o ↦ absurd o ] ]
  all (suc zero) d m = elim m [ inl i ↦ inr (inr (inl i)) | inr n ↦ elim n [ inl i ↦ inr (inr (inr (inl i))) | inr o ↦ absurd o ] ]
  all (suc (suc s)) d m = absurd m

  only : (d : DeedOf counters) → Among d merged → Among d (logs d.stream)
  only d m = elim m [
    | inl i ↦ subst (λ (z : DeedOf counters). Among z (logs z.stream)) (sym i) (inl refl)
    | inr n ↦ elim n [
      | inl i ↦ subst (λ (z : DeedOf counters). Among z (logs z.stream)) (sym i) (inr (inl refl))
      | inr o ↦ elim o [
        | inl i ↦ subst (λ (z : DeedOf counters). Among z (logs z.stream)) (sym i) (inl refl)
        | inr q ↦ elim q [ inl i ↦ subst (λ (z : DeedOf counters). Among z (logs z.stream)) (sym i) (inr (inl refl)) | inr r ↦ absurd r ]
      ]
    ]
  ]

timed : (s : ℕ) → AllTimed histories 0 (logs s)
timed zero = (([], entry 2 1 2 5 ∷ [], refl, refl), (([], entry 3 1 4 1 ∷ [], refl, refl), tt))
timed (suc zero) = ((entry 1 0 5 0 ∷ [], [], refl, refl), ((entry 2 0 1 0 ∷ [], [], refl, refl), tt))
timed (suc (suc s)) = tt

pub counters-merge : CountersMerge
counters-merge = record {
  tells = tells;
  simulated = simulated;
  gathered = gathered;
  sorted = sorted;
  timed = timed;
  run = logs-merge counters tells simulated zeros tt logs histories notes totals merged gathered sorted;
  lamport = stamps-are-lamports counters zeros.noted zeros.count logs histories notes totals merged gathered timed sorted;
}
