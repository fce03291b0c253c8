-- Schedulers whose orders may change from round to round.
use Rattle.std.proofs.Common.{◌≡◌, ◌<◌, ◌↔◌, ◌∙◌, ℕ, zero, suc, Bool, true, false, List, [], ◌∷◌, ◌++◌, drop, length, take, Option, None, Some, IsTrue, inl, inr, ◌+◌, ap, refl, subst, sym, arith}
use Rattle.std.specs.Prelude.{option_map, slice_get}
use Rattle.std.proofs.Math.Nat.{mod-one}
use Rattle.std.proofs.lemmas.Bool.{cases_lt}
use Rattle.std.proofs.lemmas.List.{length-map}
use Rattle.abt_machine.specs.declared.numbers.PoolNo.{PoolNo}
use Rattle.abt_machine.specs.declared.operations.OrderShape.{OrderShape}
use Rattle.abt_machine.specs.declared.operations.OrderShape.TheVariants as shape
use Rattle.abt_machine.specs.declared.operations.Rule.{Rule}
use Rattle.abt_machine.specs.declared.operations.Rule.TheVariants as rule
use Rattle.abt_machine.specs.declared.workload.Parts.{Parts}
use Rattle.abt_machine.specs.declared.workload.SchedPart.{SchedPart}
use Rattle.abt_machine.specs.Rounds.{Only, choice_by, rotated, shaped}
use Rattle.abt_machine.specs.Workloads.{pools_from, pools_of, rule_of}
use Rattle.abt_explore.specs.Orders.{KeepsOrder, MayChange, rotates, turns}

some-is : (a b : Rule) → ◌≡◌ {A = Option Rule} (Some a) (Some b) → a ≡ b
some-is a b e = cc

module _ (W : Parts) (orders : List OrderShape) (g : ℕ) (part : SchedPart) (at : slice_get W.scheds g ≡ Some part) where
  its-rule : rule_of W g ≡ Some part.rule
  its-rule = ap (λ (o : Option SchedPart). option_map (λ (p : SchedPart). p.rule) o) at

  its-pools : length (pools_of W g) ≡ length part.pools
  its-pools = ap (λ (o : Option SchedPart). length (pools_from o)) at ∙ length-map part.pools (λ (p : PoolNo). p.0)

  -- a declared scheduler of more than one pool may change its order exactly if its rule turns
  pub changes-if : 1 < length part.pools → (b : Bool) → b ≡ turns orders part.rule → IsTrue b ↔ MayChange W orders g
  changes-if many b is = (
    λ yes. (let e : length (pools_of W g) ≡ length part.pools = its-pools in omega arith, part.rule, its-rule, sym is ∙ yes),
    λ may. is ∙ (subst (λ (r : Rule). turns orders r ≡ true) (sym (some-is part.rule may.1 (sym its-rule ∙ may.2))) may.3),
  )

-- a list of one pool is not turned
one-rotated : (r p : ℕ) → rotated r (p ∷ []) ≡ p ∷ []
one-rotated r p = ap (λ (k : ℕ). drop k (p ∷ []) ++ take k (p ∷ [])) (mod-one r)

module _ (W : Parts) (orders : List OrderShape) (g : ℕ) where
  -- the order of these pools by this rule may change
  abbrev Changes : Option Rule → List ℕ → Type 0
  Changes o ps = (1 < length ps) × (r : Rule) × (o ≡ Some r) × (turns orders r ≡ true)

  shaped-same : (k : ℕ) (o : Option OrderShape) (r : ℕ) (ps : List ℕ) → (rotates o ≡ true → 1 < length ps → ⊥) → shaped o r ps ≡ shaped o 0 ps
  shaped-same k (Some shape.Rotate) r [] never = refl
  shaped-same k (Some shape.Rotate) r (p ∷ []) never = ap (λ (one : List ℕ). Only one) (one-rotated r p ∙ sym (one-rotated 0 p))
  shaped-same k (Some shape.Rotate) r (p ∷ q ∷ ps) never = absurd (never refl (omega arith))
  shaped-same k (Some shape.Mirror) r ps never = refl
  shaped-same k (Some shape.Free) r ps never = refl
  shaped-same k None r ps never = refl

  by-same : (o : Option Rule) (r : ℕ) (ps : List ℕ) → (Changes o ps → ⊥) → choice_by W orders g r o ps ≡ choice_by W orders g 0 o ps
  by-same None r ps never = refl
  by-same (Some rule.Basic) r ps never = refl
  by-same (Some rule.Prio) r ps never = refl
  by-same (Some (rule.Randws seed)) r [] never = refl
  by-same (Some (rule.Randws seed)) r (p ∷ []) never = refl
  by-same (Some (rule.Randws seed)) r (p ∷ q ∷ ps) never = absurd (never (omega arith, rule.Randws seed, refl, refl))
  by-same (Some (rule.User k)) r ps never = shaped-same k (slice_get orders k) r ps (λ turned many. never (many, rule.User k, refl, turned))

pub untrue : IsTrue false → ⊥
untrue e = cc

-- one scheduler more that changes no order
pub one-more : (W : Parts) (orders : List OrderShape) (n : ℕ) → ((k : ℕ) → k < n → MayChange W orders k → ⊥) → (MayChange W orders n → ⊥) → (k : ℕ) → k < n + 1 → MayChange W orders k → ⊥
one-more W orders n before here k within may = elim (cases_lt k n) [
  | inl l ↦ before k l may
  | inr m ↦ here (subst (MayChange W orders) (let e : k ≡ n = omega arith in e) may)
]

-- what no scheduler may change is kept
pub none-changes : (W : Parts) (orders : List OrderShape) → ((g : ℕ) → g < length W.scheds → MayChange W orders g → ⊥) → KeepsOrder W orders
none-changes W orders never = λ g r. by-same W orders g (rule_of W g) r (pools_of W g) (λ may. never g (declared g may.1 may.2) may)
  where
    none-is : (r : Rule) → ◌≡◌ {A = Option Rule} None (Some r) → ⊥
    none-is r e = cc

    at-most : (xs : List SchedPart) (g : ℕ) (r : Rule) → option_map (λ (p : SchedPart). p.rule) (slice_get xs g) ≡ Some r → g < length xs
    at-most [] g r e = absurd (none-is r e)
    at-most (x ∷ xs) zero r e = omega arith
    at-most (x ∷ xs) (suc g) r e = let l : g < length xs = at-most xs g r e in omega arith

    declared : (g : ℕ) (r : Rule) → rule_of W g ≡ Some r → g < length W.scheds
    declared g r = at-most W.scheds g r
