-- The first operation by which a workload is not confluent.
use Rattle.std.proofs.Common.{◌≡◌, ℕ, ◌+◌, ◌<◌, ◌≤◌, inl, inr, Bool, true, false, List, length, Some, None, MatchBool, arith, ap, subst, sym, ◌∙◌}
use Rattle.std.proofs.lemmas.Bool.{cases_eq}
use Rattle.std.proofs.lemmas.List.{with_items_is}
use Rattle.std.proofs.lemmas.Option.{slice_get_within}
use Rattle.std.specs.Prelude.{Vec}
use Rattle.std.specs.Vec.{with_items}
use Rattle.std.specs.declared.alloc.Global.{Global}
use Rattle.abt_machine.specs.declared.operations.Op.{Op}
use Rattle.abt_machine.specs.declared.workload.Parts.{Parts}
use Rattle.abt_machine.specs.Workloads.{body_at, op_at, ops_of}
use Rattle.abt_laws.proofs.Options.{none≢some, some-injective}
use Rattle.abt_flow.specs.declared.confluence.Seen.{Seen}
use Rattle.abt_flow.specs.declared.confluence.Violation.{Violation}
use Rattle.abt_flow.specs.declared.naming.Naming.{Naming}
use Rattle.abt_flow.specs.declared.naming.Naming.TheVariants.{Sets, Creates}
use Rattle.abt_flow.specs.Checks.{HasNamed, IsPlainAt, IsPlainOp, NamesAgain, NamesOnce, Prior, Violates, named_at, named_from}
use Rattle.abt_flow.specs.Confluent.{Confluent}
use Rattle.abt_flow.specs.Violations.{Clears, IsFirstViolation}
use Rattle.abt_flow.proofs.Named.{named-on, named-past, named-unit, never-prior, op-unit, prior-cases, prior-prior}
use Rattle.abt_flow.proofs.Plain.{confluent-creates, confluent-plain, confluent-sets, plain-confluent}

-- the fact of each case leads to another
pub by-case : {P Q R S : Type 0} (b : Bool) → (P → R) → (Q → S) → MatchBool b P Q → MatchBool b R S
by-case true f g h = f h
by-case false f g h = g h

-- the marks take the place of those in a table
pub refilled : (W : Parts) (n : Naming) (u k j : ℕ) (old : Vec Bool Global) (marks : List Bool) → HasNamed W n u k old.items → HasNamed W n u j marks → HasNamed W n u j (with_items old marks).items
refilled W n u k j old marks had has = subst (HasNamed W n u j) (sym (with_items_is old marks (has.all ∙ (sym had.all ∙ sym old.ok.0)))) has

module _ (W : Parts) (u k : ℕ) (seen : Seen) (clear : Clears W u k seen) where
  -- one more operation is plain if the one there is
  plain-more : IsPlainAt W u k → (v j : ℕ) → Prior v j u (k + 1) → IsPlainAt W v j
  plain-more plain v j prior =
      elim (prior-cases v j u k prior) [
        | inl before ↦ clear.plain v j before
        | inr now ↦ subst (λ w. IsPlainAt W w j) (sym now.0) (subst (IsPlainAt W u) (sym now.1) plain)
      ]

  -- an operation that is plain, and what it sets and creates is marked for the first time
  pub clears-more : (new : Seen) (o : Op) → op_at W u k ≡ Some o → IsPlainOp W o → HasNamed W Sets u (k + 1) new.set.items → HasNamed W Creates u (k + 1) new.created.items → Clears W u (k + 1) new
  clears-more new o at plain sets creates = record {
    plain = plain-more (λ p is. subst (IsPlainOp W) (some-injective (sym at ∙ is)) plain);
    sets = sets;
    creates = creates;
  }

  -- there is no operation
  pub clears-past : op_at W u k ≡ None → Clears W u (k + 1) seen
  clears-past none = record {
    plain = plain-more (λ o is. absurd (none≢some (sym none ∙ is)));
    sets = named-past W Sets u k seen.set.items clear.sets (ap (named_from Sets) none);
    creates = named-past W Creates u k seen.created.items clear.creates (ap (named_from Creates) none);
  }

  -- all operations of the unit were looked at
  pub clears-on : length (ops_of (body_at W u)) ≤ k → Clears W (u + 1) 0 seen
  clears-on over = record {
    plain = plain-on;
    sets = named-on W Sets u k seen.set.items clear.sets over;
    creates = named-on W Creates u k seen.created.items clear.creates over;
  } where
    plain-here : (v j : ℕ) → v ≡ u → IsPlainAt W v j
    plain-here v j same o is =
        let l : j < length (ops_of (body_at W u)) = slice_get_within (ops_of (body_at W u)) j o (subst (λ w. op_at W w j ≡ Some o) same is) in
        clear.plain v j (inr (same, omega arith)) o is

    plain-on : (v j : ℕ) → Prior v j (u + 1) 0 → IsPlainAt W v j
    plain-on v j (inr h) = (let l = h.1 in absurd (omega arith))
    plain-on v j (inl l) = elim (cases_eq v u) [ inl same ↦ plain-here v j same | inr other ↦ clear.plain v j (inl (omega arith)) ]

  -- no operation before it names a number again
  names-first : (n : Naming) (v j : ℕ) (marks : List Bool) → HasNamed W n u k marks → Prior v j u k → NamesAgain W n v j → ⊥
  names-first n v j marks has prior (y, w, i, named, earlier, also) =
      let same : (w ≡ v) × (i ≡ j) = has.once w v i j y (prior-prior w i v j u k earlier prior) prior also named in
      never-prior w i v j earlier same.0 same.1

  none-violates : (v j : ℕ) (o : Op) → Prior v j u k → op_at W v j ≡ Some o → Violates W v j o → ⊥
  none-violates v j o prior is (inl other) = other (clear.plain v j prior o is)
  none-violates v j o prior is (inr (inl sets)) = names-first Sets v j seen.set.items clear.sets prior sets
  none-violates v j o prior is (inr (inr creates)) = names-first Creates v j seen.created.items clear.creates prior creates

  pub is-first : (v : Violation) → v.unit.0 ≡ u → v.position ≡ k → op_at W u k ≡ Some v.operation → Violates W u k v.operation → IsFirstViolation W v
  is-first v e f at violates = record {
    at = subst (λ w. op_at W w v.position ≡ Some v.operation) (sym e) (subst (λ i. op_at W u i ≡ Some v.operation) (sym f) at);
    violates = subst (λ w. Violates W w v.position v.operation) (sym e) (subst (λ i. Violates W u i v.operation) (sym f) violates);
    first = λ w i o prior is violates. none-violates w i o (subst (Prior w i u) f (subst (λ z. Prior w i z v.position) e prior)) is violates;
  }

-- all operations of all units were looked at
pub clears-all : (W : Parts) (u : ℕ) (seen : Seen) → length W.units ≤ u → Clears W u 0 seen → Confluent W
clears-all W u seen over clear = plain-confluent W plain (once Sets seen.set.items clear.sets) (once Creates seen.created.items clear.creates) where
  plain : (v j : ℕ) → IsPlainAt W v j
  plain v j o is = let l : v < length W.units = op-unit W v j o is in clear.plain v j (inl (omega arith)) o is

  prior : (n : Naming) (v j x : ℕ) → named_at W n v j ≡ Some x → Prior v j u 0
  prior n v j x named = let l = (named-unit W n v j x named).0 in inl (omega arith)

  once : (n : Naming) (marks : List Bool) → HasNamed W n u 0 marks → NamesOnce W n
  once n marks has v w j i x named also = has.once v w j i x (prior n v j x named) (prior n w i x also) named also

-- a workload with such an operation is not confluent
names-twice : (W : Parts) (n : Naming) (u k : ℕ) → NamesOnce W n → NamesAgain W n u k → ⊥
names-twice W n u k once (x, v, j, named, prior, also) = let same : (v ≡ u) × (j ≡ k) = once v u j k x also named in never-prior v j u k prior same.0 same.1

pub not-confluent : (W : Parts) (v : Violation) → IsFirstViolation W v → Confluent W → ⊥
not-confluent W v first confluent = by first.violates where
  by : Violates W v.unit.0 v.position v.operation → ⊥
  by (inl other) = other (confluent-plain W confluent v.unit.0 v.position v.operation first.at)
  by (inr (inl sets)) = names-twice W Sets v.unit.0 v.position (confluent-sets W confluent) sets
  by (inr (inr creates)) = names-twice W Creates v.unit.0 v.position (confluent-creates W confluent) creates
