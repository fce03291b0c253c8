-- In a free order each pool that the round has not seen may be next.
use Rattle.std.proofs.Common.{◌≡◌, ℕ, zero, suc, ◌<◌, List, [], ◌∷◌, ◌++◌, length, Some, Contains, slice_get, slice_index_or, ap, sym, ◌∙◌, subst, append_assoc, arith, inl, inr}
use Rattle.std.specs.Prelude.{All}
use Rattle.std.specs.List.Sorted.{IsPermutation}
use Rattle.std.proofs.lemmas.List.Elements.{All-contains, All-contains_itself, Contains-append_cases}
use Rattle.std.proofs.lemmas.List.Sorted.{All-permutation, IsPermutation-append_right, IsPermutation-middle, IsPermutation-sym, IsPermutation-trans}
use Rattle.abt_machine.specs.Stored.{Stored}
use Rattle.abt_machine.specs.declared.operations.OrderShape.TheVariants as shape
use Rattle.abt_machine.specs.declared.operations.Rule.TheVariants as rule
use Rattle.abt_machine.specs.declared.workload.Parts.{Parts}
use Rattle.abt_machine.specs.Rounds.{AnyOrder, Choice, IsChosen, choice_by, choice_of, shaped}
use Rattle.abt_machine.specs.Workloads.{pools_of, rule_of}
use Rattle.abt_bounds.specs.Laws.{FreeOrdersAreFree}

-- a list is what stands before and behind an item that it has
split-at : (xs : List ℕ) (k x : ℕ) → k < length xs → slice_index_or xs k x ≡ x → (us : List ℕ) × (vs : List ℕ) × (xs ≡ us ++ x ∷ vs)
split-at [] k x l is = absurd (omega arith)
split-at (y ∷ ys) zero x l is = ([], ys, ap (λ z. z ∷ ys) is)
split-at (y ∷ ys) (suc k) x l is =
    let rest : (us : List ℕ) × (vs : List ℕ) × (ys ≡ us ++ x ∷ vs) = split-at ys k x (omega arith) is in
    (y ∷ rest.0, rest.1, ap (λ zs. y ∷ zs) rest.2)

free-choice : (W : Parts) (Z : Stored) (g r k : ℕ) → rule_of W g ≡ Some (rule.User k) → slice_get Z.orders k ≡ Some shape.Free → choice_of W Z.orders g r ≡ AnyOrder
free-choice W Z g r k user free = ap (λ o. choice_by W Z.orders g r o (pools_of W g)) user ∙ ap (λ o. shaped o r (pools_of W g)) free

pub free-orders-are-free : (W : Parts) (Z : Stored) → FreeOrdersAreFree W Z
free-orders-are-free W Z f k p way user free listed unseen =
    let ps : List ℕ = pools_of W f.sched in
    let any : choice_of W Z.orders f.sched f.round ≡ AnyOrder = free-choice W Z f.sched f.round k user free in
    let permutes : IsPermutation ps way.0 = subst (λ (c : Choice). IsChosen c ps way.0) any way.1 in
    let all : All (Contains way.0) ps = All-permutation (Contains way.0) way.0 ps (IsPermutation-sym ps way.0 permutes) (All-contains_itself way.0) in
    let has : Contains (f.seen ++ way.2 ∷ way.3) p = subst (λ xs. Contains xs p) (sym way.4) (All-contains (Contains way.0) ps p all listed) in
    elim (Contains-append_cases f.seen (way.2 ∷ way.3) p has) [
      | inl seen ↦ absurd (unseen seen)
      | inr left ↦
          let parts : (us : List ℕ) × (vs : List ℕ) × (way.2 ∷ way.3 ≡ us ++ p ∷ vs) = split-at (way.2 ∷ way.3) left.0 p left.1 left.2 in
          let old : IsPermutation ps (f.seen ++ (parts.0 ++ p ∷ parts.1)) = subst (IsPermutation ps) (sym way.4 ∙ ap (λ xs. f.seen ++ xs) parts.2) permutes in
          let new : IsPermutation ps (f.seen ++ p ∷ (parts.0 ++ parts.1)) =
          IsPermutation-trans ps (f.seen ++ (parts.0 ++ p ∷ parts.1)) (f.seen ++ p ∷ (parts.0 ++ parts.1)) old
          (IsPermutation-append_right f.seen (parts.0 ++ p ∷ parts.1) (p ∷ (parts.0 ++ parts.1)) (IsPermutation-middle parts.0 p parts.1)) in
          (f.seen ++ p ∷ (parts.0 ++ parts.1), subst (λ (c : Choice). IsChosen c ps (f.seen ++ p ∷ (parts.0 ++ parts.1))) (sym any) new, (parts.0 ++ parts.1, append_assoc f.seen (p ∷ []) (parts.0 ++ parts.1)))
    ]
