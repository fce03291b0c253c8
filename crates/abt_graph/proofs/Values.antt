-- The values of a graph: each is made from those before it.
use Rattle.std.proofs.Common.{◌≡◌, ◌<◌, ◌+◌, ℕ, zero, suc, List, [], ◌∷◌, ◌++◌, Some, length, slice_get, refl, sym, ◌∙◌, ap, subst, arith, length-append, append_assoc, zero-add}
use Rattle.std.specs.Prelude.{All, slice_index}
use Rattle.abt_machine.specs.declared.numbers.UnitNo.{UnitNo}
use Rattle.abt_flow.specs.Flow.{Functions}
use Rattle.abt_generate.proofs.Lists.{Each, none-some, some-same}
use Rattle.abt_graph.specs.Graphs.{AreValues, IsGraph, returned, value_of, values_after, values_at, values_of}
use Rattle.abt_graph.specs.declared.nodes.Node.{Node}
use Rattle.abt_graph.proofs.Lists.{all-each, append-nil, get-behind, index-before}

-- values that more stand behind
values-before : (before more : List ℕ) (after : List UnitNo) → Each (λ (x : UnitNo). x.0 < length before) after → values_at (before ++ more) after ≡ values_at before after
values-before before more [] within = refl
values-before before more (x ∷ after) within =
    ap (λ v. v ∷ values_at (before ++ more) after) (index-before before more x.0 within.0) ∙ ap (λ vs. slice_index before x.0 ∷ vs) (values-before before more after within.1)

module _ (R : Functions) where
  -- the values that are known stay, and each node has one more
  pub values-more : (before : List ℕ) (nodes : List Node) → (more : List ℕ) × (values_after R before nodes ≡ before ++ more) × (length more ≡ length nodes)
  values-more before [] = ([], sym (append-nil before), refl)
  values-more before (node ∷ nodes) =
      let v : ℕ = value_of R (length before) node before in
      let rest = values-more (before ++ v ∷ []) nodes in
      (v ∷ rest.0, rest.1 ∙ append_assoc before (v ∷ []) rest.0, ap (λ n. suc n) rest.2)

  -- a node makes of all values what it makes of those before it
  value-before : (u : ℕ) (node : Node) (before more : List ℕ) → All (λ (x : UnitNo). x.0 < length before) node.after → value_of R u node before ≡ value_of R u node (before ++ more)
  value-before u node before more within =
      ap (returned R node.function u) (sym (values-before before more node.after (all-each (λ (x : UnitNo). x.0 < length before) node.after within)))

  value-fits : (before : List ℕ) (nodes : List Node) (j u : ℕ) (node : Node) → u ≡ length before + j → slice_get nodes j ≡ Some node → All (λ (x : UnitNo). x.0 < u) node.after →
      slice_get (values_after R before nodes) u ≡ Some (value_of R u node (values_after R before nodes))
  value-fits before [] j u node here is earlier = absurd (none-some is)
  value-fits before (first ∷ nodes) zero u node here is earlier =
      let same : first ≡ node = some-same is in
      let at : u ≡ length before = omega arith in
      let v : ℕ = value_of R (length before) first before in
      let rest = values-more (before ++ v ∷ []) nodes in
      let all : values_after R before (first ∷ nodes) ≡ before ++ v ∷ rest.0 = rest.1 ∙ append_assoc before (v ∷ []) rest.0 in
      let within : All (λ (x : UnitNo). x.0 < length before) node.after = subst (λ n. All (λ (x : UnitNo). x.0 < n) node.after) at earlier in
      let made : v ≡ value_of R u node (before ++ v ∷ rest.0) =
      ap (λ (n : Node). value_of R (length before) n before) same ∙ (value-before (length before) node before (v ∷ rest.0) within ∙ ap (λ k. value_of R k node (before ++ v ∷ rest.0)) (sym at)) in
      ap (λ vs. slice_get vs u) all ∙ (ap (slice_get (before ++ v ∷ rest.0)) at ∙ (get-behind before v rest.0 ∙
      (ap (λ k. Some k) made ∙ ap (λ vs. Some (value_of R u node vs)) (sym all))))
  value-fits before (first ∷ nodes) (suc j) u node here is earlier =
      let v : ℕ = value_of R (length before) first before in
      let long : length (before ++ v ∷ []) ≡ length before + 1 = length-append before (v ∷ []) in
      value-fits (before ++ v ∷ []) nodes j u node (omega arith) is earlier

  pub values-fit : (nodes : List Node) → IsGraph nodes → AreValues R nodes (values_of R nodes)
  values-fit nodes graph =
      let more = values-more [] nodes in
      record {
        one_each = ap length more.1 ∙ more.2;
        each = λ u node is. value-fits [] nodes u u node (sym (zero-add u)) is (graph.each u node is).earlier;
      }
