-- The journals of a tree that grows.
use Rattle.std.proofs.Common.{◌≡◌, ◌∙◌, ℕ, zero, suc, ◌<◌, ◌≤◌, ◌+◌, ◌-◌, List, [], ◌∷◌, ◌++◌, ◌⊎◌, Some, ap, arith, get_or, inl, inr, length, refl, subst, sym}
use Rattle.std.specs.List.{fold, slice_get}
use Rattle.std.proofs.lemmas.List.{get_or_append_left, get_or_push, length_push}
use Rattle.std.proofs.lemmas.List.Sums.{fold-append}
use Rattle.std.proofs.lemmas.Option.{slice_get_read}
use Rattle.abt_machine.specs.declared.events.Event.{Event}
use Rattle.abt_explore.specs.declared.paths.Node.{Node}
use Rattle.abt_explore.specs.Paths.{GoOnFromEarlier, journals_of, with_node}

-- the journal of a node that goes on from another
abbrev added : List (List Event) → Node → List Event
added js n = get_or js n.parent [] ++ n.event ∷ []

-- journals stay when nodes are added
journals-stay : (js : List (List Event)) (nodes : List Node) (i : ℕ) → i < length js → get_or (fold with_node js nodes) i [] ≡ get_or js i []
journals-stay js [] i l = refl
journals-stay js (n ∷ ns) i l =
    let long : length (with_node js n) ≡ length js + 1 = length_push js (added js n) in
    journals-stay (with_node js n) ns i (omega arith) ∙ get_or_append_left js (added js n ∷ []) [] i l

-- there is one journal more for each node
journals-long : (js : List (List Event)) (nodes : List Node) → length (fold with_node js nodes) ≡ length js + length nodes
journals-long js [] = omega arith
journals-long js (n ∷ ns) =
    let long : length (with_node js n) ≡ length js + 1 = length_push js (added js n) in
    let rest : length (fold with_node (with_node js n) ns) ≡ length (with_node js n) + length ns = journals-long (with_node js n) ns in omega arith

-- the journal of a node is that of its parent, and its event
journal-at : (js : List (List Event)) (nodes : List Node) (k : ℕ) (node : Node) → slice_get nodes k ≡ Some node → ((j : ℕ) (m : Node) → slice_get nodes j ≡ Some m → m.parent < length js + j) →
    get_or (fold with_node js nodes) (length js + k) [] ≡ get_or (fold with_node js nodes) node.parent [] ++ node.event ∷ []
journal-at js [] k node is earlier = cc
journal-at js (n ∷ ns) zero node is earlier =
    let same : n ≡ node = cc in
    let long : length (with_node js n) ≡ length js + 1 = length_push js (added js n) in
    let below : n.parent < length js + 0 = earlier 0 n refl in
    let low : n.parent < length js = omega arith in
    let here : get_or (fold with_node (with_node js n) ns) (length js + 0) [] ≡ added js n =
    ap (λ i. get_or (fold with_node (with_node js n) ns) i []) (omega arith) ∙ (journals-stay (with_node js n) ns (length js) (omega arith) ∙ get_or_push js (added js n) [] (length js) refl) in
    let parent : get_or (fold with_node (with_node js n) ns) n.parent [] ≡ get_or js n.parent [] = journals-stay js (n ∷ ns) n.parent low in
    subst (λ (m : Node). get_or (fold with_node (with_node js n) ns) (length js + 0) [] ≡ get_or (fold with_node (with_node js n) ns) m.parent [] ++ m.event ∷ []) same
    (here ∙ ap (λ (J : List Event). J ++ n.event ∷ []) (sym parent))
journal-at js (n ∷ ns) (suc k) node is earlier =
    let long : length (with_node js n) ≡ length js + 1 = length_push js (added js n) in
    let all = fold with_node (with_node js n) ns in
    ap (λ i. get_or all i []) (let e : length js + suc k ≡ length (with_node js n) + k = omega arith in e)
    ∙ journal-at (with_node js n) ns k node is (λ j m at. let below : m.parent < length js + suc j = earlier (suc j) m at in omega arith)

-- a tree has a journal for its root and each of its nodes
pub tree-long : (nodes : List Node) → length (journals_of nodes) ≡ 1 + length nodes
tree-long nodes = journals-long ([] ∷ []) nodes

-- the journal of a tree's node is that of its parent, and its event
pub tree-at : (nodes : List Node) (k : ℕ) (node : Node) → GoOnFromEarlier nodes → slice_get nodes k ≡ Some node →
    get_or (journals_of nodes) (1 + k) [] ≡ get_or (journals_of nodes) node.parent [] ++ node.event ∷ []
tree-at nodes k node earlier is = journal-at ([] ∷ []) nodes k node is (λ j m at. let below : m.parent ≤ j = earlier j m at in omega arith)

-- a node more
pub tree-more : (nodes : List Node) (node : Node) → journals_of (nodes ++ node ∷ []) ≡ with_node (journals_of nodes) node
tree-more nodes node = fold-append with_node ([] ∷ []) nodes (node ∷ [])

-- what stands in a list with one more is from before, or the last
pub push-cases : {A : Type 0} (xs : List A) (y x : A) (k : ℕ) → slice_get (xs ++ y ∷ []) k ≡ Some x → (slice_get xs k ≡ Some x) ⊎ ((y ≡ x) × (k ≡ length xs))
push-cases [] y x zero is = inr (cc, refl)
push-cases [] y x (suc k) is = cc
push-cases (z ∷ xs) y x zero is = inl is
push-cases (z ∷ xs) y x (suc k) is = elim (push-cases xs y x k is) [ inl before ↦ inl before | inr last ↦ inr (last.0, ap (λ n. suc n) last.1) ]

-- a node more that goes on from an earlier one
pub earlier-more : (nodes : List Node) (node : Node) → node.parent ≤ length nodes → GoOnFromEarlier nodes → GoOnFromEarlier (nodes ++ node ∷ [])
earlier-more nodes node below earlier k m at = elim (push-cases nodes node m k at) [
  | inl before ↦ earlier k m before
  | inr last ↦ let low : node.parent ≤ k = omega (arith, last.1) in subst (λ (x : Node). x.parent ≤ k) last.0 low
]

-- the root's journal is empty
pub tree-root : (nodes : List Node) → get_or (journals_of nodes) 0 [] ≡ []
tree-root nodes = journals-stay ([] ∷ []) nodes 0 (omega arith)

-- the step from a node to its parent
pub tree-step : (nodes : List Node) (js : List (List Event)) (at : ℕ) (node : Node) → GoOnFromEarlier nodes → journals_of nodes ≡ js → 0 < at → at < length js → node ≡ get_or nodes (at - 1) node →
    (node.parent < at) × (get_or js at [] ≡ get_or js node.parent [] ++ node.event ∷ [])
tree-step nodes js at node earlier same some below read =
    let long : length (journals_of nodes) ≡ 1 + length nodes = tree-long nodes in
    let as_long : length (journals_of nodes) ≡ length js = ap (λ (x : List (List Event)). length x) same in
    let is : slice_get nodes (at - 1) ≡ Some node = slice_get_read nodes (length nodes) (at - 1) node refl (omega arith) read in
    let up : node.parent ≤ at - 1 = earlier (at - 1) node is in
    let here : 1 + (at - 1) ≡ at = omega arith in (
      omega arith,
      subst (λ (x : List (List Event)). get_or x at
          [] ≡ get_or x node.parent [] ++ node.event ∷ []) same (ap (λ i. get_or (journals_of nodes) i []) (sym here) ∙ tree-at nodes (at - 1) node earlier is),
    )
