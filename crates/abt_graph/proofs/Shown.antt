-- What is read off a finished run of a graph.
use Rattle.std.proofs.Common.{◌≡◌, ℕ, zero, suc, ◌+◌, ◌<◌, ◌≤◌, List, [], ◌∷◌, ◌++◌, Option, Some, None, Vec, Global, length, map, take, get_or, refl, sym, ◌∙◌, ap, subst, arith, zero-add}
use Rattle.std.specs.List.{All, range_with_len}
use Rattle.std.proofs.lemmas.List.{get_or-map, length-map, map_more, map_push}
use Rattle.std.proofs.lemmas.List.FromFn.{map-range_with_len_more}
use Rattle.abt_machine.specs.declared.events.Event.{Event}
use Rattle.abt_machine.specs.declared.events.Outcome.{Outcome}
use Rattle.abt_machine.specs.declared.events.Outcome.TheVariants as outcome
use Rattle.abt_machine.specs.declared.events.Piece.TheVariants as piece
use Rattle.abt_machine.specs.declared.operations.OrderShape.{OrderShape}
use Rattle.abt_machine.specs.declared.grammar.Format.TheVariants as format
use Rattle.abt_machine.specs.Limits.{operation_limit}
use Rattle.abt_machine.specs.Stored.{Stored}
use Rattle.abt_machine.specs.declared.workload.Parts.{Parts}
use Rattle.abt_machine.specs.Lives.{count_up}
use Rattle.abt_machine.specs.Runs.{last_state}
use Rattle.abt_machine.specs.State.{State}
use Rattle.abt_machine.specs.Texts.{ShownUnit, shown_units}
use Rattle.abt_report.specs.Pictures.{IsPictureOf, unit_in_row, units_in_rows}
use Rattle.abt_report.specs.declared.pictures.Row.{Row}
use Rattle.abt_bounds.specs.Laws.{HasNoFreeCall}
use Rattle.abt_drain.specs.Runs.{HasRun}
use Rattle.abt_flow.specs.Confluent.{Confluent}
use Rattle.abt_flow.specs.Finishing.{OrderlyFinish}
use Rattle.abt_flow.specs.Flow.{Functions, IsFlow}
use Rattle.abt_flow.specs.Laws.{outputs}
use Rattle.abt_generate.proofs.Lists.{none-some}
use Rattle.abt_graph.specs.Graphs.{HasFunctions, IsGraph, values_of}
use Rattle.abt_graph.specs.Pictured.{IsNumber, output_of}
use Rattle.abt_graph.specs.Rows.{number_rows}
use Rattle.abt_graph.specs.Workloads.{workload_of}
use Rattle.abt_graph.specs.declared.nodes.Node.{Node}
use Rattle.abt_graph.proofs.Confluence.{Confluent-graph, HasNoFreeCall-graph}
use Rattle.abt_graph.proofs.Flowing.{rows-are-values}
use Rattle.abt_graph.proofs.GraphParts.{IsValid-graph, no-user}
use Rattle.abt_graph.proofs.Orderly.{IsOrderly-graph, ops-few}
use Rattle.abt_graph.proofs.RowNumbers.{number_in, numbers-back}

-- Lists of outputs.

map-map : {A B C : Type 0} (g : B → C) (f : A → B) (xs : List A) → map g (map f xs) ≡ map (λ x. g (f x)) xs
map-map g f [] = refl
map-map g f (x ∷ xs) = ap (λ ys. g (f x) ∷ ys) (map-map g f xs)

map-count_up : {A : Type 0} (f : ℕ → A) (n : ℕ) → map f (count_up n) ≡ map f (range_with_len 0 n)
map-count_up f zero = refl
map-count_up f (suc n) =
    let more : map f (range_with_len 0 (suc n)) ≡ map f (range_with_len 0 n) ++ f n ∷ [] = ap (λ k. map f (range_with_len 0 k)) (let e : suc n ≡ n + 1 = omega arith in e) ∙ map-range_with_len_more f 0 n n (zero-add n) in
    map_push f (count_up n) n ∙ (ap (λ ys. ys ++ f n ∷ []) (map-count_up f n) ∙ sym more)

-- the outputs that a picture shows are the state's
outputs-shown : (W : Parts) (S : State) (rows : List Row) → shown_units W S ≡ units_in_rows rows → outputs W S ≡ map output_of rows
outputs-shown W S rows shown =
    map-count_up (λ u. (S.carried u).output) (length W.units) ∙ (sym (map-map (λ (unit : ShownUnit). unit.output) _ (range_with_len 0 (length W.units))) ∙
    (ap (map (λ (unit : ShownUnit). unit.output)) shown ∙ map-map (λ (unit : ShownUnit). unit.output) unit_in_row rows))

-- rows that are numbers, one by one
rows-each : (rows : List Row) (numbers : List ℕ) → map output_of rows ≡ number_rows numbers → All IsNumber rows
rows-each rows numbers is i d below =
    let one : length (map output_of rows) ≡ length rows = length-map rows output_of in
    let two : length (number_rows numbers) ≡ length numbers = length-map numbers (λ n. piece.Number n ∷ []) in
    let same : length (map output_of rows) ≡ length (number_rows numbers) = ap length is in
    let here : get_or (map output_of rows) i [] ≡ output_of (get_or rows i d) = get_or-map output_of rows i d [] below in
    let other : get_or (number_rows numbers) i [] ≡ piece.Number (get_or numbers i 0) ∷ [] = get_or-map (λ n. piece.Number n ∷ []) numbers i 0 [] (omega arith) in
    (get_or numbers i 0, sym here ∙ (ap (λ xs. get_or xs i []) is ∙ other))

-- the numbers of the rows read so far, and of one row more
pub rows-more : (rows : List Row) (i : ℕ) (row : Row) (numbers next : List ℕ) (n : ℕ) → i < length rows → row ≡ get_or rows i row → row.output ≡ piece.Number n ∷ [] → number_rows numbers ≡ map output_of (take i rows) → next ≡ numbers ++ n ∷ [] → number_rows next ≡ map output_of (take (i + 1) rows)
rows-more rows i row numbers next n lt is out before push =
    ap number_rows push ∙ (map_push (λ k. piece.Number k ∷ []) numbers n ∙ (ap (λ ys. ys ++ (piece.Number n ∷ []) ∷ []) before ∙
    (ap (λ y. map output_of (take i rows) ++ y ∷ []) (sym out ∙ ap output_of is) ∙ sym (map_more output_of rows i row lt))))

-- Runs.

module _ (streams count : ℕ) (some : 0 < streams) (small : streams ≤ 64) (nodes : List Node) (graph : IsGraph nodes) (R : Functions) (has : HasFunctions nodes count R) (W : Parts)
    (is : W ≡ workload_of streams nodes) (shapes : List OrderShape) (n : ℕ) (enough : operation_limit format.Three ≤ n) (J : List Event) (o : Outcome)
    (law : (V : Parts) (Y : Stored) → OrderlyFinish V Y) where
  abbrev Z : Stored
  Z = record { orders = shapes; returns = R }

  module _ (run : HasRun W (record { orders = shapes; returns = R }) n J o) where
    -- it finished
    finished : o ≡ outcome.Finished
    finished =
        let same : HasRun (workload_of streams nodes) Z n J o = subst (λ V. HasRun V Z n J o) is run in
        law (workload_of streams nodes) Z (IsValid-graph streams nodes some small graph) (λ g k rule. absurd (no-user streams nodes g k rule)) (HasNoFreeCall-graph streams nodes Z count has)
        (IsOrderly-graph streams nodes some graph) n J o (let few = ops-few streams nodes some graph in omega arith) same.run same.ended

    module _ (rows : List Row) (pictured : IsPictureOf W J rows) where
      -- so it shows the flow, and the values
      values-shown : map output_of rows ≡ number_rows (values_of R nodes)
      values-shown =
          let flow : IsFlow W R (outputs W (last_state W J)) =
          run.flow finished (subst Confluent (sym is) (Confluent-graph streams nodes)) (subst (λ V. HasNoFreeCall V Z) (sym is) (HasNoFreeCall-graph streams nodes Z count has)) in
          rows-are-values streams nodes graph R (map output_of rows)
          (subst (λ V. IsFlow V R (map output_of rows)) is (subst (IsFlow W R) (outputs-shown W (last_state W J) rows pictured.shown) flow))

      pub shown-each : All IsNumber rows
      shown-each = rows-each rows (values_of R nodes) values-shown

      pub shown-values : (values : List ℕ) → number_rows values ≡ map output_of rows → values ≡ values_of R nodes
      shown-values values are = sym (numbers-back values) ∙ (ap (map number_in) (are ∙ values-shown) ∙ numbers-back (values_of R nodes))
