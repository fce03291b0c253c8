use Rattle.std.proofs.Common.{◌≡◌, ◌∙◌, ◌+◌, ◌-◌, ◌<◌, ℕ, Vec, Global, length, ap, arith}
use Rattle.std.specs.Prelude.{slice_index}
use Rattle.std.proofs.lemmas.List.{get_or_read}
use Rattle.abt_graph.specs.Shapes.{IsReduction, inner_count}
use Rattle.abt_graph.proofs.Sums.{last-sum}
use Rattle.abt_graph.proofs.runs.run_sum.Goals as goal

pub index-requires : goal.index-requires
index-requires g c =
    let R = g.W.Work.returns c.args.work.now in
    let values : Vec ℕ Global = c.in_ok-values.values in
    let reduced : IsReduction R c.args.n c.args.leaf_function c.args.inner_function values.items = c.in_ok-values.ensures in
    let long : length values.items ≡ c.args.n + inner_count c.args.n = reduced.one_each in
    let some : 0 < c.args.n = c.requires.some in
    omega arith

pub returns : goal.returns
returns g c =
    let R = g.W.Work.returns c.args.work.now in
    let values : Vec ℕ Global = c.in_ok-values.values in
    let reduced : IsReduction R c.args.n c.args.leaf_function c.args.inner_function values.items = c.in_ok-values.ensures in
    let long : length values.items ≡ c.args.n + inner_count c.args.n = reduced.one_each in
    let some : 0 < c.args.n = c.requires.some in
    let size : c.len.result ≡ length values.items = omega (arith, c.len.ensures, values.ok.0) in
    get_or_read values.items (c.len.result - 1) c.index.result.now (omega arith) c.index.ensures 0 ∙
    (ap (λ k. slice_index values.items (k - 1)) (size ∙ long) ∙ last-sum R c.args.n c.args.leaf_function c.args.inner_function values.items some c.requires.adds reduced)
