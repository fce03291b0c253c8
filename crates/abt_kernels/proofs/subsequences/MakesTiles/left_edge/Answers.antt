use Rattle.std.proofs.Common.{◌≡◌, ◌+◌, ◌-◌, ◌∙◌, sym, take}
use Rattle.abt_kernels.specs.Subsequences.{column_cells}
use Rattle.abt_kernels.proofs.Neighbours.{edge-before, edge-first, some-along}
use Rattle.abt_kernels.proofs.CommonLengths.{column-long}
use Rattle.abt_kernels.proofs.subsequences.MakesTiles.left_edge.Goals as goal

pub returns-then-u-self-eq0 : goal.returns-then-u-self-eq0
returns-then-u-self-eq0 g c =
    some-along _ _ c.zeros.result
    (λ words is. is ∙ edge-first c.args.self.now.a.now c.args.self.now.b.now c.args.self.now.grid.now c.args.u c.args.tile.now c.if-u-self-eq0.true c.requires.tile)
    c.zeros.ensures

pub slice_bounds-copy_of-end : goal.slice_bounds-copy_of-end
slice_bounds-copy_of-end g c =
    let edge : take (c.args.tile.now.height + 1) c.in_ok-words.words.now ≡ column_cells c.args.self.now.a.now c.args.self.now.b.now c.args.tile.now.top c.args.tile.now.left (c.args.tile.now.height + 1) =
    edge-before c.args.self.now.a.now c.args.self.now.b.now c.args.self.now.grid.now c.args.u c.args.tile.now c.in_ok-words.words.now c.args.self.now.some c.if-u-self-eq0.false
    c.requires.tile c.requires.inside (c.in_ok-words.ensures ∙ c.args.self.now.table (c.args.u - 1)) in
    sym (column-long c.args.self.now.a.now c.args.self.now.b.now c.args.tile.now.top c.args.tile.now.left (c.args.tile.now.height + 1) (take (c.args.tile.now.height + 1) c.in_ok-words.words.now) edge)

pub returns : goal.returns
returns g c =
    let edge : take (c.args.tile.now.height + 1) c.in_ok-words.words.now ≡ column_cells c.args.self.now.a.now c.args.self.now.b.now c.args.tile.now.top c.args.tile.now.left (c.args.tile.now.height + 1) =
    edge-before c.args.self.now.a.now c.args.self.now.b.now c.args.self.now.grid.now c.args.u c.args.tile.now c.in_ok-words.words.now c.args.self.now.some c.if-u-self-eq0.false
    c.requires.tile c.requires.inside (c.in_ok-words.ensures ∙ c.args.self.now.table (c.args.u - 1)) in
    some-along _ _ c.copy_of.result (λ words is. is ∙ edge) c.copy_of.ensures
