use Rattle.std.proofs.Common.{◌≡◌, ◌≤◌, ◌+◌, ◌-◌, ◌∙◌, length, drop, rules}
use Rattle.abt_kernels.specs.Subsequences.{line_cells}
use Rattle.abt_kernels.proofs.Neighbours.{edge-above, line-first, long-above, rest-taken, some-along}
use Rattle.abt_kernels.proofs.subsequences.MakesTiles.upper_edge.Goals as goal

pub returns-then-u-self : goal.returns-then-u-self
returns-then-u-self g c =
    some-along _ _ c.zeros.result
    (λ words is. is ∙ line-first c.args.self.now.a.now c.args.self.now.b.now c.args.self.now.grid.now c.args.u c.args.tile.now c.if-u-self.true c.requires.tile)
    c.zeros.ensures

pub slice_bounds-copy_of-count : goal.slice_bounds-copy_of-count
slice_bounds-copy_of-count g c =
    long-above c.args.self.now.a.now c.args.self.now.b.now c.args.self.now.grid.now c.args.u c.args.tile.now c.in_ok-words.words.now c.args.self.now.some c.if-u-self.false
    c.requires.tile c.requires.inside (c.in_ok-words.ensures ∙ c.args.self.now.table (c.args.u - c.args.self.now.grid.now.columns))

pub offset_bounds-words-self : goal.offset_bounds-words-self
offset_bounds-words-self g c =
    let long : c.args.self.now.grid.now.height + 1 ≤ length c.in_ok-words.words.now =
    long-above c.args.self.now.a.now c.args.self.now.b.now c.args.self.now.grid.now c.args.u c.args.tile.now c.in_ok-words.words.now c.args.self.now.some c.if-u-self.false
    c.requires.tile c.requires.inside (c.in_ok-words.ensures ∙ c.args.self.now.table (c.args.u - c.args.self.now.grid.now.columns)) in
    search rules

pub slice_bounds-copy_of-start : goal.slice_bounds-copy_of-start
slice_bounds-copy_of-start g c =
    let long : c.args.self.now.grid.now.height + 1 ≤ length c.in_ok-words.words.now =
    long-above c.args.self.now.a.now c.args.self.now.b.now c.args.self.now.grid.now c.args.u c.args.tile.now c.in_ok-words.words.now c.args.self.now.some c.if-u-self.false
    c.requires.tile c.requires.inside (c.in_ok-words.ensures ∙ c.args.self.now.table (c.args.u - c.args.self.now.grid.now.columns)) in
    search rules

pub returns : goal.returns
returns g c =
    let line : drop (c.args.self.now.grid.now.height + 1) c.in_ok-words.words.now ≡ line_cells c.args.self.now.a.now c.args.self.now.b.now c.args.tile.now.top c.args.tile.now.left (c.args.tile.now.width + 1) =
    edge-above c.args.self.now.a.now c.args.self.now.b.now c.args.self.now.grid.now c.args.u c.args.tile.now c.in_ok-words.words.now c.args.self.now.some c.if-u-self.false
    c.requires.tile c.requires.inside (c.in_ok-words.ensures ∙ c.args.self.now.table (c.args.u - c.args.self.now.grid.now.columns)) in
    some-along _ _ c.copy_of.result (λ words is. is ∙ rest-taken c.in_ok-words.words.now (c.args.self.now.grid.now.height + 1) ∙ line) c.copy_of.ensures
