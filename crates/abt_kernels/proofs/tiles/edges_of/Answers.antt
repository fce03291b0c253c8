use Rattle.std.proofs.Common.{◌≡◌, ◌+◌, ◌∙◌, length, arith, ap, add-zero, sym, rules}
use Rattle.abt_kernels.specs.Subsequences.{common_length, line_cells}
use Rattle.abt_kernels.proofs.CommonLengths.{column-at, column-long, column-more, line-at, line-long}
use Rattle.abt_kernels.proofs.tiles.edges_of.Goals as goal

pub bounds-line-tile : goal.bounds-line-tile
bounds-line-tile c =
    let long : length c.args.line.now ≡ c.args.tile.now.width + 1 = line-long c.args.a.now c.args.b.now c.args.tile.now.top c.args.tile.now.left (c.args.tile.now.width + 1) c.args.line.now c.requires.line in
    omega arith

pub offset_bounds-line-tile : goal.offset_bounds-line-tile
offset_bounds-line-tile c =
    let long : length c.args.line.now ≡ c.args.tile.now.width + 1 = line-long c.args.a.now c.args.b.now c.args.tile.now.top c.args.tile.now.left (c.args.tile.now.width + 1) c.args.line.now c.requires.line in
    search rules

pub loop-k-init : goal.loop-k-init
loop-k-init c =
    let start : c.args.tile.now.top + 0 ≡ c.args.tile.now.top = add-zero c.args.tile.now.top in
    record {
      line = c.requires.line ∙ ap (λ i. line_cells c.args.a.now c.args.b.now i c.args.tile.now.left (c.args.tile.now.width + 1)) (sym start);
      edges =
          column-more c.args.a.now c.args.b.now c.args.tile.now.top (c.args.tile.now.left + c.args.tile.now.width) 0 _ c.in_ok-edges.edges.items c.push.new.self.items
          c.in_ok-edges.ensures.items c.in_ok-push.ensures.items
          (line-at c.args.a.now c.args.b.now c.args.tile.now.top c.args.tile.now.left (c.args.tile.now.width + 1) c.args.tile.now.width c.args.line.now c.requires.line (omega arith)
          ∙ ap (λ i. common_length c.args.a.now c.args.b.now i (c.args.tile.now.left + c.args.tile.now.width)) (sym start));
    }

pub bounds-edge-k : goal.bounds-edge-k
bounds-edge-k c =
    let long : length c.args.edge.now ≡ c.args.tile.now.height + 1 = column-long c.args.a.now c.args.b.now c.args.tile.now.top c.args.tile.now.left (c.args.tile.now.height + 1) c.args.edge.now c.requires.edge in
    omega arith

pub offset_bounds-edge-k : goal.offset_bounds-edge-k
offset_bounds-edge-k c =
    let long : length c.args.edge.now ≡ c.args.tile.now.height + 1 = column-long c.args.a.now c.args.b.now c.args.tile.now.top c.args.tile.now.left (c.args.tile.now.height + 1) c.args.edge.now c.requires.edge in
    search rules

pub next_line-requires-clause-columns : goal.next_line-requires-clause-columns
next_line-requires-clause-columns c =
    let long : length c.loop-k.line ≡ c.args.tile.now.width + 1 = line-long c.args.a.now c.args.b.now (c.args.tile.now.top + c.loop-k.k) c.args.tile.now.left (c.args.tile.now.width + 1) c.loop-k.line c.loop-k.invariant.line in
    omega arith

pub next_line-requires-clause-line : goal.next_line-requires-clause-line
next_line-requires-clause-line c =
    let long : length c.loop-k.line ≡ c.args.tile.now.width + 1 = line-long c.args.a.now c.args.b.now (c.args.tile.now.top + c.loop-k.k) c.args.tile.now.left (c.args.tile.now.width + 1) c.loop-k.line c.loop-k.invariant.line in
    c.loop-k.invariant.line ∙ ap (line_cells c.args.a.now c.args.b.now (c.args.tile.now.top + c.loop-k.k) c.args.tile.now.left) (sym long)

pub next_line-requires-clause-first : goal.next_line-requires-clause-first
next_line-requires-clause-first c =
    let next : c.args.tile.now.top + (c.loop-k.k + 1) ≡ c.args.tile.now.top + c.loop-k.k + 1 = omega arith in
    column-at c.args.a.now c.args.b.now c.args.tile.now.top c.args.tile.now.left (c.args.tile.now.height + 1) (c.loop-k.k + 1) c.args.edge.now c.requires.edge (omega arith)
    ∙ ap (λ i. common_length c.args.a.now c.args.b.now i c.args.tile.now.left) next

pub bounds-line-tile-in-loop-k : goal.bounds-line-tile-in-loop-k
bounds-line-tile-in-loop-k c =
    let long : length c.loop-k.line ≡ c.args.tile.now.width + 1 = line-long c.args.a.now c.args.b.now (c.args.tile.now.top + c.loop-k.k) c.args.tile.now.left (c.args.tile.now.width + 1) c.loop-k.line c.loop-k.invariant.line in
    search rules

pub offset_bounds-line-tile-in-loop-k : goal.offset_bounds-line-tile-in-loop-k
offset_bounds-line-tile-in-loop-k c =
    let long : length c.loop-k.line ≡ c.args.tile.now.width + 1 = line-long c.args.a.now c.args.b.now (c.args.tile.now.top + c.loop-k.k) c.args.tile.now.left (c.args.tile.now.width + 1) c.loop-k.line c.loop-k.invariant.line in
    search rules

pub loop-k-preserved : goal.loop-k-preserved
loop-k-preserved c =
    let long : length c.loop-k.line ≡ c.args.tile.now.width + 1 = line-long c.args.a.now c.args.b.now (c.args.tile.now.top + c.loop-k.k) c.args.tile.now.left (c.args.tile.now.width + 1) c.loop-k.line c.loop-k.invariant.line in
    let next : c.args.tile.now.top + c.loop-k.k + 1 ≡ c.args.tile.now.top + (c.loop-k.k + 1) = omega arith in
    let line : c.next_line.new.line ≡ line_cells c.args.a.now c.args.b.now (c.args.tile.now.top + (c.loop-k.k + 1)) c.args.tile.now.left (c.args.tile.now.width + 1) =
    c.next_line.ensures
    ∙ ap (line_cells c.args.a.now c.args.b.now (c.args.tile.now.top + c.loop-k.k + 1) c.args.tile.now.left) long
    ∙ ap (λ i. line_cells c.args.a.now c.args.b.now i c.args.tile.now.left (c.args.tile.now.width + 1)) next in
    record {
      line = line;
      edges =
          column-more c.args.a.now c.args.b.now c.args.tile.now.top (c.args.tile.now.left + c.args.tile.now.width) (c.loop-k.k + 1) _ c.loop-k.edges.items c.push-in-loop-k.new.self.items
          c.loop-k.invariant.edges c.in_ok-push-2.ensures.items
          (line-at c.args.a.now c.args.b.now (c.args.tile.now.top + (c.loop-k.k + 1)) c.args.tile.now.left (c.args.tile.now.width + 1) c.args.tile.now.width c.next_line.new.line line (omega arith));
    }
