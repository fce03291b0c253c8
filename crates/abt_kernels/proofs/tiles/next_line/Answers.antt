use Rattle.std.proofs.Common.{◌≡◌, ◌≤◌, ◌+◌, get_or, length, arith, refl, set}
use Rattle.std.proofs.lemmas.List.{length-set}
use Rattle.std.proofs.lemmas.List.FromFn.{fill_by_all}
use Rattle.abt_kernels.specs.Subsequences.{common_length}
use Rattle.abt_kernels.proofs.CommonLengths.{common-most, first-written, next-cell, written-after, written-more}
use Rattle.abt_kernels.proofs.tiles.next_line.Goals as goal

pub loop-k-init : goal.loop-k-init
loop-k-init c =
    first-written c.args.a.now c.args.b.now c.args.i c.args.from c.args.line.now c.args.first c.requires.some c.requires.line c.requires.first

pub cell-last-requires : goal.cell-last-requires
cell-last-requires c =
    let most : common_length c.args.a.now c.args.b.now c.args.i (c.args.from + c.loop-k.k) ≤ c.args.i = common-most c.args.a.now c.args.b.now c.args.i (c.args.from + c.loop-k.k) in
    omega arith

pub loop-k-preserved : goal.loop-k-preserved
loop-k-preserved c =
    let long : length (set c.args.line.now 0 c.args.first) ≡ length c.args.line.now = length-set c.args.line.now 0 c.args.first in
    let last : c.cell-last.result ≡ common_length c.args.a.now c.args.b.now (c.args.i + 1) (c.args.from + (c.loop-k.k + 1)) =
    next-cell c.args.a.now c.args.b.now c.args.i (c.args.from + c.loop-k.k) (c.args.from + (c.loop-k.k + 1)) c.loop-k.diagonal (get_or c.loop-k.line (c.loop-k.k + 1) 0) c.loop-k.last c.cell-last.result
    (omega arith) c.loop-k.invariant.diagonal (c.loop-k.invariant.after (c.loop-k.k + 1) (omega arith) (omega arith)) c.loop-k.invariant.last c.cell-last.ensures in
    record {
      diagonal = c.loop-k.invariant.after (c.loop-k.k + 1) (omega arith) (omega arith);
      last = last;
      before = written-more c.loop-k.line (λ m. common_length c.args.a.now c.args.b.now (c.args.i + 1) (c.args.from + m)) c.loop-k.k (c.loop-k.k + 1) c.cell-last.result refl (omega arith) c.loop-k.invariant.before last;
      after = written-after c.loop-k.line (λ m. common_length c.args.a.now c.args.b.now c.args.i (c.args.from + m)) c.loop-k.k (c.loop-k.k + 1) c.cell-last.result refl c.loop-k.invariant.after;
    }

pub returns : goal.returns
returns c =
    let long : length (set c.args.line.now 0 c.args.first) ≡ length c.args.line.now = length-set c.args.line.now 0 c.args.first in
    fill_by_all (λ m. common_length c.args.a.now c.args.b.now (c.args.i + 1) (c.args.from + m)) c.loop-k.line (length c.args.line.now) 0 (omega arith)
    (λ m within. c.loop-k.invariant.before m (omega arith))
