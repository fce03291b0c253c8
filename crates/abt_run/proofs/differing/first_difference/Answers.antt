use Rattle.std.proofs.Common.{◌≡◌, ◌<◌, arith, length, rules}
use Rattle.abt_run.proofs.Lines.{both-end, differ-here, differ-then, same-then, shorter-then}
use Rattle.abt_run.proofs.differing.first_difference.Goals as goal

pub returns-then-ne : goal.returns-then-ne
returns-then-ne c =
    let differ : c.split_line.result.0.now ≡ c.split_line-in-loop-more.result.0.now → ⊥ = λ same. search rules in
    differ-here _ _ _ _ _ _ _ _ c.split_line.ensures.line c.split_line-in-loop-more.ensures.line c.split_line.ensures.rest c.split_line-in-loop-more.ensures.rest _ differ c.loop-more.invariant.differ

pub returns-then-is_empty : goal.returns-then-is_empty
returns-then-is_empty c =
    let same : c.split_line.result.0.now ≡ c.split_line-in-loop-more.result.0.now = search rules in
    let none : length c.split_line.result.0.now ≡ 0 = search rules in
    both-end _ _ _ _ _ _ _ _ c.split_line.ensures.line c.split_line-in-loop-more.ensures.line c.split_line.ensures.rest c.split_line-in-loop-more.ensures.rest same none c.loop-more.invariant.same

pub loop-more-smaller : goal.loop-more-smaller
loop-more-smaller c =
    let same : c.split_line.result.0.now ≡ c.split_line-in-loop-more.result.0.now = search rules in
    let some : 0 < length c.split_line.result.0.now = search rules in
    shorter-then _ _ c.args.expected.now c.args.found.now _ _ _ _ c.split_line.ensures.line c.split_line-in-loop-more.ensures.line c.split_line.ensures.rest c.split_line-in-loop-more.ensures.rest same some

pub loop-more-preserved : goal.loop-more-preserved
loop-more-preserved c =
    let same : c.split_line.result.0.now ≡ c.split_line-in-loop-more.result.0.now = search rules in
    let some : 0 < length c.split_line.result.0.now = search rules in
    let less = shorter-then _ _ c.args.expected.now c.args.found.now _ _ _ _ c.split_line.ensures.line c.split_line-in-loop-more.ensures.line c.split_line.ensures.rest c.split_line-in-loop-more.ensures.rest same some in
    record {
      differ = differ-then _ _ _ _ _ _ _ _ c.split_line.ensures.line c.split_line-in-loop-more.ensures.line c.split_line.ensures.rest c.split_line-in-loop-more.ensures.rest same _ c.loop-more.invariant.differ;
      same = same-then _ _ _ _ _ _ _ _ c.split_line.ensures.line c.split_line-in-loop-more.ensures.line c.split_line.ensures.rest c.split_line-in-loop-more.ensures.rest same c.loop-more.invariant.same;
      few = omega (arith, less, c.loop-more.invariant.few);
    }
