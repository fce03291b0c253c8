use Rattle.std.proofs.Common.{◌∙◌, arith}
use Rattle.std.proofs.lemmas.Grind.{common_steps}
use Rattle.abt_source.proofs.Pieces.{took-more}
use Rattle.abt_source.proofs.writing.write_whole.Goals as goal

pub loop-at-preserved : goal.loop-at-preserved
loop-at-preserved g c = record {
  in_range = let h = c.in_ok-at.ensures.bound in grind (arith, common_steps, h);
  took = took-more _ _ _ c.loop-at.at c.in_ok-at.field-0 c.args.bytes.now c.loop-at.invariant.took
      c.in_ok-at.ensures.takes;
  quiet = c.in_ok-at.ensures.quiet ∙ c.loop-at.invariant.quiet;
}
