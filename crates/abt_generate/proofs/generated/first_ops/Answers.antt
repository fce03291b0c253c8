use Rattle.std.proofs.Common.{[], map, refl}
use Rattle.abt_generate.specs.Generated.{adders}
use Rattle.abt_generate.proofs.GeneratedOps.{create, join}
use Rattle.abt_generate.proofs.Lists.{map-range_more}
use Rattle.abt_generate.proofs.generated.first_ops.Goals as goal

pub loop-k-preserved : goal.loop-k-preserved
loop-k-preserved c = map-range_more create [] c.loop-k.ops.items c.push.new.self.items c.loop-k.k _ c.loop-k.invariant c.in_ok-push.ensures.items refl

pub loop-k-2-preserved : goal.loop-k-2-preserved
loop-k-2-preserved c = map-range_more join (map create (adders c.args.n)) c.loop-k-2.ops.items c.push-in-loop-k-2.new.self.items c.loop-k-2.k _ c.loop-k-2.invariant c.in_ok-push-2.ensures.items refl
