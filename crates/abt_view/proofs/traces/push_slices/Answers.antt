use Rattle.std.proofs.Common.{◌∙◌, ◌++◌, ap}
use Rattle.abt_view.specs.Trace.{slice_text}
use Rattle.abt_view.proofs.Ranges.{one-further}
use Rattle.abt_view.proofs.traces.push_slices.Goals as goal

pub loop-slice-preserved : goal.loop-slice-preserved
loop-slice-preserved c =
    one-further slice_text c.args.out.now.items c.loop-slice.out.items c.push_slice.new.out.items c.args.slices.now c.loop-slice.slice-index c.slice-item.result c.loop-slice-test.true c.loop-slice.invariant
    (c.in_ok-push_slice.ensures ∙ ap (λ x. c.loop-slice.out.items ++ slice_text x) c.slice-item.is)
