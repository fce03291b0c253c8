use Rattle.std.proofs.Common.{◌∙◌, ◌++◌, ap}
use Rattle.abt_machine.specs.declared.events.Event.{Event}
use Rattle.abt_view.specs.Shapes.{mark_in}
use Rattle.abt_view.proofs.Ranges.{one-further}
use Rattle.abt_view.proofs.pictures.push_marks.Goals as goal

pub loop-event-preserved : goal.loop-event-preserved
loop-event-preserved c =
    one-further (mark_in c.args.band) c.args.out.now.items c.loop-event.out.items c.push_mark_in.new.out.items c.args.journal.now c.loop-event.event-index _ c.loop-event-test.true c.loop-event.invariant
    (c.in_ok-push_mark_in.ensures ∙ ap (λ (e : Event). c.loop-event.out.items ++ mark_in c.args.band e) c.event-item.is)
