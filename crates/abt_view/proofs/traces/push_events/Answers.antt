use Rattle.std.proofs.Common.{◌∙◌, ◌++◌, ap}
use Rattle.abt_view.specs.declared.notes.Note.{Note}
use Rattle.abt_view.specs.Trace.{event_text}
use Rattle.abt_view.proofs.Ranges.{one-further}
use Rattle.abt_view.proofs.traces.push_events.Goals as goal

pub loop-note-preserved : goal.loop-note-preserved
loop-note-preserved c =
    one-further (event_text c.args.names.now) c.args.out.now.items c.loop-note.out.items c.push_event.new.out.items c.args.notes.now c.loop-note.note-index _ c.loop-note-test.true c.loop-note.invariant
    (c.in_ok-push_event.ensures ∙ ap (λ (n : Note). c.loop-note.out.items ++ event_text c.args.names.now n) c.note-item.is)
