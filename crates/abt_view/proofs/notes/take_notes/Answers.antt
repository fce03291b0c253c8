use Rattle.abt_view.proofs.Noting.{one-noted}
use Rattle.abt_view.proofs.notes.take_notes.Goals as goal

pub loop-at-preserved : goal.loop-at-preserved
loop-at-preserved c =
    one-noted c.args.journal.now c.args.pieces.now c.loop-at.at _ _ _ c.loop-at.notes.items c.push.new.self.items c.loop-at-test.true c.loop-at.invariant c.index-journal-at.is
    c.piece_at-piece.ensures c.in_ok-push.ensures.items
