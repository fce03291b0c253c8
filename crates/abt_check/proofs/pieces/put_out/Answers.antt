use Rattle.std.proofs.Common.{◌≡◌, ◌∙◌, ◌≤◌, ◌+◌, ◌++◌, [], ◌∷◌, List, ap, arith, refl, subst, sym, take}
use Rattle.abt_machine.specs.declared.events.Event.{Event}
use Rattle.abt_machine.specs.Runs.{last_state}
use Rattle.abt_machine.specs.Start.{start}
use Rattle.abt_check.specs.Pieces.{IsReplayed, Replays, any_stored, piece_by, pieces_from}
use Rattle.abt_check.proofs.Judged.{first-more, run-last}
use Rattle.abt_check.proofs.Replayed.{ends-at, not-replayed, pieces-more, replay-starts}
use Rattle.abt_check.proofs.pieces.put_out.Goals as goal

pub loop-event-init : goal.loop-event-init
loop-event-init c = (replay-starts c.args.w.now c.in_ok-model.model c.known.ensures c.in_ok-model.ensures, c.new-pieces.ensures.items)

pub returns-then-event-streams : goal.returns-then-event-streams
returns-then-event-streams c =
    let W = c.args.w.now in
    let J : List Event = c.args.journal.now in
    let at = c.loop-event.event-index in
    let e : Event = c.event-item.result in
    let more = first-more J J at e refl c.loop-event-test.true in
    let next : take (at + 1) J ≡ take at J ++ e ∷ [] = more.1 ∙ ap (λ (x : Event). take at J ++ x ∷ []) (sym c.event-item.is) in
    let count : c.streams.result ≡ W.streams = c.streams.ensures.count in
    let other : c.streams.result ≤ e.stream.0 = c.if-event-streams.true in
    ends-at W J at e c.loop-event.pieces.items more.0 next c.loop-event.invariant.0.run (not-replayed W (take at J) e (λ l. omega arith)) c.loop-event.invariant.1

pub returns-then-not-branch : goal.returns-then-not-branch
returns-then-not-branch c =
    let W = c.args.w.now in
    let J : List Event = c.args.journal.now in
    let at = c.loop-event.event-index in
    let e : Event = c.event-item.result in
    let more = first-more J J at e refl c.loop-event-test.true in
    let next : take (at + 1) J ≡ take at J ++ e ∷ [] = more.1 ∙ ap (λ (x : Event). take at J ++ x ∷ []) (sym c.event-item.is) in
    ends-at W J at e c.loop-event.pieces.items more.0 next c.loop-event.invariant.0.run
    (subst (λ b. Replays W (take at J ++ e ∷ []) b c.follow.new.model) c.if-not-branch.true (c.in_ok-follow.ensures (take at J) c.loop-event.invariant.0))
    c.loop-event.invariant.1

pub loop-event-preserved : goal.loop-event-preserved
loop-event-preserved c =
    let W = c.args.w.now in
    let J : List Event = c.args.journal.now in
    let at = c.loop-event.event-index in
    let e : Event = c.event-item.result in
    let more = first-more J J at e refl c.loop-event-test.true in
    let next : take (at + 1) J ≡ take at J ++ e ∷ [] = more.1 ∙ ap (λ (x : Event). take at J ++ x ∷ []) (sym c.event-item.is) in
    let old : IsReplayed W (take at J) c.loop-event.model = c.loop-event.invariant.0 in
    let done : IsReplayed W (take at J ++ e ∷ []) c.follow.new.model =
    subst (λ b. Replays W (take at J ++ e ∷ []) b c.follow.new.model) c.if-not-branch.false (c.in_ok-follow.ensures (take at J) old) in
    let piece : c.piece_of-piece.result ≡ piece_by W (last_state W (take at J)) e.what =
    c.piece_of-piece.ensures (last_state W (take at J)) old.stands (run-last W any_stored (take at J) e done.run).1 in (
      subst (λ K. IsReplayed W K c.follow.new.model) (sym next) done,
      c.in_ok-push.ensures.items
          ∙ (ap (λ ps. ps ++ c.piece_of-piece.result ∷ []) c.loop-event.invariant.1
          ∙ (ap (λ p. pieces_from W (start W) (take at J) ++ p ∷ []) piece ∙ (sym (pieces-more W (start W) (take at J) e) ∙ ap (pieces_from W (start W)) (sym next)))),
    )
