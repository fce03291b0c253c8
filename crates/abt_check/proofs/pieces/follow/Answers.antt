use Rattle.std.proofs.Common.{◌++◌, ◌∷◌, [], List, length}
use Rattle.abt_machine.specs.declared.events.Event.{Event}
use Rattle.abt_machine.specs.Runs.{last_state}
use Rattle.abt_check.specs.Pieces.{IsReplayed, Replays}
use Rattle.abt_check.proofs.Replayed.{ok-then, replay-more}
use Rattle.abt_check.proofs.pieces.follow.Goals as goal

pub returns : goal.returns
returns c =
    let W = c.args.w.now in
    let e : Event = c.args.event.now in
    ok-then _ (λ may. (J : List Event) → IsReplayed W J c.args.model.now → Replays W (J ++ e ∷ []) may c.follow.new.self) c.follow.result
    (λ may done. λ J replayed. replay-more W J e may c.args.model.now c.follow.new.self replayed c.requires.stream (done (length J) (last_state W J) replayed.state replayed.stands))
    c.follow.ensures
