use Rattle.std.proofs.Common.{rules, ◌≡◌, ◌∙◌, [], None, refl, sym, true}
use Rattle.abt_model.proofs.Ending.{idle-by, none-there}
use Rattle.abt_model.proofs.ends.is_idle.Goals as goal

pub returns : goal.returns
returns c =
    let deque = c.tray.result.now in
    let tray : c.args.lane.now.tray ≡ [] = sym c.tray.ensures ∙ (none-there deque.items deque.len true deque.ok.0 c.if-not-is_empty.ensures).0 refl in
    let next : c.args.lane.now.next ≡ None = search (rules, c.if-is_some.ensures) in
    let hand : c.args.lane.now.hand ≡ None = search (rules, c.if-is_some-2.ensures) in
    idle-by c.args.lane.now c.is_stacked.result tray next hand c.is_stacked.ensures
