-- The objects and the clocks come back.
use Rattle.std.proofs.Common.{◌++◌, reverse, sym, ◌∙◌, ap, subst}
use Rattle.std.proofs.lemmas.List.{reverse-append, reverse-reverse, with_items_is}
use Rattle.abt_commons.specs.Closing.{AllClosed, WereClosed}
use Rattle.abt_commons.proofs.unlocking.unlocked.Goals as goal

pub returns : goal.returns
returns c =
    let booths = c.args.booths.items in
    let passes = c.args.passes.now in
    let clocks = c.args.clocks in
    let room = c.args.room.items in
    let ends = c.unlock_all.new.clocks in
    let closed = subst (λ cs. AllClosed booths passes cs room c.unlock_all.new.room.items ends) c.as_mut_slice.ensures.value c.unlock_all.ensures in
    let same = with_items_is clocks ends (closed.2.clocks_many ∙ sym clocks.ok.0) in (
      closed.0,
      c.reverse.ensures.items ∙ (ap reverse closed.1 ∙ (reverse-append room (reverse closed.0) ∙ ap (λ xs. xs ++ reverse room) (reverse-reverse closed.0))),
      subst (λ cs. WereClosed booths passes clocks.items 0 closed.0 cs) (sym same) closed.2,
    )
