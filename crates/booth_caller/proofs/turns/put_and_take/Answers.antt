use Rattle.std.proofs.Common.{◌≡◌, ◌++◌, subst}
use Rattle.abt_booth.specs.Holders.{holder_number, holder_seen}
use Rattle.abt_booth.specs.Seats.{added_by, opening_of, IsReply}
use Rattle.booth_caller.specs.declared.letters.Ask.TheVariants as ask
use Rattle.booth_caller.specs.Trays.{Does}
use Rattle.booth_caller.proofs.TwoCalls.{goes-through}
use Rattle.booth_caller.proofs.turns.put_and_take.Goals as goal

pub returns-clause-through : goal.returns-clause-through
returns-clause-through g c =
    let old = c.args.holder.now in
    let now = c.hold.new.holder in
    let put = c.call_held-put in
    let taken = c.call_held-taken in
    let between = holder_seen put.new.holder in
    let after = holder_seen taken.new.holder in
    let reply = subst (λ n. IsReply Does (opening_of c.args.booth.now) n between after 0 ask.Take taken.result) put.ensures.number taken.ensures.reply in
    let alone = subst (λ n. after ≡ between ++ added_by n ask.Take taken.result) put.ensures.number taken.ensures.alone in
    goes-through c.args.booth.now (holder_number old) (holder_number now) (holder_seen old) (holder_seen now) between after (holder_seen c.give_back.new.holder)
    c.args.letter put.result taken.result c.hold.ensures.number c.hold.ensures.met put.ensures.reply reply alone c.give_back.ensures.seen
