use Rattle.std.proofs.Common.{rules, arith, ◌≡◌, ◌<◌, length, map, ap, subst, ◌∙◌}
use Rattle.abt_booth.specs.Seats.{opening_of, seats_of, known_of}
use Rattle.booth_caller.specs.Calling.{HasAsked}
use Rattle.booth_caller.proofs.Calling.{asked-back, closes-back}
use Rattle.abt_callbacks.specs.Futures.{Does, empty}
use Rattle.abt_callbacks.specs.Runs.{sets_of, IsFolded}
use Rattle.abt_callbacks.specs.Seen.{future_of}
use Rattle.abt_callbacks.proofs.Folded.{folded-whole}
use Rattle.abt_callbacks.proofs.folding.fold_on_threads.Goals as goal

pub close-requires : goal.close-requires
close-requires g c =
    let seats = c.in-Ok.seats in
    closes-back c.in-Ok.booth seats.len seats.items c.set_on_threads.new.seats (search rules) (search rules) (search rules) c.set_on_threads.ensures.seats c.set_on_threads.ensures.order

pub returns : goal.returns
returns g c =
    let seats = c.in-Ok.seats in
    let new = c.set_on_threads.new.seats in
    let lent = c.as_mut_slice.result.now in
    let first = opening_of c.in-Ok.booth in
    let last = c.close.result.object in
    let clock = c.close.result.clock in
    let shape_of = g.F.Fold.shape in
    let May = g.F.Fold.may_return in
    let fold = c.args.fold in
    let n = c.args.n in
    let back = asked-back (λ old act answer new. Does shape_of May (future_of old) act answer (future_of new)) first last (seats_of c.in-Ok.booth) seats.len seats.items lent new clock (sets_of (length lent) n)
    (search rules) (search rules) (search rules) (search rules) c.set_on_threads.ensures.order c.in-Ok.ensures.seats.fresh c.set_on_threads.ensures.asked c.close.ensures in
    let lent_len : length lent ≡ length new = search rules in
    let made : length new ≡ c.args.workers = search rules in
    let is : future_of first ≡ empty fold n = ap future_of c.in-Ok.ensures.booth.0 ∙ c.in_ok-future.ensures in
    let some : 0 < length new = omega arith in
    let folded = folded-whole shape_of May fold c.requires.fold (length new) n some c.requires.numbers future_of first last (map known_of new) clock is back.0 (λ k lt. subst (λ m. HasAsked k (sets_of m n k) back.0.history) lent_len (back.1 k lt)) in
    subst (λ m. IsFolded shape_of May fold m n (future_of last) clock) made folded
