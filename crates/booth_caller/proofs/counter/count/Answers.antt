use Rattle.std.proofs.Common.{rules, ◌≡◌, length, map, replicate, ap, subst}
use Rattle.abt_booth.specs.Seats.{opening_of, seats_of, known_of}
use Rattle.booth_caller.specs.Counters.{Adds}
use Rattle.booth_caller.specs.Counts.{IsCounted}
use Rattle.booth_caller.proofs.Calling.{asked-back, closes-back}
use Rattle.booth_caller.proofs.Totals.{counted}
use Rattle.booth_caller.proofs.counter.count.Goals as goal

pub close-requires : goal.close-requires
close-requires g c =
    let seats = c.in-Ok.seats in
    closes-back c.in-Ok.booth seats.len seats.items c.add_on_threads.new.seats (search rules) (search rules) (search rules) c.add_on_threads.ensures.seats c.add_on_threads.ensures.order

pub returns : goal.returns
returns g c =
    let seats = c.in-Ok.seats in
    let new = c.add_on_threads.new.seats in
    let first = opening_of c.in-Ok.booth in
    let last = c.close.result.object in
    let clock = c.close.result.clock in
    let back = asked-back Adds first last (seats_of c.in-Ok.booth) seats.len seats.items c.as_mut_slice.result.now new clock (λ k. replicate c.args.times 1)
    (search rules) (search rules) (search rules) (search rules) c.add_on_threads.ensures.order c.in-Ok.ensures.seats.fresh c.add_on_threads.ensures.asked c.close.ensures in
    let made : length new ≡ c.args.threads = search rules in
    let zero : first.sum ≡ 0 = ap (λ counter. counter.sum) c.in-Ok.ensures.booth.0 in
    subst (λ n. IsCounted n c.args.times last.sum clock) made (counted (length new) c.args.times clock first last (map known_of new) zero back.0 back.1)
