use Rattle.std.proofs.Common.{◌∙◌, List, ℕ, replicate, subst}
use Rattle.abt_booth.specs.Seats.{number_of, seen_of}
use Rattle.booth_caller.specs.Calling.{AsksMore}
use Rattle.booth_caller.specs.Counters.{Adds}
use Rattle.booth_caller.proofs.Calling.{asks-more, replicate-more}
use Rattle.booth_caller.proofs.counter.add.Goals as goal

pub loop-preserved : goal.loop-preserved
loop-preserved g c =
    let first = c.args.seat.now in
    let i = c.loop.invariant in
    let Q : List ℕ → Type 0 = λ l. AsksMore (number_of first) l (seen_of first) (seen_of c.call.new.seat) in record {
      seat = c.call.ensures.seat;
      number = c.call.ensures.number ∙ i.number;
      asked = subst Q (replicate-more c.loop.counter 1) (asks-more Adds c.args.booth.now c.loop.seat c.call.new.seat (number_of first) (replicate c.loop.counter 1) 1 c.call.result (seen_of first) i.number i.asked c.call.ensures.reply);
    }
