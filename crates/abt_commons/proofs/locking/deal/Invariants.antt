-- The passes from a number on have got their seats, and those of the others are left.
use Rattle.std.proofs.Common.{◌≡◌, List, ◌++◌, length, vec_len}
use Rattle.abt_commons.specs.Locking.{HaveGot}
use Rattle.abt_commons.proofs.Dealing.{SiteSeat}
use Rattle.abt_commons.proofs.locking.deal.Given as goal

abbrev pub invariant-loop-seat : goal.invariant-loop-seat
invariant-loop-seat l =
    (l.left ≡ length l.seats.items) × ((gone : List SiteSeat) × (l.initial.seats.items ≡ l.seats.items ++ gone)) × HaveGot l.booth l.left l.initial.passes l.passes

abbrev pub decreases-loop-seat : goal.decreases-loop-seat
decreases-loop-seat l = vec_len l.seats
