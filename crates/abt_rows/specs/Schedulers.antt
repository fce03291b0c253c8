-- Rows on stacked schedulers.
use Rattle.std.specs.Prelude.{codes, ◌++◌}
use Rattle.abt_machine.specs.Words.{Text}

-- A scheduler unit runs its pools on top of the main scheduler until they are empty, and again when it is revived.

abbrev pub stacked_text : Text
stacked_text =
    codes "abt 1\nstreams 1\npool 0 fifo mpmc\npool 1 fifo mpmc\nsched 0 prio 0\nsched 1 prio 1\nstream 0 main 0\n" ++
    codes "units 4\nunit 0 sched 1 at 0\nunit 1 ult at 1\nsay in\n" ++
    codes "unit 2 ult at 0\njoin 0\ncreate 3 1\nrevive 0 0\nunit 3 ult later\nsay again\nend\n"

abbrev pub stacked_journal : Text
stacked_journal =
    codes "1 0 take 0 0\n2 0 look 0\n3 0 enter 0\n4 0 take 1 1\n5 0 look 1\n6 0 step 1 0 ok\n" ++
    codes "7 0 end 1 done\n8 0 miss 1\n9 0 leave 0\n10 0 end 0 done\n11 0 take 0 2\n12 0 look 2\n" ++
    codes "13 0 step 2 0 ok\n14 0 step 2 1 ok\n15 0 put 3 1\n16 0 step 2 2 ok\n17 0 put 0 0\n" ++
    codes "18 0 end 2 done\n19 0 take 0 0\n20 0 look 0\n21 0 enter 0\n22 0 take 1 3\n23 0 look 3\n" ++
    codes "24 0 step 3 0 ok\n25 0 end 3 done\n26 0 miss 1\n27 0 leave 0\n28 0 end 0 done\n29 0 miss 0\n"

abbrev pub stacked_report : Text
stacked_report =
    codes "unit 0 done:\nunit 1 done: in\nunit 2 done:\nunit 3 done: again\n" ++
    codes "tally units 4 unborn 0 pool 0 stream 0 blocked 0 done 4 asked 0 access 0 steps 5\nfinished\n"

-- A unit that is woken after its scheduler has ended stays in its pool.

abbrev pub woken_too_late_text : Text
woken_too_late_text =
    codes "abt 1\nstreams 1\npool 0 fifo mpmc\npool 1 fifo mpmc\nsched 0 prio 0\nsched 1 prio 1\nstream 0 main 0\n" ++
    codes "units 3\nunit 0 sched 1 at 0\nunit 1 ult at 1\nsuspend\nsay late\nunit 2 ult at 0\nresume 1\nend\n"

abbrev pub woken_too_late_report : Text
woken_too_late_report =
    codes "unit 0 done:\nunit 1 pool 1:\nunit 2 done:\n" ++
    codes "tally units 3 unborn 0 pool 1 stream 0 blocked 0 done 2 asked 0 access 0 steps 2\nstuck\n"

-- A scheduler unit is never migratable.

abbrev pub scheduler_not_migratable_text : Text
scheduler_not_migratable_text =
    codes "abt 1\nstreams 1\npool 0 fifo mpmc\npool 1 fifo mpmc\nsched 0 prio 0\nsched 1 prio 1\nstream 0 main 0\n" ++
    codes "units 2\nunit 0 ult at 0\nmigratable 1 1\nmigrate 1 1\nunit 1 sched 1 at 0\nend\n"

abbrev pub scheduler_not_migratable_report : Text
scheduler_not_migratable_report =
    codes "unit 0 done: !not-migratable !not-migratable\nunit 1 done:\n" ++
    codes "tally units 2 unborn 0 pool 0 stream 0 blocked 0 done 2 asked 0 access 0 steps 2\nfinished\n"

-- A scheduler unit that is asked to cancel does not enter.

abbrev pub scheduler_cancelled_text : Text
scheduler_cancelled_text =
    codes "abt 1\nstreams 1\npool 0 fifo mpmc\npool 1 fifo mpmc\nsched 0 prio 0\nsched 1 prio 1\nstream 0 main 0\n" ++
    codes "units 3\nunit 0 ult at 0\ncancel 1\nunit 1 sched 1 at 0\nunit 2 ult at 1\nsay never\nend\n"

abbrev pub scheduler_cancelled_journal : Text
scheduler_cancelled_journal =
    codes "1 0 take 0 0\n2 0 look 0\n3 0 step 0 0 ok\n4 0 end 0 done\n5 0 take 0 1\n6 0 look 1\n" ++
    codes "7 0 end 1 asked\n8 0 miss 0\n"

abbrev pub scheduler_cancelled_report : Text
scheduler_cancelled_report =
    codes "unit 0 done:\nunit 1 asked:\nunit 2 pool 1:\n" ++
    codes "tally units 3 unborn 0 pool 1 stream 0 blocked 0 done 1 asked 1 access 0 steps 1\nstuck\n"

-- A scheduler that is entered begins with its first round.

abbrev pub entered_afresh_text : Text
entered_afresh_text =
    codes "abt 1\nstreams 1\npool 0 fifo mpmc\npool 1 fifo mpmc\npool 2 fifo mpmc\nsched 0 prio 0\n" ++
    codes "sched 1 user 0 1 2\nstream 0 main 0\n" ++
    codes "units 3\nunit 0 sched 1 at 0\nunit 1 ult at 1\nunit 2 ult at 2\nend\n"

abbrev pub entered_afresh_journal : Text
entered_afresh_journal =
    codes "1 0 take 0 0\n2 0 look 0\n3 0 enter 0\n4 0 take 1 1\n5 0 look 1\n6 0 end 1 done\n7 0 take 2 2\n" ++
    codes "8 0 look 2\n9 0 end 2 done\n10 0 miss 1\n11 0 miss 2\n12 0 leave 0\n13 0 end 0 done\n" ++
    codes "14 0 miss 0\n"

abbrev pub entered_afresh_report : Text
entered_afresh_report =
    codes "unit 0 done:\nunit 1 done:\nunit 2 done:\n" ++
    codes "tally units 3 unborn 0 pool 0 stream 0 blocked 0 done 3 asked 0 access 0 steps 0\nfinished\n"

-- The scheduler below a stacked one goes on with its next round.

abbrev pub round_below_text : Text
round_below_text =
    codes "abt 1\nstreams 1\npool 0 fifo mpmc\npool 1 fifo mpmc\npool 2 fifo mpmc\nsched 0 user 0 0 1\n" ++
    codes "sched 1 prio 2\nstream 0 main 0\n" ++
    codes "units 3\nunit 0 sched 1 at 0\nunit 1 ult at 0\nunit 2 ult at 1\nend\n"

abbrev pub round_below_journal : Text
round_below_journal =
    codes "1 0 take 0 0\n2 0 look 0\n3 0 enter 0\n4 0 miss 2\n5 0 leave 0\n6 0 end 0 done\n7 0 take 1 2\n" ++
    codes "8 0 look 2\n9 0 end 2 done\n10 0 take 0 1\n11 0 look 1\n12 0 end 1 done\n13 0 miss 1\n" ++
    codes "14 0 miss 0\n"

abbrev pub round_below_report : Text
round_below_report =
    codes "unit 0 done:\nunit 1 done:\nunit 2 done:\n" ++
    codes "tally units 3 unborn 0 pool 0 stream 0 blocked 0 done 3 asked 0 access 0 steps 0\nfinished\n"

-- A stacked scheduler is left after a round that found all its pools empty.

abbrev pub left_after_a_round_text : Text
left_after_a_round_text =
    codes "abt 1\nstreams 1\npool 0 fifo mpmc\npool 1 fifo mpmc\npool 2 fifo mpmc\nsched 0 prio 0\n" ++
    codes "sched 1 prio 1 2\nstream 0 main 0\n" ++
    codes "units 2\nunit 0 sched 1 at 0\nunit 1 ult at 2\nend\n"

abbrev pub left_after_a_round_journal : Text
left_after_a_round_journal =
    codes "1 0 take 0 0\n2 0 look 0\n3 0 enter 0\n4 0 miss 1\n5 0 take 2 1\n6 0 look 1\n7 0 end 1 done\n" ++
    codes "8 0 miss 1\n9 0 miss 2\n10 0 leave 0\n11 0 end 0 done\n12 0 miss 0\n"

abbrev pub left_after_a_round_report : Text
left_after_a_round_report =
    codes "unit 0 done:\nunit 1 done:\n" ++
    codes "tally units 2 unborn 0 pool 0 stream 0 blocked 0 done 2 asked 0 access 0 steps 0\nfinished\n"

-- A stacked scheduler takes at the front of a deque that the main scheduler does not list first.

abbrev pub deque_below_text : Text
deque_below_text =
    codes "abt 1\nstreams 1\npool 0 fifo mpmc\npool 1 deque mpmc\nsched 0 prio 0\nsched 1 prio 1\n" ++
    codes "stream 0 main 0\n" ++
    codes "units 3\nunit 0 sched 1 at 0\nunit 1 ult at 1\nunit 2 ult at 1\nend\n"

abbrev pub deque_below_journal : Text
deque_below_journal =
    codes "1 0 take 0 0\n2 0 look 0\n3 0 enter 0\n4 0 take 1 1\n5 0 look 1\n6 0 end 1 done\n7 0 take 1 2\n" ++
    codes "8 0 look 2\n9 0 end 2 done\n10 0 miss 1\n11 0 leave 0\n12 0 end 0 done\n13 0 miss 0\n"

abbrev pub deque_below_report : Text
deque_below_report =
    codes "unit 0 done:\nunit 1 done:\nunit 2 done:\n" ++
    codes "tally units 3 unborn 0 pool 0 stream 0 blocked 0 done 3 asked 0 access 0 steps 0\nfinished\n"

-- RANDWS draws from the generator of its seed and its own number: after its first pool, its first rounds go on at the fourth, the second and the fourth.

abbrev pub generator_of_scheduler_text : Text
generator_of_scheduler_text =
    codes "abt 1\nstreams 1\npool 0 fifo mpmc\npool 1 fifo mpmc\npool 2 fifo mpmc\npool 3 fifo mpmc\n" ++
    codes "pool 4 fifo mpmc\nsched 0 prio 0\nsched 1 randws 9 1 2 3 4\nstream 0 main 0\n" ++
    codes "units 2\nunit 0 sched 1 at 0\nunit 1 ult at 2\nyield\nend\n"

abbrev pub generator_of_scheduler_journal : Text
generator_of_scheduler_journal =
    codes "1 0 take 0 0\n2 0 look 0\n3 0 enter 0\n4 0 miss 1\n5 0 miss 4\n6 0 take 2 1\n7 0 look 1\n" ++
    codes "8 0 step 1 0 ok\n9 0 put 1 2\n10 0 miss 1\n11 0 take 2 1\n12 0 look 1\n13 0 end 1 done\n" ++
    codes "14 0 miss 1\n15 0 miss 4\n16 0 miss 2\n17 0 miss 3\n18 0 leave 0\n19 0 end 0 done\n20 0 miss 0\n"

abbrev pub generator_of_scheduler_report : Text
generator_of_scheduler_report =
    codes "unit 0 done:\nunit 1 done:\n" ++
    codes "tally units 2 unborn 0 pool 0 stream 0 blocked 0 done 2 asked 0 access 0 steps 1\nfinished\n"

-- A scheduler unit that a stacked scheduler takes is stacked on it, and is left first.

abbrev pub nested_text : Text
nested_text =
    codes "abt 1\nstreams 1\npool 0 fifo mpmc\npool 1 fifo mpmc\npool 2 fifo mpmc\nsched 0 prio 0\n" ++
    codes "sched 1 prio 1\nsched 2 prio 2\nstream 0 main 0\n" ++
    codes "units 3\nunit 0 sched 1 at 0\nunit 1 sched 2 at 1\nunit 2 ult at 2\nend\n"

abbrev pub nested_journal : Text
nested_journal =
    codes "1 0 take 0 0\n2 0 look 0\n3 0 enter 0\n4 0 take 1 1\n5 0 look 1\n6 0 enter 1\n7 0 take 2 2\n" ++
    codes "8 0 look 2\n9 0 end 2 done\n10 0 miss 2\n11 0 leave 1\n12 0 end 1 done\n13 0 miss 1\n" ++
    codes "14 0 leave 0\n15 0 end 0 done\n16 0 miss 0\n"

abbrev pub nested_report : Text
nested_report =
    codes "unit 0 done:\nunit 1 done:\nunit 2 done:\n" ++
    codes "tally units 3 unborn 0 pool 0 stream 0 blocked 0 done 3 asked 0 access 0 steps 0\nfinished\n"

-- A cancel request comes too late for a scheduler unit that has entered.

abbrev pub cancelled_inside_text : Text
cancelled_inside_text =
    codes "abt 1\nstreams 1\npool 0 fifo mpmc\npool 1 fifo mpmc\nsched 0 prio 0\nsched 1 prio 1\n" ++
    codes "stream 0 main 0\n" ++
    codes "units 2\nunit 0 sched 1 at 0\nunit 1 ult at 1\ncancel 0\nend\n"

abbrev pub cancelled_inside_journal : Text
cancelled_inside_journal =
    codes "1 0 take 0 0\n2 0 look 0\n3 0 enter 0\n4 0 take 1 1\n5 0 look 1\n6 0 step 1 0 ok\n" ++
    codes "7 0 end 1 done\n8 0 miss 1\n9 0 leave 0\n10 0 end 0 done\n11 0 miss 0\n"

abbrev pub cancelled_inside_report : Text
cancelled_inside_report =
    codes "unit 0 done:\nunit 1 done:\n" ++
    codes "tally units 2 unborn 0 pool 0 stream 0 blocked 0 done 2 asked 0 access 0 steps 1\nfinished\n"
