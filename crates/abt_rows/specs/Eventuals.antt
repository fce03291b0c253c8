-- Rows on eventuals, futures and barriers.
use Rattle.std.specs.Prelude.{codes, ◌++◌}
use Rattle.abt_machine.specs.Words.{Text}
use Rattle.abt_rows.specs.Base.{base}

-- An eventual wakes all its waiters with its value, is set once, and can be reset.

abbrev pub eventual_text : Text
eventual_text =
    base ++
    codes "object 0 eventual\nunits 3\nunit 0 ult at 0\newait 0\nprint\nunit 1 ult at 0\newait 0\nprint\n" ++
    codes "unit 2 ult at 0\nset 7\neset 0\nset 8\neset 0\nereset 0\netest 0\nprint\nend\n"

abbrev pub eventual_report : Text
eventual_report =
    codes "unit 0 done: 7\nunit 1 done: 7\nunit 2 done: !eventual-set 0\n" ++
    codes "tally units 3 unborn 0 pool 0 stream 0 blocked 0 done 3 asked 0 access 0 steps 11\n" ++
    codes "finished\n"

-- A ready eventual returns its value at once.

abbrev pub eventual_ready_text : Text
eventual_ready_text =
    base ++
    codes "object 0 eventual\nunits 1\nunit 0 ult at 0\nset 7\neset 0\netest 0\nprint\newait 0\nprint\nend\n"

abbrev pub eventual_ready_report : Text
eventual_ready_report =
    codes "unit 0 done: 1 7\n" ++
    codes "tally units 1 unborn 0 pool 0 stream 0 blocked 0 done 1 asked 0 access 0 steps 6\nfinished\n"

-- A future of two is ready at its second set, and a barrier of two lets both go on.

abbrev pub future_and_barrier_text : Text
future_and_barrier_text =
    base ++
    codes "object 0 future 2 sum\nobject 1 barrier 2\nunits 2\n" ++
    codes "unit 0 ult at 0\nset 3\nfset 0\nfwait 0\nprint\nbwait 1\n" ++
    codes "unit 1 ult at 0\nset 4\nfset 0\nfset 0\nbwait 1\nsay end\nend\n"

abbrev pub future_and_barrier_report : Text
future_and_barrier_report =
    codes "unit 0 done: 7\nunit 1 done: !future-full end\n" ++
    codes "tally units 2 unborn 0 pool 0 stream 0 blocked 0 done 2 asked 0 access 0 steps 10\n" ++
    codes "finished\n"

-- A future's value is the sum modulo 2^64, the greatest, or the number of what it was filled with.

abbrev pub future_combinations_text : Text
future_combinations_text =
    base ++
    codes "object 0 future 2 sum\nobject 1 future 2 max\nobject 2 future 2 count\nunits 2\n" ++
    codes "unit 0 ult at 0\nfwait 0\nprint\nfwait 1\nprint\nfwait 2\nprint\n" ++
    codes "unit 1 ult at 0\nset 18446744073709551615\nfset 0\nfset 1\nfset 2\nftest 0\nprint\nset 5\nfset 0\nfset 1\nfset 2\nftest 0\nprint\n" ++
    codes "end\n"

abbrev pub future_combinations_report : Text
future_combinations_report =
    codes "unit 0 done: 4 18446744073709551615 2\nunit 1 done: 0 1\n" ++
    codes "tally units 2 unborn 0 pool 0 stream 0 blocked 0 done 2 asked 0 access 0 steps 18\n" ++
    codes "finished\n"

-- A future that is reset is filled anew.

abbrev pub future_reset_text : Text
future_reset_text =
    base ++
    codes "object 0 future 1 sum\nunits 1\n" ++
    codes "unit 0 ult at 0\nset 3\nfset 0\nfset 0\nfreset 0\nftest 0\nprint\nset 4\nfset 0\nfwait 0\nprint\nend\n"

abbrev pub future_reset_report : Text
future_reset_report =
    codes "unit 0 done: !future-full 0 4\n" ++
    codes "tally units 1 unborn 0 pool 0 stream 0 blocked 0 done 1 asked 0 access 0 steps 10\n" ++
    codes "finished\n"

-- The third unit at a barrier of three wakes the two that wait, in order, and goes on.

abbrev pub barrier_of_three_text : Text
barrier_of_three_text =
    base ++
    codes "object 0 barrier 3\nunits 3\nunit 0 ult at 0\nbwait 0\nsay zero\n" ++
    codes "unit 1 ult at 0\nbwait 0\nsay one\nunit 2 ult at 0\nbwait 0\nsay two\nend\n"

abbrev pub barrier_of_three_journal : Text
barrier_of_three_journal =
    codes "1 0 take 0 0\n2 0 look 0\n3 0 step 0 0 ok\n4 0 take 0 1\n5 0 look 1\n6 0 step 1 0 ok\n" ++
    codes "7 0 take 0 2\n8 0 look 2\n9 0 step 2 0 ok\n10 0 put 0 0\n11 0 put 1 0\n12 0 step 2 1 ok\n" ++
    codes "13 0 end 2 done\n14 0 take 0 0\n15 0 look 0\n16 0 step 0 1 ok\n17 0 end 0 done\n18 0 take 0 1\n" ++
    codes "19 0 look 1\n20 0 step 1 1 ok\n21 0 end 1 done\n22 0 miss 0\n"

abbrev pub barrier_of_three_report : Text
barrier_of_three_report =
    codes "unit 0 done: zero\nunit 1 done: one\nunit 2 done: two\n" ++
    codes "tally units 3 unborn 0 pool 0 stream 0 blocked 0 done 3 asked 0 access 0 steps 6\nfinished\n"

-- The waiters of an eventual are woken in order.

abbrev pub eventual_wakes_in_order_text : Text
eventual_wakes_in_order_text =
    base ++
    codes "object 0 eventual\nunits 3\nunit 0 ult at 0\newait 0\nunit 1 ult at 0\newait 0\n" ++
    codes "unit 2 ult at 0\neset 0\nend\n"

abbrev pub eventual_wakes_in_order_journal : Text
eventual_wakes_in_order_journal =
    codes "1 0 take 0 0\n2 0 look 0\n3 0 step 0 0 ok\n4 0 take 0 1\n5 0 look 1\n6 0 step 1 0 ok\n" ++
    codes "7 0 take 0 2\n8 0 look 2\n9 0 step 2 0 ok\n10 0 put 0 0\n11 0 put 1 0\n12 0 end 2 done\n" ++
    codes "13 0 take 0 0\n14 0 look 0\n15 0 end 0 done\n16 0 take 0 1\n17 0 look 1\n18 0 end 1 done\n" ++
    codes "19 0 miss 0\n"

abbrev pub eventual_wakes_in_order_report : Text
eventual_wakes_in_order_report =
    codes "unit 0 done:\nunit 1 done:\nunit 2 done:\n" ++
    codes "tally units 3 unborn 0 pool 0 stream 0 blocked 0 done 3 asked 0 access 0 steps 3\nfinished\n"

-- The waiters of an eventual stay at its reset.

abbrev pub eventual_reset_text : Text
eventual_reset_text =
    base ++
    codes "object 0 eventual\nunits 2\nunit 0 ult at 0\newait 0\nprint\n" ++
    codes "unit 1 ult at 0\nereset 0\nset 7\neset 0\nend\n"

abbrev pub eventual_reset_report : Text
eventual_reset_report =
    codes "unit 0 done: 7\nunit 1 done:\n" ++
    codes "tally units 2 unborn 0 pool 0 stream 0 blocked 0 done 2 asked 0 access 0 steps 5\nfinished\n"

-- A future that is reset keeps no compartment, and its waiters stay.

abbrev pub future_reset_part_filled_text : Text
future_reset_part_filled_text =
    base ++
    codes "object 0 future 2 sum\nunits 2\nunit 0 ult at 0\nfwait 0\nprint\n" ++
    codes "unit 1 ult at 0\nset 3\nfset 0\nfreset 0\nset 4\nfset 0\nftest 0\nprint\nfset 0\nend\n"

abbrev pub future_reset_part_filled_report : Text
future_reset_part_filled_report =
    codes "unit 0 done: 4\nunit 1 done: 0\n" ++
    codes "tally units 2 unborn 0 pool 0 stream 0 blocked 0 done 2 asked 0 access 0 steps 10\n" ++
    codes "finished\n"

-- A barrier is used again when its parties went on.

abbrev pub barrier_again_text : Text
barrier_again_text =
    base ++
    codes "object 0 barrier 2\nunits 2\nunit 0 ult at 0\nbwait 0\nbwait 0\n" ++
    codes "unit 1 ult at 0\nbwait 0\nsay one\nbwait 0\nend\n"

abbrev pub barrier_again_journal : Text
barrier_again_journal =
    codes "1 0 take 0 0\n2 0 look 0\n3 0 step 0 0 ok\n4 0 take 0 1\n5 0 look 1\n6 0 step 1 0 ok\n" ++
    codes "7 0 put 0 0\n8 0 step 1 1 ok\n9 0 step 1 2 ok\n10 0 take 0 0\n11 0 look 0\n12 0 step 0 1 ok\n" ++
    codes "13 0 put 1 0\n14 0 end 0 done\n15 0 take 0 1\n16 0 look 1\n17 0 end 1 done\n18 0 miss 0\n"

abbrev pub barrier_again_report : Text
barrier_again_report =
    codes "unit 0 done:\nunit 1 done: one\n" ++
    codes "tally units 2 unborn 0 pool 0 stream 0 blocked 0 done 2 asked 0 access 0 steps 5\nfinished\n"

-- The waiters of a future are woken in order.

abbrev pub future_wakes_in_order_text : Text
future_wakes_in_order_text =
    base ++
    codes "object 0 future 1 count\nunits 3\nunit 0 ult at 0\nfwait 0\nunit 1 ult at 0\nfwait 0\n" ++
    codes "unit 2 ult at 0\nfset 0\nend\n"

abbrev pub future_wakes_in_order_journal : Text
future_wakes_in_order_journal =
    codes "1 0 take 0 0\n2 0 look 0\n3 0 step 0 0 ok\n4 0 take 0 1\n5 0 look 1\n6 0 step 1 0 ok\n" ++
    codes "7 0 take 0 2\n8 0 look 2\n9 0 step 2 0 ok\n10 0 put 0 0\n11 0 put 1 0\n12 0 end 2 done\n" ++
    codes "13 0 take 0 0\n14 0 look 0\n15 0 end 0 done\n16 0 take 0 1\n17 0 look 1\n18 0 end 1 done\n" ++
    codes "19 0 miss 0\n"

abbrev pub future_wakes_in_order_report : Text
future_wakes_in_order_report =
    codes "unit 0 done:\nunit 1 done:\nunit 2 done:\n" ++
    codes "tally units 3 unborn 0 pool 0 stream 0 blocked 0 done 3 asked 0 access 0 steps 3\nfinished\n"

-- The greatest of a future's values may come last.

abbrev pub rising_maximum_text : Text
rising_maximum_text =
    base ++
    codes "object 0 future 2 max\nunits 1\nunit 0 ult at 0\nset 3\nfset 0\nset 5\nfset 0\nfwait 0\nprint\nend\n"

abbrev pub rising_maximum_report : Text
rising_maximum_report =
    codes "unit 0 done: 5\n" ++
    codes "tally units 1 unborn 0 pool 0 stream 0 blocked 0 done 1 asked 0 access 0 steps 6\nfinished\n"
