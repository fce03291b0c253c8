-- Rows of two streams that share pools, with journals. Each row speaks of one run of its workload.
use Rattle.std.specs.Prelude.{codes, ◌++◌}
use Rattle.abt_machine.specs.Words.{Text}

-- The stream whose main scheduler lists a deque first takes at its back, also if the scheduler is not of the stream's number; the other takes at its front.

abbrev pub owner_and_thief_text : Text
owner_and_thief_text =
    codes "abt 1\nstreams 2\npool 0 deque mpmc\npool 1 fifo mpmc\nsched 0 prio 0 1\nsched 1 prio 1 0\n" ++
    codes "stream 0 main 1\nstream 1 main 0\nunits 3\nunit 0 ult at 0\nunit 1 ult at 0\nunit 2 ult at 0\n" ++
    codes "end\n"

abbrev pub owner_and_thief_journal : Text
owner_and_thief_journal =
    codes "1 0 miss 1\n1 1 take 0 2\n2 0 take 0 0\n2 1 look 2\n3 0 look 0\n3 1 end 2 done\n4 0 end 0 done\n" ++
    codes "4 1 take 0 1\n5 0 miss 1\n5 1 look 1\n6 0 miss 0\n6 1 end 1 done\n7 1 miss 0\n8 1 miss 1\n"

abbrev pub owner_and_thief_report : Text
owner_and_thief_report =
    codes "unit 0 done:\nunit 1 done:\nunit 2 done:\n" ++
    codes "tally units 3 unborn 0 pool 0 stream 0 blocked 0 done 3 asked 0 access 0 steps 0\nfinished\n"

-- A unit migrates to the pool that the main scheduler of the named stream lists first.

abbrev pub migrations_to_both_text : Text
migrations_to_both_text =
    codes "abt 1\nstreams 2\npool 0 deque mpmc\npool 1 fifo mpmc\nsched 0 prio 0 1\nsched 1 prio 1 0\n" ++
    codes "stream 0 main 1\nstream 1 main 0\nunits 3\nunit 0 ult at 1\nmigrateto 1 0\nmigrateto 2 1\n" ++
    codes "unit 1 ult at 0\nunit 2 ult at 1\nend\n"

abbrev pub migrations_to_both_journal : Text
migrations_to_both_journal =
    codes "1 0 take 1 0\n1 1 take 0 1\n2 0 look 0\n3 0 step 0 0 ok\n4 0 step 0 1 ok\n4 1 look 1\n" ++
    codes "5 0 end 0 done\n5 1 put 1 1\n6 0 take 1 2\n6 1 miss 0\n7 0 look 2\n7 1 take 1 1\n8 0 put 2 0\n" ++
    codes "8 1 look 1\n9 0 miss 1\n9 1 end 1 done\n10 0 take 0 2\n11 0 look 2\n11 1 miss 0\n" ++
    codes "12 0 end 2 done\n12 1 miss 1\n13 0 miss 1\n14 0 miss 0\n"

abbrev pub migrations_to_both_report : Text
migrations_to_both_report =
    codes "unit 0 done:\nunit 1 done:\nunit 2 done:\n" ++
    codes "tally units 3 unborn 0 pool 0 stream 0 blocked 0 done 3 asked 0 access 0 steps 2\nfinished\n"

-- All streams take from an SPMC pool, into which its producer alone puts; all put into an MPSC pool, from which its consumer alone takes.

abbrev pub others_pools_text : Text
others_pools_text =
    codes "abt 1\nstreams 2\npool 0 fifo spmc from 0\npool 1 fifo mpsc to 0\nsched 0 prio 1\n" ++
    codes "sched 1 prio 0\nstream 0 main 0\nstream 1 main 1\nunits 3\nunit 0 ult at 1\ncreate 1 0\n" ++
    codes "unit 1 ult later\ncreate 2 0\nyieldto 2 1\ncreate 2 1\nunit 2 ult later\nend\n"

abbrev pub others_pools_journal : Text
others_pools_journal =
    codes "1 0 take 1 0\n1 1 miss 0\n2 0 look 0\n3 0 step 0 0 ok\n4 0 put 1 0\n5 0 end 0 done\n" ++
    codes "5 1 take 0 1\n6 0 miss 1\n6 1 look 1\n7 1 step 1 0 pool-access\n8 1 step 1 1 pool-access\n" ++
    codes "9 1 step 1 2 ok\n10 1 put 2 1\n11 0 take 1 2\n11 1 end 1 done\n12 0 look 2\n12 1 miss 0\n" ++
    codes "13 0 end 2 done\n14 0 miss 1\n"

abbrev pub others_pools_report : Text
others_pools_report =
    codes "unit 0 done:\nunit 1 done: !pool-access !pool-access\nunit 2 done:\n" ++
    codes "tally units 3 unborn 0 pool 0 stream 0 blocked 0 done 3 asked 0 access 0 steps 4\nfinished\n"

-- A scheduler unit ends at once if its stream must not take from its second pool.

abbrev pub second_pool_barred_text : Text
second_pool_barred_text =
    codes "abt 1\nstreams 2\npool 0 fifo mpmc\npool 1 fifo priv of 1\nsched 0 prio 0\nsched 1 prio 1\n" ++
    codes "sched 2 prio 0 1\nstream 0 main 0\nstream 1 main 1\nunits 1\nunit 0 sched 2 at 0\nend\n"

abbrev pub second_pool_barred_journal : Text
second_pool_barred_journal =
    codes "1 0 take 0 0\n1 1 miss 1\n2 0 look 0\n3 0 end 0 access\n4 0 miss 0\n"

abbrev pub second_pool_barred_report : Text
second_pool_barred_report =
    codes "unit 0 access:\n" ++
    codes "tally units 1 unborn 0 pool 0 stream 0 blocked 0 done 0 asked 0 access 1 steps 0\nfinished\n"

-- A cancel request goes before a pool that is barred.

abbrev pub cancelled_before_barred_text : Text
cancelled_before_barred_text =
    codes "abt 1\nstreams 2\npool 0 fifo mpmc\npool 1 fifo priv of 1\nsched 0 prio 0\nsched 1 prio 1\n" ++
    codes "sched 2 prio 0 1\nstream 0 main 0\nstream 1 main 1\nunits 2\nunit 0 ult at 0\ncancel 1\n" ++
    codes "unit 1 sched 2 at 0\nend\n"

abbrev pub cancelled_before_barred_journal : Text
cancelled_before_barred_journal =
    codes "1 0 take 0 0\n1 1 miss 1\n2 0 look 0\n3 0 step 0 0 ok\n4 0 end 0 done\n5 0 take 0 1\n" ++
    codes "6 0 look 1\n7 0 end 1 asked\n8 0 miss 0\n"

abbrev pub cancelled_before_barred_report : Text
cancelled_before_barred_report =
    codes "unit 0 done:\nunit 1 asked:\n" ++
    codes "tally units 2 unborn 0 pool 0 stream 0 blocked 0 done 1 asked 1 access 0 steps 1\nfinished\n"

-- A yield and an operation that is refused for lack of access touch no object: an event of another stream at the desk of their unit may have the same stamp.

abbrev pub sites_untouched_text : Text
sites_untouched_text =
    codes "abt 1\nstreams 2\npool 0 fifo priv of 0\npool 1 fifo priv of 1\nsched 0 prio 0\nsched 1 prio 1\n" ++
    codes "stream 0 main 0\nstream 1 main 1\nunits 2\nunit 0 ult at 0\nmigratable 0 0\nmigratable 1 0\n" ++
    codes "unit 1 ult at 1\ncreate 0 0\nyield\nend\n"

abbrev pub sites_untouched_journal : Text
sites_untouched_journal =
    codes "1 0 take 0 0\n1 1 take 1 1\n2 0 look 0\n2 1 look 1\n3 0 step 0 0 ok\n3 1 step 1 0 pool-access\n" ++
    codes "4 0 step 0 1 ok\n4 1 step 1 1 ok\n5 0 end 0 done\n5 1 put 1 1\n6 0 miss 0\n6 1 take 1 1\n" ++
    codes "7 1 look 1\n8 1 end 1 done\n9 1 miss 1\n"

abbrev pub sites_untouched_report : Text
sites_untouched_report =
    codes "unit 0 done:\nunit 1 done: !pool-access\n" ++
    codes "tally units 2 unborn 0 pool 0 stream 0 blocked 0 done 2 asked 0 access 0 steps 4\nfinished\n"
