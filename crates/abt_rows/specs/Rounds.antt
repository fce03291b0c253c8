-- Rows on pools and the order in which schedulers visit them.
use Rattle.std.specs.Prelude.{codes, ◌++◌}
use Rattle.abt_machine.specs.Words.{Text}

-- PRIO visits its pools as they are listed.

abbrev pub prio_text : Text
prio_text =
    codes "abt 1\nstreams 1\npool 0 fifo mpmc\npool 1 fifo priv of 0\nsched 0 prio 0 1\nstream 0 main 0\n" ++
    codes "units 2\nunit 0 ult at 0\nunit 1 ult at 1\nend\n"

abbrev pub prio_journal : Text
prio_journal =
    codes "1 0 take 0 0\n2 0 look 0\n3 0 end 0 done\n4 0 miss 0\n5 0 take 1 1\n6 0 look 1\n7 0 end 1 done\n" ++
    codes "8 0 miss 0\n9 0 miss 1\n"

abbrev pub prio_report : Text
prio_report =
    codes "unit 0 done:\nunit 1 done:\n" ++
    codes "tally units 2 unborn 0 pool 0 stream 0 blocked 0 done 2 asked 0 access 0 steps 0\nfinished\n"

-- BASIC visits a pool of one stream before a pool of all.

abbrev pub basic_text : Text
basic_text =
    codes "abt 1\nstreams 1\npool 0 fifo mpmc\npool 1 fifo priv of 0\nsched 0 basic 0 1\nstream 0 main 0\n" ++
    codes "units 2\nunit 0 ult at 0\nunit 1 ult at 1\nend\n"

abbrev pub basic_journal : Text
basic_journal =
    codes "1 0 take 1 1\n2 0 look 1\n3 0 end 1 done\n4 0 miss 1\n5 0 take 0 0\n6 0 look 0\n7 0 end 0 done\n" ++
    codes "8 0 miss 1\n9 0 miss 0\n"

abbrev pub basic_report : Text
basic_report =
    codes "unit 0 done:\nunit 1 done:\n" ++
    codes "tally units 2 unborn 0 pool 0 stream 0 blocked 0 done 2 asked 0 access 0 steps 0\nfinished\n"

-- RANDWS visits two pools as PRIO does.

abbrev pub randws_of_two_text : Text
randws_of_two_text =
    codes "abt 1\nstreams 1\npool 0 fifo mpmc\npool 1 fifo priv of 0\nsched 0 randws 9 0 1\nstream 0 main 0\n" ++
    codes "units 2\nunit 0 ult at 0\nunit 1 ult at 1\nend\n"

abbrev pub randws_of_two_journal : Text
randws_of_two_journal =
    codes "1 0 take 0 0\n2 0 look 0\n3 0 end 0 done\n4 0 miss 0\n5 0 take 1 1\n6 0 look 1\n7 0 end 1 done\n" ++
    codes "8 0 miss 0\n9 0 miss 1\n"

abbrev pub randws_of_two_report : Text
randws_of_two_report =
    codes "unit 0 done:\nunit 1 done:\n" ++
    codes "tally units 2 unborn 0 pool 0 stream 0 blocked 0 done 2 asked 0 access 0 steps 0\nfinished\n"

-- RANDWS visits its first pool, and then the others from one that the words of its generator choose: in the first rounds the fourth, the second and the second.

abbrev pub randws_of_four_text : Text
randws_of_four_text =
    codes "abt 1\nstreams 1\npool 0 fifo mpmc\npool 1 fifo mpmc\npool 2 fifo mpmc\npool 3 fifo mpmc\nsched 0 randws 9 0 1 2 3\nstream 0 main 0\n" ++
    codes "units 1\nunit 0 ult at 2\nyield\nsay end\nend\n"

abbrev pub randws_of_four_journal : Text
randws_of_four_journal =
    codes "1 0 miss 0\n2 0 miss 3\n3 0 miss 1\n4 0 take 2 0\n5 0 look 0\n6 0 step 0 0 ok\n7 0 put 0 2\n" ++
    codes "8 0 miss 0\n9 0 miss 1\n10 0 take 2 0\n11 0 look 0\n12 0 step 0 1 ok\n13 0 end 0 done\n" ++
    codes "14 0 miss 0\n15 0 miss 1\n16 0 miss 2\n17 0 miss 3\n"

abbrev pub randws_of_four_report : Text
randws_of_four_report =
    codes "unit 0 done: end\n" ++
    codes "tally units 1 unborn 0 pool 0 stream 0 blocked 0 done 1 asked 0 access 0 steps 2\nfinished\n"

-- A rotated order begins one pool later in each round.

abbrev pub user_order_text : Text
user_order_text =
    codes "abt 1\nstreams 1\npool 0 fifo mpmc\npool 1 fifo mpmc\nsched 0 user 0 0 1\nstream 0 main 0\n" ++
    codes "units 2\nunit 0 ult at 0\nunit 1 ult at 0\nend\n"

abbrev pub user_order_journal : Text
user_order_journal =
    codes "1 0 take 0 0\n2 0 look 0\n3 0 end 0 done\n4 0 miss 1\n5 0 take 0 1\n6 0 look 1\n7 0 end 1 done\n" ++
    codes "8 0 miss 0\n9 0 miss 1\n"

abbrev pub user_order_report : Text
user_order_report =
    codes "unit 0 done:\nunit 1 done:\n" ++
    codes "tally units 2 unborn 0 pool 0 stream 0 blocked 0 done 2 asked 0 access 0 steps 0\nfinished\n"

-- A mirrored order begins at the last pool.

abbrev pub mirror_order_text : Text
mirror_order_text =
    codes "abt 1\nstreams 1\npool 0 fifo mpmc\npool 1 fifo mpmc\nsched 0 user 1 0 1\nstream 0 main 0\n" ++
    codes "units 2\nunit 0 ult at 0\nunit 1 ult at 0\nend\n"

abbrev pub mirror_order_journal : Text
mirror_order_journal =
    codes "1 0 miss 1\n2 0 take 0 0\n3 0 look 0\n4 0 end 0 done\n5 0 miss 1\n6 0 take 0 1\n7 0 look 1\n" ++
    codes "8 0 end 1 done\n9 0 miss 1\n10 0 miss 0\n"

abbrev pub mirror_order_report : Text
mirror_order_report =
    codes "unit 0 done:\nunit 1 done:\n" ++
    codes "tally units 2 unborn 0 pool 0 stream 0 blocked 0 done 2 asked 0 access 0 steps 0\nfinished\n"

-- A unit in a pool that no scheduler lists is not taken.

abbrev pub unlisted_pool_text : Text
unlisted_pool_text =
    codes "abt 1\nstreams 1\npool 0 fifo mpmc\npool 1 fifo mpmc\nsched 0 prio 0\nstream 0 main 0\n" ++
    codes "units 1\nunit 0 ult at 1\nend\n"

abbrev pub unlisted_pool_report : Text
unlisted_pool_report =
    codes "unit 0 pool 1:\n" ++
    codes "tally units 1 unborn 0 pool 1 stream 0 blocked 0 done 0 asked 0 access 0 steps 0\nstuck\n"

-- A stream takes at the back of a deque that its main scheduler lists first.

abbrev pub deque_text : Text
deque_text =
    codes "abt 1\nstreams 1\npool 0 deque mpmc\nsched 0 prio 0\nstream 0 main 0\n" ++
    codes "units 2\nunit 0 ult at 0\nunit 1 ult at 0\nend\n"

abbrev pub deque_journal : Text
deque_journal =
    codes "1 0 take 0 1\n2 0 look 1\n3 0 end 1 done\n4 0 take 0 0\n5 0 look 0\n6 0 end 0 done\n7 0 miss 0\n"

abbrev pub deque_report : Text
deque_report =
    codes "unit 0 done:\nunit 1 done:\n" ++
    codes "tally units 2 unborn 0 pool 0 stream 0 blocked 0 done 2 asked 0 access 0 steps 0\nfinished\n"

-- A unit that comes back to a deque is the first to be taken by its owner.

abbrev pub deque_again_text : Text
deque_again_text =
    codes "abt 1\nstreams 1\npool 0 deque mpmc\nsched 0 prio 0\nstream 0 main 0\n" ++
    codes "units 3\nunit 0 ult at 0\nunit 1 ult at 0\nunit 2 ult at 0\nyield\nsay back\nend\n"

abbrev pub deque_again_journal : Text
deque_again_journal =
    codes "1 0 take 0 2\n2 0 look 2\n3 0 step 2 0 ok\n4 0 put 2 0\n5 0 take 0 2\n6 0 look 2\n" ++
    codes "7 0 step 2 1 ok\n8 0 end 2 done\n9 0 take 0 1\n10 0 look 1\n11 0 end 1 done\n12 0 take 0 0\n" ++
    codes "13 0 look 0\n14 0 end 0 done\n15 0 miss 0\n"

abbrev pub deque_again_report : Text
deque_again_report =
    codes "unit 0 done:\nunit 1 done:\nunit 2 done: back\n" ++
    codes "tally units 3 unborn 0 pool 0 stream 0 blocked 0 done 3 asked 0 access 0 steps 2\nfinished\n"

-- A stream takes at the front of a deque that its main scheduler does not list first.

abbrev pub deque_listed_second_text : Text
deque_listed_second_text =
    codes "abt 1\nstreams 1\npool 0 fifo mpmc\npool 1 deque mpmc\nsched 0 prio 0 1\nstream 0 main 0\n" ++
    codes "units 2\nunit 0 ult at 1\nunit 1 ult at 1\nend\n"

abbrev pub deque_listed_second_journal : Text
deque_listed_second_journal =
    codes "1 0 miss 0\n2 0 take 1 0\n3 0 look 0\n4 0 end 0 done\n5 0 miss 0\n6 0 take 1 1\n7 0 look 1\n" ++
    codes "8 0 end 1 done\n9 0 miss 0\n10 0 miss 1\n"

abbrev pub deque_listed_second_report : Text
deque_listed_second_report =
    codes "unit 0 done:\nunit 1 done:\n" ++
    codes "tally units 2 unborn 0 pool 0 stream 0 blocked 0 done 2 asked 0 access 0 steps 0\nfinished\n"

-- BASIC visits first the pools that one stream has alone, then those that one stream takes from, then the rest, and each class as it is listed.

abbrev pub basic_classes_text : Text
basic_classes_text =
    codes "abt 1\nstreams 1\npool 0 fifo spmc from 0\npool 1 fifo mpmc\npool 2 fifo spmc from 0\n" ++
    codes "pool 3 fifo mpsc to 0\npool 4 fifo spsc from 0 to 0\npool 5 fifo mpsc to 0\n" ++
    codes "pool 6 fifo priv of 0\nsched 0 basic 0 1 2 3 4 5 6\nstream 0 main 0\n" ++
    codes "units 0\nend\n"

abbrev pub basic_classes_journal : Text
basic_classes_journal =
    codes "1 0 miss 6\n2 0 miss 3\n3 0 miss 4\n4 0 miss 5\n5 0 miss 0\n6 0 miss 1\n7 0 miss 2\n"

abbrev pub basic_classes_report : Text
basic_classes_report =
    codes "tally units 0 unborn 0 pool 0 stream 0 blocked 0 done 0 asked 0 access 0 steps 0\nfinished\n"

-- A rotated order of three begins at the next pool in each round.

abbrev pub rotation_of_three_text : Text
rotation_of_three_text =
    codes "abt 1\nstreams 1\npool 0 fifo mpmc\npool 1 fifo mpmc\npool 2 fifo mpmc\nsched 0 user 0 0 1 2\n" ++
    codes "stream 0 main 0\n" ++
    codes "units 1\nunit 0 ult at 0\nend\n"

abbrev pub rotation_of_three_journal : Text
rotation_of_three_journal =
    codes "1 0 take 0 0\n2 0 look 0\n3 0 end 0 done\n4 0 miss 1\n5 0 miss 2\n6 0 miss 0\n"

abbrev pub rotation_of_three_report : Text
rotation_of_three_report =
    codes "unit 0 done:\n" ++
    codes "tally units 1 unborn 0 pool 0 stream 0 blocked 0 done 1 asked 0 access 0 steps 0\nfinished\n"

-- A unit that is yielded to ends no round.

abbrev pub yieldto_keeps_the_round_text : Text
yieldto_keeps_the_round_text =
    codes "abt 1\nstreams 1\npool 0 fifo mpmc\npool 1 fifo mpmc\nsched 0 user 0 0 1\nstream 0 main 0\n" ++
    codes "units 3\nunit 0 ult at 0\nyieldto 1 0\nunit 1 ult at 0\nunit 2 ult at 1\nend\n"

abbrev pub yieldto_keeps_the_round_journal : Text
yieldto_keeps_the_round_journal =
    codes "1 0 take 0 0\n2 0 look 0\n3 0 step 0 0 ok\n4 0 put 0 0\n5 0 look 1\n6 0 end 1 done\n" ++
    codes "7 0 take 1 2\n8 0 look 2\n9 0 end 2 done\n10 0 take 0 0\n11 0 look 0\n12 0 end 0 done\n" ++
    codes "13 0 miss 1\n14 0 miss 0\n"

abbrev pub yieldto_keeps_the_round_report : Text
yieldto_keeps_the_round_report =
    codes "unit 0 done:\nunit 1 done:\nunit 2 done:\n" ++
    codes "tally units 3 unborn 0 pool 0 stream 0 blocked 0 done 3 asked 0 access 0 steps 1\nfinished\n"

-- A mirrored order of three goes from the last pool to the first.

abbrev pub mirror_of_three_text : Text
mirror_of_three_text =
    codes "abt 1\nstreams 1\npool 0 fifo mpmc\npool 1 fifo mpmc\npool 2 fifo mpmc\nsched 0 user 1 0 1 2\n" ++
    codes "stream 0 main 0\n" ++
    codes "units 0\nend\n"

abbrev pub mirror_of_three_journal : Text
mirror_of_three_journal = codes "1 0 miss 2\n2 0 miss 1\n3 0 miss 0\n"

abbrev pub mirror_of_three_report : Text
mirror_of_three_report =
    codes "tally units 0 unborn 0 pool 0 stream 0 blocked 0 done 0 asked 0 access 0 steps 0\nfinished\n"
