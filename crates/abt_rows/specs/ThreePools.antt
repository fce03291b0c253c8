-- Rows on orders of three pools.
use Rattle.std.specs.Prelude.{[], ◌∷◌, codes, ◌++◌, None}
use Rattle.abt_machine.specs.declared.operations.OrderShape.TheVariants as shape
use Rattle.abt_machine.specs.Stored.{Stored}
use Rattle.abt_machine.specs.Words.{Text}

-- one stored order, which is free, and functions that return any word
abbrev pub free_alone : Stored
free_alone = record { orders = shape.Free ∷ []; returns = λ f u acc keys. None }

-- A rotated order of three begins at the first pool again in its fourth round.

abbrev pub rotation_comes_round_text : Text
rotation_comes_round_text =
    codes "abt 1\nstreams 1\npool 0 fifo mpmc\npool 1 fifo mpmc\npool 2 fifo mpmc\nsched 0 user 0 0 1 2\n" ++
    codes "stream 0 main 0\nunits 3\nunit 0 ult at 0\nunit 1 ult at 0\nunit 2 ult at 0\nend\n"

abbrev pub rotation_comes_round_journal : Text
rotation_comes_round_journal =
    codes "1 0 take 0 0\n2 0 look 0\n3 0 end 0 done\n4 0 miss 1\n5 0 miss 2\n6 0 take 0 1\n7 0 look 1\n" ++
    codes "8 0 end 1 done\n9 0 miss 2\n10 0 take 0 2\n11 0 look 2\n12 0 end 2 done\n13 0 miss 0\n" ++
    codes "14 0 miss 1\n15 0 miss 2\n"

abbrev pub rotation_comes_round_report : Text
rotation_comes_round_report =
    codes "unit 0 done:\nunit 1 done:\nunit 2 done:\n" ++
    codes "tally units 3 unborn 0 pool 0 stream 0 blocked 0 done 3 asked 0 access 0 steps 0\nfinished\n"

-- A mirrored order of three begins at the last pool in each round.

abbrev pub mirror_in_each_round_text : Text
mirror_in_each_round_text =
    codes "abt 1\nstreams 1\npool 0 fifo mpmc\npool 1 fifo mpmc\npool 2 fifo mpmc\nsched 0 user 1 0 1 2\n" ++
    codes "stream 0 main 0\nunits 2\nunit 0 ult at 1\nunit 1 ult at 0\nend\n"

abbrev pub mirror_in_each_round_journal : Text
mirror_in_each_round_journal =
    codes "1 0 miss 2\n2 0 take 1 0\n3 0 look 0\n4 0 end 0 done\n5 0 miss 2\n6 0 miss 1\n7 0 take 0 1\n" ++
    codes "8 0 look 1\n9 0 end 1 done\n10 0 miss 2\n11 0 miss 1\n12 0 miss 0\n"

abbrev pub mirror_in_each_round_report : Text
mirror_in_each_round_report =
    codes "unit 0 done:\nunit 1 done:\n" ++
    codes "tally units 2 unborn 0 pool 0 stream 0 blocked 0 done 2 asked 0 access 0 steps 0\nfinished\n"

-- RANDWS visits its first of three pools, and then the others from one that the words of its generator choose: in the first rounds the second, the third and the third.

abbrev pub randws_of_three_text : Text
randws_of_three_text =
    codes "abt 1\nstreams 1\npool 0 fifo mpmc\npool 1 fifo mpmc\npool 2 fifo mpmc\nsched 0 randws 9 0 1 2\n" ++
    codes "stream 0 main 0\nunits 1\nunit 0 ult at 2\nyield\nsay end\nend\n"

abbrev pub randws_of_three_journal : Text
randws_of_three_journal =
    codes "1 0 miss 0\n2 0 miss 1\n3 0 take 2 0\n4 0 look 0\n5 0 step 0 0 ok\n6 0 put 0 2\n7 0 miss 0\n" ++
    codes "8 0 take 2 0\n9 0 look 0\n10 0 step 0 1 ok\n11 0 end 0 done\n12 0 miss 0\n13 0 miss 2\n" ++
    codes "14 0 miss 1\n"

abbrev pub randws_of_three_report : Text
randws_of_three_report =
    codes "unit 0 done: end\n" ++
    codes "tally units 1 unborn 0 pool 0 stream 0 blocked 0 done 1 asked 0 access 0 steps 2\nfinished\n"

-- A free order may visit the pools in any order, and in another one in the next round.

abbrev pub free_order_text : Text
free_order_text =
    codes "abt 1\nstreams 1\npool 0 fifo mpmc\npool 1 fifo mpmc\npool 2 fifo mpmc\nsched 0 user 0 0 1 2\n" ++
    codes "stream 0 main 0\nunits 1\nunit 0 ult at 0\nend\n"

abbrev pub free_order_journal : Text
free_order_journal =
    codes "1 0 miss 1\n2 0 miss 2\n3 0 take 0 0\n4 0 look 0\n5 0 end 0 done\n6 0 miss 2\n7 0 miss 0\n" ++
    codes "8 0 miss 1\n"

abbrev pub free_order_report : Text
free_order_report =
    codes "unit 0 done:\ntally units 1 unborn 0 pool 0 stream 0 blocked 0 done 1 asked 0 access 0 steps 0\n" ++
    codes "finished\n"
