-- Rows on births, joins, resumptions, revivals and yields to a unit.
use Rattle.std.specs.Prelude.{codes, ◌++◌}
use Rattle.abt_machine.specs.Words.{Text}
use Rattle.abt_rows.specs.Base.{base}

-- A unit that joins another is woken when that one ends.

abbrev pub join_text : Text
join_text = base ++ codes "units 2\nunit 0 ult at 0\njoin 1\nsay after\nunit 1 ult at 0\nsay first\nend\n"

abbrev pub join_report : Text
join_report =
    codes "unit 0 done: after\nunit 1 done: first\n" ++
    codes "tally units 2 unborn 0 pool 0 stream 0 blocked 0 done 2 asked 0 access 0 steps 3\nfinished\n"

-- A join waits, also on a unit that has not been created.

abbrev pub join_unborn_text : Text
join_unborn_text = base ++ codes "units 2\nunit 0 ult at 0\njoin 1\nunit 1 ult later\nend\n"

abbrev pub join_unborn_report : Text
join_unborn_report =
    codes "unit 0 join 1:\nunit 1 unborn:\n" ++
    codes "tally units 2 unborn 1 pool 0 stream 0 blocked 1 done 0 asked 0 access 0 steps 1\nstuck\n"

-- A unit that joins itself waits for ever.

abbrev pub join_self_text : Text
join_self_text = base ++ codes "units 1\nunit 0 ult at 0\njoin 0\nend\n"

abbrev pub join_self_report : Text
join_self_report =
    codes "unit 0 join 0:\n" ++
    codes "tally units 1 unborn 0 pool 0 stream 0 blocked 1 done 0 asked 0 access 0 steps 1\nstuck\n"

-- A unit is created once. One that must not migrate is not asked to.

abbrev pub exists_text : Text
exists_text =
    base ++
    codes "units 2\nunit 0 ult at 0\ncreate 1 0\nmigratable 1 0\nmigrate 1 0\nunit 1 ult at 0\nend\n"

abbrev pub exists_report : Text
exists_report =
    codes "unit 0 done: !exists !not-migratable\nunit 1 done:\n" ++
    codes "tally units 2 unborn 0 pool 0 stream 0 blocked 0 done 2 asked 0 access 0 steps 3\nfinished\n"

-- A unit that is unborn cannot be resumed, cancelled, migrated or revived.

abbrev pub unborn_refused_text : Text
unborn_refused_text =
    base ++
    codes "units 2\nunit 0 ult at 0\nresume 1\ncancel 1\nmigrate 1 0\nmigrateto 1 0\nrevive 1 0\n" ++
    codes "unit 1 ult later\nend\n"

abbrev pub unborn_refused_report : Text
unborn_refused_report =
    codes "unit 0 done: !unit-state !unit-state !unit-state !unit-state !unit-state\nunit 1 unborn:\n" ++
    codes "tally units 2 unborn 1 pool 0 stream 0 blocked 0 done 1 asked 0 access 0 steps 5\nfinished\n"

-- A unit that has ended cannot be cancelled, migrated or created.

abbrev pub ended_refused_text : Text
ended_refused_text =
    base ++
    codes "units 2\nunit 0 ult at 0\njoin 1\ncancel 1\nmigrate 1 0\ncreate 1 0\njoin 1\nunit 1 ult at 0\nend\n"

abbrev pub ended_refused_report : Text
ended_refused_report =
    codes "unit 0 done: !unit-state !unit-state !exists\nunit 1 done:\n" ++
    codes "tally units 2 unborn 0 pool 0 stream 0 blocked 0 done 2 asked 0 access 0 steps 5\nfinished\n"

-- Only a suspended unit can be resumed.

abbrev pub resume_too_early_text : Text
resume_too_early_text = base ++ codes "units 2\nunit 0 ult at 0\nresume 1\nunit 1 ult at 0\nsuspend\nend\n"

abbrev pub resume_too_early_report : Text
resume_too_early_report =
    codes "unit 0 done: !unit-state\nunit 1 suspended:\n" ++
    codes "tally units 2 unborn 0 pool 0 stream 0 blocked 1 done 1 asked 0 access 0 steps 2\nstuck\n"

-- A unit that is not in the named pool is not yielded to.

abbrev pub yieldto_absent_text : Text
yieldto_absent_text = base ++ codes "units 2\nunit 0 ult at 0\nyieldto 1 0\nsay on\nunit 1 ult later\nend\n"

abbrev pub yieldto_absent_report : Text
yieldto_absent_report =
    codes "unit 0 done: !absent on\nunit 1 unborn:\n" ++
    codes "tally units 2 unborn 1 pool 0 stream 0 blocked 0 done 1 asked 0 access 0 steps 2\nfinished\n"

-- A unit that is yielded to runs before those that stand before it.

abbrev pub yieldto_text : Text
yieldto_text =
    base ++
    codes "units 3\nunit 0 ult at 0\nyieldto 2 0\nsay zero\nunit 1 ult at 0\nsay one\n" ++
    codes "unit 2 ult at 0\nsay two\nend\n"

abbrev pub yieldto_journal : Text
yieldto_journal =
    codes "1 0 take 0 0\n2 0 look 0\n3 0 step 0 0 ok\n4 0 put 0 0\n5 0 look 2\n6 0 step 2 0 ok\n" ++
    codes "7 0 end 2 done\n8 0 take 0 1\n9 0 look 1\n10 0 step 1 0 ok\n11 0 end 1 done\n12 0 take 0 0\n" ++
    codes "13 0 look 0\n14 0 step 0 1 ok\n15 0 end 0 done\n16 0 miss 0\n"

abbrev pub yieldto_report : Text
yieldto_report =
    codes "unit 0 done: zero\nunit 1 done: one\nunit 2 done: two\n" ++
    codes "tally units 3 unborn 0 pool 0 stream 0 blocked 0 done 3 asked 0 access 0 steps 4\nfinished\n"

-- A revived unit begins again, with accumulator and keys 0; its output is kept.

abbrev pub revival_text : Text
revival_text =
    codes "abt 1\nstreams 1\nkeys 1\npool 0 fifo mpmc\nsched 0 prio 0\nstream 0 main 0\n" ++
    codes "units 2\nunit 0 ult at 0\njoin 1\nrevive 1 0\njoin 1\n" ++
    codes "unit 1 ult at 0\nprint\nkget 0\nprint\nset 7\nkset 0\nend\n"

abbrev pub revival_report : Text
revival_report =
    codes "unit 0 done:\nunit 1 done: 0 0 0 0\n" ++
    codes "tally units 2 unborn 0 pool 0 stream 0 blocked 0 done 2 asked 0 access 0 steps 13\n" ++
    codes "finished\n"

-- All joiners of a unit are woken when it ends, in the order in which they came.

abbrev pub joiners_in_order_text : Text
joiners_in_order_text =
    base ++
    codes "units 4\nunit 0 ult at 0\nyield\nyield\nunit 1 ult at 0\nyield\njoin 0\n" ++
    codes "unit 2 ult at 0\njoin 0\nunit 3 ult at 0\njoin 0\nend\n"

abbrev pub joiners_in_order_journal : Text
joiners_in_order_journal =
    codes "1 0 take 0 0\n2 0 look 0\n3 0 step 0 0 ok\n4 0 put 0 0\n5 0 take 0 1\n6 0 look 1\n" ++
    codes "7 0 step 1 0 ok\n8 0 put 1 0\n9 0 take 0 2\n10 0 look 2\n11 0 step 2 0 ok\n12 0 take 0 3\n" ++
    codes "13 0 look 3\n14 0 step 3 0 ok\n15 0 take 0 0\n16 0 look 0\n17 0 step 0 1 ok\n18 0 put 0 0\n" ++
    codes "19 0 take 0 1\n20 0 look 1\n21 0 step 1 1 ok\n22 0 take 0 0\n23 0 look 0\n24 0 end 0 done\n" ++
    codes "25 0 put 2 0\n26 0 put 3 0\n27 0 put 1 0\n28 0 take 0 2\n29 0 look 2\n30 0 end 2 done\n" ++
    codes "31 0 take 0 3\n32 0 look 3\n33 0 end 3 done\n34 0 take 0 1\n35 0 look 1\n36 0 end 1 done\n" ++
    codes "37 0 miss 0\n"

abbrev pub joiners_in_order_report : Text
joiners_in_order_report =
    codes "unit 0 done:\nunit 1 done:\nunit 2 done:\nunit 3 done:\n" ++
    codes "tally units 4 unborn 0 pool 0 stream 0 blocked 0 done 4 asked 0 access 0 steps 6\nfinished\n"

-- A unit that is revived goes to the pool that its revival names.

abbrev pub revived_elsewhere_text : Text
revived_elsewhere_text =
    codes "abt 1\nstreams 1\npool 0 fifo mpmc\npool 1 fifo mpmc\nsched 0 prio 0 1\nstream 0 main 0\n" ++
    codes "units 2\nunit 0 ult at 0\njoin 1\nrevive 1 1\nunit 1 ult at 0\nend\n"

abbrev pub revived_elsewhere_journal : Text
revived_elsewhere_journal =
    codes "1 0 take 0 0\n2 0 look 0\n3 0 step 0 0 ok\n4 0 take 0 1\n5 0 look 1\n6 0 end 1 done\n" ++
    codes "7 0 put 0 0\n8 0 take 0 0\n9 0 look 0\n10 0 step 0 1 ok\n11 0 put 1 1\n12 0 end 0 done\n" ++
    codes "13 0 miss 0\n14 0 take 1 1\n15 0 look 1\n16 0 end 1 done\n17 0 miss 0\n18 0 miss 1\n"

abbrev pub revived_elsewhere_report : Text
revived_elsewhere_report =
    codes "unit 0 done:\nunit 1 done:\n" ++
    codes "tally units 2 unborn 0 pool 0 stream 0 blocked 0 done 2 asked 0 access 0 steps 2\nfinished\n"

-- A unit that waits for another is not resumed.

abbrev pub resume_joiner_text : Text
resume_joiner_text =
    base ++
    codes "units 2\nunit 0 ult at 0\njoin 1\nsay after\nunit 1 ult at 0\nresume 0\nsay first\nend\n"

abbrev pub resume_joiner_report : Text
resume_joiner_report =
    codes "unit 0 done: after\nunit 1 done: !unit-state first\n" ++
    codes "tally units 2 unborn 0 pool 0 stream 0 blocked 0 done 2 asked 0 access 0 steps 4\nfinished\n"

-- A suspended unit that is resumed goes on with its next operation.

abbrev pub resumed_text : Text
resumed_text = base ++ codes "units 2\nunit 0 ult at 0\nsuspend\nsay back\nunit 1 ult at 0\nresume 0\nend\n"

abbrev pub resumed_report : Text
resumed_report =
    codes "unit 0 done: back\nunit 1 done:\n" ++
    codes "tally units 2 unborn 0 pool 0 stream 0 blocked 0 done 2 asked 0 access 0 steps 3\nfinished\n"

-- A unit that is in another pool than the named one is not yielded to.

abbrev pub yieldto_other_pool_text : Text
yieldto_other_pool_text =
    codes "abt 1\nstreams 1\npool 0 fifo mpmc\npool 1 fifo mpmc\nsched 0 prio 0 1\nstream 0 main 0\n" ++
    codes "units 2\nunit 0 ult at 0\nyieldto 1 0\nsay on\nunit 1 ult at 1\nsay one\nend\n"

abbrev pub yieldto_other_pool_report : Text
yieldto_other_pool_report =
    codes "unit 0 done: !absent on\nunit 1 done: one\n" ++
    codes "tally units 2 unborn 0 pool 0 stream 0 blocked 0 done 2 asked 0 access 0 steps 3\nfinished\n"

-- A unit that yields to another goes to its own home, and the other keeps its own, whichever pool it was taken from.

abbrev pub yield_keeps_homes_text : Text
yield_keeps_homes_text =
    codes "abt 1\nstreams 1\npool 0 fifo mpmc\npool 1 fifo mpmc\nsched 0 prio 0 1\nstream 0 main 0\n" ++
    codes "units 2\nunit 0 ult at 0\nyieldto 1 1\nprint\nunit 1 ult at 1\nyield\nend\n"

abbrev pub yield_keeps_homes_journal : Text
yield_keeps_homes_journal =
    codes "1 0 take 0 0\n2 0 look 0\n3 0 step 0 0 ok\n4 0 put 0 0\n5 0 look 1\n6 0 step 1 0 ok\n" ++
    codes "7 0 put 1 1\n8 0 take 0 0\n9 0 look 0\n10 0 step 0 1 ok\n11 0 end 0 done\n12 0 miss 0\n" ++
    codes "13 0 take 1 1\n14 0 look 1\n15 0 end 1 done\n16 0 miss 0\n17 0 miss 1\n"

abbrev pub yield_keeps_homes_report : Text
yield_keeps_homes_report =
    codes "unit 0 done: 0\nunit 1 done:\n" ++
    codes "tally units 2 unborn 0 pool 0 stream 0 blocked 0 done 2 asked 0 access 0 steps 3\nfinished\n"

-- A thread that ends itself makes no further step.

abbrev pub exit_text : Text
exit_text = base ++ codes "units 1\nunit 0 ult at 0\nsay a\nexit\nsay b\nend\n"

abbrev pub exit_journal : Text
exit_journal = codes "1 0 take 0 0\n2 0 look 0\n3 0 step 0 0 ok\n4 0 step 0 1 ok\n5 0 end 0 own\n6 0 miss 0\n"

abbrev pub exit_report : Text
exit_report =
    codes "unit 0 exited: a\n" ++
    codes "tally units 1 unborn 0 pool 0 stream 0 blocked 0 done 1 asked 0 access 0 steps 2\nfinished\n"

-- A thread that has ended itself can be joined and revived.

abbrev pub exit_join_revive_text : Text
exit_join_revive_text =
    base ++
    codes "units 2\nunit 0 ult at 0\nexit\nsay never\nunit 1 ult at 0\njoin 0\nrevive 0 0\nend\n"

abbrev pub exit_join_revive_report : Text
exit_join_revive_report =
    codes "unit 0 exited:\nunit 1 done:\n" ++
    codes "tally units 2 unborn 0 pool 0 stream 0 blocked 0 done 2 asked 0 access 0 steps 4\nfinished\n"
