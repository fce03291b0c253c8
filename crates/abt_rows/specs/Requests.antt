-- Rows on requests to end and to migrate.
use Rattle.std.specs.Prelude.{codes, ◌++◌}
use Rattle.abt_machine.specs.Words.{Text}
use Rattle.abt_rows.specs.Base.{base}

-- A blocked unit is not woken by a cancel request, and ends at its next look.

abbrev pub cancel_suspended_text : Text
cancel_suspended_text =
    base ++
    codes "units 2\nunit 0 ult at 0\nsuspend\nsay never\nunit 1 ult at 0\ncancel 0\nresume 0\nend\n"

abbrev pub cancel_suspended_report : Text
cancel_suspended_report =
    codes "unit 0 asked:\nunit 1 done:\n" ++
    codes "tally units 2 unborn 0 pool 0 stream 0 blocked 0 done 1 asked 1 access 0 steps 3\nfinished\n"

-- A cancel request goes before a migrate request.

abbrev pub cancel_before_migrate_text : Text
cancel_before_migrate_text =
    codes "abt 1\nstreams 1\npool 0 fifo mpmc\npool 1 fifo mpmc\nsched 0 prio 0 1\nstream 0 main 0\n" ++
    codes "units 2\nunit 0 ult at 0\ncancel 1\nmigrate 1 1\nunit 1 ult at 0\nsay never\nend\n"

abbrev pub cancel_before_migrate_report : Text
cancel_before_migrate_report =
    codes "unit 0 done:\nunit 1 asked:\n" ++
    codes "tally units 2 unborn 0 pool 0 stream 0 blocked 0 done 1 asked 1 access 0 steps 2\nfinished\n"

-- A migrate request is granted at the next look of the unit.

abbrev pub migrate_text : Text
migrate_text =
    codes "abt 1\nstreams 1\npool 0 fifo mpmc\npool 1 fifo mpmc\nsched 0 prio 0 1\nstream 0 main 0\n" ++
    codes "units 2\nunit 0 ult at 0\nmigrate 1 1\nunit 1 ult at 0\nsay moved\nend\n"

abbrev pub migrate_journal : Text
migrate_journal =
    codes "1 0 take 0 0\n2 0 look 0\n3 0 step 0 0 ok\n4 0 end 0 done\n5 0 take 0 1\n6 0 look 1\n" ++
    codes "7 0 put 1 1\n8 0 miss 0\n9 0 take 1 1\n10 0 look 1\n11 0 step 1 0 ok\n12 0 end 1 done\n" ++
    codes "13 0 miss 0\n14 0 miss 1\n"

abbrev pub migrate_report : Text
migrate_report =
    codes "unit 0 done:\nunit 1 done: moved\n" ++
    codes "tally units 2 unborn 0 pool 0 stream 0 blocked 0 done 2 asked 0 access 0 steps 2\nfinished\n"

-- A unit migrates to the pool that a stream's main scheduler lists first.

abbrev pub migrate_to_stream_text : Text
migrate_to_stream_text =
    codes "abt 1\nstreams 1\npool 0 fifo mpmc\npool 1 fifo mpmc\nsched 0 prio 0 1\nstream 0 main 0\n" ++
    codes "units 2\nunit 0 ult at 0\nmigrateto 1 0\nunit 1 ult at 0\nsay moved\nend\n"

abbrev pub migrate_to_stream_journal : Text
migrate_to_stream_journal =
    codes "1 0 take 0 0\n2 0 look 0\n3 0 step 0 0 ok\n4 0 end 0 done\n5 0 take 0 1\n6 0 look 1\n" ++
    codes "7 0 put 1 0\n8 0 take 0 1\n9 0 look 1\n10 0 step 1 0 ok\n11 0 end 1 done\n12 0 miss 0\n" ++
    codes "13 0 miss 1\n"

abbrev pub migrate_to_stream_report : Text
migrate_to_stream_report =
    codes "unit 0 done:\nunit 1 done: moved\n" ++
    codes "tally units 2 unborn 0 pool 0 stream 0 blocked 0 done 2 asked 0 access 0 steps 2\nfinished\n"

-- Of two migrate requests the later one counts.

abbrev pub last_migrate_counts_text : Text
last_migrate_counts_text =
    codes "abt 1\nstreams 1\npool 0 fifo mpmc\npool 1 fifo mpmc\nsched 0 prio 0 1\nstream 0 main 0\n" ++
    codes "units 2\nunit 0 ult at 0\nmigrate 1 0\nmigrate 1 1\nunit 1 ult at 0\nsay moved\nend\n"

abbrev pub last_migrate_counts_journal : Text
last_migrate_counts_journal =
    codes "1 0 take 0 0\n2 0 look 0\n3 0 step 0 0 ok\n4 0 step 0 1 ok\n5 0 end 0 done\n6 0 take 0 1\n" ++
    codes "7 0 look 1\n8 0 put 1 1\n9 0 miss 0\n10 0 take 1 1\n11 0 look 1\n12 0 step 1 0 ok\n" ++
    codes "13 0 end 1 done\n14 0 miss 0\n15 0 miss 1\n"

abbrev pub last_migrate_counts_report : Text
last_migrate_counts_report =
    codes "unit 0 done:\nunit 1 done: moved\n" ++
    codes "tally units 2 unborn 0 pool 0 stream 0 blocked 0 done 2 asked 0 access 0 steps 3\nfinished\n"

-- A unit migrates only while it is migratable.

abbrev pub migratable_text : Text
migratable_text =
    codes "abt 1\nstreams 1\npool 0 fifo mpmc\npool 1 fifo mpmc\nsched 0 prio 0 1\nstream 0 main 0\n" ++
    codes "units 2\nunit 0 ult at 0\nmigratable 1 0\nmigrate 1 1\nmigratable 1 1\nmigrate 1 1\n" ++
    codes "unit 1 ult at 0\nsay moved\nend\n"

abbrev pub migratable_journal : Text
migratable_journal =
    codes "1 0 take 0 0\n2 0 look 0\n3 0 step 0 0 ok\n4 0 step 0 1 not-migratable\n5 0 step 0 2 ok\n" ++
    codes "6 0 step 0 3 ok\n7 0 end 0 done\n8 0 take 0 1\n9 0 look 1\n10 0 put 1 1\n11 0 miss 0\n" ++
    codes "12 0 take 1 1\n13 0 look 1\n14 0 step 1 0 ok\n15 0 end 1 done\n16 0 miss 0\n17 0 miss 1\n"

abbrev pub migratable_report : Text
migratable_report =
    codes "unit 0 done: !not-migratable\nunit 1 done: moved\n" ++
    codes "tally units 2 unborn 0 pool 0 stream 0 blocked 0 done 2 asked 0 access 0 steps 5\nfinished\n"

-- Whether a unit may migrate is kept when it is created; a request asks first whether the unit is alive.

abbrev pub migratable_stays_text : Text
migratable_stays_text =
    base ++
    codes "units 2\n" ++
    codes "unit 0 ult at 0\nmigratable 1 0\nmigrate 1 0\nmigrateto 1 0\ncreate 1 0\nmigrate 1 0\nmigrateto 1 0\n" ++
    codes "unit 1 ult later\nend\n"

abbrev pub migratable_stays_report : Text
migratable_stays_report =
    codes "unit 0 done: !unit-state !unit-state !not-migratable !not-migratable\nunit 1 done:\n" ++
    codes "tally units 2 unborn 0 pool 0 stream 0 blocked 0 done 2 asked 0 access 0 steps 6\nfinished\n"

-- A migrate request is granted also if the unit is no longer migratable at its look.

abbrev pub request_before_ban_text : Text
request_before_ban_text =
    codes "abt 1\nstreams 1\npool 0 fifo mpmc\npool 1 fifo mpmc\nsched 0 prio 0 1\nstream 0 main 0\n" ++
    codes "units 2\nunit 0 ult at 0\nmigrate 1 1\nmigratable 1 0\nunit 1 ult at 0\nend\n"

abbrev pub request_before_ban_journal : Text
request_before_ban_journal =
    codes "1 0 take 0 0\n2 0 look 0\n3 0 step 0 0 ok\n4 0 step 0 1 ok\n5 0 end 0 done\n6 0 take 0 1\n" ++
    codes "7 0 look 1\n8 0 put 1 1\n9 0 miss 0\n10 0 take 1 1\n11 0 look 1\n12 0 end 1 done\n13 0 miss 0\n" ++
    codes "14 0 miss 1\n"

abbrev pub request_before_ban_report : Text
request_before_ban_report =
    codes "unit 0 done:\nunit 1 done:\n" ++
    codes "tally units 2 unborn 0 pool 0 stream 0 blocked 0 done 2 asked 0 access 0 steps 2\nfinished\n"

-- A unit that was asked to end can be revived, and then runs.

abbrev pub revived_after_cancel_text : Text
revived_after_cancel_text =
    base ++
    codes "units 2\nunit 0 ult at 0\ncancel 1\njoin 1\nrevive 1 0\nunit 1 ult at 0\nsay again\nend\n"

abbrev pub revived_after_cancel_report : Text
revived_after_cancel_report =
    codes "unit 0 done:\nunit 1 done: again\n" ++
    codes "tally units 2 unborn 0 pool 0 stream 0 blocked 0 done 2 asked 0 access 0 steps 4\nfinished\n"

-- The requests of a unit are forgotten when it ends.

abbrev pub requests_forgotten_text : Text
requests_forgotten_text =
    codes "abt 1\nstreams 1\npool 0 fifo mpmc\npool 1 fifo mpmc\nsched 0 prio 0 1\nstream 0 main 0\n" ++
    codes "units 2\nunit 0 ult at 0\njoin 1\nrevive 1 0\nunit 1 ult at 0\ncancel 1\nmigrate 1 1\nsay end\n" ++
    codes "end\n"

abbrev pub requests_forgotten_journal : Text
requests_forgotten_journal =
    codes "1 0 take 0 0\n2 0 look 0\n3 0 step 0 0 ok\n4 0 take 0 1\n5 0 look 1\n6 0 step 1 0 ok\n" ++
    codes "7 0 step 1 1 ok\n8 0 step 1 2 ok\n9 0 end 1 done\n10 0 put 0 0\n11 0 take 0 0\n12 0 look 0\n" ++
    codes "13 0 step 0 1 ok\n14 0 put 1 0\n15 0 end 0 done\n16 0 take 0 1\n17 0 look 1\n18 0 step 1 0 ok\n" ++
    codes "19 0 step 1 1 ok\n20 0 step 1 2 ok\n21 0 end 1 done\n22 0 miss 0\n23 0 miss 1\n"

abbrev pub requests_forgotten_report : Text
requests_forgotten_report =
    codes "unit 0 done:\nunit 1 done: end end\n" ++
    codes "tally units 2 unborn 0 pool 0 stream 0 blocked 0 done 2 asked 0 access 0 steps 8\nfinished\n"

-- A suspended unit that is resumed goes to its home, and migrates at its look.

abbrev pub migrate_suspended_text : Text
migrate_suspended_text =
    codes "abt 1\nstreams 1\npool 0 fifo mpmc\npool 1 fifo mpmc\nsched 0 prio 0 1\nstream 0 main 0\n" ++
    codes "units 2\nunit 0 ult at 0\nsuspend\nsay moved\nunit 1 ult at 0\nmigrate 0 1\nresume 0\nend\n"

abbrev pub migrate_suspended_journal : Text
migrate_suspended_journal =
    codes "1 0 take 0 0\n2 0 look 0\n3 0 step 0 0 ok\n4 0 take 0 1\n5 0 look 1\n6 0 step 1 0 ok\n" ++
    codes "7 0 step 1 1 ok\n8 0 put 0 0\n9 0 end 1 done\n10 0 take 0 0\n11 0 look 0\n12 0 put 0 1\n" ++
    codes "13 0 miss 0\n14 0 take 1 0\n15 0 look 0\n16 0 step 0 1 ok\n17 0 end 0 done\n18 0 miss 0\n" ++
    codes "19 0 miss 1\n"

abbrev pub migrate_suspended_report : Text
migrate_suspended_report =
    codes "unit 0 done: moved\nunit 1 done:\n" ++
    codes "tally units 2 unborn 0 pool 0 stream 0 blocked 0 done 2 asked 0 access 0 steps 4\nfinished\n"

-- A unit that is yielded to ends if it was asked to.

abbrev pub yieldto_cancelled_text : Text
yieldto_cancelled_text =
    base ++
    codes "units 2\nunit 0 ult at 0\ncancel 1\nyieldto 1 0\nunit 1 ult at 0\nsay never\nend\n"

abbrev pub yieldto_cancelled_journal : Text
yieldto_cancelled_journal =
    codes "1 0 take 0 0\n2 0 look 0\n3 0 step 0 0 ok\n4 0 step 0 1 ok\n5 0 put 0 0\n6 0 look 1\n" ++
    codes "7 0 end 1 asked\n8 0 take 0 0\n9 0 look 0\n10 0 end 0 done\n11 0 miss 0\n"

abbrev pub yieldto_cancelled_report : Text
yieldto_cancelled_report =
    codes "unit 0 done:\nunit 1 asked:\n" ++
    codes "tally units 2 unborn 0 pool 0 stream 0 blocked 0 done 1 asked 1 access 0 steps 2\nfinished\n"

-- A unit that is yielded to migrates if it was asked to.

abbrev pub yieldto_migrates_text : Text
yieldto_migrates_text =
    codes "abt 1\nstreams 1\npool 0 fifo mpmc\npool 1 fifo mpmc\nsched 0 prio 0 1\nstream 0 main 0\n" ++
    codes "units 2\nunit 0 ult at 0\nmigrate 1 1\nyieldto 1 0\nunit 1 ult at 0\nsay moved\nend\n"

abbrev pub yieldto_migrates_journal : Text
yieldto_migrates_journal =
    codes "1 0 take 0 0\n2 0 look 0\n3 0 step 0 0 ok\n4 0 step 0 1 ok\n5 0 put 0 0\n6 0 look 1\n" ++
    codes "7 0 put 1 1\n8 0 take 0 0\n9 0 look 0\n10 0 end 0 done\n11 0 miss 0\n12 0 take 1 1\n13 0 look 1\n" ++
    codes "14 0 step 1 0 ok\n15 0 end 1 done\n16 0 miss 0\n17 0 miss 1\n"

abbrev pub yieldto_migrates_report : Text
yieldto_migrates_report =
    codes "unit 0 done:\nunit 1 done: moved\n" ++
    codes "tally units 2 unborn 0 pool 0 stream 0 blocked 0 done 2 asked 0 access 0 steps 3\nfinished\n"

-- A unit that has ended can be barred from migrating, and stays so when it is revived.

abbrev pub ban_outlives_the_end_text : Text
ban_outlives_the_end_text =
    base ++
    codes "units 2\nunit 0 ult at 0\njoin 1\nmigratable 1 0\nrevive 1 0\nmigrate 1 0\nunit 1 ult at 0\n" ++
    codes "end\n"

abbrev pub ban_outlives_the_end_journal : Text
ban_outlives_the_end_journal =
    codes "1 0 take 0 0\n2 0 look 0\n3 0 step 0 0 ok\n4 0 take 0 1\n5 0 look 1\n6 0 end 1 done\n" ++
    codes "7 0 put 0 0\n8 0 take 0 0\n9 0 look 0\n10 0 step 0 1 ok\n11 0 step 0 2 ok\n12 0 put 1 0\n" ++
    codes "13 0 step 0 3 not-migratable\n14 0 end 0 done\n15 0 take 0 1\n16 0 look 1\n17 0 end 1 done\n" ++
    codes "18 0 miss 0\n"

abbrev pub ban_outlives_the_end_report : Text
ban_outlives_the_end_report =
    codes "unit 0 done: !not-migratable\nunit 1 done:\n" ++
    codes "tally units 2 unborn 0 pool 0 stream 0 blocked 0 done 2 asked 0 access 0 steps 4\nfinished\n"

-- A thread that ends itself while a cancel request waits has ended itself: requests are granted at looks alone.

abbrev pub exit_while_asked_text : Text
exit_while_asked_text = base ++ codes "units 1\nunit 0 ult at 0\ncancel 0\nexit\nsay never\nend\n"

abbrev pub exit_while_asked_journal : Text
exit_while_asked_journal = codes "1 0 take 0 0\n2 0 look 0\n3 0 step 0 0 ok\n4 0 step 0 1 ok\n5 0 end 0 own\n6 0 miss 0\n"

abbrev pub exit_while_asked_report : Text
exit_while_asked_report =
    codes "unit 0 exited:\n" ++
    codes "tally units 1 unborn 0 pool 0 stream 0 blocked 0 done 1 asked 0 access 0 steps 2\nfinished\n"

-- A thread that is asked to end before its look makes no step, and so does not end itself.

abbrev pub asked_before_exit_text : Text
asked_before_exit_text = base ++ codes "units 2\nunit 0 ult at 0\ncancel 1\nunit 1 ult at 0\nexit\nend\n"

abbrev pub asked_before_exit_journal : Text
asked_before_exit_journal =
    codes "1 0 take 0 0\n2 0 look 0\n3 0 step 0 0 ok\n4 0 end 0 done\n5 0 take 0 1\n6 0 look 1\n" ++
    codes "7 0 end 1 asked\n8 0 miss 0\n"

abbrev pub asked_before_exit_report : Text
asked_before_exit_report =
    codes "unit 0 done:\nunit 1 asked:\n" ++
    codes "tally units 2 unborn 0 pool 0 stream 0 blocked 0 done 1 asked 1 access 0 steps 1\nfinished\n"
