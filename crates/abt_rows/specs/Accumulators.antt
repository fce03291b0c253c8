-- Rows on operations that leave the accumulator.
use Rattle.std.specs.Prelude.{codes, ◌++◌}
use Rattle.abt_machine.specs.Words.{Text}
use Rattle.abt_rows.specs.Base.{base}

-- What a unit asks of other units leaves its accumulator.

abbrev pub kept_by_units_text : Text
kept_by_units_text =
    base ++
    codes "units 2\nunit 0 ult at 0\nset 7\nyield\nprint\ncreate 1 0\nprint\nmigratable 1 1\nprint\n" ++
    codes "migrate 1 0\nprint\nmigrateto 1 0\nprint\ncancel 1\nprint\njoin 1\nprint\nrevive 1 0\nprint\n" ++
    codes "yieldto 1 0\nprint\nunit 1 ult later\nend\n"

abbrev pub kept_by_units_journal : Text
kept_by_units_journal =
    codes "1 0 take 0 0\n2 0 look 0\n3 0 step 0 0 ok\n4 0 step 0 1 ok\n5 0 put 0 0\n6 0 take 0 0\n" ++
    codes "7 0 look 0\n8 0 step 0 2 ok\n9 0 step 0 3 ok\n10 0 put 1 0\n11 0 step 0 4 ok\n12 0 step 0 5 ok\n" ++
    codes "13 0 step 0 6 ok\n14 0 step 0 7 ok\n15 0 step 0 8 ok\n16 0 step 0 9 ok\n17 0 step 0 10 ok\n" ++
    codes "18 0 step 0 11 ok\n19 0 step 0 12 ok\n20 0 step 0 13 ok\n21 0 take 0 1\n22 0 look 1\n" ++
    codes "23 0 end 1 asked\n24 0 put 0 0\n25 0 take 0 0\n26 0 look 0\n27 0 step 0 14 ok\n" ++
    codes "28 0 step 0 15 ok\n29 0 put 1 0\n30 0 step 0 16 ok\n31 0 step 0 17 ok\n32 0 put 0 0\n" ++
    codes "33 0 look 1\n34 0 end 1 done\n35 0 take 0 0\n36 0 look 0\n37 0 step 0 18 ok\n38 0 end 0 done\n" ++
    codes "39 0 miss 0\n"

abbrev pub kept_by_units_report : Text
kept_by_units_report =
    codes "unit 0 done: 7 7 7 7 7 7 7 7 7\nunit 1 done:\n" ++
    codes "tally units 2 unborn 0 pool 0 stream 0 blocked 0 done 2 asked 0 access 0 steps 19\nfinished\n"

-- What is refused of other units leaves the accumulator.

abbrev pub kept_where_units_refuse_text : Text
kept_where_units_refuse_text =
    base ++
    codes "units 2\nunit 0 ult at 0\nset 7\nyieldto 1 0\nprint\nresume 1\nprint\ncreate 0 0\nprint\n" ++
    codes "cancel 1\nprint\nmigrate 1 0\nprint\nmigrateto 1 0\nprint\nrevive 1 0\nprint\nunit 1 ult later\n" ++
    codes "end\n"

abbrev pub kept_where_units_refuse_journal : Text
kept_where_units_refuse_journal =
    codes "1 0 take 0 0\n2 0 look 0\n3 0 step 0 0 ok\n4 0 step 0 1 absent\n5 0 step 0 2 ok\n" ++
    codes "6 0 step 0 3 unit-state\n7 0 step 0 4 ok\n8 0 step 0 5 exists\n9 0 step 0 6 ok\n" ++
    codes "10 0 step 0 7 unit-state\n11 0 step 0 8 ok\n12 0 step 0 9 unit-state\n13 0 step 0 10 ok\n" ++
    codes "14 0 step 0 11 unit-state\n15 0 step 0 12 ok\n16 0 step 0 13 unit-state\n17 0 step 0 14 ok\n" ++
    codes "18 0 end 0 done\n19 0 miss 0\n"

abbrev pub kept_where_units_refuse_report : Text
kept_where_units_refuse_report =
    codes "unit 0 done: !absent 7 !unit-state 7 !exists 7 !unit-state 7 !unit-state 7 !unit-state 7 !unit-state 7\n" ++
    codes "unit 1 unborn:\n" ++
    codes "tally units 2 unborn 1 pool 0 stream 0 blocked 0 done 1 asked 0 access 0 steps 15\nfinished\n"

-- Locks, stores and signals leave the accumulator, and so do operations that a mutex refuses.

abbrev pub kept_by_mutexes_text : Text
kept_by_mutexes_text =
    base ++
    codes "object 0 mutex\nobject 1 cond 0\nunits 1\nunit 0 ult at 0\nset 7\nunlock 0\nprint\nload 0\n" ++
    codes "print\nstore 0\nprint\ncwait 1\nprint\nlock 0\nprint\ntrylock 0\nprint\nstore 0\nprint\n" ++
    codes "unlock 0\nprint\ntrylock 0\nprint\nsignal 1\nprint\nbroadcast 1\nprint\nend\n"

abbrev pub kept_by_mutexes_journal : Text
kept_by_mutexes_journal =
    codes "1 0 take 0 0\n2 0 look 0\n3 0 step 0 0 ok\n4 0 step 0 1 not-owner\n5 0 step 0 2 ok\n" ++
    codes "6 0 step 0 3 not-owner\n7 0 step 0 4 ok\n8 0 step 0 5 not-owner\n9 0 step 0 6 ok\n" ++
    codes "10 0 step 0 7 not-owner\n11 0 step 0 8 ok\n12 0 step 0 9 ok\n13 0 step 0 10 ok\n" ++
    codes "14 0 step 0 11 mutex-locked\n15 0 step 0 12 ok\n16 0 step 0 13 ok\n17 0 step 0 14 ok\n" ++
    codes "18 0 step 0 15 ok\n19 0 step 0 16 ok\n20 0 step 0 17 ok\n21 0 step 0 18 ok\n22 0 step 0 19 ok\n" ++
    codes "23 0 step 0 20 ok\n24 0 step 0 21 ok\n25 0 step 0 22 ok\n26 0 end 0 done\n27 0 miss 0\n"

abbrev pub kept_by_mutexes_report : Text
kept_by_mutexes_report =
    codes "unit 0 done: !not-owner 7 !not-owner 7 !not-owner 7 !not-owner 7 7 !mutex-locked 7 7 7 7 7 7\n" ++
    codes "tally units 1 unborn 0 pool 0 stream 0 blocked 0 done 1 asked 0 access 0 steps 23\nfinished\n"

-- Sets and resets leave the accumulator, also if they are refused, and so does the last party of a barrier.

abbrev pub kept_by_eventuals_text : Text
kept_by_eventuals_text =
    base ++
    codes "object 0 eventual\nobject 1 future 1 sum\nobject 2 barrier 1\nunits 1\nunit 0 ult at 0\nset 7\n" ++
    codes "ereset 0\nprint\neset 0\nprint\neset 0\nprint\nfreset 1\nprint\nfset 1\nprint\nfset 1\nprint\n" ++
    codes "bwait 2\nprint\nend\n"

abbrev pub kept_by_eventuals_journal : Text
kept_by_eventuals_journal =
    codes "1 0 take 0 0\n2 0 look 0\n3 0 step 0 0 ok\n4 0 step 0 1 ok\n5 0 step 0 2 ok\n6 0 step 0 3 ok\n" ++
    codes "7 0 step 0 4 ok\n8 0 step 0 5 eventual-set\n9 0 step 0 6 ok\n10 0 step 0 7 ok\n" ++
    codes "11 0 step 0 8 ok\n12 0 step 0 9 ok\n13 0 step 0 10 ok\n14 0 step 0 11 future-full\n" ++
    codes "15 0 step 0 12 ok\n16 0 step 0 13 ok\n17 0 step 0 14 ok\n18 0 end 0 done\n19 0 miss 0\n"

abbrev pub kept_by_eventuals_report : Text
kept_by_eventuals_report =
    codes "unit 0 done: 7 7 !eventual-set 7 7 7 !future-full 7 7\n" ++
    codes "tally units 1 unborn 0 pool 0 stream 0 blocked 0 done 1 asked 0 access 0 steps 15\nfinished\n"

-- Each unit keeps its accumulator at a barrier.

abbrev pub kept_at_a_barrier_text : Text
kept_at_a_barrier_text =
    base ++
    codes "object 0 barrier 2\nunits 2\nunit 0 ult at 0\nset 7\nbwait 0\nprint\nunit 1 ult at 0\nset 9\n" ++
    codes "bwait 0\nprint\nend\n"

abbrev pub kept_at_a_barrier_journal : Text
kept_at_a_barrier_journal =
    codes "1 0 take 0 0\n2 0 look 0\n3 0 step 0 0 ok\n4 0 step 0 1 ok\n5 0 take 0 1\n6 0 look 1\n" ++
    codes "7 0 step 1 0 ok\n8 0 step 1 1 ok\n9 0 put 0 0\n10 0 step 1 2 ok\n11 0 end 1 done\n" ++
    codes "12 0 take 0 0\n13 0 look 0\n14 0 step 0 2 ok\n15 0 end 0 done\n16 0 miss 0\n"

abbrev pub kept_at_a_barrier_report : Text
kept_at_a_barrier_report =
    codes "unit 0 done: 7\nunit 1 done: 9\n" ++
    codes "tally units 2 unborn 0 pool 0 stream 0 blocked 0 done 2 asked 0 access 0 steps 6\nfinished\n"

-- A unit that is resumed keeps its accumulator, and so does the one that resumes it.

abbrev pub kept_by_a_resumption_text : Text
kept_by_a_resumption_text =
    base ++
    codes "units 2\nunit 0 ult at 0\nset 7\nsuspend\nprint\nunit 1 ult at 0\nset 9\nresume 0\nprint\nend\n"

abbrev pub kept_by_a_resumption_journal : Text
kept_by_a_resumption_journal =
    codes "1 0 take 0 0\n2 0 look 0\n3 0 step 0 0 ok\n4 0 step 0 1 ok\n5 0 take 0 1\n6 0 look 1\n" ++
    codes "7 0 step 1 0 ok\n8 0 step 1 1 ok\n9 0 put 0 0\n10 0 step 1 2 ok\n11 0 end 1 done\n" ++
    codes "12 0 take 0 0\n13 0 look 0\n14 0 step 0 2 ok\n15 0 end 0 done\n16 0 miss 0\n"

abbrev pub kept_by_a_resumption_report : Text
kept_by_a_resumption_report =
    codes "unit 0 done: 7\nunit 1 done: 9\n" ++
    codes "tally units 2 unborn 0 pool 0 stream 0 blocked 0 done 2 asked 0 access 0 steps 6\nfinished\n"

-- A unit that is handed a lock keeps its accumulator, and so does the one that hands it over.

abbrev pub kept_by_a_lock_text : Text
kept_by_a_lock_text =
    base ++
    codes "object 0 mutex\nunits 2\nunit 0 ult at 0\nlock 0\nset 9\nyield\nunlock 0\nprint\n" ++
    codes "unit 1 ult at 0\nset 7\nlock 0\nprint\nend\n"

abbrev pub kept_by_a_lock_journal : Text
kept_by_a_lock_journal =
    codes "1 0 take 0 0\n2 0 look 0\n3 0 step 0 0 ok\n4 0 step 0 1 ok\n5 0 step 0 2 ok\n6 0 put 0 0\n" ++
    codes "7 0 take 0 1\n8 0 look 1\n9 0 step 1 0 ok\n10 0 step 1 1 ok\n11 0 take 0 0\n12 0 look 0\n" ++
    codes "13 0 step 0 3 ok\n14 0 put 1 0\n15 0 step 0 4 ok\n16 0 end 0 done\n17 0 take 0 1\n18 0 look 1\n" ++
    codes "19 0 step 1 2 ok\n20 0 end 1 done\n21 0 miss 0\n"

abbrev pub kept_by_a_lock_report : Text
kept_by_a_lock_report =
    codes "unit 0 done: 9\nunit 1 done: 7\n" ++
    codes "tally units 2 unborn 0 pool 0 stream 0 blocked 0 done 2 asked 0 access 0 steps 8\nfinished\n"

-- A unit that waits at a condition keeps its accumulator, and so does the one that signals.

abbrev pub kept_at_a_condition_text : Text
kept_at_a_condition_text =
    base ++
    codes "object 0 mutex\nobject 1 cond 0\nunits 2\nunit 0 ult at 0\nlock 0\nset 7\ncwait 1\nprint\n" ++
    codes "unit 1 ult at 0\nset 9\nsignal 1\nprint\nend\n"

abbrev pub kept_at_a_condition_journal : Text
kept_at_a_condition_journal =
    codes "1 0 take 0 0\n2 0 look 0\n3 0 step 0 0 ok\n4 0 step 0 1 ok\n5 0 step 0 2 ok\n6 0 take 0 1\n" ++
    codes "7 0 look 1\n8 0 step 1 0 ok\n9 0 step 1 1 ok\n10 0 put 0 0\n11 0 step 1 2 ok\n12 0 end 1 done\n" ++
    codes "13 0 take 0 0\n14 0 look 0\n15 0 step 0 3 ok\n16 0 end 0 done\n17 0 miss 0\n"

abbrev pub kept_at_a_condition_report : Text
kept_at_a_condition_report =
    codes "unit 0 done: 7\nunit 1 done: 9\n" ++
    codes "tally units 2 unborn 0 pool 0 stream 0 blocked 0 done 2 asked 0 access 0 steps 7\nfinished\n"
