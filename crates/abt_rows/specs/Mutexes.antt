-- Rows on mutexes and conditions.
use Rattle.std.specs.Prelude.{codes, ◌++◌}
use Rattle.abt_machine.specs.Words.{Text}
use Rattle.abt_rows.specs.Base.{base}

-- A second lock by the owner waits.

abbrev pub self_lock_text : Text
self_lock_text = base ++ codes "object 0 mutex\nunits 1\nunit 0 ult at 0\nlock 0\nlock 0\nend\n"

abbrev pub self_lock_report : Text
self_lock_report =
    codes "unit 0 object 0:\n" ++
    codes "tally units 1 unborn 0 pool 0 stream 0 blocked 1 done 0 asked 0 access 0 steps 2\nstuck\n"

-- A held mutex is not locked by a trylock, and unlocked by its owner alone.

abbrev pub trylock_text : Text
trylock_text =
    base ++
    codes "object 0 mutex\nunits 2\nunit 0 ult at 0\nlock 0\nyield\nunlock 0\n" ++
    codes "unit 1 ult at 0\ntrylock 0\nunlock 0\nend\n"

abbrev pub trylock_report : Text
trylock_report =
    codes "unit 0 done:\nunit 1 done: !mutex-locked !not-owner\n" ++
    codes "tally units 2 unborn 0 pool 0 stream 0 blocked 0 done 2 asked 0 access 0 steps 5\nfinished\n"

-- The owner of a mutex does not lock it again by a trylock.

abbrev pub trylock_own_text : Text
trylock_own_text =
    base ++
    codes "object 0 mutex\nunits 1\nunit 0 ult at 0\ntrylock 0\ntrylock 0\nunlock 0\nend\n"

abbrev pub trylock_own_report : Text
trylock_own_report =
    codes "unit 0 done: !mutex-locked\n" ++
    codes "tally units 1 unborn 0 pool 0 stream 0 blocked 0 done 1 asked 0 access 0 steps 3\nfinished\n"

-- An unlocked mutex that nobody waits for is free.

abbrev pub unlock_then_trylock_text : Text
unlock_then_trylock_text =
    base ++
    codes "object 0 mutex\nunits 2\nunit 0 ult at 0\nlock 0\nunlock 0\nunit 1 ult at 0\ntrylock 0\nunlock 0\n" ++
    codes "end\n"

abbrev pub unlock_then_trylock_journal : Text
unlock_then_trylock_journal =
    codes "1 0 take 0 0\n2 0 look 0\n3 0 step 0 0 ok\n4 0 step 0 1 ok\n5 0 end 0 done\n6 0 take 0 1\n" ++
    codes "7 0 look 1\n8 0 step 1 0 ok\n9 0 step 1 1 ok\n10 0 end 1 done\n11 0 miss 0\n"

abbrev pub unlock_then_trylock_report : Text
unlock_then_trylock_report =
    codes "unit 0 done:\nunit 1 done:\n" ++
    codes "tally units 2 unborn 0 pool 0 stream 0 blocked 0 done 2 asked 0 access 0 steps 4\nfinished\n"

-- An unlock makes the first waiter the owner at once.

abbrev pub handed_over_text : Text
handed_over_text =
    base ++
    codes "object 0 mutex\nunits 2\nunit 0 ult at 0\nlock 0\nyield\nunlock 0\ntrylock 0\n" ++
    codes "unit 1 ult at 0\nlock 0\nunlock 0\nend\n"

abbrev pub handed_over_journal : Text
handed_over_journal =
    codes "1 0 take 0 0\n2 0 look 0\n3 0 step 0 0 ok\n4 0 step 0 1 ok\n5 0 put 0 0\n6 0 take 0 1\n" ++
    codes "7 0 look 1\n8 0 step 1 0 ok\n9 0 take 0 0\n10 0 look 0\n11 0 step 0 2 ok\n12 0 put 1 0\n" ++
    codes "13 0 step 0 3 mutex-locked\n14 0 end 0 done\n15 0 take 0 1\n16 0 look 1\n17 0 step 1 1 ok\n" ++
    codes "18 0 end 1 done\n19 0 miss 0\n"

abbrev pub handed_over_report : Text
handed_over_report =
    codes "unit 0 done: !mutex-locked\nunit 1 done:\n" ++
    codes "tally units 2 unborn 0 pool 0 stream 0 blocked 0 done 2 asked 0 access 0 steps 6\nfinished\n"

-- A unit that is not the owner must not load, store, unlock or wait.

abbrev pub not_owner_text : Text
not_owner_text =
    base ++
    codes "object 0 mutex\nobject 1 cond 0\nunits 1\n" ++
    codes "unit 0 ult at 0\nload 0\nstore 0\nunlock 0\ncwait 1\nsay end\nend\n"

abbrev pub not_owner_report : Text
not_owner_report =
    codes "unit 0 done: !not-owner !not-owner !not-owner !not-owner end\n" ++
    codes "tally units 1 unborn 0 pool 0 stream 0 blocked 0 done 1 asked 0 access 0 steps 5\nfinished\n"

-- A signal moves a condition's waiter to the waiters of the held mutex.

abbrev pub condition_text : Text
condition_text =
    base ++
    codes "object 0 mutex\nobject 1 cond 0\nunits 2\n" ++
    codes "unit 0 ult at 0\nlock 0\ncwait 1\nload 0\nprint\nunlock 0\n" ++
    codes "unit 1 ult at 0\nlock 0\nset 5\nstore 0\nsignal 1\nunlock 0\nend\n"

abbrev pub condition_report : Text
condition_report =
    codes "unit 0 done: 5\nunit 1 done:\n" ++
    codes "tally units 2 unborn 0 pool 0 stream 0 blocked 0 done 2 asked 0 access 0 steps 10\n" ++
    codes "finished\n"

-- A signal makes a condition's waiter the owner of the free mutex.

abbrev pub signal_free_text : Text
signal_free_text =
    base ++
    codes "object 0 mutex\nobject 1 cond 0\nunits 2\nunit 0 ult at 0\nlock 0\ncwait 1\nsay woken\nunlock 0\n" ++
    codes "unit 1 ult at 0\nsignal 1\ntrylock 0\nend\n"

abbrev pub signal_free_report : Text
signal_free_report =
    codes "unit 0 done: woken\nunit 1 done: !mutex-locked\n" ++
    codes "tally units 2 unborn 0 pool 0 stream 0 blocked 0 done 2 asked 0 access 0 steps 6\nfinished\n"

-- A broadcast moves all waiters of a condition to the waiters of the held mutex, in order.

abbrev pub broadcast_held_text : Text
broadcast_held_text =
    base ++
    codes "object 0 mutex\nobject 1 cond 0\nunits 3\nunit 0 ult at 0\nlock 0\ncwait 1\nsay zero\nunlock 0\n" ++
    codes "unit 1 ult at 0\nlock 0\ncwait 1\nsay one\nunlock 0\n" ++
    codes "unit 2 ult at 0\nlock 0\nbroadcast 1\nsay two\nunlock 0\nend\n"

abbrev pub broadcast_held_journal : Text
broadcast_held_journal =
    codes "1 0 take 0 0\n2 0 look 0\n3 0 step 0 0 ok\n4 0 step 0 1 ok\n5 0 take 0 1\n6 0 look 1\n" ++
    codes "7 0 step 1 0 ok\n8 0 step 1 1 ok\n9 0 take 0 2\n10 0 look 2\n11 0 step 2 0 ok\n" ++
    codes "12 0 step 2 1 ok\n13 0 step 2 2 ok\n14 0 step 2 3 ok\n15 0 put 0 0\n16 0 end 2 done\n" ++
    codes "17 0 take 0 0\n18 0 look 0\n19 0 step 0 2 ok\n20 0 step 0 3 ok\n21 0 put 1 0\n22 0 end 0 done\n" ++
    codes "23 0 take 0 1\n24 0 look 1\n25 0 step 1 2 ok\n26 0 step 1 3 ok\n27 0 end 1 done\n28 0 miss 0\n"

abbrev pub broadcast_held_report : Text
broadcast_held_report =
    codes "unit 0 done: zero\nunit 1 done: one\nunit 2 done: two\n" ++
    codes "tally units 3 unborn 0 pool 0 stream 0 blocked 0 done 3 asked 0 access 0 steps 12\n" ++
    codes "finished\n"

-- A broadcast makes the first waiter of a condition the owner of the free mutex; the others wait for it.

abbrev pub broadcast_free_text : Text
broadcast_free_text =
    base ++
    codes "object 0 mutex\nobject 1 cond 0\nunits 3\nunit 0 ult at 0\nlock 0\ncwait 1\nsay zero\nunlock 0\n" ++
    codes "unit 1 ult at 0\nlock 0\ncwait 1\nsay one\nunlock 0\nunit 2 ult at 0\nbroadcast 1\nsay two\nend\n"

abbrev pub broadcast_free_journal : Text
broadcast_free_journal =
    codes "1 0 take 0 0\n2 0 look 0\n3 0 step 0 0 ok\n4 0 step 0 1 ok\n5 0 take 0 1\n6 0 look 1\n" ++
    codes "7 0 step 1 0 ok\n8 0 step 1 1 ok\n9 0 take 0 2\n10 0 look 2\n11 0 step 2 0 ok\n12 0 put 0 0\n" ++
    codes "13 0 step 2 1 ok\n14 0 end 2 done\n15 0 take 0 0\n16 0 look 0\n17 0 step 0 2 ok\n" ++
    codes "18 0 step 0 3 ok\n19 0 put 1 0\n20 0 end 0 done\n21 0 take 0 1\n22 0 look 1\n23 0 step 1 2 ok\n" ++
    codes "24 0 step 1 3 ok\n25 0 end 1 done\n26 0 miss 0\n"

abbrev pub broadcast_free_report : Text
broadcast_free_report =
    codes "unit 0 done: zero\nunit 1 done: one\nunit 2 done: two\n" ++
    codes "tally units 3 unborn 0 pool 0 stream 0 blocked 0 done 3 asked 0 access 0 steps 10\n" ++
    codes "finished\n"

-- A mutex goes to its waiters in the order in which they came.

abbrev pub waiters_in_order_text : Text
waiters_in_order_text =
    base ++
    codes "object 0 mutex\nunits 4\nunit 0 ult at 0\nlock 0\nyield\nyield\nunlock 0\n" ++
    codes "unit 1 ult at 0\nyield\nlock 0\nunlock 0\nunit 2 ult at 0\nlock 0\nunlock 0\nunit 3 ult at 0\nlock 0\nunlock 0\nend\n"

abbrev pub waiters_in_order_journal : Text
waiters_in_order_journal =
    codes "1 0 take 0 0\n2 0 look 0\n3 0 step 0 0 ok\n4 0 step 0 1 ok\n5 0 put 0 0\n6 0 take 0 1\n" ++
    codes "7 0 look 1\n8 0 step 1 0 ok\n9 0 put 1 0\n10 0 take 0 2\n11 0 look 2\n12 0 step 2 0 ok\n" ++
    codes "13 0 take 0 3\n14 0 look 3\n15 0 step 3 0 ok\n16 0 take 0 0\n17 0 look 0\n18 0 step 0 2 ok\n" ++
    codes "19 0 put 0 0\n20 0 take 0 1\n21 0 look 1\n22 0 step 1 1 ok\n23 0 take 0 0\n24 0 look 0\n" ++
    codes "25 0 step 0 3 ok\n26 0 put 2 0\n27 0 end 0 done\n28 0 take 0 2\n29 0 look 2\n30 0 step 2 1 ok\n" ++
    codes "31 0 put 3 0\n32 0 end 2 done\n33 0 take 0 3\n34 0 look 3\n35 0 step 3 1 ok\n36 0 put 1 0\n" ++
    codes "37 0 end 3 done\n38 0 take 0 1\n39 0 look 1\n40 0 step 1 2 ok\n41 0 end 1 done\n42 0 miss 0\n"

abbrev pub waiters_in_order_report : Text
waiters_in_order_report =
    codes "unit 0 done:\nunit 1 done:\nunit 2 done:\nunit 3 done:\n" ++
    codes "tally units 4 unborn 0 pool 0 stream 0 blocked 0 done 4 asked 0 access 0 steps 11\n" ++
    codes "finished\n"

-- A signal moves the first waiter of a condition alone.

abbrev pub signal_one_text : Text
signal_one_text =
    base ++
    codes "object 0 mutex\nobject 1 cond 0\nunits 3\nunit 0 ult at 0\nlock 0\ncwait 1\nsay zero\nunlock 0\n" ++
    codes "unit 1 ult at 0\nlock 0\ncwait 1\nsay one\nunlock 0\nunit 2 ult at 0\nsignal 1\nsay two\nend\n"

abbrev pub signal_one_report : Text
signal_one_report =
    codes "unit 0 done: zero\nunit 1 object 1:\nunit 2 done: two\n" ++
    codes "tally units 3 unborn 0 pool 0 stream 0 blocked 1 done 2 asked 0 access 0 steps 8\nstuck\n"

-- A signal moves a waiter behind those that wait for the mutex.

abbrev pub signal_behind_waiters_text : Text
signal_behind_waiters_text =
    base ++
    codes "object 0 mutex\nobject 1 cond 0\nunits 3\nunit 0 ult at 0\nlock 0\ncwait 1\nsay zero\nunlock 0\n" ++
    codes "unit 1 ult at 0\nlock 0\nyield\nsignal 1\nunlock 0\nunit 2 ult at 0\nlock 0\nsay two\nunlock 0\n" ++
    codes "end\n"

abbrev pub signal_behind_waiters_journal : Text
signal_behind_waiters_journal =
    codes "1 0 take 0 0\n2 0 look 0\n3 0 step 0 0 ok\n4 0 step 0 1 ok\n5 0 take 0 1\n6 0 look 1\n" ++
    codes "7 0 step 1 0 ok\n8 0 step 1 1 ok\n9 0 put 1 0\n10 0 take 0 2\n11 0 look 2\n12 0 step 2 0 ok\n" ++
    codes "13 0 take 0 1\n14 0 look 1\n15 0 step 1 2 ok\n16 0 step 1 3 ok\n17 0 put 2 0\n18 0 end 1 done\n" ++
    codes "19 0 take 0 2\n20 0 look 2\n21 0 step 2 1 ok\n22 0 step 2 2 ok\n23 0 put 0 0\n24 0 end 2 done\n" ++
    codes "25 0 take 0 0\n26 0 look 0\n27 0 step 0 2 ok\n28 0 step 0 3 ok\n29 0 end 0 done\n30 0 miss 0\n"

abbrev pub signal_behind_waiters_report : Text
signal_behind_waiters_report =
    codes "unit 0 done: zero\nunit 1 done:\nunit 2 done: two\n" ++
    codes "tally units 3 unborn 0 pool 0 stream 0 blocked 0 done 3 asked 0 access 0 steps 11\n" ++
    codes "finished\n"

-- A wait at a condition hands the mutex to the first of its waiters.

abbrev pub wait_hands_over_text : Text
wait_hands_over_text =
    base ++
    codes "object 0 mutex\nobject 1 cond 0\nunits 3\nunit 0 ult at 0\nlock 0\nyield\ncwait 1\n" ++
    codes "unit 1 ult at 0\nlock 0\nunlock 0\nunit 2 ult at 0\nlock 0\nunlock 0\nend\n"

abbrev pub wait_hands_over_journal : Text
wait_hands_over_journal =
    codes "1 0 take 0 0\n2 0 look 0\n3 0 step 0 0 ok\n4 0 step 0 1 ok\n5 0 put 0 0\n6 0 take 0 1\n" ++
    codes "7 0 look 1\n8 0 step 1 0 ok\n9 0 take 0 2\n10 0 look 2\n11 0 step 2 0 ok\n12 0 take 0 0\n" ++
    codes "13 0 look 0\n14 0 step 0 2 ok\n15 0 put 1 0\n16 0 take 0 1\n17 0 look 1\n18 0 step 1 1 ok\n" ++
    codes "19 0 put 2 0\n20 0 end 1 done\n21 0 take 0 2\n22 0 look 2\n23 0 step 2 1 ok\n24 0 end 2 done\n" ++
    codes "25 0 miss 0\n"

abbrev pub wait_hands_over_report : Text
wait_hands_over_report =
    codes "unit 0 object 1:\nunit 1 done:\nunit 2 done:\n" ++
    codes "tally units 3 unborn 0 pool 0 stream 0 blocked 1 done 2 asked 0 access 0 steps 7\nstuck\n"

-- The number of a mutex is 0 at first, and stays when it is loaded, unlocked and locked again.

abbrev pub number_stays_text : Text
number_stays_text =
    base ++
    codes "object 0 mutex\nunits 1\n" ++
    codes "unit 0 ult at 0\nlock 0\nset 4\nload 0\nprint\nset 5\nstore 0\nprint\nset 6\nload 0\nprint\nunlock 0\ntrylock 0\nset 6\nload 0\nprint\n" ++
    codes "end\n"

abbrev pub number_stays_report : Text
number_stays_report =
    codes "unit 0 done: 0 5 5 5\n" ++
    codes "tally units 1 unborn 0 pool 0 stream 0 blocked 0 done 1 asked 0 access 0 steps 15\n" ++
    codes "finished\n"

-- A unit that ends while it owns a mutex remains its owner, also in a later life.

abbrev pub owner_after_end_text : Text
owner_after_end_text =
    base ++
    codes "object 0 mutex\nunits 2\nunit 0 ult at 0\ntrylock 0\nload 0\n" ++
    codes "unit 1 ult at 0\njoin 0\ntrylock 0\nrevive 0 0\nend\n"

abbrev pub owner_after_end_report : Text
owner_after_end_report =
    codes "unit 0 done: !mutex-locked\nunit 1 done: !mutex-locked\n" ++
    codes "tally units 2 unborn 0 pool 0 stream 0 blocked 0 done 2 asked 0 access 0 steps 7\nfinished\n"
