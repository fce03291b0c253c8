-- Rows on mutexes with several conditions.
use Rattle.std.specs.Prelude.{codes, ◌++◌}
use Rattle.abt_machine.specs.Words.{Text}
use Rattle.abt_rows.specs.Base.{base}

-- Each of two mutexes has its own owner and its own two conditions, wherever they are declared.

abbrev pub two_mutexes_text : Text
two_mutexes_text =
    base ++
    codes "object 0 eventual\nobject 1 mutex\nobject 2 mutex\nobject 3 cond 1\nobject 4 cond 2\n" ++
    codes "object 5 cond 1\nobject 6 cond 2\nunits 3\nunit 0 ult at 0\nlock 1\ncwait 5\nunlock 2\n" ++
    codes "unlock 1\nunit 1 ult at 0\nlock 2\ncwait 4\nunlock 1\nunlock 2\nunit 2 ult at 0\nsignal 3\n" ++
    codes "signal 6\nsignal 4\nbroadcast 5\nend\n"

abbrev pub two_mutexes_journal : Text
two_mutexes_journal =
    codes "1 0 take 0 0\n2 0 look 0\n3 0 step 0 0 ok\n4 0 step 0 1 ok\n5 0 take 0 1\n6 0 look 1\n" ++
    codes "7 0 step 1 0 ok\n8 0 step 1 1 ok\n9 0 take 0 2\n10 0 look 2\n11 0 step 2 0 ok\n" ++
    codes "12 0 step 2 1 ok\n13 0 step 2 2 ok\n14 0 put 1 0\n15 0 step 2 3 ok\n16 0 put 0 0\n" ++
    codes "17 0 end 2 done\n18 0 take 0 1\n19 0 look 1\n20 0 step 1 2 not-owner\n21 0 step 1 3 ok\n" ++
    codes "22 0 end 1 done\n23 0 take 0 0\n24 0 look 0\n25 0 step 0 2 not-owner\n26 0 step 0 3 ok\n" ++
    codes "27 0 end 0 done\n28 0 miss 0\n"

abbrev pub two_mutexes_report : Text
two_mutexes_report =
    codes "unit 0 done: !not-owner\nunit 1 done: !not-owner\nunit 2 done:\n" ++
    codes "tally units 3 unborn 0 pool 0 stream 0 blocked 0 done 3 asked 0 access 0 steps 12\nfinished\n"
