-- Rows on local operations, yields and tasklets.
use Rattle.std.specs.Prelude.{codes, ◌++◌}
use Rattle.abt_machine.specs.Words.{Text}
use Rattle.abt_rows.specs.Base.{base}

-- No unit: one empty round.

abbrev pub empty_text : Text
empty_text = base ++ codes "units 0\nend\n"

abbrev pub empty_journal : Text
empty_journal = codes "1 0 miss 0\n"

abbrev pub empty_report : Text
empty_report =
    codes "tally units 0 unborn 0 pool 0 stream 0 blocked 0 done 0 asked 0 access 0 steps 0\nfinished\n"

-- One unit says a word.

abbrev pub hi_text : Text
hi_text = base ++ codes "units 1\nunit 0 ult at 0\nsay hi\nend\n"

abbrev pub hi_journal : Text
hi_journal = codes "1 0 take 0 0\n2 0 look 0\n3 0 step 0 0 ok\n4 0 end 0 done\n5 0 miss 0\n"

abbrev pub hi_report : Text
hi_report =
    codes "unit 0 done: hi\n" ++
    codes "tally units 1 unborn 0 pool 0 stream 0 blocked 0 done 1 asked 0 access 0 steps 1\nfinished\n"

-- Two units yield to one another.

abbrev pub two_yields_text : Text
two_yields_text =
    base ++
    codes "units 2\nunit 0 ult at 0\nsay a\nyield\nsay b\nunit 1 ult at 0\nsay a\nyield\nsay b\nend\n"

abbrev pub two_yields_journal : Text
two_yields_journal =
    codes "1 0 take 0 0\n2 0 look 0\n3 0 step 0 0 ok\n4 0 step 0 1 ok\n5 0 put 0 0\n6 0 take 0 1\n" ++
    codes "7 0 look 1\n8 0 step 1 0 ok\n9 0 step 1 1 ok\n10 0 put 1 0\n11 0 take 0 0\n12 0 look 0\n" ++
    codes "13 0 step 0 2 ok\n14 0 end 0 done\n15 0 take 0 1\n16 0 look 1\n17 0 step 1 2 ok\n" ++
    codes "18 0 end 1 done\n19 0 miss 0\n"

abbrev pub two_yields_report : Text
two_yields_report =
    codes "unit 0 done: a b\nunit 1 done: a b\n" ++
    codes "tally units 2 unborn 0 pool 0 stream 0 blocked 0 done 2 asked 0 access 0 steps 6\nfinished\n"

-- A sum is taken modulo 2^64.

abbrev pub wrap_text : Text
wrap_text = base ++ codes "units 1\nunit 0 ult at 0\nset 18446744073709551615\nadd 1\nprint\nend\n"

abbrev pub wrap_report : Text
wrap_report =
    codes "unit 0 done: 0\n" ++
    codes "tally units 1 unborn 0 pool 0 stream 0 blocked 0 done 1 asked 0 access 0 steps 3\nfinished\n"

-- A key is a unit's own, and 0 if it was not set.

abbrev pub keys_text : Text
keys_text =
    codes "abt 1\nstreams 1\nkeys 1\npool 0 fifo mpmc\nsched 0 prio 0\nstream 0 main 0\n" ++
    codes "units 2\nunit 0 ult at 0\nset 9\nkset 0\nset 0\nkget 0\nprint\nunit 1 ult at 0\nkget 0\nprint\nend\n"

abbrev pub keys_report : Text
keys_report =
    codes "unit 0 done: 9\nunit 1 done: 0\n" ++
    codes "tally units 2 unborn 0 pool 0 stream 0 blocked 0 done 2 asked 0 access 0 steps 7\nfinished\n"

-- Each key has its own value.

abbrev pub two_keys_text : Text
two_keys_text =
    codes "abt 1\nstreams 1\nkeys 2\npool 0 fifo mpmc\nsched 0 prio 0\nstream 0 main 0\n" ++
    codes "units 1\nunit 0 ult at 0\nset 9\nkset 0\nset 8\nkset 1\nkget 0\nprint\nkget 1\nprint\nend\n"

abbrev pub two_keys_report : Text
two_keys_report =
    codes "unit 0 done: 9 8\n" ++
    codes "tally units 1 unborn 0 pool 0 stream 0 blocked 0 done 1 asked 0 access 0 steps 8\nfinished\n"

-- A tasklet is created, runs to its end, and is joined.

abbrev pub tasklet_text : Text
tasklet_text =
    base ++
    codes "units 2\nunit 0 ult at 0\ncreate 1 0\njoin 1\nsay after\nunit 1 task later\nset 2\nadd 3\nprint\n" ++
    codes "end\n"

abbrev pub tasklet_journal : Text
tasklet_journal =
    codes "1 0 take 0 0\n2 0 look 0\n3 0 step 0 0 ok\n4 0 put 1 0\n5 0 step 0 1 ok\n6 0 take 0 1\n" ++
    codes "7 0 look 1\n8 0 step 1 0 ok\n9 0 step 1 1 ok\n10 0 step 1 2 ok\n11 0 end 1 done\n12 0 put 0 0\n" ++
    codes "13 0 take 0 0\n14 0 look 0\n15 0 step 0 2 ok\n16 0 end 0 done\n17 0 miss 0\n"

abbrev pub tasklet_report : Text
tasklet_report =
    codes "unit 0 done: after\nunit 1 done: 5\n" ++
    codes "tally units 2 unborn 0 pool 0 stream 0 blocked 0 done 2 asked 0 access 0 steps 6\nfinished\n"

-- The operations that take the accumulator leave it as it is.

abbrev pub accumulator_stays_text : Text
accumulator_stays_text =
    codes "abt 1\nstreams 1\nkeys 1\npool 0 fifo mpmc\nsched 0 prio 0\nstream 0 main 0\nobject 0 eventual\n" ++
    codes "object 1 future 1 sum\n" ++
    codes "units 1\nunit 0 ult at 0\nset 7\neset 0\nprint\nfset 1\nprint\nkset 0\nprint\nend\n"

abbrev pub accumulator_stays_report : Text
accumulator_stays_report =
    codes "unit 0 done: 7 7 7\n" ++
    codes "tally units 1 unborn 0 pool 0 stream 0 blocked 0 done 1 asked 0 access 0 steps 7\nfinished\n"
