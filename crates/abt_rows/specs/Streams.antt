-- Rows of two streams, on their access to pools and on their rounds.
use Rattle.std.specs.Prelude.{codes, ◌++◌}
use Rattle.abt_machine.specs.Words.{Text}

-- a pool of each stream, and one from the first stream to the second
abbrev pub foreign : Text
foreign =
    codes "abt 1\nstreams 2\npool 0 fifo priv of 0\npool 1 fifo priv of 1\npool 2 fifo spsc from 0 to 1\n" ++
    codes "sched 0 prio 0\nsched 1 prio 1 2\nstream 0 main 0\nstream 1 main 1\n"

-- A stream that must not put into a pool creates no unit there.

abbrev pub foreign_create_text : Text
foreign_create_text =
    foreign ++
    codes "units 2\nunit 0 ult at 1\ncreate 1 2\n" ++
    codes "unit 1 ult later\nsay never\nend\n"

abbrev pub foreign_create_report : Text
foreign_create_report =
    codes "unit 0 done: !pool-access\nunit 1 unborn:\n" ++
    codes "tally units 2 unborn 1 pool 0 stream 0 blocked 0 done 1 asked 0 access 0 steps 1\nfinished\n"

-- A unit that yields returns to its home, also if its stream must not put into that pool.

abbrev pub home_return_text : Text
home_return_text =
    foreign ++
    codes "units 1\nunit 0 ult at 2\nyield\nsay back\nend\n"

abbrev pub home_return_report : Text
home_return_report =
    codes "unit 0 done: back\n" ++
    codes "tally units 1 unborn 0 pool 0 stream 0 blocked 0 done 1 asked 0 access 0 steps 2\nfinished\n"

-- A stream that must not take from a pool yields to no unit there.

abbrev pub foreign_yieldto_text : Text
foreign_yieldto_text =
    foreign ++
    codes "units 2\nunit 0 ult at 0\nyieldto 1 1\nsay on\n" ++
    codes "unit 1 ult at 1\nsay one\nend\n"

abbrev pub foreign_yieldto_report : Text
foreign_yieldto_report =
    codes "unit 0 done: !pool-access on\nunit 1 done: one\n" ++
    codes "tally units 2 unborn 0 pool 0 stream 0 blocked 0 done 2 asked 0 access 0 steps 3\nfinished\n"

-- Each operation that names a pool is refused for lack of access before it looks at the unit.

abbrev pub foreign_pools_text : Text
foreign_pools_text =
    foreign ++
    codes "units 2\nunit 0 ult at 0\ncreate 1 1\nyieldto 1 1\nyieldto 1 2\nmigrate 1 1\nmigrateto 1 1\nrevive 1 1\nsay on\n" ++
    codes "unit 1 ult later\nend\n"

abbrev pub foreign_pools_report : Text
foreign_pools_report =
    codes "unit 0 done: !pool-access !pool-access !pool-access !pool-access !pool-access !pool-access on\nunit 1 unborn:\n" ++
    codes "tally units 2 unborn 1 pool 0 stream 0 blocked 0 done 1 asked 0 access 0 steps 7\nfinished\n"

-- A scheduler unit ends at once if its stream must not take from its pools.

abbrev pub access_text : Text
access_text =
    codes "abt 1\nstreams 2\npool 0 fifo priv of 0\npool 1 fifo priv of 1\nsched 0 prio 0\nsched 1 prio 1\nsched 2 prio 1\n" ++
    codes "stream 0 main 0\nstream 1 main 1\nunits 1\nunit 0 sched 2 at 0\nend\n"

abbrev pub access_report : Text
access_report =
    codes "unit 0 access:\n" ++
    codes "tally units 1 unborn 0 pool 0 stream 0 blocked 0 done 0 asked 0 access 1 steps 0\nfinished\n"

-- An empty round counts: after it, a rotated order begins one pool later.

abbrev pub empty_round_text : Text
empty_round_text =
    codes "abt 1\nstreams 2\npool 0 fifo priv of 0\npool 1 fifo spsc from 0 to 1\npool 2 fifo spsc from 0 to 1\n" ++
    codes "sched 0 prio 0\nsched 1 user 0 1 2\nstream 0 main 0\nstream 1 main 1\nobject 0 mutex\n" ++
    codes "units 3\nunit 0 ult at 0\ncreate 1 1\ncreate 2 2\n" ++
    codes "unit 1 ult later\ntrylock 0\nunit 2 ult later\ntrylock 0\nend\n"

abbrev pub empty_round_report : Text
empty_round_report =
    codes "unit 0 done:\nunit 1 done: !mutex-locked\nunit 2 done:\n" ++
    codes "tally units 3 unborn 0 pool 0 stream 0 blocked 0 done 3 asked 0 access 0 steps 4\nfinished\n"
