-- Rows on operations that compute and that call functions, and on what are no calls.
use Rattle.std.specs.Prelude.{ℕ, ◌+◌, ◌^◌, codes, decimal, List, [], ◌∷◌, ◌++◌, Some, None}
use Rattle.abt_machine.specs.declared.events.Code.TheVariants as code
use Rattle.abt_machine.specs.declared.events.Event.{Event}
use Rattle.abt_machine.specs.declared.events.What.{What}
use Rattle.abt_machine.specs.declared.events.What.TheVariants as what
use Rattle.abt_machine.specs.declared.operations.Access.TheVariants as access
use Rattle.abt_machine.specs.declared.operations.Body.TheVariants as body
use Rattle.abt_machine.specs.declared.operations.Kind.TheVariants as kind
use Rattle.abt_machine.specs.declared.operations.Op.TheVariants as op
use Rattle.abt_machine.specs.declared.operations.Rule.TheVariants as rule
use Rattle.abt_machine.specs.declared.workload.Parts.{Parts}
use Rattle.abt_machine.specs.Numbers.{pool_no, sched_no, stream_no, unit_no}
use Rattle.abt_machine.specs.Runs.{Run}
use Rattle.abt_machine.specs.Words.{Text}
use Rattle.abt_rows.specs.Rows.{stored}

-- one stream, two keys, one FIFO pool that all streams may use, and a PRIO scheduler
abbrev pub keyed : Text
keyed = codes "abt 3\nstreams 1\nkeys 2\npool 0 fifo mpmc\nsched 0 prio 0\nstream 0 main 0\n"

-- Sums, differences and products are taken modulo 2^64.

abbrev pub calc_sums_text : Text
calc_sums_text =
    keyed ++
    codes "units 1\nunit 0 ult at 0\nset 1\nkset 1\nset 18446744073709551615\ncalc add 1\nprint\nset 2\nkset 1\nset 40\n" ++
    codes "calc add 1\nprint\nset 1\nkset 1\nset 0\ncalc sub 1\nprint\nset 3\nkset 1\nset 5\ncalc sub 1\nprint\nset 2\n" ++
    codes "kset 1\nset 9223372036854775809\ncalc mul 1\nprint\nset 7\nkset 1\nset 6\ncalc mul 1\nprint\nend\n"

abbrev pub calc_sums_report : Text
calc_sums_report =
    codes "unit 0 done: 0 42 18446744073709551615 2 2 42\n" ++
    codes "tally units 1 unborn 0 pool 0 stream 0 blocked 0 done 1 asked 0 access 0 steps 30\nfinished\n"

-- A quotient by 0 is 0, and a remainder by 0 is the accumulator.

abbrev pub calc_quotients_text : Text
calc_quotients_text =
    keyed ++
    codes "units 1\nunit 0 ult at 0\nset 2\nkset 1\nset 7\ncalc div 1\nprint\nset 0\nkset 1\nset 18446744073709551615\n" ++
    codes "calc div 1\nprint\nset 2\nkset 1\nset 7\ncalc rem 1\nprint\nset 0\nkset 1\nset 7\ncalc rem 1\nprint\nend\n"

abbrev pub calc_quotients_report : Text
calc_quotients_report =
    codes "unit 0 done: 3 0 1 7\ntally units 1 unborn 0 pool 0 stream 0 blocked 0 done 1 asked 0 access 0 steps 20\n" ++
    codes "finished\n"

-- The minimum, the maximum, whether the accumulator is the key, and whether it is less.

abbrev pub calc_orders_text : Text
calc_orders_text =
    keyed ++
    codes "units 1\nunit 0 ult at 0\nset 18446744073709551615\nkset 1\nset 3\ncalc min 1\nprint\nset 3\ncalc max 1\n" ++
    codes "print\nset 3\nkset 1\nset 3\ncalc eq 1\nprint\nset 4\nkset 1\nset 3\ncalc eq 1\nprint\nset 3\ncalc lt 1\n" ++
    codes "print\nset 4\ncalc lt 1\nprint\nend\n"

abbrev pub calc_orders_report : Text
calc_orders_report =
    codes "unit 0 done: 3 18446744073709551615 1 0 1 0\n" ++
    codes "tally units 1 unborn 0 pool 0 stream 0 blocked 0 done 1 asked 0 access 0 steps 24\nfinished\n"

-- Bits in common, in either, and in one alone.

abbrev pub calc_bits_text : Text
calc_bits_text =
    keyed ++
    codes "units 1\nunit 0 ult at 0\nset 10\nkset 1\nset 12\ncalc and 1\nprint\nset 12\ncalc or 1\nprint\nset 12\n" ++
    codes "calc xor 1\nprint\nset 9223372036854775808\nkset 1\nset 18446744073709551615\ncalc and 1\nprint\n" ++
    codes "set 18446744073709551615\nkset 1\nset 18446744073709551615\ncalc xor 1\nprint\nend\n"

abbrev pub calc_bits_report : Text
calc_bits_report =
    codes "unit 0 done: 8 14 6 9223372036854775808 0\n" ++
    codes "tally units 1 unborn 0 pool 0 stream 0 blocked 0 done 1 asked 0 access 0 steps 21\nfinished\n"

-- The greatest common divisor, which with 0 is the other number.

abbrev pub calc_divisors_text : Text
calc_divisors_text =
    keyed ++
    codes "units 1\nunit 0 ult at 0\nset 18\nkset 1\nset 12\ncalc gcd 1\nprint\nset 0\nkset 1\nset 5\ncalc gcd 1\nprint\n" ++
    codes "set 5\nkset 1\nset 0\ncalc gcd 1\nprint\nset 0\nkset 1\nset 0\ncalc gcd 1\nprint\nset 9223372036854775808\n" ++
    codes "kset 1\nset 18446744073709551615\ncalc gcd 1\nprint\nend\n"

abbrev pub calc_divisors_report : Text
calc_divisors_report =
    codes "unit 0 done: 6 5 5 0 1\ntally units 1 unborn 0 pool 0 stream 0 blocked 0 done 1 asked 0 access 0 steps 25\n" ++
    codes "finished\n"

-- A function sees the number of its unit, its accumulator and its keys, and what it returns becomes the accumulator.

abbrev pub calls_with_keys_text : Text
calls_with_keys_text =
    keyed ++
    codes "units 2\nunit 0 ult at 0\nset 5\nkset 0\nset 6\nkset 1\nset 2\ncall 0\nprint\nunit 1 ult at 0\ncall 0\nprint\n" ++
    codes "end\n"

abbrev pub calls_with_keys_journal : Text
calls_with_keys_journal =
    codes "1 0 take 0 0\n2 0 look 0\n3 0 step 0 0 ok\n4 0 step 0 1 ok\n5 0 step 0 2 ok\n6 0 step 0 3 ok\n" ++
    codes "7 0 step 0 4 ok\n8 0 call 0 5 13\n9 0 step 0 6 ok\n10 0 end 0 done\n11 0 take 0 1\n12 0 look 1\n" ++
    codes "13 0 call 1 0 1\n14 0 step 1 1 ok\n15 0 end 1 done\n16 0 miss 0\n"

abbrev pub calls_with_keys_report : Text
calls_with_keys_report =
    codes "unit 0 done: 13\nunit 1 done: 1\n" ++
    codes "tally units 2 unborn 0 pool 0 stream 0 blocked 0 done 2 asked 0 access 0 steps 9\nfinished\n"

-- What a function returns is taken modulo 2^64.

abbrev pub call_wraps_text : Text
call_wraps_text =
    keyed ++
    codes "units 1\nunit 0 ult at 0\nset 18446744073709551615\nkset 0\ncall 0\nprint\nend\n"

abbrev pub call_wraps_journal : Text
call_wraps_journal =
    codes "1 0 take 0 0\n2 0 look 0\n3 0 step 0 0 ok\n4 0 step 0 1 ok\n5 0 call 0 2 18446744073709551614\n" ++
    codes "6 0 step 0 3 ok\n7 0 end 0 done\n8 0 miss 0\n"

abbrev pub call_wraps_report : Text
call_wraps_report =
    codes "unit 0 done: 18446744073709551614\n" ++
    codes "tally units 1 unborn 0 pool 0 stream 0 blocked 0 done 1 asked 0 access 0 steps 4\nfinished\n"

-- A tasklet may call.

abbrev pub call_in_a_tasklet_text : Text
call_in_a_tasklet_text =
    keyed ++
    codes "units 2\nunit 0 ult at 0\ncreate 1 0\njoin 1\nsay after\nunit 1 task later\nset 2\ncall 0\nprint\nend\n"

abbrev pub call_in_a_tasklet_journal : Text
call_in_a_tasklet_journal =
    codes "1 0 take 0 0\n2 0 look 0\n3 0 step 0 0 ok\n4 0 put 1 0\n5 0 step 0 1 ok\n6 0 take 0 1\n7 0 look 1\n" ++
    codes "8 0 step 1 0 ok\n9 0 call 1 1 3\n10 0 step 1 2 ok\n11 0 end 1 done\n12 0 put 0 0\n13 0 take 0 0\n14 0 look 0\n" ++
    codes "15 0 step 0 2 ok\n16 0 end 0 done\n17 0 miss 0\n"

abbrev pub call_in_a_tasklet_report : Text
call_in_a_tasklet_report =
    codes "unit 0 done: after\nunit 1 done: 3\n" ++
    codes "tally units 2 unborn 0 pool 0 stream 0 blocked 0 done 2 asked 0 access 0 steps 6\nfinished\n"

-- A unit that is cancelled before its call does not call.

abbrev pub cancelled_before_its_call_text : Text
cancelled_before_its_call_text =
    keyed ++
    codes "units 2\nunit 0 ult at 0\ncancel 1\nunit 1 ult at 0\ncall 0\nprint\nend\n"

abbrev pub cancelled_before_its_call_journal : Text
cancelled_before_its_call_journal =
    codes "1 0 take 0 0\n2 0 look 0\n3 0 step 0 0 ok\n4 0 end 0 done\n5 0 take 0 1\n6 0 look 1\n7 0 end 1 asked\n" ++
    codes "8 0 miss 0\n"

abbrev pub cancelled_before_its_call_report : Text
cancelled_before_its_call_report =
    codes "unit 0 done:\nunit 1 asked:\n" ++
    codes "tally units 2 unborn 0 pool 0 stream 0 blocked 0 done 1 asked 1 access 0 steps 1\nfinished\n"

-- two streams, each with a pool of its own
abbrev pub apart : Text
apart = codes "abt 3\nstreams 2\npool 0 fifo priv of 0\npool 1 fifo priv of 1\nsched 0 prio 0\nsched 1 prio 1\nstream 0 main 0\nstream 1 main 1\n"

-- Calls of two streams may have one stamp.

abbrev pub calls_of_two_streams_text : Text
calls_of_two_streams_text =
    apart ++
    codes "units 2\nunit 0 ult at 0\nset 7\ncall 0\nprint\nunit 1 ult at 1\ncall 0\nprint\nend\n"

abbrev pub calls_of_two_streams_journal : Text
calls_of_two_streams_journal =
    codes "1 0 take 0 0\n1 1 take 1 1\n2 0 look 0\n2 1 look 1\n3 0 step 0 0 ok\n3 1 call 1 0 1\n4 0 call 0 1 7\n" ++
    codes "4 1 step 1 1 ok\n5 0 step 0 2 ok\n5 1 end 1 done\n6 0 end 0 done\n6 1 miss 1\n7 0 miss 0\n"

abbrev pub calls_of_two_streams_report : Text
calls_of_two_streams_report =
    codes "unit 0 done: 7\nunit 1 done: 1\n" ++
    codes "tally units 2 unborn 0 pool 0 stream 0 blocked 0 done 2 asked 0 access 0 steps 5\nfinished\n"

-- A function of which nothing is known may return any word.

abbrev pub free_call_text : Text
free_call_text =
    keyed ++
    codes "units 1\nunit 0 ult at 0\ncall 1\nprint\nend\n"

abbrev pub free_call_journal : ℕ → Text
free_call_journal n =
    codes "1 0 take 0 0\n2 0 look 0\n3 0 call 0 0 " ++ decimal n ++ codes "\n4 0 step 0 1 ok\n5 0 end 0 done\n6 0 miss 0\n"

abbrev pub free_call_report : ℕ → Text
free_call_report n =
    codes "unit 0 done: " ++ decimal n ++ codes "\ntally units 1 unborn 0 pool 0 stream 0 blocked 0 done 1 asked 0 access 0 steps 2\nfinished\n"

-- What are no calls.

-- units 1 and 2 call; unit 1 makes a step, and then calls a function of which nothing is known
abbrev pub callers : Parts
callers = record {
  streams = 1;
  keys = 0;
  pools = record { kind = kind.Fifo; access = access.Mpmc } ∷ [];
  scheds = record { rule = rule.Prio; pools = pool_no 0 ∷ [] } ∷ [];
  mains = sched_no 0 ∷ [];
  objects = [];
  units =
      record { body = body.Ult []; start = None }
      ∷ record { body = body.Ult (op.Call 0 ∷ op.Set 3 ∷ op.Call 1 ∷ []); start = Some (pool_no 0) }
      ∷ record { body = body.Ult (op.Call 0 ∷ []); start = Some (pool_no 0) }
      ∷ [];
  words = [];
}

-- the only stream's events, with these stamps and those that follow
abbrev pub events_from : ℕ → List What → List Event
events_from t [] = []
events_from t (w ∷ ws) = record { stamp = t; stream = stream_no 0; what = w } ∷ events_from (t + 1) ws

-- unit 1 is taken and looked at, and then this happens
abbrev pub GoesOn : List What → Type 0
GoesOn ws = Run callers stored (events_from 1 (what.Take (pool_no 0) (unit_no 1) ∷ what.Look (unit_no 1) ∷ ws))

-- this cannot happen then
abbrev pub IsRefused : List What → Type 0
IsRefused ws = GoesOn ws → ⊥

-- it calls, and function 0 returns the sum of its number, its accumulator and its keys
abbrev pub right_call : List What
right_call = what.Call (unit_no 1) 0 1 ∷ []

-- the call returns another word
abbrev pub wrong_word : List What
wrong_word = what.Call (unit_no 1) 0 2 ∷ []

-- a step stands where it calls
abbrev pub step_at_a_call : List What
step_at_a_call = what.Step (unit_no 1) 0 code.Ok ∷ []

-- the other unit calls
abbrev pub call_of_another : List What
call_of_another = what.Call (unit_no 2) 0 2 ∷ []

-- a call stands where it makes a step
abbrev pub call_at_a_step : List What
call_at_a_step = what.Call (unit_no 1) 0 1 ∷ what.Call (unit_no 1) 1 3 ∷ []

-- it calls twice for one operation
abbrev pub call_twice : List What
call_twice = what.Call (unit_no 1) 0 1 ∷ what.Call (unit_no 1) 0 2 ∷ []

-- it calls both functions, and the second returns what is no word
abbrev pub no_word : List What
no_word = what.Call (unit_no 1) 0 1 ∷ what.Step (unit_no 1) 1 code.Ok ∷ what.Call (unit_no 1) 2 (2 ^ 64) ∷ []
