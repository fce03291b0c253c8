-- Rows on spent streams.
use Rattle.std.specs.Prelude.{codes, ◌++◌}
use Rattle.abt_machine.specs.Words.{Text}
use Rattle.abt_rows.specs.Base.{base}

-- Two units revive one another until the stream's fifty steps are spent.

abbrev pub budget_text : Text
budget_text = base ++ codes "units 2\nunit 0 ult at 0\nrevive 1 0\nunit 1 ult at 0\nrevive 0 0\nend\n"

abbrev pub budget_report : Text
budget_report =
    codes "unit 0 stream 0: !unit-state\nunit 1 done:\n" ++
    codes "tally units 2 unborn 0 pool 0 stream 1 blocked 0 done 1 asked 0 access 0 steps 50\nbudget 0\n"

-- A unit stays in hand if its stream's two steps are spent.

abbrev pub budget_of_two_text : Text
budget_of_two_text = base ++ codes "units 1\nunit 0 ult at 0\nsay a\nsay b\nsay c\nend\n"

abbrev pub budget_of_two_report : Text
budget_of_two_report =
    codes "unit 0 stream 0: a b\n" ++
    codes "tally units 1 unborn 0 pool 0 stream 1 blocked 0 done 0 asked 0 access 0 steps 2\nbudget 0\n"
