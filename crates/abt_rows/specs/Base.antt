-- The lines with which most rows begin.
use Rattle.std.specs.Prelude.{codes}
use Rattle.abt_machine.specs.Words.{Text}

-- one stream, one FIFO pool that all streams may use, and a PRIO scheduler
abbrev pub base : Text
base = codes "abt 1\nstreams 1\npool 0 fifo mpmc\nsched 0 prio 0\nstream 0 main 0\n"
