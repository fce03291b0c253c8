-- The lines of a workload's text before its units, and what they declare.
use Rattle.std.proofs.Common.{ℕ, List, [], ◌∷◌, ◌++◌, Option, Some, None, flat_map, length, map, true}
use Rattle.std.specs.List.{enumerate_from}
use Rattle.abt_machine.specs.declared.grammar.Format.{Format}
use Rattle.abt_machine.specs.declared.numbers.SchedNo.{SchedNo}
use Rattle.abt_machine.specs.declared.operations.Thing.{Thing}
use Rattle.abt_machine.specs.declared.workload.Parts.{Parts}
use Rattle.abt_machine.specs.declared.workload.PoolPart.{PoolPart}
use Rattle.abt_machine.specs.declared.workload.SchedPart.{SchedPart}
use Rattle.abt_machine.specs.declared.workload.UnitPart.{UnitPart}
use Rattle.abt_machine.specs.Canonical.{first_lines, unit_lines, units_words}
use Rattle.abt_machine.specs.Declaring.{Above}
use Rattle.abt_machine.specs.Words.{Text}

-- the lines before the units
abbrev pub head_lines : Format → Parts → List (List Text)
head_lines F W = first_lines F W ++ units_words W ∷ []

-- what is declared below the first lines
abbrev pub placing : Format → ℕ → ℕ → ℕ → List PoolPart → List SchedPart → List (Option SchedNo) → List Thing → Above
placing F section streams keys pools scheds mains objects = record {
  begun = true;
  format = F;
  section = section;
  streams = Some streams;
  keys = keys;
  pools = pools;
  scheds = scheds;
  mains = mains;
  objects = objects;
  unit_count = None;
  units = [];
  last = None;
  copies = 0;
  words = [];
  said = [];
}

-- the main schedulers of all streams
abbrev pub all_mains : Parts → List (Option SchedNo)
all_mains W = map (λ (g : SchedNo). Some g) W.mains

-- what the lines before the units declare
abbrev pub head : Format → Parts → Above
head F W = record (placing F 8 W.streams W.keys W.pools W.scheds (all_mains W) W.objects) { unit_count = Some (length W.units) }

-- Units.

-- the lines of units, from a number on
abbrev pub units_lines : Parts → ℕ → List UnitPart → List (List Text)
units_lines W k us = flat_map (λ p. unit_lines W p.0 p.1) (enumerate_from k us)
