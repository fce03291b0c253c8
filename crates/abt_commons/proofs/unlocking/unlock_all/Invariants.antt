-- The last booths are closed, and the passes have the turns of the others.
use Rattle.std.proofs.Common.{◌≡◌, ◌+◌, ◌≤◌, List, ◌++◌, reverse, length, vec_capacity, vec_len}
use Rattle.abt_booth.specs.declared.booth.Booth.{Booth}
use Rattle.abt_commons.specs.declared.acts.Act.{Act}
use Rattle.abt_commons.specs.declared.acts.Answer.{Answer}
use Rattle.abt_commons.specs.Held.{OneValue}
use Rattle.abt_commons.specs.Closing.{WereClosed}
use Rattle.abt_commons.proofs.Closings.{Remain}
use Rattle.abt_commons.proofs.unlocking.unlock_all.Given as goal

abbrev pub invariant-loop-booth : goal.invariant-loop-booth
invariant-loop-booth l = record {
  gone : List (Booth OneValue Act Answer);
  split : l.initial.booths.items ≡ l.booths.items ++ gone;
  objects : List OneValue;
  ended : WereClosed l.initial.booths.items l.initial.passes l.initial.clocks (length l.booths.items) objects l.clocks;
  put : l.room.items ≡ l.initial.room.items ++ reverse objects;
  remain : Remain (length l.booths.items) l.initial.passes l.passes;
  place : length l.room.items + length l.booths.items ≤ vec_capacity l.room;
}

abbrev pub decreases-loop-booth : goal.decreases-loop-booth
decreases-loop-booth l = vec_len l.booths
