use Rattle.std.proofs.Common.{◌≡◌, ◌+◌, ◌++◌, drop}
use Rattle.abt_explore.specs.Texts.{ends_text, explored_text}
use Rattle.abt_explore.proofs.texts.explored_text.Given as goal

abbrev pub invariant-loop-at : goal.invariant-loop-at
invariant-loop-at l = l.out.items ++ ends_text l.w (l.at + 1) (drop l.at l.ends) ≡ explored_text l.w l.states l.ends
