-- States in which it is forgotten how many rounds there were.
use Rattle.abt_machine.specs.State.{State}
use Rattle.abt_replay.specs.Unnumbered.{unnumbered}

-- each frame of the state is at round 0
abbrev pub unnumbered_state : State → State
unnumbered_state S = record S { stream = λ s. unnumbered (S.stream s) }
