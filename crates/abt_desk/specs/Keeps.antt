-- What desks keep of their units, and of the pools that requests name.
use Rattle.std.specs.Prelude.{List, [], ◌∷◌, ◌++◌}
use Rattle.abt_machine.specs.Desks.{DeskGives}
use Rattle.abt_machine.specs.Values.{Owned, Phase, Unborn, Out, Suspended, Ended, DeskValue}
use Rattle.abt_chain.specs.Keeping.{Contents, KeepsWhatFits, pools_in}

-- the desk's own unit, if the desk holds it
abbrev pub held_in : Phase → List Owned
held_in (Unborn o) = o ∷ []
held_in Out = []
held_in (Suspended o) = o ∷ []
held_in (Ended o c) = o ∷ []

-- what a desk holds: its own unit, its joiners, and the pool of its migrate request
abbrev pub contents_of_desk : DeskValue → Contents
contents_of_desk desk = record { units = held_in desk.phase ++ desk.joiners; pools = pools_in desk.migrate }

abbrev pub DesksKeepWhatFits : Type 0
DesksKeepWhatFits = KeepsWhatFits contents_of_desk DeskGives
