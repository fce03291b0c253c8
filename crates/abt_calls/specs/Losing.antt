-- What is lost without what the laws suppose.
use Rattle.std.specs.Prelude.{◌≡◌, [], ◌∷◌, Some}
use Rattle.abt_machine.specs.Values.{MonitorIs, MonitorValue, Owned}
use Rattle.abt_machine.specs.Acts.{Rested, Wait, Woke}
use Rattle.abt_machine.specs.Monitors.{after_wait}
use Rattle.abt_machine.specs.Gives.{SiteGives}
use Rattle.abt_machine.specs.Plans.{to_giver}
use Rattle.abt_calls.specs.Effects.{units_left}
use Rattle.abt_calls.specs.Keeps.{contents_of}

-- a monitor that the unit owns, without conditions
abbrev pub bare : Owned → MonitorValue
bare o = record { owner = Some o.number; number = 0; waiters = []; conds = [] }

-- if any condition may be named: a unit that waits at one that the monitor does not have is lost
abbrev pub WaitsAreLost : Type 0
WaitsAreLost = (o : Owned) → SiteGives (MonitorIs (bare o)) (Wait 0 o) Rested (MonitorIs (after_wait 0 o (bare o)))
    × ((contents_of (MonitorIs (after_wait 0 o (bare o)))).units ≡ [])

-- if any answer may come: units that come to a unit that went with its act, with an answer that does not suit the act, are lost, and
-- so is the unit that went
abbrev pub UnsuitedAreLost : Type 0
UnsuitedAreLost = (b : Owned) → units_left (to_giver (Woke (b ∷ []))) ≡ []
