-- Units that are lost.
use Rattle.std.proofs.Common.{refl}
use Rattle.abt_machine.specs.Monitors.{after_wait}
use Rattle.abt_calls.specs.Losing.{UnsuitedAreLost, WaitsAreLost, bare}

pub waits-are-lost : WaitsAreLost
waits-are-lost o = ((after_wait 0 o (bare o), refl, (refl, refl, refl)), refl)

pub unsuited-are-lost : UnsuitedAreLost
unsuited-are-lost b = refl
