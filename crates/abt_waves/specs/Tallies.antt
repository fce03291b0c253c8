-- What a tally of a wave says of who waits.
use Rattle.std.specs.Prelude.{◌≡◌, ◌<◌, ◌≤◌, ◌+◌, ◌⊎◌, true}
use Rattle.abt_waves.specs.declared.tally.Tally.{Tally}

-- the wave is over, or who waits has someone who is active, or is to start, and is to call
abbrev pub HasSomeone : Tally → Type 0
HasSomeone tally = (tally.over ≡ true) ⊎ (0 < tally.waiting → 0 < tally.active + tally.awaited)

-- no more than one is active, and none is awaited
abbrev pub IsLast : Tally → Type 0
IsLast tally = (tally.active ≤ 1) × (tally.awaited ≡ 0)
