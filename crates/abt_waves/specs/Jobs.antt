-- The streams of a wave with their passes.
use Rattle.std.specs.Prelude.{◌≡◌, Bool, false, List, [], ◌∷◌}
use Rattle.abt_machine.specs.declared.events.Site.{Site}
use Rattle.abt_machine.specs.Stored.{Stored}
use Rattle.abt_machine.specs.declared.workload.Parts.{Parts}
use Rattle.abt_stream.specs.Streams.{StreamValue}
use Rattle.abt_waves.specs.declared.voyages.Returned.{Returned}
use Rattle.abt_waves.specs.Locks.{HasSeenNothing, LocksValue}
use Rattle.abt_waves.specs.Stops.{StopsBy}
use Rattle.abt_waves.specs.Voyages.{HasGone, HasPass}

-- the objects behind locks, a stream, its pass, and whether it is live
pub record JobValue (Locks Pass : Type 0) : Type 0 where
  pub locks : Locks
  pub stream : StreamValue
  pub pass : Pass
  pub live : Bool

-- each stream with the pass and the flag at its place
abbrev pub jobs_of : {Locks Pass : Type 0} → Locks → List StreamValue → List Pass → List Bool → List (JobValue Locks Pass)
jobs_of locks [] passes flags = []
jobs_of locks (stream ∷ streams) [] flags = []
jobs_of locks (stream ∷ streams) (pass ∷ passes) [] = []
jobs_of locks (stream ∷ streams) (pass ∷ passes) (live ∷ flags) = record { locks = locks; stream = stream; pass = pass; live = live } ∷ jobs_of locks streams passes flags

module _ {Locks Lock Pass : Type 0} (IsOf : Locks → Pass → Type 0) (value : Locks → LocksValue Lock Pass) where
  -- a stream of W, whose pass has seen no call
  pub record MayGo (W : Parts) (Z : Stored) (job : JobValue Locks Pass) : Type 0 where
    pub workload : (value job.locks).objects.workload ≡ W
    pub has : HasPass (IsOf job.locks) (value job.locks) W Z job.stream job.pass
    pub fresh : HasSeenNothing (value job.locks) job.pass

  -- what came of it in the wave: a stream that is not live is as it was
  pub record HasReturned (lock : Site → Lock) (W : Parts) (Z : Stored) (job : JobValue Locks Pass) (back : Returned Pass) : Type 0 where
    pub has : HasPass (IsOf job.locks) (value job.locks) W Z back.stream back.pass
    pub gone : HasGone (value job.locks) lock W Z job.stream back.stream back.pass
    pub stops : StopsBy (value job.locks) lock W job.live job.stream.log back.stream back.pass back.stop
    pub still : job.live ≡ false → back.stream ≡ job.stream
