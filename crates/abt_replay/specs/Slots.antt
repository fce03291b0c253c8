-- What a declared object that the code keeps is to the machine.
use Rattle.abt_machine.specs.Values.{Object, MonitorIs, EventualIs, FutureIs, BarrierIs, RwLockIs, NotHere}
use Rattle.abt_replay.specs.declared.objects.Kept.{Kept}
use Rattle.abt_replay.specs.declared.objects.Kept.TheVariants as kept

abbrev pub object_in : Kept → Object
object_in (kept.Monitor monitor) = MonitorIs monitor
object_in (kept.Eventual eventual) = EventualIs eventual
object_in (kept.Future future) = FutureIs future
object_in (kept.Barrier barrier) = BarrierIs barrier
object_in (kept.RwLock lock) = RwLockIs lock
object_in kept.WithItsMutex = NotHere
