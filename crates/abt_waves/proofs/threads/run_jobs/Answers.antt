-- Jobs go to threads, and what came of them comes back.
use denote.Param.Send.{sendable}
use Rattle.abt_waves.proofs.Crosses.{Job-send, Returned-send}
use Rattle.abt_waves.proofs.threads.run_jobs.Goals as goal

pub map_vec-requires-send-J : goal.map_vec-requires-send-J
map_vec-requires-send-J g c κs within = search (Job-send, sendable) depth 20

pub map_vec-requires-send-X : goal.map_vec-requires-send-X
map_vec-requires-send-X g c κs within = search (Returned-send, sendable) depth 20
