-- A log with one deed more.
use Rattle.abt_interleave.proofs.Grown.{course-grows}
use Rattle.abt_interleave.proofs.turns.course_grows.Goals as goal

pub returns : goal.returns
returns g c = course-grows g.M.AnyMachine.machine
