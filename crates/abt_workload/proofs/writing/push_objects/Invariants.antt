use Rattle.std.proofs.Common.{◌≡◌, ◌++◌, take}
use Rattle.abt_machine.specs.Canonical.{object_line}
use Rattle.abt_machine.specs.Words.{numbered, text_of}
use Rattle.abt_workload.proofs.writing.push_objects.Given as goal

abbrev pub invariant-loop-x : goal.invariant-loop-x
invariant-loop-x l = l.out.items ≡ l.fn.out.items ++ text_of (numbered object_line (take l.x l.w.objects))
