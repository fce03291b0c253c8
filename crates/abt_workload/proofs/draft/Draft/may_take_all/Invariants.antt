use Rattle.std.proofs.Common.{◌≡◌, drop, map}
use Rattle.std.specs.List.{list_all}
use Rattle.abt_machine.specs.Access.{may_take, may_take_all}
use Rattle.abt_machine.specs.Declaring.{parts_of}
use Rattle.abt_machine.specs.declared.numbers.PoolNo.{PoolNo}
use Rattle.abt_workload.proofs.draft.Draft.may_take_all.Given as goal

abbrev pub invariant-loop-p : goal.invariant-loop-p
invariant-loop-p l = list_all (may_take (parts_of l.self) l.s) (map (λ (p : PoolNo). p.0) (drop l.p-index l.p-items)) ≡ may_take_all (parts_of l.self) l.s l.g
