use Rattle.std.proofs.Common.{◌≡◌, replicate}
use Rattle.abt_machine.specs.declared.operations.Thing.TheVariants as thing
use Rattle.abt_graph.proofs.workload.eventuals.Given as goal

abbrev pub invariant-loop : goal.invariant-loop
invariant-loop l = l.things.items ≡ replicate l.counter thing.Eventual
