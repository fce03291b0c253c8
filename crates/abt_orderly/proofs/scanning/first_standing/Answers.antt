use Rattle.std.proofs.Common.{Option, ap, option_map, ◌∙◌}
use Rattle.abt_machine.specs.declared.numbers.PoolNo.{PoolNo}
use Rattle.abt_machine.specs.Workloads.{start_from}
use Rattle.abt_orderly.proofs.Before.{none-before}
use Rattle.abt_orderly.proofs.scanning.first_standing.Goals as goal

pub returns-in-Some : goal.returns-in-Some
returns-in-Some c = (
  λ w j prior creates. none-before w j prior,
  (c.in-Some.field-0.0, ap start_from c.unit.ensures ∙ ap (λ (o : Option PoolNo). option_map (λ (p : PoolNo). p.0) o) c.in-Some.is),
)
