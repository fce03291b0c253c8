use Rattle.std.proofs.Common.{◌∙◌, None, ap, replicate, subst, sym}
use Rattle.std.specs.Prelude.{Contains}
use Rattle.abt_machine.specs.declared.numbers.UnitNo.{UnitNo}
use Rattle.std.proofs.Common.{List}
use Rattle.abt_flow.proofs.Waiting.{begins}
use Rattle.abt_flow.proofs.table.Table.make.Goals as goal

pub returns : goal.returns
returns c R =
    begins c.args.w.now R (record { units = c.in_ok-fresh_units.field-0; values = c.in_ok-no_values.field-0; waiting = c.in_ok-wait_lists.field-0; ready = c.args.reached })
    c.in_ok-fresh_units.ensures (c.in_ok-no_values.ensures ∙ ap (λ n. replicate n None) c.objects.ensures) c.in_ok-wait_lists.ensures.listed
    (λ v has. c.in_ok-wait_lists.ensures.waited v (subst (λ (us : List UnitNo). Contains us v) (sym c.deref.ensures.value) has)) c.requires.only c.requires.every
