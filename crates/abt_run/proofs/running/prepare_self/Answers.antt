use Rattle.std.proofs.Common.{◌<◌, Bool, false, length, refl, subst, sym}
use Rattle.abt_machine.specs.Limits.{default_steps}
use Rattle.abt_machine.specs.declared.workload.Parts.{Parts}
use Rattle.abt_words.specs.declared.commands.Command.TheVariants as command
use Rattle.abt_order.specs.Stored.{stored_of}
use Rattle.abt_record.specs.Records.{IsKept}
use Rattle.abt_run.proofs.Outputs.{shown-in, some-row}
use Rattle.abt_run.proofs.Preparing.{as-many, prints-as, some-unit}
use Rattle.abt_run.proofs.Small.{run-is-small}
use Rattle.abt_run.proofs.running.prepare_self.Goals as goal

pub short_output-requires-clause-unit : goal.short_output-requires-clause-unit
short_output-requires-clause-unit g c =
    let left = c.in_ok-ran.ensures.run in
    some-row c.in_ok-w.w left.events c.in_ok-ran.ran left.pictured (subst (λ (W : Parts). 0 < length W.units) (sym c.in_ok-w.ensures) (some-unit c.args.units))

pub returns-clause-done : goal.returns-clause-done
returns-clause-done g c = λ words file_of says.
    let left = c.in_ok-ran.ensures.run in
    prints-as c.in_ok-ran.ran.outcome _ c.args.keep c.ended.result.conclusion c.in_ok-ran.ran.journal c.ended.result.journal c.in_ok-text.text.items c.ended.result.text.items
    c.ended.ensures.conclusion c.ended.ensures.journal c.ended.ensures.text (record {
      command = command.SelfRun c.args.units;
      says = says;
      workload = c.in_ok-w.w;
      is = c.in_ok-w.ensures;
      steps = default_steps;
      may = refl;
      journal = left.events;
      run = left.holds.0;
      scheduled = tt;
      small = run-is-small c.in_ok-w.w (stored_of c.args.orders.now (g.P.Work.returns c.args.work.now)) c.known.ensures (as-many _ c.args.orders.now 2 c.requires.orders) left.events left.holds.0.run;
      output = c.in_ok-text.ensures left.events c.args.units (shown-in c.in_ok-w.w c.args.keep false c.keeps-keeps.result _ c.in_ok-ran.ran c.keeps-keeps.ensures left);
      kept = subst (λ (b : Bool). IsKept b left.events c.in_ok-ran.ran.journal) c.keeps-keeps.ensures left.kept;
    })
