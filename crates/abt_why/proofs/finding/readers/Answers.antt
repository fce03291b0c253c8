use Rattle.std.proofs.Common.{◌∙◌, ◌++◌, [], ◌∷◌, if◌then◌else◌, ap, sym}
use Rattle.abt_machine.specs.Holders.{reads}
use Rattle.abt_machine.specs.Numbers.{unit_no}
use Rattle.abt_why.proofs.Numbers.{filtered-more}
use Rattle.abt_why.proofs.finding.readers.Goals as goal

pub loop-v-preserved : goal.loop-v-preserved
loop-v-preserved c =
    let lock = c.args.lock.now.lock in
    let v = c.loop-v.v in
    record {
      readers =
          c.in_ok-push_reader.ensures ∙ ap (λ us. us ++ (if reads v lock then unit_no v ∷ [] else [])) c.loop-v.invariant.readers
          ∙ sym (filtered-more unit_no (λ u. reads u lock) v);
      end = c.loop-v.invariant.end;
    }
