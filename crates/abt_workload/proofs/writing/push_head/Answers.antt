use Rattle.std.proofs.Common.{[], ◌∷◌}
use Rattle.std.proofs.lemmas.Result.{on_ok_weaker}
use Rattle.abt_machine.specs.declared.grammar.Form.TheVariants as form
use Rattle.abt_machine.specs.declared.grammar.Format.TheVariants as format
use Rattle.abt_machine.specs.Canonical.{form_words, keys_lines}
use Rattle.abt_workload.proofs.WritingLines.{lines-behind}
use Rattle.abt_workload.proofs.writing.push_head.Goals as goal

pub returns : goal.returns
returns c =
    on_ok_weaker c.push_keys.result
    (lines-behind c.args.out.now.items c.push_line.new.out.items c.push_line-2.new.out.items c.push_keys.new.out.items
    (form_words (form.Version format.One) [] []) (form_words form.Streams [] (c.args.streams ∷ [])) (keys_lines c.args.keys)
    c.in_ok-push_line.ensures (rw c.from.ensures at c.in_ok-push_line-2.ensures))
    c.push_keys.ensures
