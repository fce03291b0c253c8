use Rattle.std.proofs.Common.{◌∙◌, ◌++◌, ap, codes, decimal, map}
use Rattle.std.proofs.lemmas.List.{append_assoc}
use Rattle.std.proofs.lemmas.Result.{on_ok_weaker}
use Rattle.abt_machine.specs.declared.numbers.UnitNo.{UnitNo}
use Rattle.abt_machine.specs.Words.{spaced}
use Rattle.abt_why.proofs.texts.push_readers.Goals as goal

pub returns : goal.returns
returns c =
    let numbers = spaced (map (λ (u : UnitNo). decimal u.0) c.args.units.now) in
    on_ok_weaker c.push_numbers.result (λ e. e ∙ ap (λ text. text ++ numbers) c.in_ok-push.ensures ∙ append_assoc c.args.out.now.items (codes ", read by units") numbers) c.push_numbers.ensures
