use Rattle.std.proofs.Common.{◌≡◌, ◌∙◌, Some, ap, eqb, length}
use Rattle.std.specs.Option.{option_eq}
use Rattle.abt_machine.specs.Checks.{after_said}
use Rattle.abt_machine.proofs.Saying.{said-test, said_by_units}
use Rattle.abt_machine.proofs.workload.Parts.says_words.Goals as goal

pub returns : goal.returns
returns c =
    let W = c.args.self.now in
    let test : c.eq.result ≡ option_eq eqb c.next_unit_word.result (Some (length W.words)) =
    c.eq.ensures ∙ ap (λ ws. option_eq eqb c.next_unit_word.result (Some (length ws))) c.items-2.ensures in
    let is : c.next_unit_word.result ≡ after_said 0 (said_by_units W.units) = c.next_unit_word.ensures ∙ ap (λ us. after_said 0 (said_by_units us)) c.items.ensures in
    said-test c.eq.result c.next_unit_word.result (said_by_units W.units) (length W.words) test is
