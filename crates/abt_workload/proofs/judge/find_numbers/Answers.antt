use Rattle.std.proofs.Common.{◌≡◌, ◌∙◌, List, [], ap, map, sym}
use Rattle.std.specs.List.{list_all}
use Rattle.abt_machine.specs.declared.grammar.Number.{Number}
use Rattle.abt_machine.specs.Faults.{valued}
use Rattle.abt_machine.specs.Forms.{numerals, slots}
use Rattle.abt_machine.specs.Spelling.{is_number}
use Rattle.abt_machine.specs.Words.{Text}
use Rattle.abt_workload.proofs.Groups.{no-numerals}
use Rattle.abt_workload.proofs.judge.find_numbers.Goals as goal

pub returns-then-words-lt2 : goal.returns-then-words-lt2
returns-then-words-lt2 c =
    let none : numerals (slots c.args.form) (map (λ w. w.now) c.args.words.now) ≡ [] = no-numerals c.args.form c.args.words.now c.if-words-lt2.true in
    record {
      all = sym (ap (λ (ps : List (Number × Text)). list_all (λ (p : Number × Text). is_number p.1) ps) none);
      numbers = c.clear.ensures.items ∙ sym (ap valued none);
    }
