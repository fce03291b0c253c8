use Rattle.std.proofs.Common.{◌≡◌, ◌∙◌, ◌-◌, ◌≤◌, ℕ, List, ap, arith, drop, length, length-drop, sym, take}
use Rattle.std.proofs.lemmas.List.{drop-map, take_all}
use Rattle.abt_machine.specs.declared.grammar.Number.{Number}
use Rattle.abt_machine.specs.Faults.{values}
use Rattle.abt_workload.proofs.numbers.after.Goals as goal

cut : (k : ℕ) (numbers : List (Number × ℕ)) → values (take (length numbers - k) (drop k numbers)) ≡ drop k (values numbers)
cut k numbers =
    let le : length (drop k numbers) ≤ length numbers - k = simp length-drop (omega arith) in
    ap values (take_all _ _ le) ∙ sym (drop-map (λ (p : Number × ℕ). p.1) k numbers)

pub returns-then-k-numbers : goal.returns-then-k-numbers
returns-then-k-numbers c = cut c.args.k c.args.numbers.now
