use Rattle.std.proofs.Common.{◌≡◌, ◌++◌, drop, map, take}
use Rattle.std.specs.List.{list_all}
use Rattle.abt_machine.specs.Spelling.{is_number}
use Rattle.abt_machine.specs.Words.{Text}
use Rattle.abt_machine.specs.declared.grammar.Number.{Number}
use Rattle.abt_machine.specs.declared.grammar.Number.TheVariants as number
use Rattle.abt_machine.specs.Faults.{valued}
use Rattle.abt_workload.proofs.numbers.add_pools.Given as goal

abbrev pub invariant-loop-word : goal.invariant-loop-word
invariant-loop-word l = record {
  all : list_all (λ (p : Number × Text). is_number p.1) (map (λ word. (number.Pool, word)) (map (λ w. w.now) (drop l.word-index l.words))) ≡ list_all (λ (p : Number × Text). is_number p.1) (map (λ word. (number.Pool, word)) (map (λ w. w.now) l.words));
  numbers : l.numbers.items ≡ l.initial.numbers.items ++ valued (map (λ word. (number.Pool, word)) (map (λ w. w.now) (take l.word-index l.words)));
}
