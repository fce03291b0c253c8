use Rattle.std.proofs.Common.{◌≡◌, ℕ, ◌+◌, [], ◌∷◌, map, ap, sym, ◌∙◌, add-zero}
use Rattle.abt_machine.specs.declared.operations.Rule.TheVariants as rule
use Rattle.abt_machine.specs.declared.workload.SchedPart.{SchedPart}
use Rattle.abt_machine.specs.Numbers.{pool_no}
use Rattle.abt_generate.specs.Generated.{sched_for, streams}
use Rattle.abt_generate.proofs.generated.scheds.Goals as goal

abbrev steals : ℕ → ℕ → ℕ → ℕ → ℕ → SchedPart
steals seed a b c d = record { rule = rule.Randws seed; pools = pool_no a ∷ pool_no b ∷ pool_no c ∷ pool_no d ∷ [] }

scheds-are : (n : ℕ) (a b c d : SchedPart) → a ≡ steals n 0 1 2 3 → b ≡ steals (n + 1) 1 0 2 3 → c ≡ steals (n + 2) 2 0 1 3 → d ≡ steals (n + 3) 3 0 1 2 → a ∷ b ∷ c ∷ d ∷ [] ≡ map (sched_for n) streams
scheds-are n a b c d e f g h = rw (e, f, g, h) (ap (λ s. steals s 0 1 2 3 ∷ steals (n + 1) 1 0 2 3 ∷ steals (n + 2) 2 0 1 3 ∷ steals (n + 3) 3 0 1 2 ∷ []) (sym (add-zero n)))

pub returns : goal.returns
returns c = c.in_ok-vec.ensures.items ∙ scheds-are c.args.n c.in_ok-sched.field-0 c.in_ok-sched-2.field-0 c.in_ok-sched-3.field-0 c.in_ok-sched-4.field-0 c.in_ok-sched.ensures c.in_ok-sched-2.ensures c.in_ok-sched-3.ensures c.in_ok-sched-4.ensures
