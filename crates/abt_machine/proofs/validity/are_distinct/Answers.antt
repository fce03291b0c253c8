use Rattle.std.proofs.Common.{◌≢◌, ◌∙◌, refl, subst, sym}
use Rattle.std.specs.Prelude.{AllPairs}
use Rattle.std.proofs.lemmas.List.{take_all}
use Rattle.abt_machine.specs.Numbers.{pool_no}
use Rattle.abt_machine.specs.declared.numbers.PoolNo.{PoolNo}
use Rattle.abt_machine.proofs.Distinct.{not-repeated, repeated}
use Rattle.abt_machine.proofs.validity.are_distinct.Goals as goal

pub returns-then-lists : goal.returns-then-lists
returns-then-lists c =
    (λ t. cc, λ apart. absurd (repeated c.args.pools.now c.loop-i.i (pool_no 0) c.loop-i-test.true (sym c.lists.ensures ∙ c.if-lists.true) apart))

pub loop-i-preserved : goal.loop-i-preserved
loop-i-preserved c = not-repeated c.args.pools.now c.loop-i.i (pool_no 0) c.loop-i-test.true (sym c.lists.ensures ∙ c.if-lists.false) c.loop-i.invariant

pub returns : goal.returns
returns c =
    (λ t. subst (AllPairs (λ (a b : PoolNo). a.0 ≢ b.0)) (take_all c.loop-i.i c.args.pools.now c.loop-i-test.false) c.loop-i.invariant, λ apart. refl)
