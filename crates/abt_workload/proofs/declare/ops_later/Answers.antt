use Rattle.std.proofs.Common.{◌≡◌, ◌∙◌, ℕ, ap, arith, map, sym}
use Rattle.abt_machine.specs.Declaring.{op_later}
use Rattle.abt_workload.proofs.Copies.{same-ops}
use Rattle.abt_workload.proofs.declare.ops_later.Goals as goal

pub returns-then-n-eq0 : goal.returns-then-n-eq0
returns-then-n-eq0 c =
    let none : c.args.n ≡ 0 = omega (arith, c.if-n-eq0.true) in
    c.in_ok-share.ensures ∙ (sym (same-ops c.args.ops.now) ∙ ap (λ (n : ℕ). map (op_later n) c.args.ops.now) (sym none))
