use Rattle.std.proofs.Common.{◌≡◌, arith, subst}
use Rattle.abt_model.specs.Lists.{AreMade}
use Rattle.abt_model.proofs.Numbered.{made-none, made-push}
use Rattle.abt_model.proofs.starts.numbered.Goals as goal

pub loop-k-init : goal.loop-k-init
loop-k-init g c = rw c.in_ok-items.ensures.items (made-none (goal.F-post g c.args.make))

pub loop-k-preserved : goal.loop-k-preserved
loop-k-preserved g c =
    made-push (goal.F-post g c.args.make) c.loop-k.k c.loop-k.items.items c.push.new.self.items c.in_ok-make.field-0 c.in_ok-push.ensures.items c.loop-k.invariant
    (subst (goal.F-post g c.args.make c.loop-k.k) c.in_ok-make.was c.make.ensures)

pub returns : goal.returns
returns g c =
    let all : c.loop-k.k ≡ c.args.count = omega arith in
    subst (λ n. AreMade (goal.F-post g c.args.make) n c.loop-k.items.items) all c.loop-k.invariant
