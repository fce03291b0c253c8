use Rattle.std.proofs.Common.{arith, ◌≡◌, [], None, Some, slice_get, subst}
use Rattle.std.proofs.lemmas.Grind.{common_steps}
use Rattle.std.proofs.lemmas.Option.{gets}
use Rattle.std.specs.Prelude.{◌↔◌, IsTrue}
use Rattle.abt_model.proofs.Ending.{absent-by, empty-by, none-there}
use Rattle.abt_model.proofs.ends.is_empty.Goals as goal

pub returns-in-Some : goal.returns-in-Some
returns-in-Some c =
    let deque = c.units.result.now in
    let there : slice_get c.args.objects.now.pools c.args.p.0 ≡ Some c.in-Some.pool.now = grind (arith, common_steps, gets) in
    empty-by _ c.in-Some.pool.now c.is_empty.result there
    (subst (λ us. IsTrue c.is_empty.result ↔ (us ≡ [])) c.units.ensures (none-there deque.items deque.len c.is_empty.result deque.ok.0 c.is_empty.ensures))

pub returns-in-None : goal.returns-in-None
returns-in-None c =
    let none : slice_get c.args.objects.now.pools c.args.p.0 ≡ None = grind (arith, common_steps, gets) in absent-by _ none
