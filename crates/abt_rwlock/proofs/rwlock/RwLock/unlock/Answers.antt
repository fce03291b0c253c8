use Rattle.std.proofs.Common.{rules, subst}
use Rattle.abt_machine.specs.Acts.{RwUnlock, Woke}
use Rattle.abt_machine.specs.RwLocks.{RwLockGives}
use Rattle.abt_rwlock.specs.Parts.{lock_of}
use Rattle.abt_rwlock.proofs.Unlocking.{unlocked}
use Rattle.abt_rwlock.proofs.rwlock.RwLock.unlock.Goals as goal

pub returns : goal.returns
returns c =
    let s = c.self.inside in
    let new = lock_of c.pass_on.new.holders c.pass_on.new.waiters s.number in
    subst (λ old. RwLockGives old (RwUnlock c.args.who.0) (Woke c.pass_on.result.units) new) c.self.view_is
    (unlocked c.args.who.0 s.number s.holders c.give_up.new.self c.pass_on.new.holders s.waiters c.pass_on.new.waiters c.pass_on.result.units (search rules)
    (c.give_up.ensures s.waiters.wishes s.number) (c.pass_on.ensures.woken s.number) (c.pass_on.ensures.left s.number))
