-- The rows of operations on reader-writer locks. Unit u, in the hand of stream s, makes the step.
use Rattle.std.proofs.Common.{◌≡◌, ℕ, ◌<◌, ◌≤◌, nat_lt, not, ◌&&◌, is_none, List, [], ◌∷◌, ◌++◌, map, refl, sym, ◌∙◌, ap, subst, arith}
use Rattle.std.specs.Prelude.{IsFalse}
use Rattle.std.proofs.lemmas.Bool.{cond-true, cond-false, le-ltb, lt-ltb, ltb-false, or_parts}
use Rattle.abt_machine.specs.declared.events.Code.{Code}
use Rattle.abt_machine.specs.declared.events.Code.TheVariants as code
use Rattle.abt_machine.specs.declared.events.Site.TheVariants as site
use Rattle.abt_machine.specs.declared.events.Wish.TheVariants as wish
use Rattle.abt_machine.specs.declared.numbers.ObjectNo.{ObjectNo}
use Rattle.abt_machine.specs.declared.operations.Op.{Op}
use Rattle.abt_machine.specs.declared.operations.Op.TheVariants as op
use Rattle.abt_machine.specs.Stored.{Stored}
use Rattle.abt_machine.specs.declared.workload.Parts.{Parts}
use Rattle.abt_machine.specs.Operations.{IsRwLock}
use Rattle.abt_machine.specs.Holders.{count_of, holds, is_free, read_by, read_limit, reads, writes, written_by}
use Rattle.abt_machine.specs.State.{State, RwLock}
use Rattle.abt_machine.specs.Carrying.{advanced}
use Rattle.abt_machine.specs.Lines.{Waiting, standing}
use Rattle.abt_machine.specs.Codes.{code_of}
use Rattle.abt_machine.specs.Changes.{Change, no_change, goes_on}
use Rattle.abt_machine.specs.Steps.{op_row, waits, gives_up}
use Rattle.abt_machine.specs.Values.{Owned, owned_at, RwLockIs, RwLockValue, rwlock_value, waiters_at, part_of}
use Rattle.abt_machine.specs.Acts.{moved, received}
use Rattle.abt_machine.specs.Acts as act
use Rattle.abt_machine.specs.Monitors.{number_of}
use Rattle.abt_machine.specs.Plans.{keeps, empties, notes}
use Rattle.abt_machine.specs.Turns.{stepped}
use Rattle.abt_machine.specs.RwLocks.{RwLockGives, nobody_waits, left_by, may_read, passed_on, wanting, woken}
use Rattle.abt_laws.proofs.Codes.{IsRefusal}
use Rattle.abt_laws.proofs.Granted.{woken-prefix, woken-standing, woken-each}
use Rattle.abt_laws.proofs.Lists.{EachOf, EachOf-prefix}
use Rattle.abt_laws.proofs.Maps.{put_at-same}
use Rattle.abt_laws.proofs.Prefixes.{EachOf-suffix, distinct-prefix}
use Rattle.abt_laws.proofs.Pushes.{IsDistinct}
use Rattle.abt_simulation.proofs.Acting.{IsActing}
use Rattle.abt_simulation.proofs.OwnedLines.{owned-again, owned-each}
use Rattle.abt_simulation.proofs.OwnParts.{IsAway, away-line, standing-distinct}
use Rattle.abt_simulation.proofs.Shapes.{wakes-part, line-prefix_woken}
use Rattle.abt_simulation.proofs.Rows.{ValueRow, ValueDone, rwlock-at, refuses}
use Rattle.abt_simulation.proofs.ObjectShapes.{unless-true, unless-false, goes-through, carries-on, gets-number, waiters-stay, waits-part, waits-line}

module _ (W : Parts) (Z : Stored) (S : State) (s u : ℕ) (acts : IsActing W Z S s u) (x : ObjectNo) (is : IsRwLock W x.0) where
  abbrev pub value : State → RwLockValue
  value T = rwlock_value W T x.0

  abbrev lock : RwLock
  lock = S.rwlock x.0

  -- What becomes of the unit.

  -- it goes on, and the lock is this
  goes : (a : Op) (b : Owned) (new : RwLockValue) (k : RwLock) → code_of W S s u a ≡ code.Ok → op_row W S s u a ≡ record (goes_on S u) { rwlocks = (x.0, k) ∷ [] } → b ≡ moved (owned_at S u) →
      new ≡ record (value S) { lock = k } → ValueDone W S s u a value (keeps b []) new
  goes a b new k ok row same is-new =
      let c : Change = record no_change { rwlocks = (x.0, k) ∷ [] } in
      carries-on W Z S s u acts a value b new (advanced (S.carried u)) c same ok row
      ((λ i. record { lock = put_at-same S.rwlock x.0 k i; waiters = waiters-stay W Z S s u acts x.0 (advanced (S.carried u)) c i }) ∙ sym is-new)

  -- it waits, and the lock is this
  blocks : (a : Op) (new : RwLockValue) (k : RwLock) → code_of W S s u a ≡ code.Ok → op_row W S s u a ≡ record (waits S u x.0) { rwlocks = (x.0, k) ∷ [] } →
      new ≡ record { lock = k; waiters = waiters_at W S x.0 ++ moved (owned_at S u) ∷ [] } → ValueDone W S s u a value (empties []) new
  blocks a new k ok row is-new =
      goes-through W Z S s u acts a value (empties []) new (record (waits S u x.0) { rwlocks = (x.0, k) ∷ [] }) refl ok row
      (waits-part W Z S s u acts x.0)
      ((λ i. record { lock = put_at-same S.rwlock x.0 k i; waiters = waits-line W Z S s u acts x.0 i }) ∙ sym is-new)

  -- it comes back, refused
  comes-back : (a : Op) (c : Code) (b : Owned) (new : RwLockValue) → IsRefusal c → code_of W S s u a ≡ c → b ≡ moved (owned_at S u) → new ≡ value S → ValueDone W S s u a value (notes b c) new
  comes-back a c b new r is-code same is-new =
      subst (λ o. ValueDone W S s u a value (notes o c) new) (sym same)
      (refuses W Z S s u acts a c (site.Rw x) RwLockIs value RwLockGives new (rwlock-at W x.0 is) r (sym is-code) is-new)

  -- it does not hold the lock as the operation requires
  not-holder : (a : Op) (new : RwLockValue) → code_of W S s u a ≡ code.NotHolder → new ≡ value S → ValueDone W S s u a value (notes (moved (owned_at S u)) code.NotHolder) new
  not-holder a new is-code is-new = comes-back a code.NotHolder (moved (owned_at S u)) new tt is-code refl is-new

  -- A unit that wants to read.

  read-code : IsFalse (writes u lock) → count_of u lock < read_limit → code_of W S s u (op.ReadLock x) ≡ code.Ok
  read-code out few = unless-true (not (writes u lock)) code.RwHeld _ (ap not out) ∙ unless-true (nat_lt (count_of u lock) read_limit) code.RwFull code.Ok (lt-ltb (count_of u lock) read_limit few)

  -- a unit that has to wait does not read yet
  few-reads : IsFalse (may_read u (value S)) → count_of u lock < read_limit
  few-reads refused =
      let none : count_of u lock ≤ 0 = ltb-false 0 (count_of u lock) (or_parts (reads u lock) (is_none lock.writer && nobody_waits (waiters_at W S x.0)) refused).0 in
      omega arith

  pub readlock : ValueRow W S s u (op.ReadLock x) value RwLockGives
  readlock (act.Given b) new gives =
      goes _ b new (read_by u lock) (read-code gives.0 gives.1) (cond-true (may_read u (value S)) _ _ gives.2) gives.3 gives.4
  readlock act.Rested new gives =
      blocks _ new (wanting u wish.Read lock) (read-code gives.0 (few-reads gives.1)) (cond-false (may_read u (value S)) _ _ gives.1) gives.2
  readlock (act.Back b code.RwHeld) new gives =
      comes-back _ code.RwHeld b new tt (unless-false (not (writes u lock)) code.RwHeld _ (ap not gives.0)) gives.1 gives.2
  readlock (act.Back b code.RwFull) new gives =
      comes-back _ code.RwFull b new tt
      (unless-true (not (writes u lock)) code.RwHeld _ (ap not gives.0) ∙ unless-false (nat_lt (count_of u lock) read_limit) code.RwFull code.Ok (le-ltb (count_of u lock) read_limit gives.1))
      gives.2 gives.3
  readlock _ new gives = absurd gives

  -- A unit that wants to write.

  pub writelock : ValueRow W S s u (op.WriteLock x) value RwLockGives
  writelock (act.Given b) new gives =
      goes _ b new (written_by u lock) (unless-true (not (holds u lock)) code.RwHeld code.Ok (ap not gives.0)) (cond-true (is_free lock) _ _ gives.1) gives.2 gives.3
  writelock act.Rested new gives =
      blocks _ new (wanting u wish.Write lock) (unless-true (not (holds u lock)) code.RwHeld code.Ok (ap not gives.0)) (cond-false (is_free lock) _ _ gives.1) gives.2
  writelock (act.Back b code.RwHeld) new gives =
      comes-back _ code.RwHeld b new tt (unless-false (not (holds u lock)) code.RwHeld code.Ok (ap not gives.0)) gives.1 gives.2
  writelock _ new gives = absurd gives

  -- The unit gives up the lock.

  -- the lock is this before it is passed on
  abbrev left : RwLockValue
  left = left_by u (value S)

  -- the waiters carry what they carry in the state
  all-owned : EachOf (λ (o : Owned). owned_at S o.number ≡ o) (woken left ++ (passed_on left).waiters)
  all-owned = subst (EachOf (λ (o : Owned). owned_at S o.number ≡ o)) (sym (woken-prefix left)) (owned-each S (standing W S (Waiting x.0)))

  pub unlock : ValueRow W S s u (op.RwUnlock x) value RwLockGives
  unlock (act.Woke os) new gives =
      let us : List ℕ = map number_of (woken left) in
      let others : List ℕ = map number_of (passed_on left).waiters in
      let split : standing W S (Waiting x.0) ≡ us ++ others = woken-standing W S x.0 u in
      let c : Change = record no_change { rwlocks = (x.0, (passed_on left).lock) ∷ [] } in
      goes-through W Z S s u acts _ value (keeps (moved (owned_at S u)) os) new (gives_up W S s u x.0 left) refl (unless-true (holds u lock) code.NotHolder code.Ok gives.0) refl
      (wakes-part W Z S s u acts us (advanced (S.carried u)) c (distinct-prefix us others (subst IsDistinct split (standing-distinct W S (Waiting x.0)))) (woken-each (IsAway W S s) W S x.0 u (away-line W S s (Waiting x.0) tt))
      ∙ ap (λ ws. stepped (part_of W S s) (keeps (moved (owned_at S u)) ws)) (owned-again S (woken left) (EachOf-prefix _ (woken left) (passed_on left).waiters all-owned) ∙ sym gives.1))
      ((λ i. record {
        lock = put_at-same S.rwlock x.0 (passed_on left).lock i;
        waiters = (line-prefix_woken W Z S s u acts (Waiting x.0) tt us others split [] (advanced (S.carried u)) c tt tt
            ∙ owned-again S (passed_on left).waiters (EachOf-suffix _ (woken left) (passed_on left).waiters all-owned)) i;
      }) ∙ sym gives.2)
  unlock (act.Coded code.NotHolder) new gives = not-holder _ new (unless-false (holds u lock) code.NotHolder code.Ok gives.0) gives.1
  unlock _ new gives = absurd gives

  -- The number.

  pub load : ValueRow W S s u (op.RwLoad x) value RwLockGives
  load (act.Number n) new gives =
      gets-number W Z S s u acts _ _ _ value _ _ new lock.number (rwlock-at W x.0 is) (ap (λ k. received k (moved (owned_at S u))) gives.1) (unless-true (holds u lock) code.NotHolder code.Ok gives.0) refl gives.2
  load (act.Coded code.NotHolder) new gives = not-holder _ new (unless-false (holds u lock) code.NotHolder code.Ok gives.0) gives.1
  load _ new gives = absurd gives

  pub store : ValueRow W S s u (op.RwStore x) value RwLockGives
  store (act.Coded code.Ok) new gives =
      goes _ (moved (owned_at S u)) new (record lock { number = (S.carried u).acc }) (unless-true (writes u lock) code.NotHolder code.Ok gives.0) refl refl gives.1
  store (act.Coded code.NotHolder) new gives = not-holder _ new (unless-false (writes u lock) code.NotHolder code.Ok gives.0) gives.1
  store _ new gives = absurd gives
