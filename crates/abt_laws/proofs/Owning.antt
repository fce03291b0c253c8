-- While a unit owns a mutex, only a step of that unit changes its owner or its number.
use Rattle.std.proofs.Common.{◌≡◌, ◌⊎◌, ℕ, suc, length, ◌==◌, Bool, true, false, List, [], ◌∷◌, Option, Some, None, refl, sym, ◌∙◌, ap, subst, inl, inr}
use Rattle.std.proofs.lemmas.Bool.{eqb-true}
use Rattle.std.specs.Prelude.{is_none, if◌then◌else◌}
use Rattle.abt_machine.specs.declared.events.Code.{Code}
use Rattle.abt_machine.specs.declared.events.Code.TheVariants as code
use Rattle.abt_machine.specs.declared.events.Place.{Place}
use Rattle.abt_machine.specs.declared.events.Place.TheVariants as place
use Rattle.abt_machine.specs.declared.events.What.{What}
use Rattle.abt_machine.specs.declared.events.What.TheVariants as what
use Rattle.abt_machine.specs.declared.operations.Op.{Op}
use Rattle.abt_machine.specs.declared.operations.Op.TheVariants as op
use Rattle.abt_machine.specs.Stored.{Stored}
use Rattle.abt_machine.specs.declared.workload.Parts.{Parts}
use Rattle.abt_machine.specs.Workloads.{combine_of, mutex_of, op_at, size_of}
use Rattle.abt_machine.specs.Fronts.{is_some_of}
use Rattle.abt_machine.specs.Queues.{first_alone}
use Rattle.abt_machine.specs.State.{State, Future, Mutex}
use Rattle.abt_machine.specs.Holders.{is_free, read_by, written_by}
use Rattle.abt_machine.specs.RwLocks.{may_read, wanting}
use Rattle.abt_machine.specs.Values.{RwLockValue, rwlock_value}
use Rattle.abt_machine.specs.declared.events.Wish.TheVariants as wish
use Rattle.abt_machine.specs.Maps.{put_all}
use Rattle.abt_machine.specs.Lines.{Waiting, standing}
use Rattle.abt_machine.specs.Changes.{Change, goes_on}
use Rattle.abt_machine.specs.Codes.{code_at, owned_by, reached_code}
use Rattle.abt_machine.specs.Steps.{awaits, filled_by, fills, gives_all, joins, locks, op_row, passes, reads_or_waits, ready_value, set_owner, step_row, waits, wakes, writes_or_waits}
use Rattle.abt_machine.specs.Events.{change, look_row, May}
use Rattle.abt_laws.specs.Laws.{IsStepOf, OwnersAlone}
use Rattle.abt_laws.proofs.Codes.{IsRefusal, reached-ok, unless-ok}
use Rattle.abt_laws.proofs.Maps.{put_at-cases}

-- one of two changes, neither of which changes a mutex
if-none : (b : Bool) (c d : Change) → c.mutexes ≡ [] → d.mutexes ≡ [] → (if b then c else d).mutexes ≡ []
if-none true c d h k = h
if-none false c d h k = k

look-none : (W : Parts) (S : State) (s u : ℕ) (b : Bool) (m : Option ℕ) → (look_row W S s u b m).mutexes ≡ []
look-none W S s u true m = refl
look-none W S s u false (Some p) = refl
look-none W S s u false None = refl

fills-none : (W : Parts) (S : State) (s u x : ℕ) (f : Future) → (fills W S s u x f).mutexes ≡ []
fills-none W S s u x f = if-none (f.filled == size_of W x) (gives_all W S s u x f.value) (goes_on S u) refl refl

reads-none : (S : State) (u x : ℕ) (old : RwLockValue) → (reads_or_waits S u x old).mutexes ≡ []
reads-none S u x old = if-none (may_read u old) (record (goes_on S u) { rwlocks = (x, read_by u old.lock) ∷ [] }) (record (waits S u x) { rwlocks = (x, wanting u wish.Read old.lock) ∷ [] }) refl refl

writes-none : (S : State) (u x : ℕ) (old : RwLockValue) → (writes_or_waits S u x old).mutexes ≡ []
writes-none S u x old = if-none (is_free old.lock) (record (goes_on S u) { rwlocks = (x, written_by u old.lock) ∷ [] }) (record (waits S u x) { rwlocks = (x, wanting u wish.Write old.lock) ∷ [] }) refl refl

joins-none : (S : State) (u v : ℕ) (pl : Place) → (joins S u v pl).mutexes ≡ []
joins-none S u v (place.Ended c) = refl
joins-none S u v _ = refl

awaits-none : (S : State) (u x : ℕ) (o : Option ℕ) → (awaits S u x o).mutexes ≡ []
awaits-none S u x None = refl
awaits-none S u x (Some n) = refl

module _ (W : Parts) (S : State) (u x : ℕ) (owned : (S.mutex x).owner ≡ Some u) (s v : ℕ) where
  -- with these changes of mutexes the mutex stays, or the step is the owner's
  abbrev Keeps : List (ℕ × Mutex) → Type 0
  Keeps ms = (put_all S.mutex ms x ≡ S.mutex x) ⊎ (v ≡ u)

  stays : Keeps []
  stays = inl refl

  stays-by : (ms : List (ℕ × Mutex)) → ms ≡ [] → Keeps ms
  stays-by ms h = inl (ap (λ ns. put_all S.mutex ns x) h)

  becomes : (y : ℕ) (m : Mutex) → (x ≡ y → v ≡ u) → Keeps ((y, m) ∷ [])
  becomes y m mine =
      elim (put_at-cases S.mutex y m x) [
        | inl same ↦ inr (mine same.0)
        | inr other ↦ inl other.1
      ]

  not-free : (y : ℕ) → (S.mutex y).owner ≡ None → x ≡ y → v ≡ u
  not-free y free same = let none : (S.mutex x).owner ≡ None = ap (λ n. (S.mutex n).owner) same ∙ free in cc

  is-free : (o : Option ℕ) → is_none o ≡ true → o ≡ None
  is-free None h = refl
  is-free (Some n) h = cc

  is-owner : (y : ℕ) → owned_by S v y ≡ true → x ≡ y → v ≡ u
  is-owner y mine same = sym (eqb-true u v (subst (λ o. is_some_of v o ≡ true) (ap (λ n. (S.mutex n).owner) (sym same) ∙ owned) mine))

  locks-keep : (y : ℕ) (o : Option ℕ) → (S.mutex y).owner ≡ o → Keeps (locks S v y o).mutexes
  locks-keep y None e = becomes y (set_owner (Some v) (S.mutex y)) (not-free y e)
  locks-keep y (Some w) e = stays

  passes-keep : (m : ℕ) (o : Option ℕ) (vs : List ℕ) → (S.mutex m).owner ≡ o → Keeps (passes W S s v m o vs).mutexes
  passes-keep m o [] e = stays
  passes-keep m (Some w) (n ∷ ns) e = stays
  passes-keep m None (n ∷ ns) e = becomes m (set_owner (Some n) (S.mutex m)) (not-free m e)

  op-keep : (o : Op) → reached_code W S v o ≡ code.Ok → Keeps (op_row W S s v o).mutexes
  op-keep (op.Join t) h = stays-by _ (joins-none S v t.0 (S.place t.0))
  op-keep (op.Lock y) h = locks-keep y.0 (S.mutex y.0).owner refl
  op-keep (op.TryLock y) h = becomes y.0 _ (not-free y.0 (is-free (S.mutex y.0).owner (unless-ok (is_none (S.mutex y.0).owner) code.MutexLocked code.Ok tt h).0))
  op-keep (op.Unlock y) h = becomes y.0 _ (is-owner y.0 (unless-ok (owned_by S v y.0) code.NotOwner code.Ok tt h).0)
  op-keep (op.Store y) h = becomes y.0 _ (is-owner y.0 (unless-ok (owned_by S v y.0) code.NotOwner code.Ok tt h).0)
  op-keep (op.CondWait y) h = becomes (mutex_of W y.0) _ (is-owner (mutex_of W y.0) (unless-ok (owned_by S v (mutex_of W y.0)) code.NotOwner code.Ok tt h).0)
  op-keep (op.Signal y) h = passes-keep (mutex_of W y.0) (S.mutex (mutex_of W y.0)).owner (first_alone (standing W S (Waiting y.0))) refl
  op-keep (op.Broadcast y) h = passes-keep (mutex_of W y.0) (S.mutex (mutex_of W y.0)).owner (standing W S (Waiting y.0)) refl
  op-keep (op.EvWait y) h = stays-by _ (awaits-none S v y.0 (S.eventual y.0))
  op-keep (op.FuWait y) h = stays-by _ (awaits-none S v y.0 (ready_value W S y.0))
  op-keep (op.BarWait y) h = stays-by _ (if-none (suc (length (standing W S (Waiting y.0))) == size_of W y.0) (wakes W S s v (standing W S (Waiting y.0))) (waits S v y.0) refl refl)
  op-keep (op.FuSet y) h = stays-by _ (fills-none W S s v y.0 (filled_by (combine_of W y.0) (S.future y.0) (S.carried v).acc))
  op-keep (op.ReadLock y) h = stays-by _ (reads-none S v y.0 (rwlock_value W S y.0))
  op-keep (op.WriteLock y) h = stays-by _ (writes-none S v y.0 (rwlock_value W S y.0))
  op-keep _ h = stays

  refused-none : (o : Op) (c : Code) → IsRefusal c → (step_row W S s v (Some o) c).mutexes ≡ []
  refused-none o code.Ok h = absurd h
  refused-none o _ h = refl

  is-refusal : (c : Code) → (c ≡ code.Ok) ⊎ IsRefusal c
  is-refusal code.Ok = inl refl
  is-refusal _ = inr tt

  step-keep : (o : Option Op) (c : Code) → c ≡ code_at W S s v o → Keeps (step_row W S s v o c).mutexes × ((put_all S.mutex (step_row W S s v o c).mutexes x ≡ S.mutex x) ⊎ (c ≡ code.Ok))
  step-keep None c is = (stays, inl refl)
  step-keep (Some o) c is =
      elim (is-refusal c) [
        | inl ok ↦ (subst (λ d. Keeps (step_row W S s v (Some o) d).mutexes) (sym ok) (op-keep o (reached-ok W S s v o (sym is ∙ ok)).1), inr ok)
        | inr refused ↦ (stays-by _ (refused-none o c refused), inl (ap (λ ms. put_all S.mutex ms x) (refused-none o c refused)))
      ]

module _ (W : Parts) (Z : Stored) (S : State) (s u x : ℕ) (owned : (S.mutex x).owner ≡ Some u) where
  alone : (w : What) → May W Z S s w → (put_all S.mutex (change W S s w).mutexes x ≡ S.mutex x) ⊎ IsStepOf u w
  alone (what.Miss p) may = inl refl
  alone (what.Take p v) may = inl refl
  alone (what.Look v) may = inl (ap (λ ms. put_all S.mutex ms x) (look-none W S s v.0 (S.desk v.0).cancel (S.desk v.0).migrate))
  alone (what.Step v k c) may =
      let kept = step-keep W S u x owned s v.0 (op_at W v.0 k) c may.3 in
      elim kept.0 [ inl same ↦ inl same | inr mine ↦ elim kept.1 [ inl same ↦ inl same | inr ok ↦ inr (mine, ok) ] ]
  alone (what.Call v k n) may = inl refl
  alone (what.Put v p) may = inl refl
  alone (what.End v c) may = inl refl
  alone (what.Enter v) may = inl refl
  alone (what.Leave v) may = inl refl

pub owners-alone : (W : Parts) (Z : Stored) → OwnersAlone W Z
owners-alone W Z S T e u x step owned =
    elim (alone W Z S e.stream.0 u x owned e.what step.1) [
      | inl same ↦ inl (ap (λ (V : State). V.mutex x) step.2 ∙ same)
      | inr mine ↦ inr mine
    ]
