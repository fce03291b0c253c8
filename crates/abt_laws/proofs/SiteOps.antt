-- Every operation changes only its stream, its site, and units that these keep, and reads nothing else.
use Rattle.std.proofs.Common.{◌≡◌, ℕ, ◌==◌, if◌then◌else◌, Bool, List, [], ◌∷◌, map, Option, Some, None, refl, sym, subst, ap, inl}
use Rattle.std.proofs.lemmas.Bool.{cond-true}
use Rattle.abt_machine.specs.declared.events.Code.TheVariants as code
use Rattle.abt_machine.specs.declared.events.Place.TheVariants as place
use Rattle.abt_machine.specs.declared.events.Site.{Site}
use Rattle.abt_machine.specs.declared.events.Site.TheVariants as site
use Rattle.abt_machine.specs.declared.events.Spot.TheVariants as spot
use Rattle.abt_machine.specs.declared.events.Wish.TheVariants as wish
use Rattle.abt_machine.specs.declared.operations.Op.{Op}
use Rattle.abt_machine.specs.declared.operations.Op.TheVariants as op
use Rattle.abt_machine.specs.declared.workload.Parts.{Parts}
use Rattle.abt_machine.specs.Numbers.{stream_no, unit_no, object_no}
use Rattle.abt_machine.specs.Workloads.{mutex_of, size_of, combine_of}
use Rattle.abt_machine.specs.Operations.{IsDeclared}
use Rattle.abt_machine.specs.Valid.{IsValid}
use Rattle.abt_machine.specs.Access.{may_reach}
use Rattle.abt_machine.specs.Sites.{object_site}
use Rattle.abt_machine.specs.Start.{start}
use Rattle.abt_machine.specs.EventSites.{op_site, plan_site}
use Rattle.abt_machine.specs.Plans.{reached_plan}
use Rattle.abt_machine.specs.Queues.{first_alone}
use Rattle.abt_machine.specs.Holders.{is_free, read_by, written_by}
use Rattle.abt_machine.specs.RwLocks.{left_by, may_read, wanting}
use Rattle.abt_machine.specs.State.{State, Stream, Carried, Future, RwLock}
use Rattle.abt_machine.specs.Values.{RwLockValue, owned_at, rwlock_value}
use Rattle.abt_machine.specs.Lines.{Waiting, hand, standing}
use Rattle.abt_machine.specs.Codes.{code_of, reached_code}
use Rattle.abt_machine.specs.Changes.{Change, tray_moves, goes_on}
use Rattle.abt_machine.specs.Steps.{wakes, begins, waits, passes, awaits, filled_by, ready_value, op_row}
use Rattle.abt_laws.proofs.Lists.{EachOf, EachOf-same}
use Rattle.abt_laws.proofs.Keeping.{IsKept, hand-kept, standing-kept, one-kept, kept-where_true, unborn-seen, ended-seen, suspended-seen, in_pool-seen}
use Rattle.abt_laws.proofs.Local.{IsLocal, local-eventual}
use Rattle.abt_laws.proofs.LocalRows
use Rattle.abt_laws.proofs.Alike.{IsAlike, tray_end-alike, caller-alike, seen-same}
use Rattle.abt_laws.proofs.AlikeRows
use Rattle.abt_laws.proofs.Codes.{reached-ok, unless-ok}
use Rattle.abt_laws.proofs.ObjectSites.{mutex-waits, eventual-waits, future-waits, barrier-waits, rwlock-waits, condition-waits, condition-mutex-waits}

-- the site that an operation of unit u touches if the stream may reach the pool that it names
abbrev reached_site : Parts → ℕ → Op → Option Site
reached_site W u o = plan_site (reached_plan W o (owned_at (start W) u))

-- an operation that goes through reaches it
site-reached : (W : Parts) (S : State) (s u : ℕ) (o : Op) → code_of W S s u o ≡ code.Ok → op_site W s u o ≡ reached_site W u o
site-reached W S s u o h = ap plan_site (cond-true (may_reach W s o) _ _ (reached-ok W S s u o h).0)

-- what changes is of site x if each of its numbers names that
of-site : {A : Type 0} (x : Option Site) (at : ℕ → Site) (ps : List (ℕ × A)) → map (λ (m : ℕ × A). x) ps ≡ map (λ (m : ℕ × A). Some (at m.0)) ps → EachOf (λ (m : ℕ × A). x ≡ Some (at m.0)) ps
of-site {A = A} x at ps same = EachOf-same (λ (m : ℕ × A). x) (λ (m : ℕ × A). Some (at m.0)) ps same

-- a row that changes only stream s, site x, and units that these keep, and is the same in states that are alike there
abbrev pub IsOfSite : Parts → State → ℕ → Option Site → (State → Change) → Type 0
IsOfSite W S s x row = IsLocal W S s x (row S) × ((T : State) → IsAlike W s x S T → row S ≡ row T)

-- Operations of unit u in the hand of stream s.

module _ (W : Parts) (valid : IsValid W) (S : State) (s u : ℕ) (in_hand : hand W S s ≡ Some u) where
  same-carried : (x : Option Site) (T : State) → IsAlike W s x S T → S.carried u ≡ T.carried u
  same-carried x T alike = caller-alike W s x S T alike u in_hand

  -- The shapes of rows that more than one operation has.

  module _ (x : Option Site) where
    site-wakes : (us : List ℕ) → EachOf (IsKept W S s x) us → IsOfSite W S s x (λ R. wakes W R s u us)
    site-wakes us kept = (LocalRows.local-wakes W S s u x in_hand us kept, λ T alike. AlikeRows.alike-wakes W S T s u x alike in_hand us us refl)

    site-begins : (v p : ℕ) → x ≡ Some (site.Desk (unit_no v)) → IsKept W S s x v → IsOfSite W S s x (λ R. begins W R s u v p)
    site-begins v p e kept = (LocalRows.local-begins W S s u x in_hand v p e kept, λ T alike. AlikeRows.alike-begins W S T s u x alike in_hand v p (alike.units v (inl kept)).1 (alike.desk v e))

    site-passes : (z y : ℕ) (taken : List ℕ → List ℕ) → x ≡ Some (site.Monitor (object_no z)) → x ≡ Some (object_site W z) → x ≡ Some (object_site W y) → EachOf (IsKept W S s x) (taken (standing W S (Waiting y))) →
        IsOfSite W S s x (λ R. passes W R s u z (R.mutex z).owner (taken (standing W R (Waiting y))))
    site-passes z y taken m e f kept = (LocalRows.local-passes W S s u x in_hand z _ _ m e kept, λ T alike. AlikeRows.alike-passes W S T s u x alike in_hand z y taken m e f)

    site-awaits : (y : ℕ) (value : State → Option ℕ) → x ≡ Some (object_site W y) → ((T : State) → IsAlike W s x S T → value S ≡ value T) → IsOfSite W S s x (λ R. awaits R u y (value R))
    site-awaits y value e same = (LocalRows.local-awaits W S s u x in_hand y _ e, λ T alike. AlikeRows.alike-awaits W S T s u x alike in_hand y _ _ (same T alike) e)

    site-goes_or_waits : (y : ℕ) (test : RwLockValue → Bool) (held wanted : RwLock → RwLock) → x ≡ Some (site.Rw (object_no y)) → x ≡ Some (object_site W y) →
        IsOfSite W S s x (λ R. if test (rwlock_value W R y) then record (goes_on R u) { rwlocks = (y, held (R.rwlock y)) ∷ [] } else record (waits R u y) { rwlocks = (y, wanted (R.rwlock y)) ∷ [] })
    site-goes_or_waits y test held wanted m e = (LocalRows.local-goes_or_waits W S s u x in_hand y _ _ _ m e, λ T alike. AlikeRows.alike-goes_or_waits W S T s u x alike in_hand y test held wanted m e)

  -- each operation whose own tests hold
  own-op : (o : Op) → IsDeclared W o → reached_code W S u o ≡ code.Ok → IsOfSite W S s (reached_site W u o) (λ R. op_row W R s u o)
  own-op op.Yield d h = site-wakes _ (u ∷ []) (hand-kept W S s _ u in_hand, tt)
  own-op (op.YieldTo v p) d h = (
    LocalRows.local-yields_to W S s u _ in_hand v.0 (kept-where_true (in_pool-seen W s _ v.0 p.0 (S.place v.0) refl) (unless-ok _ code.Absent code.Ok tt h).0),
    λ T alike i. record (AlikeRows.alike-goes_on W S T s u _ alike in_hand i) { moves = (v.0, place.Next (stream_no s)) ∷ tray_moves s (tray_end-alike W s _ S T alike i) (u ∷ []) },
  )
  own-op op.Suspend d h = (LocalRows.local-suspends W S s u _ in_hand refl, λ T alike. ap (λ (c : Change). record c { moves = (u, place.Blocked spot.Suspended 0) ∷ [] }) (AlikeRows.alike-goes_on W S T s u _ alike in_hand))
  own-op (op.Resume v) d h = site-wakes _ (v.0 ∷ []) (kept-where_true (suspended-seen W s _ v.0 (S.place v.0) refl) (unless-ok _ code.UnitState code.Ok tt h).0, tt)
  own-op (op.Create v p) d h =
      site-begins _ v.0 p.0 refl (kept-where_true (unborn-seen W s _ v.0 (S.place v.0) refl) (unless-ok _ code.Exists code.Ok tt h).0)
  own-op (op.Join v) d h = (LocalRows.local-joins W S s u _ in_hand v.0 (S.place v.0) refl, λ T alike. AlikeRows.alike-joins W S T s u _ alike in_hand v.0 refl)
  own-op (op.Revive v p) d h =
      site-begins _ v.0 p.0 refl (kept-where_true (ended-seen W s _ v.0 (S.place v.0) refl) (unless-ok _ code.UnitState code.Ok tt h).0)
  own-op (op.Lock y) d h = (LocalRows.local-locks W S s u _ in_hand y.0 _ refl (mutex-waits W y d), λ T alike. AlikeRows.alike-locks W S T s u _ alike in_hand y.0 refl (mutex-waits W y d))
  own-op (op.Unlock y) d h = (LocalRows.local-hands_over W S s u _ in_hand y.0 refl (mutex-waits W y d), λ T alike. AlikeRows.alike-hands_over W S T s u _ alike in_hand y.0 refl (mutex-waits W y d))
  own-op (op.CondWait y) d h =
      let e : Some (site.Monitor (object_no (mutex_of W y.0))) ≡ Some (object_site W y.0) = condition-waits W y.0 d in
      let m : Some (site.Monitor (object_no (mutex_of W y.0))) ≡ Some (object_site W (mutex_of W y.0)) = condition-mutex-waits W y.0 valid d in
      (LocalRows.local-releases W S s u _ in_hand y.0 (mutex_of W y.0) refl e m, λ T alike. AlikeRows.alike-releases W S T s u _ alike in_hand y.0 (mutex_of W y.0) refl e m)
  own-op (op.Signal y) d h = site-passes _ (mutex_of W y.0) y.0 first_alone refl (condition-mutex-waits W y.0 valid d) (condition-waits W y.0 d) (one-kept W S s _ (Waiting y.0) (condition-waits W y.0 d))
  own-op (op.Broadcast y) d h = site-passes _ (mutex_of W y.0) y.0 (λ us. us) refl (condition-mutex-waits W y.0 valid d) (condition-waits W y.0 d) (standing-kept W S s _ (Waiting y.0) (condition-waits W y.0 d))
  own-op (op.EvWait y) d h = site-awaits _ y.0 (λ R. R.eventual y.0) (eventual-waits W y d) (λ T alike. alike.eventual y.0 refl)
  own-op (op.EvSet y) d h = (
    local-eventual W S s _ _ (LocalRows.local-gives_all W S s u _ in_hand y.0 _ (eventual-waits W y d)) y.0 _ refl,
    λ T alike i. record (AlikeRows.alike-gives_all W S T s u _ alike in_hand y.0 _ _ (ap (λ (c : Carried). c.acc) (same-carried _ T alike)) (eventual-waits W y d) i) { eventuals = (y.0, Some (same-carried _ T alike i).acc) ∷ [] },
  )
  own-op (op.FuWait y) d h = site-awaits _ y.0 (λ R. ready_value W R y.0) (future-waits W y d) (λ T alike. ap (λ (f : Future). if f.filled == size_of W y.0 then Some f.value else None) (alike.future y.0 refl))
  own-op (op.FuSet y) d h = (
    LocalRows.local-fills W S s u _ in_hand y.0 _ refl (future-waits W y d),
    λ T alike. AlikeRows.alike-fills W S T s u _ alike in_hand y.0 _ _ (λ i. filled_by (combine_of W y.0) (alike.future y.0 refl i) (same-carried _ T alike i).acc) (future-waits W y d),
  )
  own-op (op.BarWait y) d h = (LocalRows.local-arrives W S s u _ in_hand y.0 (barrier-waits W y d), λ T alike. AlikeRows.alike-arrives W S T s u _ alike in_hand y.0 (barrier-waits W y d))
  own-op (op.ReadLock y) d h = site-goes_or_waits _ y.0 (may_read u) (read_by u) (wanting u wish.Read) refl (rwlock-waits W y d)
  own-op (op.WriteLock y) d h = site-goes_or_waits _ y.0 (λ old. is_free old.lock) (written_by u) (wanting u wish.Write) refl (rwlock-waits W y d)
  own-op (op.RwUnlock y) d h = (LocalRows.local-gives_up W S s u _ in_hand y.0 refl (rwlock-waits W y d), λ T alike. AlikeRows.alike-gives_up W S T s u _ alike in_hand y.0 (left_by u) refl (rwlock-waits W y d))
  -- nobody moves, and what u carries, its stream and one part at the site are all that is read
  own-op o d h =
      let x : Option Site = reached_site W u o in
      let row : Change = op_row W S s u o in (
        record {
          moves = tt;
          carried = (hand-kept W S s x u in_hand, tt);
          desks = of-site x (λ v. site.Desk (unit_no v)) row.desks refl;
          pool_next = tt;
          join_next = tt;
          object_next = tt;
          mutexes = of-site x (λ y. site.Monitor (object_no y)) row.mutexes refl;
          eventuals = of-site x (λ y. site.Eventual (object_no y)) row.eventuals refl;
          futures = of-site x (λ y. site.Future (object_no y)) row.futures refl;
          rwlocks = of-site x (λ y. site.Rw (object_no y)) row.rwlocks refl;
          streams = EachOf-same (λ (m : ℕ × Stream). m.0) (λ (m : ℕ × Stream). s) row.streams refl;
        },
        λ T alike i. op_row W (record (seen-same W s x S T alike i) { carried = λ _. same-carried x T alike i; stream = λ _. alike.stream i }) s u o,
      )

  -- each operation that goes through
  pub site-op : (o : Op) → IsDeclared W o → code_of W S s u o ≡ code.Ok → IsOfSite W S s (op_site W s u o) (λ R. op_row W R s u o)
  site-op o d h = subst (λ x. IsOfSite W S s x (λ R. op_row W R s u o)) (sym (site-reached W S s u o h)) (own-op o d (reached-ok W S s u o h).1)
