-- Rows of units that objects hold.
use Rattle.std.proofs.Common.{◌≡◌, ◌≢◌, ℕ, zero, suc, false, List, [], ◌∷◌, ◌++◌, slice_get, get_or, Option, Some, None, refl, sym, ◌∙◌, ap, subst}
use Rattle.std.specs.Prelude.{Contains, option_map}
use Rattle.std.specs.List.{All, find}
use Rattle.std.specs.Option.{option_or}
use Rattle.std.proofs.lemmas.Bool.{eqb-true, eqb-false}
use Rattle.std.proofs.lemmas.List.Elements.{All-nil, All-append, All-weaker, Contains-append_left, Contains-append_right}
use Rattle.std.proofs.lemmas.List.Folds.{find-append}
use Rattle.abt_machine.specs.declared.events.Shown.{Shown}
use Rattle.abt_machine.specs.declared.events.Shown.TheVariants as shows
use Rattle.abt_machine.specs.declared.events.Site.{Site}
use Rattle.abt_machine.specs.declared.events.Site.TheVariants as site
use Rattle.abt_machine.specs.declared.numbers.ObjectNo.{ObjectNo}
use Rattle.abt_machine.specs.declared.numbers.UnitNo.{UnitNo}
use Rattle.abt_machine.specs.declared.operations.Combine.{Combine}
use Rattle.abt_machine.specs.declared.operations.Thing.TheVariants as thing
use Rattle.abt_machine.specs.declared.workload.Parts.{Parts}
use Rattle.abt_machine.specs.Monitors.{list_from}
use Rattle.abt_machine.specs.Numbers.{object_no}
use Rattle.abt_machine.specs.Pools.{is_unit}
use Rattle.abt_machine.specs.Values.{Owned, Object, Phase, MonitorIs, EventualIs, FutureIs, BarrierIs, RwLockIs, conditions_of}
use Rattle.abt_laws.proofs.Options.{none≢some, some-injective}
use Rattle.abt_calls.specs.Showing.{Row, rows_as, rows_at, rows_at_desk, rows_of_object}
use Rattle.abt_commons.specs.Reading.{is_row_of, rows_at_site, waiters_as, waiters_of_condition}
use Rattle.abt_commons.specs.Held.{IsWhole, OneValue, objects_value, object_at}
use Rattle.abt_commons.specs.Sites.{site_number}
use Rattle.abt_commons.proofs.Moving.{object-here, old-ours}
use Rattle.abt_commons.proofs.Finding.{find-some, find-none, find-map}

-- of unit u
module _ (u : ℕ) where
  abbrev pub IsOther : Row → Type 0
  IsOther row = row.1.number ≢ u

  -- Found rows.

  pub row-there : (rows : List Row) (row : Row) → find (is_row_of u) rows ≡ Some row → Contains rows row × (row.1.number ≡ u)
  row-there rows row e = let r = find-some (is_row_of u) rows row e in (r.0, eqb-true row.1.number u r.1)

  pub rows-other : (rows : List Row) → find (is_row_of u) rows ≡ None → All IsOther rows
  rows-other rows e = All-weaker (λ (row : Row). is_row_of u row ≡ false) IsOther (λ row off. eqb-false row.1.number u off) rows (find-none (is_row_of u) rows e)

  pub found-as : (x : Shown) (os : List Owned) → find (is_row_of u) (rows_as x os) ≡ option_map (λ o. (x, o)) (find (is_unit u) os)
  found-as x os = find-map (is_row_of u) (λ (o : Owned). (x, o)) os

  pub as-there : (x : Shown) (os : List Owned) (o : Owned) → find (is_unit u) os ≡ Some o → Contains (rows_as x os) (x, o) × (o.number ≡ u)
  as-there x os o e = row-there (rows_as x os) (x, o) (found-as x os ∙ ap (option_map (λ (q : Owned). (x, q))) e)

  pub as-other : (x : Shown) (os : List Owned) → find (is_unit u) os ≡ None → All IsOther (rows_as x os)
  as-other x os e = rows-other (rows_as x os) (found-as x os ∙ ap (option_map (λ (q : Owned). (x, q))) e)

  -- Desks.

  -- its own unit, or else a joiner
  abbrev pub desk_found : UnitNo → Option Row → Option Owned → Option Row
  desk_found v own joiner = option_or own (option_map (λ o. (shows.Join v, o)) joiner)

  pub found-at-desk : (phase : Phase) (v : UnitNo) (joiners : List Owned)
      → find (is_row_of u) (rows_at_desk phase ++ rows_as (shows.Join v) joiners) ≡ desk_found v (find (is_row_of u) (rows_at_desk phase)) (find (is_unit u) joiners)
  found-at-desk phase v joiners = find-append (is_row_of u) (rows_at_desk phase) (rows_as (shows.Join v) joiners) ∙ ap (option_or (find (is_row_of u) (rows_at_desk phase))) (found-as (shows.Join v) joiners)

  -- Conditions.

  rows-at-other : (cs : List ℕ) (conds : List (List Owned)) → ((k c : ℕ) → slice_get cs k ≡ Some c → find (is_unit u) (list_from (slice_get conds k)) ≡ None) → All IsOther (rows_at cs conds)
  rows-at-other [] conds none = All-nil IsOther
  rows-at-other (c ∷ cs) [] none = All-nil IsOther
  rows-at-other (c ∷ cs) (os ∷ conds) none =
      All-append IsOther (rows_as (shows.Object (object_no c)) os) (rows_at cs conds) (as-other (shows.Object (object_no c)) os (none 0 c refl)) (rows-at-other cs conds (λ k d e. none (suc k) d e))

  rows-at-there : (cs : List ℕ) (conds : List (List Owned)) (k c : ℕ) (o : Owned) → slice_get cs k ≡ Some c → find (is_unit u) (list_from (slice_get conds k)) ≡ Some o
      → Contains (rows_at cs conds) (shows.Object (object_no c), o) × (o.number ≡ u)
  rows-at-there [] conds k c o at found = absurd (none≢some at)
  rows-at-there (d ∷ cs) [] k c o at found = absurd (none≢some found)
  rows-at-there (d ∷ cs) (os ∷ conds) zero c o at found =
      let here = as-there (shows.Object (object_no c)) os o found in
      let there : Contains (rows_as (shows.Object (object_no d)) os) (shows.Object (object_no c), o) = subst (λ e. Contains (rows_as (shows.Object (object_no e)) os) (shows.Object (object_no c), o)) (sym (some-injective at)) here.0 in
      (Contains-append_left (rows_as (shows.Object (object_no d)) os) (rows_at cs conds) (shows.Object (object_no c), o) there, here.1)
  rows-at-there (d ∷ cs) (os ∷ conds) (suc k) c o at found =
      let later = rows-at-there cs conds k c o at found in
      (Contains-append_right (rows_as (shows.Object (object_no d)) os) (rows_at cs conds) (shows.Object (object_no c), o) later.0, later.1)

  -- Things.

  module _ (W : Parts) (x : ObjectNo) where
    pub monitor-other : (object : Object) → find (is_unit u) (waiters_as thing.Mutex object) ≡ None → ((k c : ℕ) → slice_get (conditions_of W x.0) k ≡ Some c → find (is_unit u) (waiters_of_condition k object) ≡ None)
        → All IsOther (rows_of_object W (site.Monitor x) object)
    monitor-other (MonitorIs m) none conds = All-append IsOther (rows_as (shows.Object x) m.waiters) (rows_at (conditions_of W x.0) m.conds) (as-other (shows.Object x) m.waiters none) (rows-at-other (conditions_of W x.0) m.conds conds)
    monitor-other object none conds = All-nil IsOther

    pub monitor-there : (object : Object) (o : Owned) → find (is_unit u) (waiters_as thing.Mutex object) ≡ Some o → Contains (rows_of_object W (site.Monitor x) object) (shows.Object x, o) × (o.number ≡ u)
    monitor-there (MonitorIs m) o found =
        let here = as-there (shows.Object x) m.waiters o found in
        (Contains-append_left (rows_as (shows.Object x) m.waiters) (rows_at (conditions_of W x.0) m.conds) (shows.Object x, o) here.0, here.1)
    monitor-there object o found = absurd (none≢some found)

    pub condition-there : (object : Object) (k c : ℕ) (o : Owned) → slice_get (conditions_of W x.0) k ≡ Some c → find (is_unit u) (waiters_of_condition k object) ≡ Some o
        → Contains (rows_of_object W (site.Monitor x) object) (shows.Object (object_no c), o) × (o.number ≡ u)
    condition-there (MonitorIs m) k c o at found =
        let there = rows-at-there (conditions_of W x.0) m.conds k c o at found in
        (Contains-append_right (rows_as (shows.Object x) m.waiters) (rows_at (conditions_of W x.0) m.conds) (shows.Object (object_no c), o) there.0, there.1)
    condition-there object k c o at found = absurd (none≢some found)

-- The rows of an object that is no monitor are its waiters.
module _ (W : Parts) (x : ObjectNo) where
  pub eventual-rows : (object : Object) → rows_of_object W (site.Eventual x) object ≡ rows_as (shows.Object x) (waiters_as thing.Eventual object)
  eventual-rows (EventualIs e) = refl
  eventual-rows object = refl

  pub future-rows : (n : ℕ) (r : Combine) (object : Object) → rows_of_object W (site.Future x) object ≡ rows_as (shows.Object x) (waiters_as (thing.Future n r) object)
  future-rows n r (FutureIs f) = refl
  future-rows n r object = refl

  pub barrier-rows : (n : ℕ) (object : Object) → rows_of_object W (site.Barrier x) object ≡ rows_as (shows.Object x) (waiters_as (thing.Barrier n) object)
  barrier-rows n (BarrierIs b) = refl
  barrier-rows n object = refl

  pub rwlock-rows : (object : Object) → rows_of_object W (site.Rw x) object ≡ rows_as (shows.Object x) (waiters_as thing.RwLock object)
  rwlock-rows (RwLockIs l) = refl
  rwlock-rows object = refl

-- The object at a site's number.
module _ (W : Parts) (ones : List OneValue) (clocks : List ℕ) (ours : All (λ one. one.workload ≡ W) ones) (whole : IsWhole (objects_value W ones clocks)) (x : Site) (i : ℕ) (is : site_number W x ≡ Some i)
    (one : OneValue) (here : one ≡ get_or ones i one) where
  -- its rows
  pub rows-here : rows_of_object one.workload x one.object ≡ rows_at_site (objects_value W ones clocks) x
  rows-here =
      let object : object_at (objects_value W ones clocks) x ≡ one.object = object-here W ones clocks ours whole x i is one ∙ sym (ap (λ (o : OneValue). o.object) here) in
      ap (λ V. rows_of_object V x one.object) (old-ours W ones clocks ours whole x i is one here) ∙ ap (rows_of_object W x) (sym object)
