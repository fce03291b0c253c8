-- What a model holds says what the units of its state wait for.
use Rattle.std.proofs.Common.{◌≡◌, ◌∙◌, ℕ, List, [], ◌∷◌, Option, None, Some, ap, ap₂, arith, inl, inr, length, map, option_map, refl, slice_get, sym}
use Rattle.std.proofs.lemmas.Bool.{cases_lt}
use Rattle.std.proofs.lemmas.List.{length-map}
use Rattle.std.proofs.lemmas.List.FromFn.{get_or-map-range_with_len, length-map-range_with_len}
use Rattle.std.proofs.lemmas.Option.{slice_get-get_or, slice_get-map, slice_get_past}
use Rattle.std.specs.List.{range_with_len}
use Rattle.abt_machine.specs.declared.events.Shown.{Shown}
use Rattle.abt_machine.specs.declared.events.Shown.TheVariants as shows
use Rattle.abt_machine.specs.declared.events.Site.TheVariants as site
use Rattle.abt_machine.specs.declared.numbers.ObjectNo.{ObjectNo}
use Rattle.abt_machine.specs.declared.numbers.UnitNo.{UnitNo}
use Rattle.abt_machine.specs.declared.operations.Thing.{Thing}
use Rattle.abt_machine.specs.declared.operations.Thing.TheVariants as thing
use Rattle.abt_machine.specs.declared.workload.Parts.{Parts}
use Rattle.abt_machine.specs.Lines.{Waiting, standing}
use Rattle.abt_machine.specs.Numbers.{unit_no}
use Rattle.abt_machine.specs.Sound.{Sound}
use Rattle.abt_machine.specs.State.{State}
use Rattle.abt_machine.specs.Stored.{Stored}
use Rattle.abt_machine.specs.Texts.{ShownUnit, shown, shown_units}
use Rattle.abt_machine.specs.Values.{Object, barrier_at, eventual_at, future_at, monitor_at, owned_at, rwlock_at}
use Rattle.abt_machine.specs.Workloads.{thing_at}
use Rattle.abt_model.specs.Models.{ModelValue, StandsFor}
use Rattle.abt_replay.specs.Objects.{slot_from}
use Rattle.abt_report.specs.declared.pictures.Row.{Row}
use Rattle.abt_report.specs.Pictures.{unit_in_row, units_in_rows}
use Rattle.abt_why.specs.declared.waits.Awaited.{Awaited}
use Rattle.abt_why.specs.declared.waits.Holders.TheVariants as held
use Rattle.abt_why.specs.declared.waits.Wait.TheVariants as wait
use Rattle.abt_why.specs.Held.{awaited_in, shown_by, shown_in, wait_as, wait_by, wait_shown, waits_held}
use Rattle.abt_why.specs.Waits.{awaited, holders_as, readers_as, readers_of, wait_at, wait_of, wait_where, waits_in, wish_of}

-- two functions that give the same at each number make the same list
mapped-alike : {A : Type 0} (f g : ℕ → A) (ns : List ℕ) → ((n : ℕ) → f n ≡ g n) → map f ns ≡ map g ns
mapped-alike f g [] same = refl
mapped-alike f g (n ∷ ns) same = ap₂ (λ x xs. x ∷ xs) (same n) (mapped-alike f g ns same)

-- what nothing is at is waited for as what stands in an empty slot
by-slot : (W : Parts) (rows : List Row) (u : ℕ) (x : ObjectNo) (o : Option Object) → wait_by W rows u x o ≡ wait_by W rows u x (Some (slot_from o))
by-slot W rows u x None = refl
by-slot W rows u x (Some object) = refl

-- Where a picture shows units.

-- where a unit is shown, unborn if there is none
shown_of : Option ShownUnit → Shown
shown_of None = shows.Unborn
shown_of (Some unit) = unit.shown

by-row : (o : Option Row) → shown_by o ≡ shown_of (option_map unit_in_row o)
unfolding shown_of
by-row None = refl
by-row (Some row) = refl

module _ (W : Parts) (S : State) (rows : List Row) where
  -- a unit of the state as a report shows it
  abbrev unit_at : ℕ → ShownUnit
  unit_at u = record { shown = shown (S.place u); output = (S.carried u).output }

  in-list : (v : ℕ) → shown_units W S ≡ units_in_rows rows → shown_in rows v ≡ shown_of (slice_get (shown_units W S) v)
  in-list v same = by-row (slice_get rows v) ∙ ap shown_of (sym (slice_get-map unit_in_row rows v) ∙ ap (λ (us : List ShownUnit). slice_get us v) (sym same))

  -- each unit is shown where it is; one that is not declared is unborn
  pub shown-right : (Z : Stored) (v : ℕ) → Sound W Z S → shown_units W S ≡ units_in_rows rows → shown_in rows v ≡ shown (S.place v)
  unfolding shown_of
  shown-right Z v sound same =
      let n = length W.units in
      let long : length (shown_units W S) ≡ n = length-map-range_with_len unit_at 0 n in
      let d = unit_at 0 in
      elim (cases_lt v n) [
        | inl lt ↦ in-list v same ∙ ap shown_of (slice_get-get_or (shown_units W S) v d (omega arith) ∙ ap Some (get_or-map-range_with_len unit_at 0 n v v d lt (omega arith)))
        | inr ge ↦ in-list v same ∙ ap shown_of (slice_get_past (shown_units W S) v (omega arith)) ∙ ap shown (sym (sound.undeclared v ge))
      ]

  module _ (right : (v : ℕ) → shown_in rows v ≡ shown (S.place v)) where
    awaited-right : (v : ℕ) → awaited_in rows v ≡ awaited S v
    awaited-right v = let Is : Shown → Awaited = λ s. record { unit = unit_no v; shown = s } in ap Is (right v)

    some-right : (o : Option ℕ) → option_map (awaited_in rows) o ≡ option_map (awaited S) o
    some-right None = refl
    some-right (Some v) = ap Some (awaited-right v)

    readers-right : (vs : List UnitNo) → readers_as (awaited_in rows) vs ≡ readers_as (awaited S) vs
    readers-right [] = refl
    readers-right (v ∷ []) = ap (λ a. held.Reader a) (awaited-right v.0)
    readers-right (v ∷ w ∷ vs) = refl

    holders-right : (o : Option ℕ) (vs : List UnitNo) → holders_as (awaited_in rows) o vs ≡ holders_as (awaited S) o vs
    holders-right (Some v) vs = ap (λ a. held.Writer a) (awaited-right v)
    holders-right None vs = readers-right vs

    module _ (model : ModelValue) (stands : StandsFor W S model) where
      abbrev slot : ObjectNo → Option Object
      slot x = slice_get model.objects.slots x.0

      -- what a unit waits for at an object, by what this is in the state
      by-object : (u : ℕ) (x : ObjectNo) (t : Thing) (at : Option Thing → Object) → thing_at W x.0 ≡ Some t → slot_from (slot x) ≡ at (thing_at W x.0) → wait_by W rows u x (slot x) ≡ wait_by W rows u x (Some (at (Some t)))
      by-object u x t at is stands' = by-slot W rows u x (slot x) ∙ ap (λ o. wait_by W rows u x (Some o)) (stands' ∙ ap at is)

      at-right : (u : ℕ) (x : ObjectNo) (t : Option Thing) → thing_at W x.0 ≡ t → wait_as W rows u x t (slot x) ≡ wait_at W S u x t
      at-right u x None is = refl
      at-right u x (Some thing.Mutex) is = by-object u x thing.Mutex (monitor_at W S x.0) is (stands.objects (site.Monitor x) is) ∙ ap (λ o. wait.Mutex x o) (some-right (S.mutex x.0).owner)
      at-right u x (Some (thing.Cond m)) is = refl
      at-right u x (Some thing.Eventual) is = by-object u x thing.Eventual (eventual_at W S x.0) is (stands.objects (site.Eventual x) is)
      at-right u x (Some (thing.Future n c)) is = by-object u x (thing.Future n c) (future_at W S x.0) is (stands.objects (site.Future x) (n, c, is))
      at-right u x (Some (thing.Barrier n)) is =
          by-object u x (thing.Barrier n) (barrier_at W S x.0) is (stands.objects (site.Barrier x) (n, is)) ∙ ap (λ k. wait.Barrier x k n) (length-map (standing W S (Waiting x.0)) (owned_at S))
      at-right u x (Some thing.RwLock) is =
          by-object u x thing.RwLock (rwlock_at W S x.0) is (stands.objects (site.Rw x) is)
          ∙ ap (λ h. wait.RwLock x (wish_of (S.rwlock x.0) u) h) (holders-right (S.rwlock x.0).writer (readers_of W (S.rwlock x.0)))

      shown-waits-right : (u : ℕ) (s : Shown) → wait_shown W model.objects.slots rows u s ≡ wait_where W S u s
      shown-waits-right u shows.Unborn = refl
      shown-waits-right u (shows.Pool p) = refl
      shown-waits-right u (shows.Stream s) = refl
      shown-waits-right u shows.Suspended = refl
      shown-waits-right u (shows.Join v) = ap (λ a. wait.Join a) (awaited-right v.0)
      shown-waits-right u (shows.Object x) = at-right u x (thing_at W x.0) refl
      shown-waits-right u (shows.Ended c) = refl

      -- what all units wait for
      pub waits-right : waits_held W model.objects.slots rows ≡ waits_in W S
      waits-right =
          mapped-alike (λ u. wait_shown W model.objects.slots rows u (shown_in rows u)) (wait_of W S) (range_with_len 0 (length W.units))
          (λ u. shown-waits-right u (shown_in rows u) ∙ ap (wait_where W S u) (right u))
