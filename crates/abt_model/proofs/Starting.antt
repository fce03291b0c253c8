-- Streams and objects at the start of a run.
use Rattle.std.proofs.Common.{◌≡◌, ◌∙◌, ℕ, ◌+◌, Bool, true, false, List, [], ◌∷◌, ◌++◌, Option, Some, ap, append-nil, arith, refl, slice_get, subst, sym}
use Rattle.std.specs.Prelude.{cond}
use Rattle.std.specs.List.{filter}
use Rattle.std.proofs.lemmas.List.FromFn.{filter_of_map_range_with_len_more}
use Rattle.std.proofs.lemmas.Option.{slice_get_within}
use Rattle.abt_machine.specs.declared.events.Site.{Site}
use Rattle.abt_machine.specs.declared.events.Site.TheVariants as site
use Rattle.abt_machine.specs.declared.operations.Combine.{Combine}
use Rattle.abt_machine.specs.declared.operations.Thing.{Thing}
use Rattle.abt_machine.specs.declared.operations.Thing.TheVariants as thing
use Rattle.abt_machine.specs.declared.workload.Parts.{Parts}
use Rattle.abt_machine.specs.Fronts.{is_some_of}
use Rattle.abt_machine.specs.Start.{start}
use Rattle.abt_machine.specs.Values.{Held, Owned, owned_at}
use Rattle.abt_machine.specs.Workloads.{start_of, thing_at}
use Rattle.abt_calls.specs.Asking.{IsSite}
use Rattle.abt_calls.specs.Starts.{first_units, start_barrier, start_eventual, start_future, start_monitor, start_object, start_part, start_rwlock, start_thing, starts_in}
use Rattle.abt_calls.proofs.Started.{objects-start, parts-start}
use Rattle.abt_replay.specs.Objects.{ObjectsValue, desk_from, object_at, pool_from, slot_from}
use Rattle.abt_model.specs.Lists.{AreNumbered}
use Rattle.abt_model.specs.Models.{StandsFor}
use Rattle.abt_model.specs.Starts.{AreObjectsAtStart, slot_at}

-- Pools.

module _ (W : Parts) (p n : ℕ) (units more : List Owned) (before : units ≡ filter (starts_in W p) (first_units W n)) where
  all-more : filter (starts_in W p) (first_units W (n + 1)) ≡ filter (starts_in W p) (first_units W n) ++ cond (is_some_of p (start_of W n)) (owned_at (start W) n ∷ []) []
  all-more = filter_of_map_range_with_len_more (starts_in W p) (owned_at (start W)) 0 n n (omega arith)

  -- a unit that starts there
  pub pool-more : (o : Owned) (b : Bool) → b ≡ is_some_of p (start_of W n) → b ≡ true → o ≡ owned_at (start W) n → more ≡ units ++ o ∷ [] → more ≡ filter (starts_in W p) (first_units W (n + 1))
  pool-more o b is on unit pushed =
      let here : is_some_of p (start_of W n) ≡ true = sym is ∙ on in
      pushed ∙ (ap (λ (us : List Owned). us ++ o ∷ []) before ∙ (ap (λ (u : Owned). filter (starts_in W p) (first_units W n) ++ u ∷ []) unit
      ∙ (ap (λ b. filter (starts_in W p) (first_units W n) ++ cond b (owned_at (start W) n ∷ []) []) (sym here) ∙ sym all-more)))

  -- and one that does not
  pub pool-same : (b : Bool) → b ≡ is_some_of p (start_of W n) → b ≡ false → more ≡ units → more ≡ filter (starts_in W p) (first_units W (n + 1))
  pool-same b is off same =
      let there : is_some_of p (start_of W n) ≡ false = sym is ∙ off in
      same ∙ (before ∙ (sym (append-nil (filter (starts_in W p) (first_units W n)))
      ∙ (ap (λ b. filter (starts_in W p) (first_units W n) ++ cond b (owned_at (start W) n ∷ []) []) (sym there) ∙ sym all-more)))

-- Objects.

slot-monitor : (W : Parts) (x : ℕ) (t : Option Thing) → t ≡ Some thing.Mutex → start_thing W x t ≡ start_monitor W x t
slot-monitor W x t is = subst (λ t. start_thing W x t ≡ start_monitor W x t) (sym is) refl

slot-eventual : (W : Parts) (x : ℕ) (t : Option Thing) → t ≡ Some thing.Eventual → start_thing W x t ≡ start_eventual t
slot-eventual W x t is = subst (λ t. start_thing W x t ≡ start_eventual t) (sym is) refl

slot-future : (W : Parts) (x : ℕ) (t : Option Thing) (n : ℕ) (c : Combine) → t ≡ Some (thing.Future n c) → start_thing W x t ≡ start_future t
slot-future W x t n c is = subst (λ t. start_thing W x t ≡ start_future t) (sym is) refl

slot-barrier : (W : Parts) (x n : ℕ) (t : Option Thing) → t ≡ Some (thing.Barrier n) → start_thing W x t ≡ start_barrier t
slot-barrier W x n t is = subst (λ t. start_thing W x t ≡ start_barrier t) (sym is) refl

slot-rwlock : (W : Parts) (x : ℕ) (t : Option Thing) → t ≡ Some thing.RwLock → start_thing W x t ≡ start_rwlock W t
slot-rwlock W x t is = subst (λ t. start_thing W x t ≡ start_rwlock W t) (sym is) refl

slot-there : (W : Parts) (objects : ObjectsValue) (x : ℕ) (t : Thing) → AreObjectsAtStart W objects → thing_at W x ≡ Some t → slot_from (slice_get objects.slots x) ≡ slot_at W x
slot-there W objects x t are is = ap slot_from (are.slots.own x (slice_get_within W.objects x t is))

-- the objects are those of the first state
pub objects-stand : (W : Parts) (objects : ObjectsValue) → AreObjectsAtStart W objects → (x : Site) → IsSite W x → object_at objects x ≡ start_object W x
objects-stand W objects are (site.Pool p) here = ap pool_from (are.pools.own p.0 here)
objects-stand W objects are (site.Desk u) here = ap desk_from (are.desks.own u.0 here)
objects-stand W objects are (site.Monitor x) here = slot-there W objects x.0 thing.Mutex are here ∙ slot-monitor W x.0 (thing_at W x.0) here
objects-stand W objects are (site.Eventual x) here = slot-there W objects x.0 thing.Eventual are here ∙ slot-eventual W x.0 (thing_at W x.0) here
objects-stand W objects are (site.Future x) here = slot-there W objects x.0 (thing.Future here.0 here.1) are here.2 ∙ slot-future W x.0 (thing_at W x.0) here.0 here.1 here.2
objects-stand W objects are (site.Barrier x) here = slot-there W objects x.0 (thing.Barrier here.0) are here.1 ∙ slot-barrier W x.0 here.0 (thing_at W x.0) here.1
objects-stand W objects are (site.Rw x) here = slot-there W objects x.0 thing.RwLock are here ∙ slot-rwlock W x.0 (thing_at W x.0) here

-- streams and objects are those of the first state
pub model-starts : (W : Parts) (lanes : List Held) (objects : ObjectsValue) → AreNumbered W.streams (start_part W) lanes → AreObjectsAtStart W objects → StandsFor W (start W) (record { lanes = lanes; objects = objects })
model-starts W lanes objects numbered are = record {
  lanes = record { many = numbered.many; own = λ k l. numbered.own k l ∙ ap (λ (held : Held). Some held) (sym (parts-start W k)) };
  objects = λ x here. objects-stand W objects are x here ∙ sym (objects-start W x);
  places = record { pools = are.pools.many; desks = are.desks.many; slots = are.slots.many };
}
