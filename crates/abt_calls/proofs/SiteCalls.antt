-- What may be asked at a declared site, in every state.
use Rattle.std.proofs.Common.{◌≡◌, ℕ, zero, suc, ◌<◌, ◌+◌, Bool, true, false, List, [], ◌∷◌, length, take, slice_get, Some, refl, sym, ◌∙◌, ap, subst, arith}
use Rattle.std.specs.Prelude.{cond, count_by, if◌then◌else◌}
use Rattle.std.proofs.lemmas.Bool.{cond-true, eq-eqb}
use Rattle.std.proofs.lemmas.List.{length-map}
use Rattle.std.proofs.lemmas.List.Sums.{sum_by-cons}
use Rattle.abt_machine.specs.declared.events.Site.{Site}
use Rattle.abt_machine.specs.declared.events.Site.TheVariants as site
use Rattle.abt_machine.specs.declared.operations.Thing.{Thing}
use Rattle.abt_machine.specs.declared.operations.Thing.TheVariants as thing
use Rattle.abt_machine.specs.declared.workload.Parts.{Parts}
use Rattle.abt_machine.specs.Workloads.{IsCondition, condition_number, is_condition_of, kind_of, mutex_of, mutex_from}
use Rattle.abt_machine.specs.State.{State}
use Rattle.abt_machine.specs.Values.{barrier_at, conditions_from, conditions_of, eventual_at, future_at, monitor_at, object_of, rwlock_at, waiters_at}
use Rattle.abt_machine.specs.Acts.{Act}
use Rattle.abt_laws.proofs.Options.{none≢some, some-injective}
use Rattle.abt_calls.specs.Allowed.{Allows, PoolAllows, DeskAllows, MonitorAllows, EventualAllows, BarrierAllows, RwLockAllows}
use Rattle.abt_calls.specs.Asking.{IsSite}

-- the site is declared, and the act may be asked there in every state
pub record MayAsk (W : Parts) (x : Site) (asked : Act) : Type 0 where
  pub site : IsSite W x
  pub allowed : (S : State) → Allows (object_of W S x) asked

-- what may be asked at a site, by its kind
abbrev pub KindAllows : Parts → Site → Act → Type 0
KindAllows W (site.Pool p) asked = PoolAllows (kind_of W p.0) asked
KindAllows W (site.Desk v) asked = DeskAllows asked
KindAllows W (site.Monitor x) asked = MonitorAllows (length (conditions_of W x.0)) asked
KindAllows W (site.Eventual x) asked = EventualAllows asked
KindAllows W (site.Future x) asked = EventualAllows asked
KindAllows W (site.Barrier x) asked = BarrierAllows asked
KindAllows W (site.Rw x) asked = RwLockAllows asked

-- an act at a declared site
pub may-at : (W : Parts) (x : Site) (asked : Act) → IsSite W x → KindAllows W x asked → MayAsk W x asked
may-at W (site.Pool p) asked is allowed = record { site = is; allowed = λ S. allowed }
may-at W (site.Desk v) asked is allowed = record { site = is; allowed = λ S. allowed }
may-at W (site.Monitor x) asked is allowed = record {
  site = is;
  allowed = λ S. subst (λ t. Allows (monitor_at W S x.0 t) asked) (sym is) (subst (λ n. MonitorAllows n asked) (sym (length-map (conditions_of W x.0) (waiters_at W S))) allowed);
}
may-at W (site.Eventual x) asked is allowed = record { site = is; allowed = λ S. subst (λ t. Allows (eventual_at W S x.0 t) asked) (sym is) allowed }
may-at W (site.Future x) asked is allowed = record { site = is; allowed = λ S. subst (λ t. Allows (future_at W S x.0 t) asked) (sym is.2) allowed }
may-at W (site.Barrier x) asked is allowed = record { site = is; allowed = λ S. subst (λ t. Allows (barrier_at W S x.0 t) asked) (sym is.1) allowed }
may-at W (site.Rw x) asked is allowed = record { site = is; allowed = λ S. subst (λ t. Allows (rwlock_at W S x.0 t) asked) (sym is) allowed }

-- Conditions.

at-more : (m i : ℕ) (b : Bool) (n : ℕ) (cs : List ℕ) → n < length cs → (if b then 1 else 0) + n < length (if b then i ∷ cs else cs)
at-more m i true n cs l = omega arith
at-more m i false n cs l = omega arith

-- as many conditions of a mutex stand before one as its number says
number-below : (m i x : ℕ) (ts : List Thing) (t : Thing) → slice_get ts x ≡ Some t → is_condition_of m t ≡ true → count_by (is_condition_of m) (take x ts) < length (conditions_from m i ts)
number-below m i x [] t is one = absurd (none≢some is)
number-below m i zero (r ∷ rs) t is one =
    let here : is_condition_of m r ≡ true = ap (is_condition_of m) (some-injective is) ∙ one in
    subst (λ cs. 0 < length cs) (sym (cond-true (is_condition_of m r) (i ∷ conditions_from m (suc i) rs) (conditions_from m (suc i) rs) here)) (omega arith)
number-below m i (suc x) (r ∷ rs) t is one =
    subst (λ n. n < length (conditions_from m i (r ∷ rs))) (sym (sum_by-cons (λ t. cond (is_condition_of m t) 1 0) r (take x rs)))
    (at-more m i (is_condition_of m r) (count_by (is_condition_of m) (take x rs)) (conditions_from m (suc i) rs) (number-below m (suc i) x rs t is one))

-- a condition's number is a place among the conditions of its mutex
pub condition-below : (W : Parts) (x : ℕ) → IsCondition W x → condition_number W x < length (conditions_of W (mutex_of W x))
condition-below W x is =
    let m : mutex_of W x ≡ is.0.0 = ap (mutex_from x) is.1 in
    number-below (mutex_of W x) 0 x W.objects (thing.Cond is.0) is.1 (ap (λ n. is_condition_of n (thing.Cond is.0)) m ∙ eq-eqb is.0.0 is.0.0 refl)
