-- Declared sites, by their places.
use Rattle.std.proofs.Common.{◌≡◌, ◌∙◌, ℕ, true, Option, None, Some, ap, refl, sym}
use Rattle.std.proofs.lemmas.Bool.{eq-eqb, eqb-true}
use Rattle.abt_machine.specs.declared.events.Site.{Site}
use Rattle.abt_machine.specs.declared.events.Site.TheVariants as site
use Rattle.abt_machine.specs.declared.operations.Thing.{Thing}
use Rattle.abt_machine.specs.declared.operations.Thing.TheVariants as thing
use Rattle.abt_machine.specs.declared.workload.Parts.{Parts}
use Rattle.abt_machine.specs.Numbers.{object_no, pool_no, unit_no}
use Rattle.abt_machine.specs.Workloads.{thing_at}
use Rattle.abt_machine.specs.Sites.{place_number}
use Rattle.abt_laws.proofs.Options.{some-injective}
use Rattle.abt_calls.specs.Asking.{IsSite}
use Rattle.abt_replay.specs.Objects.{same_place}

-- a site has its own place
pub own-place : (x : Site) → same_place x x ≡ true
own-place (site.Pool p) = eq-eqb p.0 p.0 refl
own-place x = eq-eqb (place_number x) (place_number x) refl

-- the site of a declared object
abbrev site_for : Thing → ℕ → Option Site
site_for thing.Mutex n = Some (site.Monitor (object_no n))
site_for (thing.Cond m) n = None
site_for thing.Eventual n = Some (site.Eventual (object_no n))
site_for (thing.Future size combine) n = Some (site.Future (object_no n))
site_for (thing.Barrier size) n = Some (site.Barrier (object_no n))
site_for thing.RwLock n = Some (site.Rw (object_no n))

-- an object of that number is declared whose site this is
record IsFor (W : Parts) (x : Site) (n : ℕ) : Type 0 where
  pub object : Thing
  pub there : thing_at W n ≡ Some object
  pub own : site_for object n ≡ Some x

-- the same holds of a declared site, unless that is a pool or a desk
abbrev IsForOwn : Parts → Site → Type 0
IsForOwn W (site.Pool p) = Unit {0}
IsForOwn W (site.Desk u) = Unit {0}
IsForOwn W x = IsFor W x (place_number x)

for-own : (W : Parts) (x : Site) → IsSite W x → IsForOwn W x
for-own W (site.Pool p) is = tt
for-own W (site.Desk u) is = tt
for-own W (site.Monitor x) is = record { object = thing.Mutex; there = is; own = refl }
for-own W (site.Eventual x) is = record { object = thing.Eventual; there = is; own = refl }
for-own W (site.Future x) is = record { object = thing.Future is.0 is.1; there = is.2; own = refl }
for-own W (site.Barrier x) is = record { object = thing.Barrier is.0; there = is.1; own = refl }
for-own W (site.Rw x) is = record { object = thing.RwLock; there = is; own = refl }

-- and one object has one site
one-site : (W : Parts) (x y : Site) (m n : ℕ) → IsFor W x m → IsFor W y n → n ≡ m → x ≡ y
one-site W x y m n a b same =
    let there : thing_at W m ≡ Some b.object = ap (thing_at W) (sym same) ∙ b.there in
    let things : a.object ≡ b.object = some-injective (sym a.there ∙ there) in
    some-injective (sym a.own ∙ (ap (λ t. site_for t m) things ∙ (ap (site_for b.object) (sym same) ∙ b.own)))

-- two declared sites with one place are one
pub one-place : (W : Parts) (x y : Site) → IsSite W x → IsSite W y → same_place x y ≡ true → x ≡ y
one-place W (site.Pool p) (site.Pool q) a b e = ap (λ n. site.Pool (pool_no n)) (eqb-true p.0 q.0 e)
one-place W (site.Pool p) y a b e = cc
one-place W (site.Desk u) (site.Desk v) a b e = ap (λ n. site.Desk (unit_no n)) (eqb-true u.0 v.0 e)
one-place W (site.Desk u) y a b e = cc
one-place W x (site.Pool q) a b e = cc
one-place W x (site.Desk v) a b e = cc
one-place W x y a b e = one-site W x y (place_number x) (place_number y) (for-own W x a) (for-own W y b) (eqb-true (place_number y) (place_number x) e)
