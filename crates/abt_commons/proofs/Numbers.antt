-- The numbers of sites.
use Rattle.std.proofs.Common.{◌≡◌, ◌≢◌, ℕ, zero, suc, ◌+◌, ◌-◌, ◌<◌, nat_lt, List, [], ◌∷◌, map, set, length, slice_get, replicate, Option, Some, None, refl, sym, ◌∙◌, ap, subst, arith, inl, inr}
use Rattle.std.proofs.lemmas.Bool.{cond-true, cond-false, lt-ltb, le-ltb}
use Rattle.std.proofs.lemmas.Option.{slice_get_within, slice_get_cases}
use Rattle.abt_machine.specs.declared.events.Site.{Site}
use Rattle.abt_machine.specs.declared.events.Site.TheVariants as site
use Rattle.abt_machine.specs.declared.numbers.ObjectNo.{ObjectNo}
use Rattle.abt_machine.specs.declared.operations.Combine.{Combine}
use Rattle.abt_machine.specs.declared.operations.Thing.{Thing}
use Rattle.abt_machine.specs.declared.operations.Thing.TheVariants as thing
use Rattle.abt_machine.specs.declared.workload.Parts.{Parts}
use Rattle.abt_machine.specs.Numbers.{pool_no, unit_no}
use Rattle.abt_machine.specs.Workloads.{thing_at}
use Rattle.abt_laws.proofs.Options.{none≢some, some-injective}
use Rattle.abt_commons.specs.Sites.{sites, site_numbered, site_of, site_number, thing_number, declared_number, monitor_number, eventual_number, future_number, barrier_number, rwlock_number}

-- The kind of a thing that has a number as such a kind, and the number.

pub monitor-is : (k i : ℕ) (t : Option Thing) → monitor_number k t ≡ Some i → (t ≡ Some thing.Mutex) × (k ≡ i)
monitor-is k i (Some thing.Mutex) e = (refl, some-injective e)
monitor-is k i t e = absurd (none≢some e)

pub eventual-is : (k i : ℕ) (t : Option Thing) → eventual_number k t ≡ Some i → (t ≡ Some thing.Eventual) × (k ≡ i)
eventual-is k i (Some thing.Eventual) e = (refl, some-injective e)
eventual-is k i t e = absurd (none≢some e)

pub future-is : (k i : ℕ) (t : Option Thing) → future_number k t ≡ Some i → (n : ℕ) × (c : Combine) × (t ≡ Some (thing.Future n c)) × (k ≡ i)
future-is k i (Some (thing.Future n c)) e = (n, c, refl, some-injective e)
future-is k i t e = absurd (none≢some e)

pub barrier-is : (k i : ℕ) (t : Option Thing) → barrier_number k t ≡ Some i → (n : ℕ) × (t ≡ Some (thing.Barrier n)) × (k ≡ i)
barrier-is k i (Some (thing.Barrier n)) e = (n, refl, some-injective e)
barrier-is k i t e = absurd (none≢some e)

pub rwlock-is : (k i : ℕ) (t : Option Thing) → rwlock_number k t ≡ Some i → (t ≡ Some thing.RwLock) × (k ≡ i)
rwlock-is k i (Some thing.RwLock) e = (refl, some-injective e)
rwlock-is k i t e = absurd (none≢some e)

module _ (W : Parts) where
  abbrev before : ℕ
  before = length W.pools + length W.units

  pub pool-there : (p : ℕ) → p < length W.pools → site_numbered W p ≡ Some (site.Pool (pool_no p))
  pool-there p lt = cond-true (nat_lt p (length W.pools)) _ _ (lt-ltb p (length W.pools) lt)

  pub desk-there : (u : ℕ) → u < length W.units → site_numbered W (length W.pools + u) ≡ Some (site.Desk (unit_no u))
  desk-there u lt =
      let e : length W.pools + u - length W.pools ≡ u = omega arith in
      cond-false (nat_lt (length W.pools + u) (length W.pools)) _ _ (le-ltb (length W.pools + u) (length W.pools) (omega arith))
      ∙ (cond-true (nat_lt (length W.pools + u) before) _ _ (lt-ltb (length W.pools + u) before (omega (arith, lt)))
      ∙ ap (λ n. Some (site.Desk (unit_no n))) e)

  pub thing-there : (x : ℕ) (t : Option Thing) → thing_at W x ≡ t → site_numbered W (thing_number W x) ≡ site_of x t
  thing-there x t is =
      let e : thing_number W x - before ≡ x = omega arith in
      cond-false (nat_lt (thing_number W x) (length W.pools)) _ _ (le-ltb (thing_number W x) (length W.pools) (omega arith))
      ∙ (cond-false (nat_lt (thing_number W x) before) _ _ (le-ltb (thing_number W x) before (omega arith))
      ∙ (ap (λ n. site_of n (thing_at W n)) e ∙ ap (site_of x) is))

  -- it is a number, and that of the site
  abbrev Numbers : Site → ℕ → Type 0
  Numbers x i = (i < sites W) × (site_numbered W i ≡ Some x)

  declared-by : {Part : Type 0} (x : Site) (k i : ℕ) (part : Option Part) → ((t : Part) → part ≡ Some t → Numbers x k) → declared_number k part ≡ Some i → Numbers x i
  declared-by x k i (Some t) there is = subst (Numbers x) (some-injective is) (there t refl)
  declared-by x k i None there is = absurd (none≢some is)

  thing-numbered : (x : ObjectNo) (y : Site) (i : ℕ) (t : Thing) → thing_at W x.0 ≡ Some t → site_of x.0 (Some t) ≡ Some y → thing_number W x.0 ≡ i → Numbers y i
  thing-numbered x y i t is there e =
      let lt = slice_get_within W.objects x.0 t is in
      subst (Numbers y) e (omega (arith, lt), thing-there x.0 (Some t) is ∙ there)

  numbered : (x : Site) (i : ℕ) → site_number W x ≡ Some i → Numbers x i
  numbered (site.Pool p) i e = declared-by (site.Pool p) p.0 i (slice_get W.pools p.0)
      (λ t is. (let lt = slice_get_within W.pools p.0 t is in omega (arith, lt), pool-there p.0 (slice_get_within W.pools p.0 t is))) e
  numbered (site.Desk u) i e = declared-by (site.Desk u) (length W.pools + u.0) i (slice_get W.units u.0)
      (λ t is. (let lt = slice_get_within W.units u.0 t is in omega (arith, lt), desk-there u.0 (slice_get_within W.units u.0 t is))) e
  numbered (site.Monitor x) i e = let h = monitor-is (thing_number W x.0) i (thing_at W x.0) e in thing-numbered x (site.Monitor x) i thing.Mutex h.0 refl h.1
  numbered (site.Eventual x) i e = let h = eventual-is (thing_number W x.0) i (thing_at W x.0) e in thing-numbered x (site.Eventual x) i thing.Eventual h.0 refl h.1
  numbered (site.Future x) i e = let h = future-is (thing_number W x.0) i (thing_at W x.0) e in thing-numbered x (site.Future x) i (thing.Future h.0 h.1) h.2 refl h.3
  numbered (site.Barrier x) i e = let h = barrier-is (thing_number W x.0) i (thing_at W x.0) e in thing-numbered x (site.Barrier x) i (thing.Barrier h.0) h.1 refl h.2
  numbered (site.Rw x) i e = let h = rwlock-is (thing_number W x.0) i (thing_at W x.0) e in thing-numbered x (site.Rw x) i thing.RwLock h.0 refl h.1

  pub number-within : (x : Site) (i : ℕ) → site_number W x ≡ Some i → i < sites W
  number-within x i is = (numbered x i is).0

  -- no number is of two sites
  pub one-site : (x y : Site) (i : ℕ) → site_number W x ≡ Some i → site_number W y ≡ Some i → x ≡ y
  one-site x y i is is' = some-injective (sym (numbered x i is).1 ∙ (numbered y i is').1)

  -- A declared site has a number.

  pub declared-some : {Part : Type 0} (i : ℕ) (parts : List Part) (k : ℕ) → k < length parts → declared_number i (slice_get parts k) ≡ Some i
  declared-some i parts k lt = elim (slice_get_cases parts k).1 [
    | inl x ↦ ap (declared_number i) x.2
    | inr past ↦ absurd (omega (arith, past.0, lt))
  ]

-- Lists of one item many times, and with one item set.

pub get-replicate : {B : Type 0} (n i : ℕ) (v : B) → i < n → slice_get (replicate n v) i ≡ Some v
get-replicate zero i v lt = absurd (omega (arith, lt))
get-replicate (suc n) zero v lt = refl
get-replicate (suc n) (suc i) v lt = get-replicate n i v (omega (arith, lt))

pub get-set-other : {B : Type 0} (xs : List B) (i j : ℕ) (v : B) → j ≢ i → slice_get (set xs i v) j ≡ slice_get xs j
get-set-other [] i j v ne = refl
get-set-other (x ∷ xs) zero zero v ne = absurd (ne refl)
get-set-other (x ∷ xs) zero (suc j) v ne = refl
get-set-other (x ∷ xs) (suc i) zero v ne = refl
get-set-other (x ∷ xs) (suc i) (suc j) v ne = get-set-other xs i j v (λ e. ne (ap suc e))

pub get-set-here : {B : Type 0} (xs : List B) (i : ℕ) (v : B) → i < length xs → slice_get (set xs i v) i ≡ Some v
get-set-here [] i v lt = absurd (omega (arith, lt))
get-set-here (x ∷ xs) zero v lt = refl
get-set-here (x ∷ xs) (suc i) v lt = get-set-here xs i v (omega (arith, lt))

pub map-set : {A B : Type 0} (f : A → B) (xs : List A) (i : ℕ) (v : A) → map f (set xs i v) ≡ set (map f xs) i (f v)
map-set f [] i v = refl
map-set f (x ∷ xs) zero v = refl
map-set f (x ∷ xs) (suc i) v = ap (λ ys. f x ∷ ys) (map-set f xs i v)
