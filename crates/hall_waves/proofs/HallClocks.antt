-- The clock of a hall: the greatest of those of its objects.
use Rattle.std.proofs.Common.{◌≡◌, ℕ, zero, suc, ◌≤◌, inl, inr, List, [], ◌∷◌, slice_get, Option, Some, None, refl, ap, subst, arith}
use Rattle.std.specs.List.{All}
use Rattle.std.proofs.lemmas.Option.{slice_get_within, get_or_from_slice_get}
use Rattle.abt_machine.specs.declared.events.Site.{Site}
use Rattle.abt_machine.specs.declared.events.Site.TheVariants as site
use Rattle.abt_machine.specs.declared.workload.Parts.{Parts}
use Rattle.abt_machine.specs.Numbers.{pool_no}
use Rattle.abt_machine.specs.Valid.{IsValid}
use Rattle.abt_laws.proofs.Options.{some-injective}
use Rattle.abt_calls.specs.Asking.{IsSite}
use Rattle.abt_commons.specs.Halls.{IsGreatest}
use Rattle.abt_commons.specs.Held.{ObjectsValue, clock_at, clock_from, numbered_clock}
use Rattle.abt_commons.specs.Sites.{site_number}
use Rattle.hall_waves.specs.HallLocks.{clock_of_hall, greatest}

-- no clock is above the greatest
one-below : (clocks : List ℕ) (i clock : ℕ) → slice_get clocks i ≡ Some clock → clock ≤ greatest clocks
one-below [] i clock e = cc
one-below (c ∷ cs) zero clock e = let q : c ≡ clock = some-injective e in omega arith
one-below (c ∷ cs) (suc i) clock e = let low : clock ≤ greatest cs = one-below cs i clock e in omega arith

-- it is no greater than what none is above
all-below : (clocks : List ℕ) (bound : ℕ) → ((i clock : ℕ) → slice_get clocks i ≡ Some clock → clock ≤ bound) → greatest clocks ≤ bound
all-below [] bound low = omega arith
all-below (c ∷ cs) bound low =
    let here : c ≤ bound = low 0 c refl in
    let later : greatest cs ≤ bound = all-below cs bound (λ i clock e. low (suc i) clock e) in
    omega arith

at : (clocks : List ℕ) (F : ℕ → Type 0) → All F clocks → (i clock : ℕ) → slice_get clocks i ≡ Some clock → F clock
at clocks F all i clock e = subst F (get_or_from_slice_get clocks i clock clock e) (all i clock (slice_get_within clocks i clock e))

pub greatest-is : (clock : ℕ) (clocks : List ℕ) → IsGreatest clock clocks → clock ≡ greatest clocks
greatest-is clock clocks is =
    let low : greatest clocks ≤ clock = all-below clocks clock (at clocks (λ c. c ≤ clock) is.above) in
    let high : clock ≤ greatest clocks = elim is.one [ inl z ↦ omega (arith, z) | inr one ↦ one-below clocks one.0 clock one.1 ] in
    omega arith

-- the clock that is carried to the lock, as a function
pub carried-is : (clock : ℕ) (held : ObjectsValue) → IsGreatest clock held.clocks → (λ (l : Unit {0}). clock) ≡ clock_of_hall held
carried-is clock held is = ap {B = Unit {0} → ℕ} (λ k l. k) (greatest-is clock held.clocks is)

-- if every clock is the same, and so is that of each site, that is the greatest
pub every-is : (W : Parts) (held : ObjectsValue) (clock : ℕ) → IsValid W → ((x : Site) → IsSite W x → clock_at held x ≡ clock) → All (λ c. c ≡ clock) held.clocks → greatest held.clocks ≡ clock
every-is W held clock valid sites every =
    let low : greatest held.clocks ≤ clock = all-below held.clocks clock (λ i c e. (let q : c ≡ clock = at held.clocks (λ d. d ≡ clock) every i c e in omega arith)) in
    let high : clock ≤ greatest held.clocks = numbered (site_number held.workload (site.Pool (pool_no 0))) (sites (site.Pool (pool_no 0)) valid.some_pool) in
    omega arith where
      there : (o : Option ℕ) → ((c : ℕ) → o ≡ Some c → c ≤ greatest held.clocks) → clock_from o ≡ clock → clock ≤ greatest held.clocks
      there None some e = (let q : 0 ≡ clock = e in omega arith)
      there (Some c) some e = (let q : c ≡ clock = e in let low = some c refl in omega arith)

      numbered : (o : Option ℕ) → numbered_clock held.clocks o ≡ clock → clock ≤ greatest held.clocks
      numbered None e = (let q : 0 ≡ clock = e in omega arith)
      numbered (Some i) e = there (slice_get held.clocks i) (λ c f. one-below held.clocks i c f) e
