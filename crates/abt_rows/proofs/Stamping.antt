-- Lamport's stamps of a computed journal: of one stream by the way that it was computed, of more streams decided.
use Rattle.std.proofs.Common.{ℕ, zero, suc, ◌≡◌, ◌≢◌, ◌<◌, ◌+◌, ◌++◌, List, [], ◌∷◌, length, replicate, Option, Some, None, Contains, refl, ap, sym, subst, ◌∙◌, arith, ◌⊎◌, inl, inr}
use Rattle.std.proofs.lemmas.List.Elements.{All-contains, Contains-push, Contains-push_cases}
use Rattle.std.proofs.lemmas.Option.{none-some, same_Some}
use Rattle.abt_machine.specs.declared.events.Event.{Event}
use Rattle.abt_machine.specs.declared.events.Site.{Site}
use Rattle.abt_machine.specs.declared.events.Site.TheVariants as site
use Rattle.abt_machine.specs.Stored.{Stored}
use Rattle.abt_machine.specs.declared.workload.Parts.{Parts}
use Rattle.abt_machine.specs.Events.{after}
use Rattle.abt_machine.specs.Numbers.{object_no, pool_no, stream_no, unit_no}
use Rattle.abt_machine.specs.EventSites.{event_site}
use Rattle.abt_machine.specs.Stamps.{AllAfter, Follows, IsLeast, Lamport, LamportFrom, SameSite, Shares, Stamped, StampedFrom}
use Rattle.abt_machine.specs.Start.{start}
use Rattle.abt_machine.specs.State.{State}
use Rattle.abt_machine.specs.Sites.{place_number}
use Rattle.abt_rows.proofs.Deciding.{all, apart, either, given, is_at_most, is_less, same}
use Rattle.abt_rows.proofs.Running.{Coming, Ran, coming, ran_by, ran_from}

-- Of one stream.

-- all are events of stream 0, and their stamps are t, t + 1 and so on
abbrev Counts : ℕ → List Event → Type 0
Counts t [] = Unit {0}
Counts t (e ∷ es) = (e.stream ≡ stream_no 0) × (e.stamp ≡ t) × Counts (suc t) es

count-from : (W : Parts) (Z : Stored) (S : State) (o : Option (0 < W.streams)) (t : ℕ) (c : Option (Coming W Z S 0)) (rest : (c : Coming W Z S 0) → Ran W Z (after W S 0 c.0)) →
    ((c : Coming W Z S 0) → Counts (suc t) (rest c).0) → Counts t (ran_from W Z S 0 o t c rest).0
count-from W Z S (Some is) t (Some c) rest count = (refl, refl, count c)
count-from W Z S (Some is) t None rest count = tt
count-from W Z S None t c rest count = tt

count-by-turn : (W : Parts) (Z : Stored) (n t : ℕ) (S : State) → Counts t (ran_by W Z (replicate n 0) t S).0
count-by-turn W Z zero t S = tt
count-by-turn W Z (suc n) t S =
    count-from W Z S (is_less 0 W.streams) t (coming W Z S 0) (λ c. ran_by W Z (replicate n 0) (suc t) (after W S 0 c.0)) (λ c. count-by-turn W Z n (suc t) (after W S 0 c.0))

later : (W : Parts) (e : Event) (es : List Event) (t : ℕ) → e.stamp < t → Counts t es → AllAfter W e es
later W e [] t below c = tt
later W e (f ∷ fs) t below c = let here : f.stamp ≡ t = c.1 in (λ h. omega arith, later W e fs (suc t) (omega arith) c.2)

rising : (W : Parts) (e : Event) (es : List Event) → Counts (suc e.stamp) es → StampedFrom W e es
rising W e [] c = tt
rising W e (f ∷ fs) c =
    let here : f.stamp ≡ suc e.stamp = c.1 in
    let rest : Counts (suc f.stamp) fs = subst (λ t. Counts (suc t) fs) (sym here) c.2 in
    ((omega arith, omega arith, λ e. absurd (omega arith)), later W e (f ∷ fs) (suc e.stamp) (omega arith) c, rising W f fs rest)

-- t is 1, or one more than an earlier stamp of stream 0
abbrev IsNext : List Event → ℕ → Type 0
IsNext earlier t = (t ≡ 1) ⊎ ((f : Event) × Contains earlier f × (f.stream ≡ stream_no 0) × (t ≡ f.stamp + 1))

least : (W : Parts) (earlier : List Event) (e : Event) → e.stream ≡ stream_no 0 → IsNext earlier e.stamp → IsLeast W earlier e
least W earlier e own (inl one) = inl one
least W earlier e own (inr f) = inr (f.0, f.1, inl (ap (λ (s : _). s.0) (f.2 ∙ sym own)), f.3)

below-with : (earlier : List Event) (e : Event) (t : ℕ) → e.stamp ≡ t → ((f : Event) → Contains earlier f → f.stamp < t) → (f : Event) → Contains (earlier ++ e ∷ []) f → f.stamp < suc t
below-with earlier e t is below f at = elim (Contains-push_cases earlier e f at) [
  | inl before ↦ (let lt : f.stamp < t = below f before in omega arith)
  | inr equal ↦ (let eq : e.stamp ≡ f.stamp = ap (λ (e : Event). e.stamp) equal in omega arith)
]

counting : (W : Parts) (earlier es : List Event) (t : ℕ) → ((f : Event) → Contains earlier f → f.stamp < t) → IsNext earlier t → Counts t es → LamportFrom W earlier es
counting W earlier [] t below is c = tt
counting W earlier (e ∷ es) t below is c =
    let here : e.stamp ≡ t = c.1 in (
      λ f at h. (let lt : f.stamp < t = below f at in omega arith),
      least W earlier e c.0 (subst (IsNext earlier) (sym here) is),
      counting W (earlier ++ e ∷ []) es (suc t) (below-with earlier e t here below) (inr (e, Contains-push earlier e, c.0, omega arith)) c.2,
    )

stamped-by-count : (W : Parts) (J : List Event) → Counts 1 J → Stamped W J
stamped-by-count W [] c = tt
stamped-by-count W (e ∷ es) c = let here : e.stamp ≡ 1 = c.1 in (here, rising W e es (subst (λ t. Counts (suc t) es) (sym here) c.2))

-- the events that stream 0 makes by itself have Lamport's stamps
pub lone : (W : Parts) (Z : Stored) (n : ℕ) → Lamport W (ran_by W Z (replicate n 0) 1 (start W)).0
lone W Z n =
    let c : Counts 1 (ran_by W Z (replicate n 0) 1 (start W)).0 = count-by-turn W Z n 1 (start W) in
    (stamped-by-count W _ c, counting W [] _ 1 (λ f at. (let lt : at.0 < 0 = at.1 in absurd (omega arith))) (inl refl) c)

-- Of more streams.

abbrev kind_number : Site → ℕ
kind_number (site.Pool p) = 0
kind_number (site.Desk u) = 1
kind_number (site.Monitor x) = 2
kind_number (site.Eventual x) = 3
kind_number (site.Future x) = 4
kind_number (site.Barrier x) = 5
kind_number (site.Rw x) = 6

abbrev other_site : (a b : Site) → Option (a ≢ b)
other_site a b =
    either (given (apart (kind_number a) (kind_number b)) (λ no. Some (λ e. no (ap kind_number e))))
    (given (apart (place_number a) (place_number b)) (λ no. Some (λ e. no (ap place_number e))))

abbrev same_site : (a b : Site) → Option (a ≡ b)
same_site (site.Pool p) (site.Pool q) = given (same p.0 q.0) (λ e. Some (ap (λ n. site.Pool (pool_no n)) e))
same_site (site.Desk u) (site.Desk v) = given (same u.0 v.0) (λ e. Some (ap (λ n. site.Desk (unit_no n)) e))
same_site (site.Monitor x) (site.Monitor y) = given (same x.0 y.0) (λ e. Some (ap (λ n. site.Monitor (object_no n)) e))
same_site (site.Eventual x) (site.Eventual y) = given (same x.0 y.0) (λ e. Some (ap (λ n. site.Eventual (object_no n)) e))
same_site (site.Future x) (site.Future y) = given (same x.0 y.0) (λ e. Some (ap (λ n. site.Future (object_no n)) e))
same_site (site.Barrier x) (site.Barrier y) = given (same x.0 y.0) (λ e. Some (ap (λ n. site.Barrier (object_no n)) e))
same_site (site.Rw x) (site.Rw y) = given (same x.0 y.0) (λ e. Some (ap (λ n. site.Rw (object_no n)) e))
same_site a b = None

abbrev no_site : (W : Parts) (e f : Event) (a b : Option Site) → event_site W e ≡ a → event_site W f ≡ b → Option (SameSite W e f → ⊥)
no_site W e f None b is also = Some (λ h. none-some h.0 (sym is ∙ h.1))
no_site W e f (Some x) None is also = Some (λ h. none-some h.0 (sym also ∙ h.2))
no_site W e f (Some x) (Some y) is also =
    given (other_site x y) (λ no. Some (λ h. no (same_Some x h.0 (sym is ∙ h.1) ∙ sym (same_Some y h.0 (sym also ∙ h.2)))))

pub neither : (W : Parts) (e f : Event) → e.stream.0 ≢ f.stream.0 → (SameSite W e f → ⊥) → Shares W e f → ⊥
neither W e f streams sites (inl own) = streams own
neither W e f streams sites (inr site) = sites site

-- whether they share nothing
abbrev pub unshared : (W : Parts) (e f : Event) → Option (Shares W e f → ⊥)
unshared W e f =
    given (apart e.stream.0 f.stream.0) (λ streams.
    given (no_site W e f (event_site W e) (event_site W f) refl refl) (λ sites. Some (neither W e f streams sites)))

abbrev one_site : (W : Parts) (e f : Event) (a b : Option Site) → event_site W e ≡ a → event_site W f ≡ b → Option (SameSite W e f)
one_site W e f (Some x) (Some y) is also = given (same_site x y) (λ e. Some (x, is, also ∙ ap (λ z. Some z) (sym e)))
one_site W e f None b is also = None
one_site W e f (Some x) None is also = None

-- whether they share a stream or a site
abbrev shared : (W : Parts) (e f : Event) → Option (Shares W e f)
shared W e f =
    either (given (same e.stream.0 f.stream.0) (λ own. Some (inl own)))
    (given (one_site W e f (event_site W e) (event_site W f) refl refl) (λ site. Some (inr site)))

abbrev rises : (W : Parts) (e f : Event) → Option (Shares W e f → e.stamp < f.stamp)
rises W e f =
    either (given (is_less e.stamp f.stamp) (λ lt. Some (λ h. lt)))
    (given (unshared W e f) (λ no. Some (λ h. absurd (no h))))

abbrev follows : (e f : Event) → Option (Follows e f)
follows e f =
    given (is_at_most e.stamp f.stamp) (λ keeps.
    given (is_at_most f.stamp (e.stamp + 1)) (λ near.
    given (either (given (apart e.stamp f.stamp) (λ no. Some (λ equal. absurd (no equal)))) (given (is_less e.stream.0 f.stream.0) (λ lt. Some (λ equal. lt)))) (λ order.
    Some (keeps, near, order))))

abbrev all_after : (W : Parts) (e : Event) (fs : List Event) → Option (AllAfter W e fs)
all_after W e [] = Some tt
all_after W e (f ∷ fs) = given (rises W e f) (λ here. given (all_after W e fs) (λ rest. Some (here, rest)))

abbrev stamped_from : (W : Parts) (e : Event) (es : List Event) → Option (StampedFrom W e es)
stamped_from W e [] = Some tt
stamped_from W e (f ∷ fs) =
    given (follows e f) (λ next. given (all_after W e (f ∷ fs)) (λ here. given (stamped_from W f fs) (λ rest. Some (next, here, rest))))

abbrev stamped : (W : Parts) (J : List Event) → Option (Stamped W J)
stamped W [] = Some tt
stamped W (e ∷ es) = given (same e.stamp 1) (λ one. given (stamped_from W e es) (λ rest. Some (one, rest)))

-- an earlier event that shares something with e, of the stamp before
abbrev Cause : Parts → List Event → Event → Type 0
Cause W earlier e = (f : Event) × Contains earlier f × Shares W f e × (e.stamp ≡ f.stamp + 1)

pub at-first : (W : Parts) (f : Event) (fs : List Event) (e : Event) → Shares W f e → e.stamp ≡ f.stamp + 1 → Cause W (f ∷ fs) e
at-first W f fs e h is = (f, (0, omega arith, refl), h, is)

pub further : (W : Parts) (f : Event) (fs : List Event) (e : Event) → Cause W fs e → Cause W (f ∷ fs) e
further W f fs e c = let lt : c.1.0 < length fs = c.1.1 in (c.0, (suc c.1.0, omega arith, c.1.2), c.2, c.3)

abbrev caused : (W : Parts) (earlier : List Event) (e : Event) → Option (Cause W earlier e)
caused W [] e = None
caused W (f ∷ fs) e =
    either (given (same e.stamp (f.stamp + 1)) (λ is. given (shared W f e) (λ h. Some (at-first W f fs e h is))))
    (given (caused W fs e) (λ c. Some (further W f fs e c)))

abbrev is_least : (W : Parts) (earlier : List Event) (e : Event) → Option (IsLeast W earlier e)
is_least W earlier e = either (given (same e.stamp 1) (λ one. Some (inl one))) (given (caused W earlier e) (λ c. Some (inr c)))

abbrev lamport_from : (W : Parts) (earlier es : List Event) → Option (LamportFrom W earlier es)
lamport_from W earlier [] = Some tt
lamport_from W earlier (e ∷ es) =
    given (all (λ f. Shares W f e → f.stamp < e.stamp) (λ f. rises W f e) earlier) (λ before.
    given (is_least W earlier e) (λ least.
    given (lamport_from W (earlier ++ e ∷ []) es) (λ rest.
    Some (λ f at. All-contains (λ f. Shares W f e → f.stamp < e.stamp) earlier f before at, least, rest))))

-- whether a journal has Lamport's stamps
abbrev pub lamport : (W : Parts) (J : List Event) → Option (Lamport W J)
lamport W J = given (stamped W J) (λ rising. given (lamport_from W [] J) (λ least. Some (rising, least)))
