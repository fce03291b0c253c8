-- Clocks along a journal.
use Rattle.std.proofs.Common.{◌≡◌, ◌≢◌, ◌∙◌, ℕ, ◌≤◌, ◌<◌, ◌==◌, Bool, true, false, List, [], ◌∷◌, ◌++◌, Contains, Option, None, Some, ap, arith, get_or, get_or-set_same, inl, inr, length, refl, replicate, slice_set, subst, sym}
use Rattle.std.proofs.lemmas.Bool.{cases_lt, eqb-false, eqb-true}
use Rattle.std.proofs.lemmas.List.{get_or-replicate, get_or-set_other, get_or_past, length-replicate, length-set}
use Rattle.std.proofs.lemmas.List.Elements.{Contains-append_left, Contains-push, Contains-push_cases}
use Rattle.std.proofs.lemmas.Option.{slice_get_within}
use Rattle.abt_machine.specs.declared.events.Event.{Event}
use Rattle.abt_machine.specs.declared.events.Site.{Site}
use Rattle.abt_machine.specs.declared.events.Site.TheVariants as site
use Rattle.abt_machine.specs.declared.workload.Parts.{Parts}
use Rattle.abt_machine.specs.EventSites.{event_site}
use Rattle.abt_machine.specs.Stamps.{Shares, Stamped}
use Rattle.abt_machine.specs.Sites.{place_number}
use Rattle.abt_calls.specs.Asking.{IsSite}
use Rattle.abt_laws.proofs.Options.{none≢some, some-injective}
use Rattle.abt_replay.specs.Objects.{same_place}
use Rattle.abt_check.specs.Clocks.{AreClocks, ClocksValue, FollowsLast, HasClocks, IsAllowed, IsLatest, IsOfStream, Stamps, Touches, clock_at, clock_of, noted, with_clock, with_site}
use Rattle.abt_model.proofs.Sites.{one-place, own-place}
use Rattle.abt_check.proofs.Stamping.{last-push, stamped-above, stamped-last, stamped-push, stamped-some}

-- The greatest stamp.

none-there : (f : Event) → Contains [] f → ⊥
none-there f (k, l, e) = omega arith

none-latest : (P : Event → Type 0) (t : ℕ) → t ≡ 0 → IsLatest [] P t
none-latest P t is = record { above = λ f has p. absurd (none-there f has); reached = inl is }

module _ (J : List Event) (e : Event) (P : Event → Type 0) (t : ℕ) (h : IsLatest J P t) where
  latest-own : t ≤ e.stamp → P e → IsLatest (J ++ e ∷ []) P e.stamp
  latest-own up own = record {
    above = λ f has p. elim (Contains-push_cases J e f has) [
      | inl c ↦ (let below : f.stamp ≤ t = h.above f c p in omega arith)
      | inr same ↦ (let equal : e.stamp ≡ f.stamp = ap (λ (e : Event). e.stamp) same in omega arith)
    ];
    reached = inr (e, Contains-push J e, own, refl);
  }

  latest-other : (P e → ⊥) → IsLatest (J ++ e ∷ []) P t
  latest-other differs = record {
    above = λ f has p. elim (Contains-push_cases J e f has) [
      | inl c ↦ h.above f c p
      | inr same ↦ absurd (differs (subst P (sym same) p))
    ];
    reached = elim h.reached [
      | inl is ↦ inl is
      | inr f ↦ inr (f.0, Contains-append_left J (e ∷ []) f.0 f.1, f.2, f.3)
    ];
  }

  -- a stamp that is above all these is above their greatest
  latest-below : 1 ≤ e.stamp → ((f : Event) → Contains J f → P f → f.stamp < e.stamp) → t < e.stamp
  latest-below one above = elim h.reached [
    | inl is ↦ omega arith
    | inr f ↦ (let below : f.0.stamp < e.stamp = above f.0 f.1 f.2 in let is : f.0.stamp ≡ t = f.3 in omega arith)
  ]

-- What may come.

module _ (W : Parts) (J : List Event) (c : ClocksValue) (x : Option Site) (e : Event) (are : AreClocks W J c) (st : Stamped W J) (at : x ≡ event_site W e) (declared : (y : Site) → event_site W e ≡ Some y → IsSite W y) where
  site-clock : (y : Site) → event_site W e ≡ Some y → clock_of c x ≡ clock_at c y
  site-clock y is = ap (clock_of c) (at ∙ is)

  shared-below : IsAllowed c x e → (f : Event) → Contains J f → Shares W f e → f.stamp < e.stamp
  shared-below ok f has (inl same) =
      let below : f.stamp ≤ get_or c.streams e.stream.0 0 = (are.streams e.stream.0).above f has same in
      let up : get_or c.streams e.stream.0 0 < e.stamp = ok.stream in omega arith
  shared-below ok f has (inr (y, one, two)) =
      let below : f.stamp ≤ clock_at c y = (are.sites y (declared y two)).above f has one in
      let same : clock_of c x ≡ clock_at c y = site-clock y two in
      let up : clock_of c x < e.stamp = ok.site in omega arith

  pub allowed-stamped : IsAllowed c x e → Stamped W (J ++ e ∷ [])
  allowed-stamped ok = stamped-push W J e st (subst (λ (l : Option Event). FollowsLast l e) are.last_is ok.follows) (shared-below ok)

  site-below : (y : Option Site) → event_site W e ≡ y → Stamped W (J ++ e ∷ []) → clock_of c y < e.stamp
  site-below None is more = let one : 1 ≤ e.stamp = stamped-some W J e more in omega arith
  site-below (Some y) is more =
      latest-below J e (Touches W y) (clock_at c y) (are.sites y (declared y is)) (stamped-some W J e more) (λ f has touches. stamped-above W J e more f has (inr (y, touches, is)))

  pub stamped-allowed : Stamped W (J ++ e ∷ []) → IsAllowed c x e
  stamped-allowed more = record {
    follows = subst (λ (l : Option Event). FollowsLast l e) (sym are.last_is) (stamped-last W J e more);
    stream = latest-below J e (IsOfStream e.stream.0) (get_or c.streams e.stream.0 0) (are.streams e.stream.0) (stamped-some W J e more)
        (λ f has same. stamped-above W J e more f has (inl same));
    site = subst (λ y. clock_of c y < e.stamp) (sym at) (site-below (event_site W e) refl more);
  }

-- What is noted.

set-other : (xs : List ℕ) (k j t : ℕ) → (j == k) ≡ false → get_or (slice_set xs k t) j 0 ≡ get_or xs j 0
set-other xs k j t differ = get_or-set_other xs k j t 0 (eqb-false j k differ)

flip-by : (j k : ℕ) (b : Bool) → (j == k) ≡ b → (k == j) ≡ false → (j == k) ≡ false
flip-by j k true e differ = absurd (eqb-false k j differ (sym (eqb-true j k e)))
flip-by j k false e differ = e

flip-false : (j k : ℕ) → (k == j) ≡ false → (j == k) ≡ false
flip-false j k differ = flip-by j k (j == k) refl differ

-- other sites keep their clocks
with-others : (x y : Site) (t : ℕ) (c : ClocksValue) → same_place x y ≡ false → clock_at (with_clock x t c) y ≡ clock_at c y
with-others (site.Pool x) (site.Pool y) t c differ = set-other c.pools x.0 y.0 t (flip-false y.0 x.0 differ)
with-others (site.Pool x) y t c differ = refl
with-others (site.Desk x) (site.Desk y) t c differ = set-other c.desks x.0 y.0 t (flip-false y.0 x.0 differ)
with-others (site.Desk x) y t c differ = refl
with-others x (site.Pool y) t c differ = refl
with-others x (site.Desk y) t c differ = refl
with-others x y t c differ = set-other c.slots (place_number x) (place_number y) t differ

-- the site has its own
with-own : (W : Parts) (x : Site) (t : ℕ) (c : ClocksValue) → HasClocks W c → IsSite W x → clock_at (with_clock x t c) x ≡ t
with-own W (site.Pool x) t c has here = get_or-set_same c.pools x.0 t 0 (subst (λ n. x.0 < n) (sym has.pools) here)
with-own W (site.Desk x) t c has here = get_or-set_same c.desks x.0 t 0 (subst (λ n. x.0 < n) (sym has.desks) here)
with-own W (site.Monitor x) t c has here = get_or-set_same c.slots x.0 t 0 (subst (λ n. x.0 < n) (sym has.slots) (slice_get_within W.objects x.0 _ here))
with-own W (site.Eventual x) t c has here = get_or-set_same c.slots x.0 t 0 (subst (λ n. x.0 < n) (sym has.slots) (slice_get_within W.objects x.0 _ here))
with-own W (site.Future x) t c has here = get_or-set_same c.slots x.0 t 0 (subst (λ n. x.0 < n) (sym has.slots) (slice_get_within W.objects x.0 _ here.2))
with-own W (site.Barrier x) t c has here = get_or-set_same c.slots x.0 t 0 (subst (λ n. x.0 < n) (sym has.slots) (slice_get_within W.objects x.0 _ here.1))
with-own W (site.Rw x) t c has here = get_or-set_same c.slots x.0 t 0 (subst (λ n. x.0 < n) (sym has.slots) (slice_get_within W.objects x.0 _ here))

with-has : (W : Parts) (x : Option Site) (t : ℕ) (c : ClocksValue) → HasClocks W c → HasClocks W (with_site x t c)
with-has W None t c has = has
with-has W (Some (site.Pool x)) t c has = record { streams = has.streams; pools = length-set c.pools x.0 t ∙ has.pools; desks = has.desks; slots = has.slots }
with-has W (Some (site.Desk x)) t c has = record { streams = has.streams; pools = has.pools; desks = length-set c.desks x.0 t ∙ has.desks; slots = has.slots }
with-has W (Some x) t c has = record { streams = has.streams; pools = has.pools; desks = has.desks; slots = length-set c.slots (place_number x) t ∙ has.slots }

with-last : (x : Option Site) (t : ℕ) (c : ClocksValue) → ((with_site x t c).last ≡ c.last) × ((with_site x t c).streams ≡ c.streams)
with-last None t c = (refl, refl)
with-last (Some (site.Pool x)) t c = (refl, refl)
with-last (Some x) t c = (refl, refl)

module _ (W : Parts) (J : List Event) (c : ClocksValue) (x : Option Site) (e : Event) (are : AreClocks W J c) (l : e.stream.0 < W.streams) (at : x ≡ event_site W e) (declared : (y : Site) → event_site W e ≡ Some y → IsSite W y) (ok : IsAllowed c x e) where
  abbrev mid : ClocksValue
  mid = record c { last = Some e; streams = slice_set c.streams e.stream.0 e.stamp }

  mid-has : HasClocks W mid
  mid-has = record { streams = length-set c.streams e.stream.0 e.stamp ∙ are.has.streams; pools = are.has.pools; desks = are.has.desks; slots = are.has.slots }

  mid-at : (y : Site) → clock_at mid y ≡ clock_at c y
  mid-at (site.Pool y) = refl
  mid-at y = refl

  stream-noted : (s : ℕ) → IsLatest (J ++ e ∷ []) (IsOfStream s) (get_or (slice_set c.streams e.stream.0 e.stamp) s 0)
  stream-noted s =
      let within : e.stream.0 < length c.streams = subst (λ n. e.stream.0 < n) (sym are.has.streams) l in
      let up : get_or c.streams e.stream.0 0 < e.stamp = ok.stream in
      let same : s ≡ e.stream.0 → IsLatest (J ++ e ∷ []) (IsOfStream s) (get_or (slice_set c.streams e.stream.0 e.stamp) s 0) = λ is.
      subst (λ r. IsLatest (J ++ e ∷ []) (IsOfStream r) (get_or (slice_set c.streams e.stream.0 e.stamp) r 0)) (sym is)
      (subst (IsLatest (J ++ e ∷ []) (IsOfStream e.stream.0)) (sym (get_or-set_same c.streams e.stream.0 e.stamp 0 within)) (latest-own J e (IsOfStream e.stream.0) (get_or c.streams e.stream.0 0) (are.streams e.stream.0) (omega arith) refl)) in
      let differ : s ≢ e.stream.0 → IsLatest (J ++ e ∷ []) (IsOfStream s) (get_or (slice_set c.streams e.stream.0 e.stamp) s 0) = λ differs.
      subst (IsLatest (J ++ e ∷ []) (IsOfStream s)) (sym (get_or-set_other c.streams e.stream.0 s e.stamp 0 differs)) (latest-other J e (IsOfStream s) (get_or c.streams s 0) (are.streams s) (λ is. differs (sym is))) in
      elim (cases_lt s e.stream.0) [
        | inl a ↦ differ (λ is. omega arith)
        | inr a ↦ elim (cases_lt e.stream.0 s) [
          | inl b ↦ differ (λ is. omega arith)
          | inr b ↦ same (omega arith)
        ]
      ]

  place-noted : (z y : Site) (b : Bool) → same_place z y ≡ b → event_site W e ≡ Some z → x ≡ Some z → IsSite W y → IsLatest (J ++ e ∷ []) (Touches W y) (clock_at (with_clock z e.stamp mid) y)
  place-noted z y true is here at_z there =
      let same : z ≡ y = one-place W z y (declared z here) there is in
      let low : clock_of c x ≡ clock_at c y = ap (clock_of c) (at_z ∙ ap (λ w. Some w) same) in
      let up : clock_of c x < e.stamp = ok.site in
      subst (λ w. IsLatest (J ++ e ∷ []) (Touches W y) (clock_at (with_clock w e.stamp mid) y)) (sym same)
      (subst (IsLatest (J ++ e ∷ []) (Touches W y)) (sym (with-own W y e.stamp mid mid-has there)) (latest-own J e (Touches W y) (clock_at c y) (are.sites y there) (omega arith) (here ∙ ap (λ w. Some w) same)))
  place-noted z y false is here at_z there =
      let apart : event_site W e ≡ Some y → ⊥ = λ touches. let same : z ≡ y = some-injective (sym here ∙ touches) in let own : same_place z y ≡ true = subst (λ w. same_place z w ≡ true) same (own-place z) in cc in
      subst (IsLatest (J ++ e ∷ []) (Touches W y)) (sym (with-others z y e.stamp mid is ∙ mid-at y)) (latest-other J e (Touches W y) (clock_at c y) (are.sites y there) apart)

  site-noted : (z : Option Site) → x ≡ z → (y : Site) → IsSite W y → IsLatest (J ++ e ∷ []) (Touches W y) (clock_at (with_site z e.stamp mid) y)
  site-noted None is y there = subst (IsLatest (J ++ e ∷ []) (Touches W y)) (sym (mid-at y)) (latest-other J e (Touches W y) (clock_at c y) (are.sites y there) (λ touches. none≢some (sym is ∙ (at ∙ touches))))
  site-noted (Some z) is y there = place-noted z y (same_place z y) refl (sym at ∙ is) is there

  pub noted-clocks : AreClocks W (J ++ e ∷ []) (noted x e c)
  noted-clocks = record {
    has = with-has W x e.stamp mid mid-has;
    last_is = (with-last x e.stamp mid).0 ∙ sym (last-push J e);
    streams = λ s. subst (λ (xs : List ℕ). IsLatest (J ++ e ∷ []) (IsOfStream s) (get_or xs s 0)) (sym (with-last x e.stamp mid).1) (stream-noted s);
    sites = λ y there. site-noted x refl y there;
  }

-- whether the stamp may come next, by what the code finds
pub stamps-by : (W : Parts) (J : List Event) (c new : ClocksValue) (x : Option Site) (e : Event) → AreClocks W J c → Stamped W J → e.stream.0 < W.streams → x ≡ event_site W e → ((y : Site) → event_site W e ≡ Some y → IsSite W y) → IsAllowed c x e → new ≡ noted x e c → Stamps W J e true new
stamps-by W J c new x e are st l at declared ok is = (allowed-stamped W J c x e are st at declared ok, subst (AreClocks W (J ++ e ∷ [])) (sym is) (noted-clocks W J c x e are l at declared ok))

pub stamps-not : (W : Parts) (J : List Event) (c : ClocksValue) (x : Option Site) (e : Event) → AreClocks W J c → Stamped W J → x ≡ event_site W e → ((y : Site) → event_site W e ≡ Some y → IsSite W y) → (IsAllowed c x e → ⊥) → Stamped W (J ++ e ∷ []) → ⊥
stamps-not W J c x e are st at declared not_ok more = not_ok (stamped-allowed W J c x e are st at declared more)

-- clocks before the first event
abbrev none_yet : ℕ → List ℕ
none_yet n = replicate n 0

zeros : (n k : ℕ) → ◌≡◌ {A = ℕ} (get_or (replicate n 0) k 0) 0
zeros n k = elim (cases_lt k n) [ inl l ↦ get_or-replicate n k 0 0 l | inr l ↦ get_or_past (replicate n 0) k 0 (subst (λ m. m ≤ k) (sym (length-replicate {A = ℕ} n 0)) l) ]

site-zero : (W : Parts) (x : Site) (c : ClocksValue) → c.pools ≡ none_yet (length W.pools) → c.desks ≡ none_yet (length W.units) → c.slots ≡ none_yet (length W.objects) → clock_at c x ≡ 0
site-zero W (site.Pool x) c p d o = ap (λ (xs : List ℕ). get_or xs x.0 0) p ∙ zeros (length W.pools) x.0
site-zero W (site.Desk x) c p d o = ap (λ (xs : List ℕ). get_or xs x.0 0) d ∙ zeros (length W.units) x.0
site-zero W x c p d o = ap (λ (xs : List ℕ). get_or xs (place_number x) 0) o ∙ zeros (length W.objects) (place_number x)

pub clocks-start : (W : Parts) (c : ClocksValue) → c.last ≡ None → c.streams ≡ none_yet W.streams → c.pools ≡ none_yet (length W.pools) → c.desks ≡ none_yet (length W.units) → c.slots ≡ none_yet (length W.objects) → AreClocks W [] c
clocks-start W c l s p d o = record {
  has = record {
    streams = ap (λ (xs : List ℕ). length xs) s ∙ length-replicate {A = ℕ} W.streams 0;
    pools = ap (λ (xs : List ℕ). length xs) p ∙ length-replicate {A = ℕ} (length W.pools) 0;
    desks = ap (λ (xs : List ℕ). length xs) d ∙ length-replicate {A = ℕ} (length W.units) 0;
    slots = ap (λ (xs : List ℕ). length xs) o ∙ length-replicate {A = ℕ} (length W.objects) 0;
  };
  last_is = l;
  streams = λ r. none-latest (IsOfStream r) (get_or c.streams r 0) (ap (λ (xs : List ℕ). get_or xs r 0) s ∙ zeros W.streams r);
  sites = λ x here. none-latest (Touches W x) (clock_at c x) (site-zero W x c p d o);
}
