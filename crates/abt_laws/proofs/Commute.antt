-- Events of different streams and different sites may change places.
use Rattle.std.proofs.Common.{◌≡◌, ◌≢◌, ℕ, List, Option, Some, refl, sym, ◌∙◌, ap, subst}
use Rattle.abt_machine.specs.declared.events.Event.{Event}
use Rattle.abt_machine.specs.declared.events.Site.{Site}
use Rattle.abt_machine.specs.declared.events.Site.TheVariants as site
use Rattle.abt_machine.specs.declared.events.What.{What}
use Rattle.abt_machine.specs.Stored.{Stored}
use Rattle.abt_machine.specs.declared.workload.Parts.{Parts}
use Rattle.abt_machine.specs.Numbers.{pool_no, unit_no, object_no}
use Rattle.abt_machine.specs.Maps.{put_all}
use Rattle.abt_machine.specs.Valid.{IsValid}
use Rattle.abt_machine.specs.Sites.{object_site}
use Rattle.abt_machine.specs.EventSites.{what_site, event_site}
use Rattle.abt_machine.specs.State.{State}
use Rattle.abt_machine.specs.Changes.{Change, changed}
use Rattle.abt_machine.specs.Events.{change, after, May, After}
use Rattle.abt_laws.specs.Footprint.{holder, Apart}
use Rattle.abt_laws.proofs.Lists.{EachOf}
use Rattle.abt_laws.proofs.Maps.{EachOf-key, KeyOf, put_all-commute}
use Rattle.abt_laws.proofs.Keeping.{IsKept}
use Rattle.abt_laws.proofs.Local.{IsLocal, moved-kept}
use Rattle.abt_laws.proofs.LocalEvents.{event-local}
use Rattle.abt_laws.proofs.Alike.{IsAlike, alike-sym, alike-after, not-both}
use Rattle.abt_laws.proofs.AlikeEvents.{change-alike, may-alike}

-- numbers that two footprints cannot share
keys-apart : {A : Type 0} (P Q : ℕ → Type 0) (ps qs : List (ℕ × A)) → EachOf (λ (p : ℕ × A). P p.0) ps → EachOf (λ (p : ℕ × A). Q p.0) qs → ((n : ℕ) → P n → Q n → ⊥) → (n : ℕ) → KeyOf n ps → KeyOf n qs → ⊥
keys-apart P Q ps qs a b no_both n k l = no_both n (EachOf-key P ps n a k) (EachOf-key Q qs n b l)

module _ (W : Parts) (S : State) (s r : ℕ) (x y : Option Site) (c d : Change) (ne : s ≢ r) (apart : Apart x y) (here : IsLocal W S s x c) (there : IsLocal W S r y d) where
  -- changes of units that stream s or site x keeps, and of units that stream r or site y keeps
  units-commute : {A : Type 0} (f : ℕ → A) (ps qs : List (ℕ × A)) → EachOf (λ (p : ℕ × A). IsKept W S s x p.0) ps → EachOf (λ (q : ℕ × A). IsKept W S r y q.0) qs → put_all (put_all f ps) qs ≡ put_all (put_all f qs) ps
  units-commute f ps qs a b = put_all-commute f ps qs (keys-apart (IsKept W S s x) (IsKept W S r y) ps qs a b (λ n v w. not-both s r x y (holder W n (S.place n)) ne apart v w))

  sites-commute : {A : Type 0} (at : ℕ → Site) (f : ℕ → A) (ps qs : List (ℕ × A)) → EachOf (λ (p : ℕ × A). x ≡ Some (at p.0)) ps → EachOf (λ (q : ℕ × A). y ≡ Some (at q.0)) qs → put_all (put_all f ps) qs ≡ put_all (put_all f qs) ps
  sites-commute at f ps qs a b = put_all-commute f ps qs (keys-apart (λ n. x ≡ Some (at n)) (λ n. y ≡ Some (at n)) ps qs a b (λ n. apart (at n)))

  streams-commute : put_all (put_all S.stream c.streams) d.streams ≡ put_all (put_all S.stream d.streams) c.streams
  streams-commute = put_all-commute S.stream c.streams d.streams (keys-apart (λ n. n ≡ s) (λ n. n ≡ r) c.streams d.streams here.streams there.streams (λ n a b. ne (sym a ∙ b)))

  -- part by part
  changes-commute : changed (changed S c) d ≡ changed (changed S d) c
  changes-commute = λ i. record {
    place = units-commute S.place c.moves d.moves (moved-kept W S s x c here) (moved-kept W S r y d there) i;
    carried = units-commute S.carried c.carried d.carried here.carried there.carried i;
    desk = sites-commute (λ n. site.Desk (unit_no n)) S.desk c.desks d.desks here.desks there.desks i;
    pool_next = sites-commute (λ n. site.Pool (pool_no n)) S.pool_next c.pool_next d.pool_next here.pool_next there.pool_next i;
    join_next = sites-commute (λ n. site.Desk (unit_no n)) S.join_next c.join_next d.join_next here.join_next there.join_next i;
    object_next = sites-commute (object_site W) S.object_next c.object_next d.object_next here.object_next there.object_next i;
    mutex = sites-commute (λ n. site.Monitor (object_no n)) S.mutex c.mutexes d.mutexes here.mutexes there.mutexes i;
    eventual = sites-commute (λ n. site.Eventual (object_no n)) S.eventual c.eventuals d.eventuals here.eventuals there.eventuals i;
    future = sites-commute (λ n. site.Future (object_no n)) S.future c.futures d.futures here.futures there.futures i;
    rwlock = sites-commute (λ n. site.Rw (object_no n)) S.rwlock c.rwlocks d.rwlocks here.rwlocks there.rwlocks i;
    stream = streams-commute i;
  }

module _ (W : Parts) (valid : IsValid W) (Z : Stored) (S : State) (s r : ℕ) (w v : What) (ne : s ≢ r) (apart : Apart (what_site W s w) (what_site W r v)) (first : May W Z S s w) where
  here : IsLocal W S s (what_site W s w) (change W S s w)
  here = event-local W valid Z S s w first

  -- the first event leaves what the second sees
  unseen : IsAlike W r (what_site W r v) S (after W S s w)
  unseen = alike-after W S s r (what_site W s w) (what_site W r v) (change W S s w) ne apart here

  seen-before : IsAlike W r (what_site W r v) (after W S s w) S
  seen-before = alike-sym W r (what_site W r v) S (after W S s w) unseen

  -- the second may come before the first
  second-first : May W Z (after W S s w) r v → May W Z S r v
  second-first second = may-alike W valid Z (after W S s w) S r v seen-before second

  module _ (second : May W Z (after W S s w) r v) where
    there : IsLocal W S r (what_site W r v) (change W S r v)
    there = event-local W valid Z S r v (second-first second)

    -- and leaves what the first sees
    left : IsAlike W s (what_site W s w) S (after W S r v)
    left = alike-after W S r s (what_site W r v) (what_site W s w) (change W S r v) (λ e. ne (sym e)) (λ z e f. apart z f e) there

    -- the first may come after the second
    first-second : May W Z (after W S r v) s w
    first-second = may-alike W valid Z S (after W S r v) s w left first

    -- and the state after both is the same
    same-after : after W (after W S s w) r v ≡ after W (after W S r v) s w
    same-after =
        ap (changed (after W S s w)) (change-alike W valid Z (after W S s w) S r v seen-before second)
        ∙ (changes-commute W S s r (what_site W s w) (what_site W r v) (change W S s w) (change W S r v) ne apart here there
        ∙ ap (changed (after W S r v)) (change-alike W valid Z S (after W S r v) s w left first))

-- if one event may come and then the other, the other may come first and then the one, with the same state after both
pub events-commute : (W : Parts) → IsValid W → (Z : Stored) (S T U : State) (e f : Event) → e.stream.0 ≢ f.stream.0 → Apart (event_site W e) (event_site W f) → After W Z S e T → After W Z T f U →
    (V : State) × After W Z S f V × After W Z V e U
events-commute W valid Z S T U e f ne apart one two =
    let second : May W Z (after W S e.stream.0 e.what) f.stream.0 f.what = subst (λ R. May W Z R f.stream.0 f.what) one.2 two.1 in
    let end : U ≡ after W (after W S e.stream.0 e.what) f.stream.0 f.what = two.2 ∙ ap (λ R. after W R f.stream.0 f.what) one.2 in (
      after W S f.stream.0 f.what,
      (two.0, second-first W valid Z S e.stream.0 f.stream.0 e.what f.what ne apart one.1 second, refl),
      (one.0, first-second W valid Z S e.stream.0 f.stream.0 e.what f.what ne apart one.1 second, end ∙ same-after W valid Z S e.stream.0 f.stream.0 e.what f.what ne apart one.1 second),
    )
