-- The machine's logs and histories merge into its runs.
use Rattle.std.proofs.Common.{◌≡◌, ◌≢◌, ℕ, true, List, [], ◌∷◌, map, Option, Some, None, refl, sym, ◌∙◌, ap, subst, ◌⊎◌, inl, inr}
use Rattle.std.proofs.lemmas.Bool.{eq-eqb, eqb-true, cases_Bool, false≢true}
use Rattle.abt_machine.specs.declared.events.Event.{Event}
use Rattle.abt_machine.specs.declared.events.Site.{Site}
use Rattle.abt_machine.specs.declared.events.Site.TheVariants as site
use Rattle.abt_machine.specs.Stored.{Stored}
use Rattle.abt_machine.specs.declared.workload.Parts.{Parts}
use Rattle.abt_machine.specs.Numbers.{stream_no, pool_no, unit_no, object_no}
use Rattle.abt_machine.specs.Valid.{IsValid}
use Rattle.abt_machine.specs.Rounds.{OrdersStored}
use Rattle.abt_machine.specs.Sites.{place_number}
use Rattle.abt_machine.specs.State.{State}
use Rattle.abt_machine.specs.Events.{after}
use Rattle.abt_machine.specs.Runs.{RunFrom, state_after}
use Rattle.abt_machine.specs.Sound.{Sound}
use Rattle.abt_machine.specs.Values.{Held, Object, NotHere, part_of, object_of}
use Rattle.abt_machine.specs.Gives.{SiteGives}
use Rattle.abt_machine.specs.Turns.{Heard}
use Rattle.abt_laws.proofs.Options.{none≢some, some-injective}
use Rattle.abt_laws.proofs.SoundRuns.{events-keep-sound}
use Rattle.abt_interleave.specs.Deeds.{Answered}
use Rattle.abt_interleave.specs.Logs.{IsSorted}
use Rattle.abt_interleave.specs.Machines.{TellsPlaces, IsSimulated, Gathered, Runs, ends_at, IsRunTo}
use Rattle.abt_interleave.proofs.Members.{to-among}
use Rattle.abt_interleave.proofs.Merged.{logs-merge, log-is-own, log-rises}
use Rattle.abt_interleave.proofs.Lifted.{events-lift}
use Rattle.abt_simulation.specs.Simulation.{CalledAnswers, IsEventFrom}
use Rattle.abt_simulation.specs.Merging.{same_site, machine_of, StreamDeed, SiteEntry, event_of, IsJournalOf, LeadsTo, Merging}
use Rattle.abt_simulation.proofs.Events.{simulation}

-- Sites.

-- sites of which the test holds are one
pub site-is : (x y : Site) → same_site x y ≡ true → x ≡ y
site-is (site.Pool p) (site.Pool q) e = ap (λ n. site.Pool (pool_no n)) (eqb-true p.0 q.0 e)
site-is (site.Desk u) (site.Desk v) e = ap (λ n. site.Desk (unit_no n)) (eqb-true u.0 v.0 e)
site-is (site.Monitor x) (site.Monitor y) e = ap (λ n. site.Monitor (object_no n)) (eqb-true x.0 y.0 e)
site-is (site.Eventual x) (site.Eventual y) e = ap (λ n. site.Eventual (object_no n)) (eqb-true x.0 y.0 e)
site-is (site.Future x) (site.Future y) e = ap (λ n. site.Future (object_no n)) (eqb-true x.0 y.0 e)
site-is (site.Barrier x) (site.Barrier y) e = ap (λ n. site.Barrier (object_no n)) (eqb-true x.0 y.0 e)
site-is (site.Rw x) (site.Rw y) e = ap (λ n. site.Rw (object_no n)) (eqb-true x.0 y.0 e)
site-is _ _ e = absurd (false≢true e)

-- it holds of each site and itself
pub site-self : (x : Site) → same_site x x ≡ true
site-self (site.Pool p) = eq-eqb p.0 p.0 refl
site-self x = eq-eqb (place_number x) (place_number x) refl

-- so it tells sites apart
pub tells-sites : (W : Parts) (Z : Stored) → TellsPlaces (machine_of W Z)
tells-sites W Z x y = (site-is x y, λ e. subst (λ z. same_site x z ≡ true) e (site-self x))

-- two sites are one, or are not
site-cases : (x y : Site) → (x ≡ y) ⊎ (x ≢ y)
site-cases x y = elim (cases_Bool (same_site x y)) [ inl same ↦ inl (site-is x y same) | inr other ↦ inr (λ e. false≢true (sym other ∙ subst (λ z. same_site x z ≡ true) e (site-self x))) ]

-- Each step is an event.

-- what stands at the called site, if one was called
abbrev called_at : Option Heard → (Site → Object) → Object
called_at None objects = NotHere
called_at (Some h) objects = objects h.0

-- the called object answers
called-answers : (W : Parts) (S : State) (heard : Option Heard) (objects : Site → Object) → Answered SiteGives (object_of W S) heard objects → CalledAnswers W S heard (called_at heard objects)
called-answers W S None objects a = tt
called-answers W S (Some h) objects a = a.0

-- all objects are as the answer says
called-all : (W : Parts) (Z : Stored) (S T : State) (e : Event) (heard : Option Heard) (part : Held) (objects : Site → Object) → IsEventFrom W Z S e heard part (called_at heard objects) T →
    Answered SiteGives (object_of W S) heard objects →
    (x : Site) → object_of W T x ≡ objects x
called-all W Z S T e None part objects is a x = is.other_objects x (λ q. none≢some q) ∙ sym (a x)
called-all W Z S T e (Some h) part objects is a x =
    elim (site-cases h.0 x) [
      | inl same ↦ subst (λ z. object_of W T z ≡ objects z) same is.called
      | inr other ↦ is.other_objects x (λ q. other (some-injective q)) ∙ sym (a.1 x other)
    ]

module _ (W : Parts) (Z : Stored) (valid : IsValid W) (stored : OrdersStored W Z.orders) where
  -- a step of a stream with its call is an event
  pub is-simulated : IsSimulated (machine_of W Z)
  is-simulated S s w heard part objects sound declared steps answered =
      let e : Event = record { stamp = 0; stream = stream_no s; what = w } in
      let is : IsEventFrom W Z S e heard part (called_at heard objects) (after W S s w) = simulation W Z valid stored S e heard part (called_at heard objects) sound declared steps (called-answers W S heard objects answered) in
      record {
        may = is.comes.1;
        sound = events-keep-sound W Z valid stored S (after W S s w) e sound is.comes;
        own = is.own;
        others = is.other_parts;
        called = called-all W Z S (after W S s w) e heard part objects is answered;
      }

  -- Runs of deeds are runs of their events.

  -- a run
  runs-from : (S : State) (ds : List StreamDeed) → Runs (machine_of W Z) S ds → RunFrom W Z S (map event_of ds)
  runs-from S [] r = tt
  runs-from S (d ∷ ds) r = (r.0, r.1, runs-from (after W S d.stream d.what) ds r.2)

  -- its last state
  same-end : (S : State) (ds : List StreamDeed) → ends_at (machine_of W Z) S ds ≡ state_after W S (map event_of ds)
  same-end S [] = refl
  same-end S (d ∷ ds) = same-end (after W S d.stream d.what) ds

  -- and what stands there
  leads-to : (S : State) (ds : List StreamDeed) (ends : ℕ → Held) (finals : Site → Object) → IsRunTo (machine_of W Z) S ds ends finals → LeadsTo W Z S (map event_of ds) ends finals
  leads-to S ds ends finals is = record {
    run = runs-from S ds is.run;
    sound = subst (Sound W Z) (same-end S ds) is.sound;
    parts = λ s l. ap (λ T. part_of W T s) (sym (same-end S ds)) ∙ is.parts s l;
    objects = λ x. ap (λ T. object_of W T x) (sym (same-end S ds)) ∙ is.objects x;
  }

-- the deeds of a journal, in its order
pub deeds-of : (W : Parts) (Z : Stored) (parts : ℕ → Held) (objects : Site → Object) (logs : ℕ → List StreamDeed) (histories : Site → List SiteEntry) (ends : ℕ → Held) (finals : Site → Object)
    (J : List Event) →
    Gathered (machine_of W Z) parts objects logs histories ends finals → IsJournalOf logs J → (ds : List StreamDeed) × IsSorted logs ds × (map event_of ds ≡ J)
deeds-of W Z parts objects logs histories ends finals J gathered sorted =
    events-lift (machine_of W Z) Event event_of (λ e. e.stamp) (λ e. e.stream.0) (λ d. (refl, refl)) logs J (log-rises (machine_of W Z) parts objects logs histories ends finals gathered)
    (λ s d m. log-is-own (machine_of W Z) parts objects logs histories ends finals gathered s d (to-among (logs s) d m)) sorted

-- the law
pub merging : (W : Parts) (Z : Stored) → Merging W Z
merging W Z valid stored S sound logs histories ends finals J gathered sorted =
    let l : (ds : List StreamDeed) × IsSorted logs ds × (map event_of ds ≡ J) = deeds-of W Z (part_of W S) (object_of W S) logs histories ends finals J gathered sorted in
    subst (λ es. LeadsTo W Z S es ends finals) l.2
    (leads-to W Z valid stored S l.0 ends finals (logs-merge (machine_of W Z) (tells-sites W Z) (is-simulated W Z valid stored) S sound logs histories ends finals l.0 gathered l.1))
