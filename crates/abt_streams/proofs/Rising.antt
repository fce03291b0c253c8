-- Stamps rise from wave to wave.
use Rattle.std.proofs.Common.{◌≡◌, ℕ, ◌<◌, ◌≤◌, ◌∙◌, inl, inr, Bool, List, [], ◌∷◌, ◌++◌, map, Option, Some, None, refl, sym, ap, subst, arith}
use Rattle.std.specs.Prelude.{option_map}
use Rattle.std.specs.List.{All}
use Rattle.std.proofs.lemmas.List.Elements.{All-append, All-contains}
use Rattle.abt_machine.specs.declared.events.Event.{Event}
use Rattle.abt_machine.specs.declared.events.Site.{Site}
use Rattle.abt_machine.specs.Stored.{Stored}
use Rattle.abt_machine.specs.declared.workload.Parts.{Parts}
use Rattle.abt_machine.specs.EventSites.{event_site}
use Rattle.abt_machine.specs.Stamps.{AllAfter, Shares}
use Rattle.abt_machine.specs.Turns.{Heard}
use Rattle.abt_interleave.specs.Histories.{RisesAbove, entry_stamps, last_from}
use Rattle.abt_interleave.specs.Deeds.{deed_stamps}
use Rattle.abt_interleave.specs.Logs.{BeforeAll, InOrder, IsSooner, LeavesEntry}
use Rattle.abt_interleave.proofs.Clocks.{among-above}
use Rattle.abt_interleave.proofs.Members.{Among, all-from-among, from-among, to-among}
use Rattle.abt_interleave.proofs.Merged.{log-declared}
use Rattle.abt_interleave.proofs.Orders.{one-stamp, rises-in-order}
use Rattle.abt_simulation.specs.Merging.{IsJournalOf, SiteEntry, StreamDeed, event_of, machine_of}
use Rattle.abt_simulation.proofs.MergedStamps.{CallsSite, does-call}
use Rattle.abt_drain.specs.Moments.{Moment}
use Rattle.abt_waves.specs.Fleets.{IsWave, MakesWave}
use Rattle.abt_streams.specs.Runs.{IsBelow, RiseWhereShared}

-- Numbers that rise.

last-above : (n : ℕ) (ts : List ℕ) → RisesAbove n ts → n ≤ last_from n ts
last-above n [] rises = omega arith
last-above n (t ∷ ts) rises = (let more : t ≤ last_from t ts = last-above t ts rises.1 in let first : n < t = rises.0 in omega (arith, more, first))

module _ {A : Type 0} (stamp : A → ℕ) where
  among-last : (n : ℕ) (xs : List A) (x : A) → RisesAbove n (map stamp xs) → Among x xs → stamp x ≤ last_from n (map stamp xs)
  among-last n [] x rises m = absurd m
  among-last n (y ∷ ys) x rises m = elim m [
    | inl same ↦ (let here : stamp x ≡ stamp y = ap stamp same in let more = last-above (stamp y) (map stamp ys) rises.1 in omega (arith, here, more))
    | inr later ↦ among-last (stamp y) ys x rises.1 later
  ]

-- Deeds and their sites.

same-some : {A : Type 0} (a b : A) → ◌≡◌ {A = Option A} (Some a) (Some b) → a ≡ b
same-some {A} a b e = ap get e where
  get : Option A → A
  get None = a
  get (Some x) = x

-- the entry of a deed that called the object at x
entry-left : (d : StreamDeed) (x : Site) (heard : Option Heard) → d.heard ≡ heard → option_map (λ (h : Heard). h.0) heard ≡ Some x → (e : SiteEntry) × LeavesEntry d x e
entry-left d x None q p = absurd cc
entry-left d x (Some h) q p = (record { stamp = d.stamp; caller = d.stream; act = h.1; answer = h.2 }, (refl, refl, q ∙ (λ i. Some (same-some h.0 x p i, h.1, h.2))))

-- Events that share something.

-- events in an order by which those that share something rise
rise-in-order : (W : Parts) (R : Event → Event → Type 0) (es : List Event) → InOrder R es → ((e f : Event) → Among e es → Among f es → R e f → Shares W e f → e.stamp < f.stamp) → RiseWhereShared W es
rise-in-order W R [] order rise = tt
rise-in-order W R (e ∷ es) order rise = (after es order.0 (λ f m. m), rise-in-order W R es order.1 (λ f g m n. rise f g (inr m) (inr n))) where
  after : (fs : List Event) → BeforeAll R e fs → ((f : Event) → Among f fs → Among f es) → AllAfter W e fs
  after [] all within = tt
  after (f ∷ fs) all within = (rise e f (inl refl) (inr (within f (inl refl))) all.0, after fs all.1 (λ g m. within g (inr m)))

-- two lists that rise, the second above the first
rise-append : (W : Parts) (J es : List Event) → RiseWhereShared W J → RiseWhereShared W es → ((e f : Event) → Among e J → Among f es → Shares W e f → e.stamp < f.stamp) → RiseWhereShared W (J ++ es)
rise-append W [] es first second above = second
rise-append W (e ∷ J) es first second above =
    (after J first.0, rise-append W J es first.1 second (λ f g m n. above f g (inr m) n)) where
      behind : (fs : List Event) → ((f : Event) → Among f fs → Among f es) → AllAfter W e fs
      behind [] within = tt
      behind (f ∷ fs) within = (above e f (inl refl) (within f (inl refl)), behind fs (λ g m. within g (inr m)))

      after : (fs : List Event) → AllAfter W e fs → AllAfter W e (fs ++ es)
      after [] all = behind es (λ f m. m)
      after (f ∷ fs) all = (all.0, after fs all.1)

module _ (W : Parts) (Z : Stored) (old new : Moment) (live : List Bool) (makes : MakesWave W Z live old new) where
  abbrev wave : IsWave W Z live old new
  wave = makes.wave

  -- a deed of the wave, between the clocks of its stream
  stream-clocks : (d : StreamDeed) → Among d (wave.deeds d.stream) → (old.clocks d.stream < d.stamp) × (d.stamp ≤ new.clocks d.stream)
  stream-clocks d m = (
    among-above (λ (e : StreamDeed). e.stamp) (old.clocks d.stream) (wave.deeds d.stream) d (wave.climb d.stream) m,
    subst (λ n. d.stamp ≤ n) (sym (wave.clocks d.stream)) (among-last (λ (e : StreamDeed). e.stamp) (old.clocks d.stream) (wave.deeds d.stream) d (wave.climb d.stream) m),
  )

  calls : (d : StreamDeed) → Among d (wave.deeds d.stream) → CallsSite W d
  calls d m = does-call W Z d.stream (old.parts d.stream) (new.parts d.stream) (wave.deeds d.stream)
      (wave.gathered.courses d.stream (log-declared (machine_of W Z) old.parts old.objects wave.deeds wave.histories new.parts new.objects wave.gathered d.stream d m)).1 d m

  -- its entry at its site
  entry-of : (d : StreamDeed) (x : Site) → Among d (wave.deeds d.stream) → event_site W (event_of d) ≡ Some x → (e : SiteEntry) × LeavesEntry d x e × Among e (wave.histories x)
  entry-of d x m at =
      let left : (e : SiteEntry) × LeavesEntry d x e = entry-left d x d.heard refl (calls d m ∙ at) in
      (left.0, left.1, to-among (wave.histories x) left.0 (wave.gathered.matched.has_entry d x left.0 (from-among (wave.deeds d.stream) d m) left.1))

  -- and between the clocks of its site
  site-clocks : (d : StreamDeed) (x : Site) → Among d (wave.deeds d.stream) → event_site W (event_of d) ≡ Some x → (old.times x < d.stamp) × (d.stamp ≤ new.times x)
  site-clocks d x m at =
      let entry = entry-of d x m at in
      let stamp : entry.0.stamp ≡ d.stamp = sym entry.1.0 in
      let above : old.times x < entry.0.stamp = among-above (λ (e : SiteEntry). e.stamp) (old.times x) (wave.histories x) entry.0 (wave.rise x) entry.2 in
      let below : entry.0.stamp ≤ last_from (old.times x) (entry_stamps (wave.histories x)) = among-last (λ (e : SiteEntry). e.stamp) (old.times x) (wave.histories x) entry.0 (wave.rise x) entry.2 in
      (omega (arith, stamp, above), omega (arith, stamp, below, makes.times x))

  module _ (es : List Event) (journal : IsJournalOf wave.deeds es) where
    -- each event of the wave is a deed's
    deed : (e : Event) → Among e es → (d : StreamDeed) × Among d (wave.deeds d.stream) × (event_of d ≡ e)
    deed e m = (let found = journal.only e (from-among es e m) in (found.0, to-among (wave.deeds found.0.stream) found.0 found.1, found.2))

    -- and is above the clocks before it
    above-old : (e : Event) → Among e es → (old.clocks e.stream.0 < e.stamp) × ((x : Site) → event_site W e ≡ Some x → old.times x < e.stamp)
    above-old e m =
        let d = deed e m in
        subst (λ (f : Event). (old.clocks f.stream.0 < f.stamp) × ((x : Site) → event_site W f ≡ Some x → old.times x < f.stamp)) d.2
        ((stream-clocks d.0 d.1).0, λ x at. (site-clocks d.0 x d.1 at).0)

    below-new : (e : Event) → Among e es → IsBelow W new e
    below-new e m =
        let d = deed e m in
        subst (IsBelow W new) d.2 (record { stream = (stream-clocks d.0 d.1).1; site = λ x at. (site-clocks d.0 x d.1 at).1 })

    -- two deeds of one stamp at one site are of one stream
    one-caller : (d e : StreamDeed) (x : Site) → Among d (wave.deeds d.stream) → Among e (wave.deeds e.stream) → event_site W (event_of d) ≡ Some x → event_site W (event_of e) ≡ Some x → d.stamp ≡ e.stamp → d.stream ≡ e.stream
    one-caller d e x dm em dx ex q =
        let a = entry-of d x dm dx in
        let b = entry-of e x em ex in
        let same : a.0 ≡ b.0 = one-stamp (λ (f : SiteEntry). f.stamp) (wave.histories x) a.0 b.0 (rises-in-order (λ (f : SiteEntry). f.stamp) (old.times x) (wave.histories x) (wave.rise x)) a.2 b.2 (sym a.1.0 ∙ (q ∙ b.1.0)) in
        a.1.1 ∙ (ap (λ (f : SiteEntry). f.caller) same ∙ sym b.1.1)

    sooner-rises : (e f : Event) → Among e es → Among f es → IsSooner e.stamp e.stream.0 f.stamp f.stream.0 → Shares W e f → e.stamp < f.stamp
    sooner-rises e f em fm sooner shares = elim sooner [
      | inl less ↦ less
      | inr q ↦ (let same : e.stream.0 ≡ f.stream.0 = one-stream q.0 in let less : e.stream.0 < f.stream.0 = q.1 in absurd (omega (arith, same, less)))
    ] where
      one-stream : e.stamp ≡ f.stamp → e.stream.0 ≡ f.stream.0
      one-stream q = elim shares [
        | inl own ↦ own
        | inr at ↦
            let d = deed e em in
            let c = deed f fm in
            let stamps : d.0.stamp ≡ c.0.stamp = ap (λ (g : Event). g.stamp) d.2 ∙ (q ∙ sym (ap (λ (g : Event). g.stamp) c.2)) in
            let streams : d.0.stream ≡ c.0.stream = one-caller d.0 c.0 at.0 d.1 c.1 (ap (event_site W) d.2 ∙ at.1) (ap (event_site W) c.2 ∙ at.2) stamps in
            sym (ap (λ (g : Event). g.stream.0) d.2) ∙ (streams ∙ ap (λ (g : Event). g.stream.0) c.2)
      ]

    wave-rises : RiseWhereShared W es
    wave-rises = rise-in-order W (λ e f. IsSooner e.stamp e.stream.0 f.stamp f.stream.0) es journal.in_order sooner-rises

    -- clocks do not fall
    clocks-rise : (e : Event) → IsBelow W old e → IsBelow W new e
    clocks-rise e below = record {
      stream = (let rise = last-above (old.clocks e.stream.0) (deed_stamps (wave.deeds e.stream.0)) (wave.climb e.stream.0) in omega (arith, rise, wave.clocks e.stream.0, below.stream));
      site = λ x at. (let rise = last-above (old.times x) (entry_stamps (wave.histories x)) (wave.rise x) in omega (arith, rise, makes.times x, below.site x at));
    }

    module _ (J : List Event) (below : All (IsBelow W old) J) where
      -- no stamp is above the clocks after the wave
      pub all-below : All (IsBelow W new) (J ++ es)
      all-below = All-append (IsBelow W new) J es (all-from-among (IsBelow W new) J (λ e m. clocks-rise e (All-contains (IsBelow W old) J e below (from-among J e m)))) (all-from-among (IsBelow W new) es below-new)

      -- and stamps rise if something is shared
      pub all-rise : RiseWhereShared W J → RiseWhereShared W (J ++ es)
      all-rise rise = rise-append W J es rise wave-rises crosses where
        crosses : (e f : Event) → Among e J → Among f es → Shares W e f → e.stamp < f.stamp
        crosses e f em fm shares =
            let under : IsBelow W old e = All-contains (IsBelow W old) J e below (from-among J e em) in
            let over = above-old f fm in
            elim shares [
              | inl own ↦ (let clock : old.clocks e.stream.0 ≡ old.clocks f.stream.0 = ap old.clocks own in omega (arith, clock, under.stream, over.0))
              | inr at ↦ (let low = under.site at.0 at.1 in let high = over.1 at.0 at.2 in omega (arith, low, high))
            ]
