-- The journal of a moment to which streams have come: all logs merged lead there, stamped, and no clock is worn.
use Rattle.std.proofs.Common.{◌≡◌, ℕ, ◌<◌, ◌≤◌, ◌^◌, inl, inr, List, [], ◌∷◌, length, map, refl, sym, ◌∙◌, ap, subst, arith}
use Rattle.std.proofs.lemmas.List.{length-map}
use Rattle.std.proofs.lemmas.List.Elements.{All-map}
use Rattle.abt_machine.specs.declared.events.Event.{Event}
use Rattle.abt_machine.specs.declared.events.Outcome.{Outcome}
use Rattle.abt_machine.specs.declared.grammar.Format.TheVariants as format
use Rattle.abt_machine.specs.Stored.{Stored}
use Rattle.abt_machine.specs.declared.workload.Parts.{Parts}
use Rattle.abt_machine.specs.Limits.{stream_limit}
use Rattle.abt_machine.specs.Rounds.{OrdersStored}
use Rattle.abt_machine.specs.Outcomes.{EndsAs, steps_in}
use Rattle.abt_machine.specs.Stamps.{Stamped}
use Rattle.abt_machine.specs.Start.{start}
use Rattle.abt_machine.specs.Valid.{IsValid}
use Rattle.abt_machine.specs.Values.{part_of, object_of}
use Rattle.abt_flow.proofs.Outputs.{outputs-are-flow}
use Rattle.abt_interleave.specs.Deeds.{deed_stamps}
use Rattle.abt_interleave.specs.Merges.{IsLogOf, Rises, sum_below}
use Rattle.abt_interleave.specs.Ticking.{IsClock}
use Rattle.abt_interleave.proofs.Lows.{own-log, stamps-are-few}
use Rattle.abt_interleave.proofs.Members.{all-from-among}
use Rattle.abt_interleave.proofs.Merged.{log-rises}
use Rattle.abt_interleave.proofs.OneList.{above-rises}
use Rattle.abt_interleave.proofs.Tallies.{sum-below-le}
use Rattle.abt_interleave.proofs.Ticks.{lasts-are-clocks}
use Rattle.abt_simulation.specs.Journals.{JournalCounts, MergesTo}
use Rattle.abt_simulation.specs.Merging.{IsJournalOf, LeadsTo, StreamDeed, event_of, machine_of}
use Rattle.abt_simulation.proofs.Merged.{merging}
use Rattle.abt_simulation.proofs.MergedStamps.{merged-is-stamped}
use Rattle.abt_simulation.proofs.Tallied.{journals-are-merges, journals-count, journals-exist}
use Rattle.abt_laws.proofs.LifeOver.{ends-are-the-journals}
use Rattle.abt_laws.proofs.LifeRuns.{runs-live}
use Rattle.abt_laws.proofs.SoundRuns.{runs-are-sound}
use Rattle.abt_laws.proofs.SoundStart.{start-is-sound}
use Rattle.abt_outcomes.specs.Values.{LooksAs}
use Rattle.abt_outcomes.proofs.Outcomes.{outcome-seen}
use Rattle.abt_drain.specs.Moments.{HasCome, LeadTo, Moment, made_at}
use Rattle.abt_drain.specs.Runs.{IsRunOf}

map-of-map : {A B C : Type 0} (f : A → B) (g : B → C) (xs : List A) → map g (map f xs) ≡ map (λ x. g (f x)) xs
map-of-map f g [] = refl
map-of-map f g (x ∷ xs) = ap (λ ys. g (f x) ∷ ys) (map-of-map f g xs)

module _ (W : Parts) (Z : Stored) (valid : IsValid W) (stored : OrdersStored W Z.orders) (n : ℕ) (m : Moment) (come : HasCome W Z n m) where
  -- what the logs merge to is the journal of all deeds
  pub is-journal : (J : List Event) → MergesTo m.logs J → IsJournalOf come.deeds J
  is-journal J merged = (journals-are-merges W Z (part_of W (start W)) (object_of W (start W)) come.deeds come.histories m.parts m.objects come.gathered J).1
      (record { in_order = merged.in_order; each = λ s. merged.each s ∙ sym (come.logs s) })

  counted : (J : List Event) → IsJournalOf come.deeds J → JournalCounts W come.deeds J
  counted = journals-count W Z (part_of W (start W)) (object_of W (start W)) come.deeds come.histories m.parts m.objects come.gathered

  journal-leads : (J : List Event) → IsJournalOf come.deeds J → LeadTo W Z J m
  journal-leads J j =
      let to : LeadsTo W Z (start W) J m.parts m.objects = merging W Z valid stored (start W) (start-is-sound W Z valid stored) come.deeds come.histories m.parts m.objects J come.gathered j in
      record {
        run = to.run;
        stand = record { streams = to.parts; sites = to.objects };
        made = λ s lt. (counted J j).own_steps s ∙ ap steps_in (come.logs s);
      }

  -- it leads to the moment
  pub come-lead : (J : List Event) → MergesTo m.logs J → LeadTo W Z J m
  come-lead J merged = journal-leads J (is-journal J merged)

  -- it is stamped
  pub come-stamped : (J : List Event) → MergesTo m.logs J → Stamped W J
  come-stamped J merged = merged-is-stamped W Z (part_of W (start W)) (object_of W (start W)) come.deeds come.histories m.parts m.objects J come.gathered come.no_gap (is-journal J merged)

  -- there is one
  pub come-journal : (J : List Event) × LeadTo W Z J m
  come-journal =
      let j = journals-exist W Z (part_of W (start W)) (object_of W (start W)) come.deeds come.histories m.parts m.objects come.gathered in
      (j.0, journal-leads j.0 j.1)

  -- each log has events of its stream, whose stamps rise
  pub come-log : (s : ℕ) → IsLogOf (λ (e : Event). e.stamp) (λ (e : Event). e.stream.0) s (m.logs s)
  come-log s = subst (IsLogOf (λ (e : Event). e.stamp) (λ (e : Event). e.stream.0) s) (come.logs s) (
    subst Rises (sym (map-of-map event_of (λ (e : Event). e.stamp) (come.deeds s)))
        (above-rises 0 (deed_stamps (come.deeds s)) (log-rises (machine_of W Z) (part_of W (start W)) (object_of W (start W)) come.deeds come.histories m.parts m.objects come.gathered s)),
    All-map (λ (e : Event). e.stream.0 ≡ s) event_of (come.deeds s)
        (all-from-among (λ (d : StreamDeed). d.stream ≡ s) (come.deeds s) (λ d a. own-log (machine_of W Z) (part_of W (start W)) (object_of W (start W)) come.deeds come.histories m.parts m.objects come.gathered s d a)),
  )

  -- if it looks as it ended so, the journal is a run that did
  pub come-ran : (J : List Event) → MergesTo m.logs J → (o : Outcome) → LooksAs W n m.parts m.objects (made_at m) o → IsRunOf W Z n J o
  come-ran J merged o looks =
      let lead : LeadTo W Z J m = come-lead J merged in
      let ended : EndsAs W n J o = (outcome-seen W Z valid stored n J o m.parts m.objects (made_at m) lead.run lead.stand lead.made).1 looks in
      record {
        run = lead.run;
        stamped = come-stamped J merged;
        sound = λ i. runs-are-sound W Z valid stored J i lead.run;
        lives = runs-live W Z (runs-are-sound W Z) valid stored J lead.run;
        ends = ends-are-the-journals W Z (runs-are-sound W Z) valid stored J lead.run;
        within = λ s lt. subst (λ k. k ≤ n) (sym (lead.made s lt)) (come.within s);
        ended = ended;
        flow = λ finished confluent one. outputs-are-flow W Z valid stored confluent one J lead.run (subst (EndsAs W n J) finished ended).1;
      }

  -- Clocks.

  -- there are few logs, of at most 2^55 events
  few-events : sum_below W.streams (λ s. length (come.deeds s)) ≤ sum_below (stream_limit format.Three) (λ s. 2 ^ 55)
  few-events = sum-below-le W.streams (2 ^ 55) (λ s. length (come.deeds s)) (λ s lt. few s) (stream_limit format.Three) valid.few_streams where
    few : (s : ℕ) → length (come.deeds s) ≤ 2 ^ 55
    few s =
        let a : length (m.logs s) ≤ 2 ^ 55 = come.few s in
        let b : length (m.logs s) ≡ length (come.deeds s) = ap length (sym (come.logs s)) ∙ length-map (come.deeds s) event_of in
        subst (λ k. k ≤ 2 ^ 55) b a

  pub come-clock-low : (clock : ℕ) → IsClock (machine_of W Z) come.deeds clock → clock < 2 ^ 62
  come-clock-low clock is = elim is [
    | inl e ↦ (let z : clock ≡ 0 = e in omega arith)
    | inr r ↦ (
        let few = stamps-are-few (machine_of W Z) (part_of W (start W)) (object_of W (start W)) come.deeds come.histories m.parts m.objects come.gathered come.no_gap r.0.stream r.0 r.1 in
        let e : r.0.stamp ≡ clock = r.2 in
        let b = few-events in
        omega arith)
  ]

  -- no stream's clock is at its end
  pub come-stream-unworn : (s : ℕ) → m.clocks s < 2 ^ 62
  come-stream-unworn s = subst (λ k. k < 2 ^ 62) (come.clocks s)
      (come-clock-low _ ((lasts-are-clocks (machine_of W Z) (part_of W (start W)) (object_of W (start W)) come.deeds come.histories m.parts m.objects come.gathered).0 s))
