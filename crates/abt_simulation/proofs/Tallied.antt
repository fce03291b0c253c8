-- The journal of all logs.
use Rattle.std.proofs.Common.{◌≡◌, ℕ, ◌≤◌, cond, List, [], map, length, refl, ◌∙◌, ap, arith}
use Rattle.std.specs.Prelude.{Contains}
use Rattle.std.proofs.lemmas.List.{length-map}
use Rattle.abt_machine.specs.declared.events.Event.{Event}
use Rattle.abt_machine.specs.declared.events.Site.{Site}
use Rattle.abt_machine.specs.declared.grammar.Format.TheVariants as format
use Rattle.abt_machine.specs.Stored.{Stored}
use Rattle.abt_machine.specs.declared.workload.Parts.{Parts}
use Rattle.abt_machine.specs.Limits.{stream_limit}
use Rattle.abt_machine.specs.Outcomes.{is_step}
use Rattle.abt_machine.specs.Values.{Held, Object}
use Rattle.abt_interleave.specs.Machines.{Gathered}
use Rattle.abt_interleave.proofs.Members.{to-among}
use Rattle.abt_interleave.proofs.Merged.{log-rises}
use Rattle.abt_interleave.proofs.OneList.{merges-are-one}
use Rattle.abt_interleave.proofs.Tallies.{sum-same, merges-count-each, merges-sum, merges-lengthen}
use Rattle.abt_interleave.proofs.Sorts.{sorted-as-is-merge}
use Rattle.abt_interleave.proofs.Lows.{own-log, merged, never-worn}
use Rattle.abt_interleave.proofs.Sorts.{merge-sorts, seen-merge}
use Rattle.abt_simulation.specs.Merging.{machine_of, StreamDeed, SiteEntry, event_of, IsJournalOf}
use Rattle.abt_simulation.specs.Journals.{events_of, MergesTo, JournalsAreMerges, JournalsExist, JournalCounts, JournalsCount, NothingIsWorn}

module _ (W : Parts) (Z : Stored) (parts : ℕ → Held) (objects : Site → Object) (logs : ℕ → List StreamDeed) (histories : Site → List SiteEntry) (ends : ℕ → Held) (finals : Site → Object)
    (gathered : Gathered (machine_of W Z) parts objects logs histories ends finals) where
  own : (s : ℕ) (d : StreamDeed) → Contains (logs s) d → d.stream ≡ s
  own s d m = own-log (machine_of W Z) parts objects logs histories ends finals gathered s d (to-among (logs s) d m)

  to : (J : List Event) → IsJournalOf logs J → MergesTo (events_of logs) J
  to J = (sorted-as-is-merge (machine_of W Z) Event event_of (λ e. e.stamp) (λ e. e.stream.0) (λ d. (refl, refl)) logs J (log-rises (machine_of W Z) parts objects logs histories ends finals gathered) own).0

  from : (J : List Event) → MergesTo (events_of logs) J → IsJournalOf logs J
  from J = (sorted-as-is-merge (machine_of W Z) Event event_of (λ e. e.stamp) (λ e. e.stream.0) (λ d. (refl, refl)) logs J (log-rises (machine_of W Z) parts objects logs histories ends finals gathered) own).1

  journal : (J : List Event) × IsJournalOf logs J
  journal =
      let ds = merged (machine_of W Z) parts objects logs histories ends finals gathered in
      (map event_of ds.0, seen-merge (machine_of W Z) Event event_of (λ e. e.stamp) (λ e. e.stream.0) (λ d. (refl, refl)) logs ds.0 (merge-sorts (machine_of W Z) logs (log-rises (machine_of W Z) parts objects logs histories ends finals gathered) own ds.0 ds.1))

  one : (J K : List Event) → IsJournalOf logs J → IsJournalOf logs K → K ≡ J
  one J K j k = merges-are-one Event (λ e. e.stamp) (λ e. e.stream.0) (events_of logs) K J (to K k) (to J j)

  none-left : (s : ℕ) → W.streams ≤ s → events_of logs s ≡ []
  none-left s ge = ap (map event_of) (gathered.undeclared s ge)

  counts : (J : List Event) → IsJournalOf logs J → JournalCounts W logs J
  counts J j = record {
    own_steps = λ s. merges-count-each Event (λ e. e.stamp) (λ e. e.stream.0) (events_of logs) J (to J j) (λ e. is_step e.what) s;
    all_steps = merges-sum Event (λ e. e.stamp) (λ e. e.stream.0) W.streams (events_of logs) J (to J j) none-left (λ e. cond (is_step e.what) 1 0);
    all_events = merges-lengthen Event (λ e. e.stamp) (λ e. e.stream.0) W.streams (events_of logs) J (to J j) none-left ∙ sum-same W.streams (λ s. length (events_of logs s)) (λ s. length (logs s)) (λ s lt. length-map (logs s) event_of);
  }

pub journals-are-merges : (W : Parts) (Z : Stored) → JournalsAreMerges W Z
journals-are-merges W Z parts objects logs histories ends finals gathered J = (to W Z parts objects logs histories ends finals gathered J, from W Z parts objects logs histories ends finals gathered J)

pub journals-exist : (W : Parts) (Z : Stored) → JournalsExist W Z
journals-exist W Z parts objects logs histories ends finals gathered =
    let j = journal W Z parts objects logs histories ends finals gathered in
    (j.0, j.1, λ K k. one W Z parts objects logs histories ends finals gathered j.0 K j.1 k)

pub journals-count : (W : Parts) (Z : Stored) → JournalsCount W Z
journals-count W Z parts objects logs histories ends finals gathered J j = counts W Z parts objects logs histories ends finals gathered J j

pub nothing-is-worn : (W : Parts) (Z : Stored) → NothingIsWorn W Z
nothing-is-worn W Z valid parts objects logs histories ends finals gathered rule short = never-worn (machine_of W Z) parts objects logs histories ends finals gathered rule
    (let k : W.streams ≤ stream_limit format.Three = valid.few_streams in omega arith) short
