-- One event more: the moment after it is reached too.
use Rattle.std.proofs.Common.{◌≡◌, ◌≢◌, ℕ, suc, max, ◌≤◌, ◌^◌, inl, inr, cond, List, [], ◌∷◌, ◌++◌, map, length, Option, Some, None, refl, sym, ◌∙◌, ap, subst}
use Rattle.std.proofs.lemmas.Bool.{cases_eq, cond-true, cond-false, false_from_ne_true}
use Rattle.std.proofs.lemmas.List.{map-append}
use Rattle.abt_machine.specs.declared.events.Site.{Site}
use Rattle.abt_machine.specs.declared.events.What.{What}
use Rattle.abt_machine.specs.Stored.{Stored}
use Rattle.abt_machine.specs.declared.workload.Parts.{Parts}
use Rattle.abt_machine.specs.Maps.{put_at}
use Rattle.abt_machine.specs.Outcomes.{steps_in}
use Rattle.abt_machine.specs.Start.{start}
use Rattle.abt_machine.specs.Turns.{Heard}
use Rattle.abt_machine.specs.Values.{part_of, object_of}
use Rattle.abt_interleave.specs.Histories.{last_from, last_stamp, entry_stamps}
use Rattle.abt_interleave.specs.Deeds.{deed_stamps}
use Rattle.abt_interleave.specs.Laws.{LogGrows, HistoryGrows}
use Rattle.abt_interleave.specs.Ticking.{IsNext}
use Rattle.abt_interleave.proofs.Grown.{gathered-grows}
use Rattle.abt_interleave.proofs.Parts.{cases-place}
use Rattle.abt_interleave.proofs.Ticks.{next-is-late, timed-grows}
use Rattle.abt_simulation.specs.Journals.{events_of}
use Rattle.abt_simulation.specs.Merging.{StreamDeed, SiteEntry, event_of, machine_of, same_site}
use Rattle.abt_simulation.proofs.Merged.{tells-sites}
use Rattle.abt_laws.proofs.Maps.{put_at-same, put_at-other}
use Rattle.abt_drain.specs.Moments.{IsReachedMoment, Makes, Moment, SetsClock, made_at, next_stamp}

-- the last stamp of a list is that of its last item
last-push : {A : Type 0} (stamp : A → ℕ) (n : ℕ) (xs : List A) (x : A) → last_from n (map stamp (xs ++ x ∷ [])) ≡ stamp x
last-push stamp n [] x = refl
last-push stamp n (y ∷ ys) x = last-push stamp (stamp y) ys x

-- the entry that a deed leaves in a history
abbrev entry_by : StreamDeed → Heard → SiteEntry
entry_by d h = record { stamp = d.stamp; caller = d.stream; act = h.1; answer = h.2 }

-- histories with what a deed heard
abbrev longer_by : (Site → List SiteEntry) → StreamDeed → Option Heard → Site → List SiteEntry
longer_by histories d None x = histories x
longer_by histories d (Some h) x = cond (same_site h.0 x) (histories x ++ entry_by d h ∷ []) (histories x)

module _ (W : Parts) (Z : Stored) where
  history-grows : (histories : Site → List SiteEntry) (d : StreamDeed) (heard : Option Heard) → HistoryGrows (machine_of W Z) histories d heard (longer_by histories d heard)
  history-grows histories d None = λ x. refl
  history-grows histories d (Some h) = (
    cond-true (same_site h.0 h.0) (histories h.0 ++ entry_by d h ∷ []) (histories h.0) ((tells-sites W Z h.0 h.0).1 refl),
    λ x ne. cond-false (same_site h.0 x) (histories x ++ entry_by d h ∷ []) (histories x) (false_from_ne_true (same_site h.0 x) (λ e. ne ((tells-sites W Z h.0 x).0 e))),
  )

  -- the last stamps of histories, if they were the sites' clocks
  times-grow : (histories longer : Site → List SiteEntry) (d : StreamDeed) (heard : Option Heard) (old new : Site → ℕ) → HistoryGrows (machine_of W Z) histories d heard longer →
      ((x : Site) → last_stamp (entry_stamps (histories x)) ≡ old x) → SetsClock old heard d.stamp new → (x : Site) → last_stamp (entry_stamps (longer x)) ≡ new x
  times-grow histories longer d None old new grown was timed x = ap (λ es. last_stamp (entry_stamps es)) (grown x) ∙ (was x ∙ sym (timed x))
  times-grow histories longer d (Some h) old new grown was timed x = elim (cases-place (machine_of W Z) (tells-sites W Z) h.0 x) [
    | inl e ↦ subst (λ y. last_stamp (entry_stamps (longer y)) ≡ new y) e
        (ap (λ es. last_stamp (entry_stamps es)) grown.0 ∙ (last-push (λ (e : SiteEntry). e.stamp) 0 (histories h.0) (entry_by d h) ∙ sym timed.0))
    | inr ne ↦ ap (λ es. last_stamp (entry_stamps es)) (grown.1 x ne) ∙ (was x ∙ sym (timed.1 x ne))
  ]

  -- the deed has the next stamp
  is-next : (m : Moment) (deeds : ℕ → List StreamDeed) (histories : Site → List SiteEntry) (d : StreamDeed) (heard : Option Heard) → ((s : ℕ) → last_stamp (deed_stamps (deeds s)) ≡ m.clocks s) →
      ((x : Site) → last_stamp (entry_stamps (histories x)) ≡ m.times x) → d.stamp ≡ next_stamp m d.stream heard → IsNext (machine_of W Z) deeds histories d heard
  is-next m deeds histories d None clocks times e = e ∙ ap suc (sym (clocks d.stream))
  is-next m deeds histories d (Some h) clocks times e = e ∙ (λ i. suc (max (sym (clocks d.stream) i) (sym (times h.0) i)))

  module _ (n s : ℕ) (w : What) (old new : Moment) (reached : IsReachedMoment W Z n old) (makes : Makes W Z s w old new) where
    abbrev deed : StreamDeed
    deed = record { stamp = new.clocks s; stream = s; what = w; heard = makes.heard }

    abbrev more : ℕ → List StreamDeed
    more = put_at reached.deeds s (reached.deeds s ++ deed ∷ [])

    abbrev longer : Site → List SiteEntry
    longer = longer_by reached.histories deed makes.heard

    log-grows : LogGrows (machine_of W Z) reached.deeds deed more
    log-grows = (put_at-same reached.deeds s (reached.deeds s ++ deed ∷ []), λ r ne. put_at-other reached.deeds s (reached.deeds s ++ deed ∷ []) r (λ e. ne (sym e)))

    next : IsNext (machine_of W Z) reached.deeds reached.histories deed makes.heard
    next = is-next old reached.deeds reached.histories deed makes.heard reached.clocks reached.times makes.clock

    -- what held of the stream's own log and of the others' holds of all
    by-stream : (P : ℕ → Type 0) → P s → ((r : ℕ) → s ≢ r → P r) → (r : ℕ) → P r
    by-stream P own others r = elim (cases_eq s r) [ inl e ↦ subst P e own | inr ne ↦ others r ne ]

    pub reached-grows : length (new.logs s) ≤ 2 ^ 55 → made_at new s ≤ n → IsReachedMoment W Z n new
    reached-grows few within = record {
      deeds = more;
      histories = longer;
      gathered = gathered-grows (machine_of W Z) (tells-sites W Z) (part_of W (start W)) old.parts new.parts (object_of W (start W)) old.objects new.objects
          reached.deeds more reached.histories longer deed reached.gathered makes.declared
          (next-is-late (machine_of W Z) reached.deeds reached.histories deed next) makes.steps (λ r ne. (makes.others r ne).part) makes.answered
          log-grows (history-grows reached.histories deed makes.heard);
      timed = timed-grows (machine_of W Z) (tells-sites W Z) reached.deeds more reached.histories longer deed reached.timed log-grows (history-grows reached.histories deed makes.heard) next;
      logs = by-stream (λ r. events_of more r ≡ new.logs r)
          (ap (map event_of) log-grows.0 ∙ (map-append event_of (reached.deeds s) (deed ∷ []) ∙ (ap (λ es. es ++ event_of deed ∷ []) (reached.logs s) ∙ sym makes.log)))
          (λ r ne. ap (map event_of) (log-grows.1 r ne) ∙ (reached.logs r ∙ sym (makes.others r ne).log));
      clocks = by-stream (λ r. last_stamp (deed_stamps (more r)) ≡ new.clocks r)
          (ap (λ ds. last_stamp (deed_stamps ds)) log-grows.0 ∙ last-push (λ (d : StreamDeed). d.stamp) 0 (reached.deeds s) deed)
          (λ r ne. ap (λ ds. last_stamp (deed_stamps ds)) (log-grows.1 r ne) ∙ (reached.clocks r ∙ sym (makes.others r ne).clock));
      times = times-grow reached.histories longer deed makes.heard old.times new.times (history-grows reached.histories deed makes.heard) reached.times makes.times;
      few = by-stream (λ r. length (new.logs r) ≤ 2 ^ 55) few (λ r ne. subst (λ es. length es ≤ 2 ^ 55) (sym (makes.others r ne).log) (reached.few r));
      within = by-stream (λ r. made_at new r ≤ n) within (λ r ne. subst (λ es. steps_in es ≤ n) (sym (makes.others r ne).log) (reached.within r));
    }
