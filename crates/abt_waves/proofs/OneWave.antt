-- One wave more, in any journal that leads to the moment before it.
use Rattle.std.proofs.Common.{◌≡◌, ℕ, ◌+◌, ◌∙◌, Bool, List, ◌++◌, sym, ap, subst, arith}
use Rattle.std.proofs.lemmas.List.{append_cancel_left}
use Rattle.std.proofs.lemmas.List.Sums.{sum_by-append}
use Rattle.abt_machine.specs.declared.events.Event.{Event}
use Rattle.abt_machine.specs.Stored.{Stored}
use Rattle.abt_machine.specs.declared.workload.Parts.{Parts}
use Rattle.abt_machine.specs.Gives.{SiteGives}
use Rattle.abt_machine.specs.Outcomes.{steps_in, steps_of}
use Rattle.abt_machine.specs.Rounds.{OrdersStored}
use Rattle.abt_machine.specs.Runs.{last_state, state_after}
use Rattle.abt_machine.specs.Sound.{Sound}
use Rattle.abt_machine.specs.Start.{start}
use Rattle.abt_machine.specs.State.{State}
use Rattle.abt_machine.specs.Turns.{Steps}
use Rattle.abt_machine.specs.Valid.{IsValid}
use Rattle.abt_machine.specs.Values.{object_of, part_of}
use Rattle.abt_interleave.specs.Histories.{Legal}
use Rattle.abt_interleave.specs.Deeds.{Course}
use Rattle.abt_interleave.specs.Machines.{Gathered}
use Rattle.abt_simulation.specs.Journals.{JournalCounts, MergesTo, events_of}
use Rattle.abt_simulation.specs.Merging.{IsJournalOf, LeadsTo, machine_of}
use Rattle.abt_simulation.proofs.Merged.{merging}
use Rattle.abt_simulation.proofs.Tallied.{journals-are-merges, journals-count, journals-exist}
use Rattle.abt_laws.proofs.RunParts.{last_state-sound, run-join, state_after-append}
use Rattle.abt_laws.proofs.SoundRuns.{runs-are-sound}
use Rattle.abt_drain.specs.InRotation.{events_by}
use Rattle.abt_drain.specs.Moments.{LeadTo, Moment}
use Rattle.abt_waves.specs.Fleets.{IsWave}

module _ (W : Parts) (Z : Stored) (valid : IsValid W) (stored : OrdersStored W Z.orders) (J : List Event) (old new : Moment) (lead : LeadTo W Z J old) (live : List Bool) (wave : IsWave W Z live old new) where
  -- what was gathered in the wave, from the state before it
  pub wave-gathered : Gathered (machine_of W Z) (part_of W (last_state W J)) (object_of W (last_state W J)) wave.deeds wave.histories new.parts new.objects
  wave-gathered = record {
    courses = λ s lt. subst (λ p. Course (Steps W Z) s p (wave.deeds s) (new.parts s)) (sym (lead.stand.streams s lt)) (wave.gathered.courses s lt);
    undeclared = wave.gathered.undeclared;
    legal = λ x. subst (λ o. Legal SiteGives o (wave.histories x) (new.objects x)) (sym (lead.stand.sites x)) (wave.gathered.legal x);
    matched = wave.gathered.matched;
  }

  -- what the events of logs merge to is the journal of the wave's deeds, if each log's grew by its own of them
  pub wave-journal : (segments : ℕ → List Event) → ((s : ℕ) → old.logs s ++ segments s ≡ new.logs s) → (es : List Event) → MergesTo segments es → IsJournalOf wave.deeds es
  wave-journal segments cut es merged = (journals-are-merges W Z (part_of W (last_state W J)) (object_of W (last_state W J)) wave.deeds wave.histories new.parts new.objects wave-gathered es).1
      (record { in_order = merged.in_order; each = λ s. merged.each s ∙ append_cancel_left (old.logs s) (segments s) (events_of wave.deeds s) (cut s ∙ wave.logs s) })

  -- there is such a journal
  pub some-events : (es : List Event) × IsJournalOf wave.deeds es
  some-events =
      let j = journals-exist W Z (part_of W (last_state W J)) (object_of W (last_state W J)) wave.deeds wave.histories new.parts new.objects wave-gathered in
      (j.0, j.1)

  module _ (es : List Event) (journal : IsJournalOf wave.deeds es) where
    -- its events of each stream
    pub own-events : (s : ℕ) → events_by s es ≡ events_of wave.deeds s
    own-events = ((journals-are-merges W Z (part_of W (last_state W J)) (object_of W (last_state W J)) wave.deeds wave.histories new.parts new.objects wave-gathered es).0 journal).each

    sound : Sound W Z (last_state W J)
    sound = last_state-sound W Z J (runs-are-sound W Z) valid stored lead.run

    to : LeadsTo W Z (last_state W J) es new.parts new.objects
    to = merging W Z valid stored (last_state W J) sound wave.deeds wave.histories new.parts new.objects es wave-gathered journal

    next-state : last_state W (J ++ es) ≡ state_after W (last_state W J) es
    next-state = state_after-append W (start W) J es

    counts : JournalCounts W wave.deeds es
    counts = journals-count W Z (part_of W (last_state W J)) (object_of W (last_state W J)) wave.deeds wave.histories new.parts new.objects wave-gathered es journal

    -- with them the journal leads to the moment after it
    pub wave-leads : LeadTo W Z (J ++ es) new
    wave-leads = record {
      run = run-join W Z (start W) J es lead.run to.run;
      stand = record {
        streams = λ s lt. ap (λ (T : State). part_of W T s) next-state ∙ to.parts s lt;
        sites = λ x. ap (λ (T : State). object_of W T x) next-state ∙ to.objects x;
      };
      made = λ s lt.
          (let all : steps_of s (J ++ es) ≡ steps_of s J + steps_of s es = sum_by-append _ J es in
          let log : steps_in (old.logs s ++ events_of wave.deeds s) ≡ steps_in (old.logs s) + steps_in (events_of wave.deeds s) = sum_by-append _ (old.logs s) (events_of wave.deeds s) in
          let before : steps_of s J ≡ steps_in (old.logs s) = lead.made s lt in
          let own : steps_of s es ≡ steps_in (events_of wave.deeds s) = counts.own_steps s in
          let whole : steps_in (new.logs s) ≡ steps_in (old.logs s ++ events_of wave.deeds s) = ap steps_in (wave.logs s) in
          omega (arith, all, log, before, own, whole));
    }
