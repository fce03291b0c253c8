-- The journal of a moment that is reached: its stamps are Lamport's, and no clock is worn.
use Rattle.std.proofs.Common.{ℕ, ◌<◌, ◌^◌, List, subst}
use Rattle.abt_machine.specs.declared.events.Event.{Event}
use Rattle.abt_machine.specs.declared.events.Site.{Site}
use Rattle.abt_machine.specs.Stored.{Stored}
use Rattle.abt_machine.specs.declared.workload.Parts.{Parts}
use Rattle.abt_machine.specs.Rounds.{OrdersStored}
use Rattle.abt_machine.specs.Stamps.{Lamport}
use Rattle.abt_machine.specs.Start.{start}
use Rattle.abt_machine.specs.Valid.{IsValid}
use Rattle.abt_machine.specs.Values.{part_of, object_of}
use Rattle.abt_interleave.specs.Stamps.{AllTimed}
use Rattle.abt_interleave.proofs.Ticks.{lasts-are-clocks, timed-leaves-no-gap}
use Rattle.abt_simulation.specs.Journals.{MergesTo}
use Rattle.abt_simulation.specs.Merging.{machine_of}
use Rattle.abt_simulation.proofs.MergedStamps.{merged-is-lamport}
use Rattle.abt_drain.specs.Moments.{HasCome, IsReachedMoment, LeadTo, Moment}
use Rattle.abt_drain.proofs.Coming.{come-clock-low, come-journal, come-lead, come-stream-unworn, is-journal}

-- if each stamp is one more than the greater of its stream's last and its site's last, the journal's stamps are Lamport's
pub come-lamport : (W : Parts) (Z : Stored) (valid : IsValid W) (stored : OrdersStored W Z.orders) (n : ℕ) (m : Moment) (come : HasCome W Z n m) → ((s : ℕ) → AllTimed come.histories 0 (come.deeds s)) →
    (J : List Event) → MergesTo m.logs J → Lamport W J
come-lamport W Z valid stored n m come timed J merged =
    merged-is-lamport W Z (part_of W (start W)) (object_of W (start W)) come.deeds come.histories m.parts m.objects J come.gathered timed (is-journal W Z valid stored n m come J merged)

module _ (W : Parts) (Z : Stored) (valid : IsValid W) (stored : OrdersStored W Z.orders) (n : ℕ) (m : Moment) (reached : IsReachedMoment W Z n m) where
  -- streams have come to it
  abbrev pub has-come : HasCome W Z n m
  has-come = record {
    deeds = reached.deeds;
    histories = reached.histories;
    gathered = reached.gathered;
    no_gap = timed-leaves-no-gap (machine_of W Z) (part_of W (start W)) (object_of W (start W)) reached.deeds reached.histories m.parts m.objects reached.gathered reached.timed;
    logs = reached.logs;
    clocks = reached.clocks;
    few = reached.few;
    within = reached.within;
  }

  -- all logs merged lead to the moment
  pub merged-lead : (J : List Event) → MergesTo m.logs J → LeadTo W Z J m
  merged-lead = come-lead W Z valid stored n m has-come

  pub merged-lamport : (J : List Event) → MergesTo m.logs J → Lamport W J
  merged-lamport = come-lamport W Z valid stored n m has-come reached.timed

  -- some journal does
  pub some-journal : (J : List Event) × LeadTo W Z J m
  some-journal = come-journal W Z valid stored n m has-come

  -- no stream's clock is at its end
  pub stream-unworn : (s : ℕ) → m.clocks s < 2 ^ 62
  stream-unworn = come-stream-unworn W Z valid stored n m has-come

  -- nor is a site's
  pub site-unworn : (x : Site) → m.times x < 2 ^ 62
  site-unworn x = subst (λ k. k < 2 ^ 62) (reached.times x)
      (come-clock-low W Z valid stored n m has-come _ ((lasts-are-clocks (machine_of W Z) (part_of W (start W)) (object_of W (start W)) reached.deeds reached.histories m.parts m.objects reached.gathered).1 x))
