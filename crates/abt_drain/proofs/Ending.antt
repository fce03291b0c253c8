-- When the streams stop, the merged journal is the run that they made.
use Rattle.std.proofs.Common.{◌≡◌, ℕ, List, sym, subst}
use Rattle.abt_machine.specs.declared.events.Event.{Event}
use Rattle.abt_machine.specs.declared.events.Outcome.{Outcome}
use Rattle.abt_machine.specs.Stored.{Stored}
use Rattle.abt_machine.specs.declared.workload.Parts.{Parts}
use Rattle.abt_machine.specs.Outcomes.{EndsAs}
use Rattle.abt_machine.specs.Rounds.{OrdersStored}
use Rattle.abt_machine.specs.Stamps.{Stamped}
use Rattle.abt_machine.specs.Valid.{IsValid}
use Rattle.abt_interleave.proofs.OneList.{merges-are-one}
use Rattle.abt_simulation.specs.Journals.{MergesTo}
use Rattle.abt_outcomes.specs.OneStream.{GoesToItsStop, IsOnlyRun}
use Rattle.abt_outcomes.specs.Values.{LooksAs}
use Rattle.abt_drain.specs.Moments.{IsReachedMoment, Moment, made_at}
use Rattle.abt_drain.specs.Rotations.{IsAtStop, IsGoing}
use Rattle.abt_drain.specs.Runs.{HasRun, IsRunOf}
use Rattle.abt_drain.proofs.Alone.{log-is-only, log-merges, log-stops}
use Rattle.abt_drain.proofs.Coming.{come-ran}
use Rattle.abt_drain.proofs.Journals.{has-come, merged-lamport}

module _ (W : Parts) (Z : Stored) (valid : IsValid W) (stored : OrdersStored W Z.orders) (n : ℕ) (new : Moment) (reached : IsReachedMoment W Z n new) (going : IsGoing W n new)
    (at_stop : IsAtStop W n new) (J : List Event) (merged : MergesTo new.logs J) (o : Outcome) (looks : LooksAs W n new.parts new.objects (made_at new) o) where
  ran : IsRunOf W Z n J o
  ran = come-ran W Z valid stored n new (has-come W Z valid stored n new reached) J merged o looks

  -- the journal of one log is that log
  one-log : W.streams ≡ 1 → J ≡ new.logs 0
  one-log alone = merges-are-one Event (λ e. e.stamp) (λ e. e.stream.0) new.logs J (new.logs 0) merged (log-merges W Z n new reached alone)

  stops : W.streams ≡ 1 → GoesToItsStop W n J
  stops alone = subst (GoesToItsStop W n) (sym (one-log alone)) (log-stops W Z valid stored n new reached at_stop alone going o (subst (λ K. EndsAs W n K o) (one-log alone) ran.ended))

  pub has-run : HasRun W Z n J o
  has-run = record {
    run = ran.run;
    stamped = ran.stamped;
    lamport = merged-lamport W Z valid stored n new reached J merged;
    sound = ran.sound;
    lives = ran.lives;
    ends = ran.ends;
    within = ran.within;
    ended = ran.ended;
    flow = ran.flow;
    stops = stops;
    only = λ alone bound. subst (IsOnlyRun W Z n) (sym (one-log alone))
        (log-is-only W Z valid stored n new reached at_stop alone bound (subst (Stamped W) (one-log alone) ran.stamped) (subst (GoesToItsStop W n) (one-log alone) (stops alone)));
  }
