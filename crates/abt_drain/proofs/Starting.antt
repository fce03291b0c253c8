-- The start of a run is reached, and streams have come to it.
use Rattle.std.proofs.Common.{◌≡◌, ℕ, ◌<◌, ◌≤◌, ◌^◌, inl, List, [], ◌∷◌, ◌++◌, length, refl, sym, ◌∙◌, ap, subst, arith}
use Rattle.std.specs.Prelude.{Contains}
use Rattle.abt_machine.specs.declared.events.Event.{Event}
use Rattle.abt_machine.specs.Stored.{Stored}
use Rattle.abt_machine.specs.declared.workload.Parts.{Parts}
use Rattle.abt_machine.specs.Outcomes.{steps_in}
use Rattle.abt_machine.specs.Start.{start}
use Rattle.abt_machine.specs.Values.{object_of, part_of}
use Rattle.abt_interleave.specs.Machines.{Gathered}
use Rattle.abt_interleave.proofs.Members.{to-among}
use Rattle.abt_simulation.specs.Merging.{machine_of}
use Rattle.abt_drain.specs.Moments.{HasCome, IsReachedMoment, IsStart, Moment, made_at}
use Rattle.abt_drain.specs.Rotations.{HaveRotated, IsAwake, HasSeenNone, IsGoing}

pub no-member : {A : Type 0} (x : A) → Contains [] x → ⊥
no-member x m = to-among [] x m

no-last : (front : List Event) (e : Event) → [] ≡ front ++ e ∷ [] → ⊥
no-last [] e is = cc
no-last (f ∷ front) e is = cc

module _ (W : Parts) (m : Moment) (is : IsStart W m) where
  pub start-gathered : (Z : Stored) → Gathered (machine_of W Z) (part_of W (start W)) (object_of W (start W)) (λ s. []) (λ x. []) m.parts m.objects
  start-gathered Z = record {
    courses = λ s lt. (tt, is.parts s lt);
    undeclared = λ s ge. refl;
    legal = λ x. (tt, is.objects x);
    matched = record { has_entry = λ d x e a l. absurd (no-member d a); has_deed = λ x e a. absurd (no-member e a) };
  }

  pub start-few : (s : ℕ) → length (m.logs s) ≤ 2 ^ 55
  start-few s = subst (λ log. length log ≤ 2 ^ 55) (sym (is.logs s)) (omega arith)

  pub start-within : (n s : ℕ) → made_at m s ≤ n
  start-within n s = subst (λ log. steps_in log ≤ n) (sym (is.logs s)) (omega arith)

  pub start-reached : (Z : Stored) (n : ℕ) → IsReachedMoment W Z n m
  start-reached Z n = record {
    deeds = λ s. [];
    histories = λ x. [];
    gathered = start-gathered Z;
    timed = λ s. tt;
    logs = λ s. sym (is.logs s);
    clocks = λ s. sym (is.clocks s);
    times = λ x. sym (is.times x);
    few = start-few;
    within = start-within n;
  }

  abbrev pub start-come : (Z : Stored) (n : ℕ) → HasCome W Z n m
  start-come Z n = record {
    deeds = λ s. [];
    histories = λ x. [];
    gathered = start-gathered Z;
    no_gap = λ s d a. absurd (no-member d a);
    logs = λ s. sym (is.logs s);
    clocks = λ s. sym (is.clocks s);
    few = start-few;
    within = start-within n;
  }

  -- no rotation leads there
  pub start-rotated : (Z : Stored) (n : ℕ) → HaveRotated W Z n m
  start-rotated Z n = record {
    many = 0;
    events = [];
    lead = record { run = tt; stand = record { streams = is.parts; sites = is.objects }; made = λ s lt. sym (ap steps_in (is.logs s)) };
    logs = λ s. sym (is.logs s);
    rotations = refl;
  }

  pub start-going : (n : ℕ) → IsGoing W n m
  start-going n alone = inl (is.logs 0)

  pub start-awake : IsAwake W m
  start-awake alone ended = no-last ended.0 ended.1 (sym (is.logs 0) ∙ ended.2)

  pub start-fresh : (s : ℕ) → s < W.streams → HasSeenNone m s
  start-fresh s lt = sym (ap (λ p. p.own.top.seen) (is.parts s lt))
