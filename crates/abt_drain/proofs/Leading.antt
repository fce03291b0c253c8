-- One event more, in any journal that leads to the moment before it.
use Rattle.std.proofs.Common.{◌≡◌, ◌≢◌, ℕ, ◌+◌, ◌==◌, ◌&&◌, inl, inr, Bool, true, false, cond, List, [], ◌∷◌, ◌++◌, Option, Some, None, refl, sym, ◌∙◌, ap, subst, arith}
use Rattle.std.proofs.lemmas.Bool.{cases_eq, eq-eqb, ne_eqb}
use Rattle.std.proofs.lemmas.List.{append_assoc, append-nil}
use Rattle.std.proofs.lemmas.List.Sums.{sum_by_push}
use Rattle.abt_machine.specs.declared.events.Event.{Event}
use Rattle.abt_machine.specs.declared.events.Site.{Site}
use Rattle.abt_machine.specs.declared.events.What.{What}
use Rattle.abt_machine.specs.Stored.{Stored}
use Rattle.abt_machine.specs.declared.workload.Parts.{Parts}
use Rattle.abt_machine.specs.Events.{After, after}
use Rattle.abt_machine.specs.Gives.{SiteGives}
use Rattle.abt_machine.specs.Outcomes.{is_step, steps_in, steps_of}
use Rattle.abt_machine.specs.Rounds.{OrdersStored}
use Rattle.abt_machine.specs.Runs.{last_state}
use Rattle.abt_machine.specs.Sound.{Sound}
use Rattle.abt_machine.specs.Start.{start}
use Rattle.abt_machine.specs.Turns.{Heard, Steps}
use Rattle.abt_machine.specs.Valid.{IsValid}
use Rattle.abt_machine.specs.Values.{Object, object_of, part_of}
use Rattle.abt_interleave.specs.Deeds.{Answered}
use Rattle.abt_interleave.specs.Machines.{Goes}
use Rattle.abt_simulation.specs.Merging.{machine_of}
use Rattle.abt_simulation.proofs.Merged.{is-simulated}
use Rattle.abt_laws.proofs.RunParts.{last_state-sound, run-push, state_after-append}
use Rattle.abt_laws.proofs.SoundRuns.{runs-are-sound}
use Rattle.abt_drain.specs.Moments.{LeadTo, Makes, Moment, event_at}
use Rattle.abt_drain.specs.Rotations.{Lead}

-- 1 if it is so
abbrev one_if : Bool → ℕ
one_if b = cond b 1 0

-- what is heard changes objects that are the same
same-answered : (old same new : Site → Object) (heard : Option Heard) → ((x : Site) → same x ≡ old x) → Answered SiteGives old heard new → Answered SiteGives same heard new
same-answered old same new None e a = λ x. a x ∙ sym (e x)
same-answered old same new (Some h) e a = (subst (λ o. SiteGives o h.1 h.2 (new h.0)) (sym (e h.0)) a.0, λ x ne. a.1 x ne ∙ sym (e x))

-- a stream's steps in a journal and in its log, with an event more
same-steps : (s : ℕ) (J log : List Event) (e : Event) → e.stream.0 ≡ s → steps_of s J ≡ steps_in log → steps_of s (J ++ e ∷ []) ≡ steps_in (log ++ e ∷ [])
same-steps s J log e own q =
    let a : steps_of s (J ++ e ∷ []) ≡ steps_of s J + one_if (is_step e.what && (e.stream.0 == s)) = sum_by_push (λ (f : Event). one_if (is_step f.what && (f.stream.0 == s))) J e in
    let b : steps_in (log ++ e ∷ []) ≡ steps_in log + one_if (is_step e.what) = sum_by_push (λ (f : Event). one_if (is_step f.what)) log e in
    let c : one_if (is_step e.what && (e.stream.0 == s)) ≡ one_if (is_step e.what) = same (is_step e.what) (e.stream.0 == s) (eq-eqb e.stream.0 s own) in
    omega arith
  where
    same : (p q : Bool) → q ≡ true → one_if (p && q) ≡ one_if p
    same true q e = ap one_if e
    same false q e = refl

other-steps : (s : ℕ) (J : List Event) (e : Event) → e.stream.0 ≢ s → steps_of s (J ++ e ∷ []) ≡ steps_of s J
other-steps s J e other =
    let a : steps_of s (J ++ e ∷ []) ≡ steps_of s J + one_if (is_step e.what && (e.stream.0 == s)) = sum_by_push (λ (f : Event). one_if (is_step f.what && (f.stream.0 == s))) J e in
    let c : one_if (is_step e.what && (e.stream.0 == s)) ≡ 0 = none (is_step e.what) (e.stream.0 == s) (ne_eqb e.stream.0 s other) in
    omega arith
  where
    none : (p q : Bool) → q ≡ false → one_if (p && q) ≡ 0
    none true q e = ap one_if e
    none false q e = refl

module _ (W : Parts) (Z : Stored) (valid : IsValid W) (stored : OrdersStored W Z.orders) where
  -- the state that a run leads to is sound
  pub lead-sound : (J : List Event) (m : Moment) → LeadTo W Z J m → Sound W Z (last_state W J)
  lead-sound J m lead = last_state-sound W Z J (runs-are-sound W Z) valid stored lead.run

  module _ (s : ℕ) (w : What) (old new : Moment) (makes : Makes W Z s w old new) (J : List Event) (lead : LeadTo W Z J old) where
    goes : Goes (machine_of W Z) (last_state W J) s w (new.parts s) new.objects
    goes = is-simulated W Z valid stored (last_state W J) s w makes.heard (new.parts s) new.objects (lead-sound J old lead) makes.declared
        (subst (λ p. Steps W Z s p w makes.heard (new.parts s)) (sym (lead.stand.streams s makes.declared)) makes.steps)
        (same-answered old.objects (object_of W (last_state W J)) new.objects makes.heard lead.stand.sites makes.answered)

    next-state : last_state W (J ++ event_at new s w ∷ []) ≡ after W (last_state W J) s w
    next-state = state_after-append W (start W) J (event_at new s w ∷ [])

    -- the event comes after the journal, and leads to the next state
    pub event-comes : After W Z (last_state W J) (event_at new s w) (last_state W (J ++ event_at new s w ∷ []))
    event-comes = (makes.declared, goes.may, next-state)

    pub event-leads : LeadTo W Z (J ++ event_at new s w ∷ []) new
    event-leads = record {
      run = run-push W Z (start W) J (event_at new s w) lead.run makes.declared goes.may;
      stand = record {
        streams = λ r lt. elim (cases_eq s r) [
          | inl e ↦ subst (λ q. part_of W (last_state W (J ++ event_at new s w ∷ [])) q ≡ new.parts q) e (ap (λ T. part_of W T s) next-state ∙ goes.own)
          | inr ne ↦ ap (λ T. part_of W T r) next-state ∙ (goes.others r (λ e. ne (sym e)) ∙ (lead.stand.streams r lt ∙ sym (makes.others r ne).part))
        ];
        sites = λ x. ap (λ T. object_of W T x) next-state ∙ goes.called x;
      };
      made = λ r lt. elim (cases_eq s r) [
        | inl e ↦ same-steps r J (old.logs r) (event_at new s w) e (lead.made r lt) ∙ ap steps_in (subst (λ q. old.logs q ++ event_at new s w ∷ [] ≡ new.logs q) e (sym makes.log))
        | inr ne ↦ other-steps r J (event_at new s w) ne ∙ (lead.made r lt ∙ ap steps_in (sym (makes.others r ne).log))
      ];
    }

  pub makes-lead : (s : ℕ) (w : What) (old new : Moment) → Makes W Z s w old new → Lead W Z old (event_at new s w ∷ []) new
  makes-lead s w old new makes J lead = event-leads s w old new makes J lead

-- nothing leads from a moment to itself
pub none-lead : (W : Parts) (Z : Stored) (m : Moment) → Lead W Z m [] m
none-lead W Z m J lead = subst (λ K. LeadTo W Z K m) (sym (append-nil J)) lead

-- events that follow one another
pub leads-join : (W : Parts) (Z : Stored) (old mid new : Moment) (es fs : List Event) → Lead W Z old es mid → Lead W Z mid fs new → Lead W Z old (es ++ fs) new
leads-join W Z old mid new es fs one two J lead = subst (λ K. LeadTo W Z K new) (append_assoc J es fs) (two (J ++ es) (one J lead))
