-- Rotations: the turns of one stream after the other, and what they lower.
use Rattle.std.proofs.Common.{◌≡◌, ℕ, suc, ◌<◌, ◌≤◌, ◌⊎◌, inl, inr, Bool, true, false, List, [], ◌∷◌, ◌++◌, refl, sym, ◌∙◌, ap, subst, arith}
use Rattle.std.proofs.lemmas.Bool.{cases_eq}
use Rattle.abt_machine.specs.declared.events.Event.{Event}
use Rattle.abt_machine.specs.declared.events.What.TheVariants as what
use Rattle.abt_machine.specs.Stored.{Stored}
use Rattle.abt_machine.specs.declared.workload.Parts.{Parts}
use Rattle.abt_machine.specs.Numbers.{stream_no}
use Rattle.abt_machine.specs.Outcomes.{steps_in}
use Rattle.abt_machine.specs.Rounds.{OrdersStored}
use Rattle.abt_machine.specs.Runs.{last_state}
use Rattle.abt_machine.specs.Start.{start}
use Rattle.abt_machine.specs.Turns.{due_of}
use Rattle.abt_machine.specs.Valid.{IsValid}
use Rattle.abt_laws.proofs.RunParts.{state_after-append}
use Rattle.abt_outcomes.specs.Rotations.{HasEmptied, HasNoStep, IsRotation, IsWithin, work_left}
use Rattle.abt_outcomes.proofs.Falling.{steps-fall}
use Rattle.abt_outcomes.proofs.GoingOn.{emptied-grows}
use Rattle.abt_outcomes.proofs.Working.{seen-rotations-fall, work-is-seen}
use Rattle.abt_drain.specs.Moments.{IsReachedMoment, LeadTo, Moment, Stays, made_at}
use Rattle.abt_drain.specs.Rotations.{Empties, LastRoundIsEmpty, HasTurned, HaveTurned, HasSeenNone, IsQuietIn, IsSpentIn, work_at}
use Rattle.abt_drain.proofs.Journals.{some-journal}
use Rattle.abt_drain.proofs.Leading.{leads-join, none-lead}
use Rattle.abt_drain.proofs.Taking.{differ, no-step-front, no-step-join, no-step-rest, stays-same, stays-then}
use Rattle.abt_drain.proofs.Turning.{logged-join, none-logged}

-- at first no stream had its turn
pub none-turned : (W : Parts) (Z : Stored) (n : ℕ) (m : Moment) → HaveTurned W Z n 0 m false m
none-turned W Z n m = record {
  events = [];
  lead = none-lead W Z m;
  logged = none-logged m;
  turns = λ J lead. refl;
  no_step = λ q. tt;
  step = λ q. differ (sym q);
  emptied = λ q r lt. absurd (none r lt);
  fresh = λ r lt. absurd (none r lt);
  others = λ r le. stays-same m r;
} where
  none : (r : ℕ) → r < 0 → ⊥
  none r lt = omega arith

-- a stream that has what it had is spent still
spent-stays : (W : Parts) (n : ℕ) (old new : Moment) (r : ℕ) → Stays old new r → IsSpentIn W n old r → IsSpentIn W n new r
spent-stays W n old new r stays spent = (spent.0, ap steps_in stays.log ∙ spent.1, ap (due_of W r) stays.part ∙ spent.2)

missed-stays : (old new : Moment) (r : ℕ) → Stays old new r → LastRoundIsEmpty old r → LastRoundIsEmpty new r
missed-stays old new r stays missed = record {
  before = missed.before;
  pool = missed.pool;
  log = stays.log ∙ (missed.log ∙ ap (λ t. missed.before ++ record { stamp = t; stream = stream_no r; what = what.Miss missed.pool } ∷ []) (sym stays.clock));
  empty = ap (λ p. p.own.top.empty) stays.part ∙ missed.empty;
}

fresh-stays : (old new : Moment) (r : ℕ) → Stays old new r → HasSeenNone old r → HasSeenNone new r
fresh-stays old new r stays fresh = ap (λ p. p.own.top.seen) stays.part ∙ fresh

-- whether a step was made, with the next stream's turns
abbrev pub either : Bool → Bool → Bool
either true b = true
either false b = b

either-false : (a b : Bool) → either a b ≡ false → (a ≡ false) × (b ≡ false)
either-false true b e = differ e
either-false false b e = (refl, e)

either-true : (a b : Bool) → either a b ≡ true → (a ≡ true) ⊎ (b ≡ true)
either-true true b e = inl refl
either-true false b e = inr e

module _ (W : Parts) (Z : Stored) (n s : ℕ) (old mid new : Moment) (a b : Bool) (turned : HaveTurned W Z n s old a mid) (next : HasTurned W Z n s mid b new) where
  empties-front : (r : ℕ) → Empties W Z old turned.events r → Empties W Z old (turned.events ++ next.events) r
  empties-front r empties J lead = (emptied-grows W r (last_state W J) turned.events next.events).0 (empties J lead)

  empties-rest : (r : ℕ) → Empties W Z mid next.events r → Empties W Z old (turned.events ++ next.events) r
  empties-rest r empties J lead =
      (emptied-grows W r (last_state W J) turned.events next.events).1
      (subst (λ S. HasEmptied W r S next.events) (state_after-append W (start W) J turned.events) (empties (J ++ turned.events) (turned.lead J lead)))

  below : (r : ℕ) → r < suc s → (r < s) ⊎ (s ≡ r)
  below r lt = elim (cases_eq s r) [ inl e ↦ inr e | inr ne ↦ inl (omega arith) ]

  lower-stays : (r : ℕ) → r < s → Stays mid new r
  lower-stays r lt = next.others r (λ e. absurd (omega arith))

  all-emptied : (a ≡ false) → (b ≡ false) → (r : ℕ) → r < suc s → (Empties W Z old (turned.events ++ next.events) r × LastRoundIsEmpty new r) ⊎ IsSpentIn W n new r
  all-emptied idle none r lt = elim (below r lt) [
    | inl l ↦ elim (turned.emptied idle r l) [
      | inl m ↦ inl (empties-front r m.0, missed-stays mid new r (lower-stays r l) m.1)
      | inr spent ↦ inr (spent-stays W n mid new r (lower-stays r l) spent)
    ]
    | inr e ↦ subst (λ q. (Empties W Z old (turned.events ++ next.events) q × LastRoundIsEmpty new q) ⊎ IsSpentIn W n new q) e
        (elim (next.emptied none) [ inl m ↦ inl (empties-rest s m.0, m.1) | inr spent ↦ inr spent ])
  ]

  -- the next stream had its turns
  pub turned-more : HaveTurned W Z n (suc s) old (either a b) new
  turned-more = record {
    events = turned.events ++ next.events;
    lead = leads-join W Z old mid new turned.events next.events turned.lead next.lead;
    logged = logged-join old mid new turned.events next.events turned.logged next.logged;
    turns = λ J lead. (turned.events, next.events, refl, turned.turns J lead, next.turns (J ++ turned.events) (turned.lead J lead));
    no_step = λ q. no-step-join turned.events next.events (turned.no_step (either-false a b q).0) (next.no_step (either-false a b q).1);
    step = λ q none. elim (either-true a b q) [
      | inl one ↦ turned.step one (no-step-front turned.events next.events none)
      | inr two ↦ next.step two (no-step-rest turned.events next.events none)
    ];
    emptied = λ q. all-emptied (either-false a b q).0 (either-false a b q).1;
    fresh = λ r lt. elim (below r lt) [
      | inl l ↦ fresh-stays mid new r (lower-stays r l) (turned.fresh r l)
      | inr e ↦ subst (HasSeenNone new) e next.fresh
    ];
    others = λ r le. stays-then old mid new r (turned.others r (omega arith)) (next.others r (λ e. absurd (omega arith)));
  }

module _ (W : Parts) (Z : Stored) (valid : IsValid W) (stored : OrdersStored W Z.orders) (n : ℕ) (old new : Moment) (before : IsReachedMoment W Z n old) (after : IsReachedMoment W Z n new) (stepped : Bool)
    (turned : HaveTurned W Z n W.streams old stepped new) where
  journal : (J : List Event) × LeadTo W Z J old
  journal = some-journal W Z valid stored n old before

  led : LeadTo W Z (journal.0 ++ turned.events) new
  led = turned.lead journal.0 journal.1

  -- a rotation with a step lowers the work that is left
  pub steps-lower : stepped ≡ true → work_at W n new < work_at W n old
  steps-lower step =
      let within : IsWithin W n (journal.0 ++ turned.events) = λ s lt. subst (λ k. k ≤ n) (sym (led.made s lt)) (after.within s) in
      let a : work_left W n journal.0 ≡ work_at W n old = work-is-seen W Z valid stored n journal.0 old.parts old.objects (made_at old) journal.1.run journal.1.stand journal.1.made in
      let b : work_left W n (journal.0 ++ turned.events) ≡ work_at W n new = work-is-seen W Z valid stored n (journal.0 ++ turned.events) new.parts new.objects (made_at new) led.run led.stand led.made in
      elim (steps-fall W Z valid stored n journal.0 turned.events led.run within) [
        | inl none ↦ absurd (turned.step step none)
        | inr less ↦ subst (λ k. work_at W n new < k) a (subst (λ k. k < work_left W n journal.0) b less)
      ]

  -- so does one without a step, after which something is left to do and no stream is spent
  pub rounds-lower : ((s : ℕ) → s < W.streams → HasSeenNone old s) → stepped ≡ false → (IsQuietIn W new → ⊥) → ((s : ℕ) → IsSpentIn W n new s → ⊥) → work_at W n new < work_at W n old
  rounds-lower fresh idle busy unspent =
      let rotates : HasNoStep turned.events → IsRotation W (last_state W journal.0) turned.events = λ none. record {
        fresh = λ s lt. ap (λ p. p.own.top.seen) (journal.1.stand.streams s lt) ∙ fresh s lt;
        emptied = λ s lt. elim (turned.emptied idle s lt) [ inl m ↦ m.0 journal.0 journal.1 | inr spent ↦ absurd (unspent s spent) ];
      } in
      elim (seen-rotations-fall W Z valid stored n journal.0 turned.events old.parts new.parts old.objects new.objects (made_at old) (made_at new) led.run
      journal.1.stand journal.1.made led.stand led.made (λ s lt. after.within s) rotates) [
        | inl quiet ↦ absurd (busy quiet)
        | inr less ↦ less
      ]
