-- What makes a list of events a life.
use Rattle.std.proofs.Common.{◌≡◌, ℕ, zero, suc, ◌<◌, ◌≤◌, Bool, true, false, List, [], ◌∷◌, ◌++◌, length, take, Option, Some, None, refl, sym, ◌∙◌, ap, subst, arith, inl, inr}
use Rattle.std.specs.Prelude.{Contains}
use Rattle.std.specs.List.{cons_option}
use Rattle.std.proofs.lemmas.List.{length-append}
use Rattle.std.proofs.lemmas.List.Elements.{Contains-push_cases}
use Rattle.abt_machine.specs.declared.events.Cause.{Cause}
use Rattle.abt_machine.specs.declared.events.Cause.TheVariants as cause
use Rattle.abt_machine.specs.declared.events.What.{What}
use Rattle.abt_machine.specs.declared.operations.Body.{Body}
use Rattle.abt_machine.specs.declared.operations.Body.TheVariants as body
use Rattle.abt_machine.specs.declared.operations.Op.{Op}
use Rattle.abt_machine.specs.declared.operations.Op.TheVariants as op
use Rattle.abt_machine.specs.Workloads.{ops_of, is_sched}
use Rattle.abt_machine.specs.Lives.{positions_in, ends_in, cause_in, enters_in, leaves_in, count_up, done_in, NoExit, NoExitBefore, StepsFit, EndsSteps, EndsSched, EndsLife, IsLife}
use Rattle.abt_machine.specs.Queues.{last}
use Rattle.abt_laws.proofs.Exits.{is_own, HasDone, NoTaskExits, no-exit-nil, no-exit-before, exits-not-nil, exits-last, exits-contains, take-over, take-contains}
use Rattle.abt_laws.proofs.Lists.{nil≢middle, last-or-within}
use Rattle.abt_laws.proofs.LifeJournals.{ends_in-append}

pub length-count_up : (n : ℕ) → length (count_up n) ≡ n
length-count_up zero = refl
length-count_up (suc n) = let ih : length (count_up n) ≡ n = length-count_up n in omega (arith, length-append (count_up n) (n ∷ []))

length-positions : (es : List What) (k : ℕ) → positions_in es ≡ count_up k → length (positions_in es) ≡ k
length-positions es k h = ap length h ∙ length-count_up k

-- Nothing comes after an end.

abbrev pub EndsLast : List What → Type 0
EndsLast es = (before rest : List What) (w : What) (c : Cause) → es ≡ before ++ w ∷ rest → cause_in w ≡ Some c → rest ≡ []

nil≢cause : (cs ds : List Cause) (c : Cause) → cs ++ c ∷ ds ≡ [] → ⊥
nil≢cause [] ds c h = cc
nil≢cause (d ∷ cs) ds c h = cc

no-end-within : (before rest : List What) (w : What) (c : Cause) → ends_in (before ++ w ∷ rest) ≡ [] → cause_in w ≡ Some c → ⊥
no-end-within before rest w c none is = nil≢cause (ends_in before) (ends_in rest) c (ap (λ o. ends_in before ++ cons_option o (ends_in rest)) (sym is) ∙ (sym (ends_in-append before (w ∷ rest)) ∙ none))

EndsLast-nil : EndsLast []
EndsLast-nil before rest w c h is = absurd (nil≢middle before rest w h)

-- if nothing has ended, one more event leaves nothing after an end
EndsLast-push : (es : List What) (v : What) → ends_in es ≡ [] → EndsLast (es ++ v ∷ [])
EndsLast-push es v none before rest w c h is = elim (last-or-within es before rest v w h) [ inl last ↦ last | inr p ↦ absurd (no-end-within before p.0 w c (ap ends_in (sym p.1) ∙ none) is) ]

-- Lives.

program-fits : (ops : List Op) (es : List What) (k : ℕ) (exited : Bool) → positions_in es ≡ count_up k → k ≤ length ops → HasDone exited (take k ops) → (length (positions_in es) ≤ length ops) × NoExitBefore (done_in ops es)
program-fits ops es k exited steps fit done =
    let n : length (positions_in es) ≡ k = length-positions es k steps in
    (omega arith, subst (λ m. NoExitBefore (take m ops)) (sym n) (no-exit-before exited (take k ops) done))

steps-fit : (b : Body) (es : List What) (k : ℕ) (exited : Bool) → positions_in es ≡ count_up k → k ≤ length (ops_of b) → HasDone exited (take k (ops_of b)) → StepsFit b es
steps-fit (body.Ult ops) es k exited steps fit done = program-fits ops es k exited steps fit done
steps-fit (body.Task ops) es k exited steps fit done = program-fits ops es k exited steps fit done
steps-fit (body.Sched g) es k exited steps fit done = let none : k ≡ 0 = omega arith in steps ∙ ap count_up none

counted : (es : List What) (k : ℕ) → positions_in es ≡ count_up k → positions_in es ≡ count_up (length (positions_in es))
counted es k steps = steps ∙ ap count_up (sym (length-positions es k steps))

cause-of-one : (o : Option Cause) (c : Cause) → Contains (cons_option o []) c → o ≡ Some c
cause-of-one None c h = let l : h.0 < 0 = h.1 in absurd (omega arith)
cause-of-one (Some d) c h = elim (Contains-push_cases [] d c h) [ inl none ↦ (let l : none.0 < 0 = none.1 in absurd (omega arith)) | inr is ↦ ap (λ (x : Cause). Some x) is ]

-- the only end is that of the last event, if that is one
cause-of-last : (es : List What) (w : What) (c : Cause) → ends_in es ≡ [] → Contains (ends_in (es ++ w ∷ [])) c → cause_in w ≡ Some c
cause-of-last es w c none h = cause-of-one (cause_in w) c (subst (λ cs. Contains cs c) (ends_in-append es (w ∷ []) ∙ ap (λ cs. cs ++ ends_in (w ∷ [])) none) h)

-- a life that has not ended, with one more event
pub IsLife-push : (b : Body) (es : List What) (w : What) (k : ℕ) (exited : Bool) → ends_in es ≡ [] → positions_in (es ++ w ∷ []) ≡ count_up k → k ≤ length (ops_of b) → HasDone exited (take k (ops_of b)) →
    ((c : Cause) → cause_in w ≡ Some c → EndsLife b (es ++ w ∷ []) c) → IsLife b (es ++ w ∷ [])
IsLife-push b es w k exited none steps fit done ending = record {
  steps = counted (es ++ w ∷ []) k steps;
  fit = steps-fit b (es ++ w ∷ []) k exited steps fit done;
  ends = λ c h. ending c (cause-of-last es w c none h);
  ends_last = EndsLast-push es w none;
}

pub IsLife-nil : (b : Body) → IsLife b []
IsLife-nil b = record {
  steps = refl;
  fit = steps-fit b [] 0 false refl (omega arith) no-exit-nil;
  ends = λ c h. (let l : h.0 < 0 = h.1 in absurd (omega arith));
  ends_last = EndsLast-nil;
}

-- Ends.

-- how often there is an entry, and a leave
abbrev pub passages_in : List What → ℕ × ℕ
passages_in es = (enters_in es, leaves_in es)

-- the entries and leaves of a scheduler unit that ended so
abbrev pub passage_of_cause : Cause → ℕ × ℕ
passage_of_cause cause.Done = (1, 1)
passage_of_cause cause.Asked = (0, 0)
passage_of_cause cause.Access = (0, 0)
passage_of_cause cause.Own = (0, 0)

-- a unit at position k may end so
abbrev pub MayEnd : Body → ℕ → Cause → Type 0
MayEnd (body.Sched g) k c = Unit {0}
MayEnd (body.Ult ops) k cause.Done = length ops ≤ k
MayEnd (body.Ult ops) k cause.Asked = Unit {0}
MayEnd (body.Ult ops) k cause.Access = ⊥
MayEnd (body.Ult ops) k cause.Own = Unit {0}
MayEnd (body.Task ops) k cause.Done = length ops ≤ k
MayEnd (body.Task ops) k cause.Asked = Unit {0}
MayEnd (body.Task ops) k cause.Access = ⊥
MayEnd (body.Task ops) k cause.Own = Unit {0}

-- of a unit with these operations, by its cause
ends-steps : (ops : List Op) (es : List What) (k : ℕ) (c : Cause) → length (positions_in es) ≡ k → k ≤ length ops → HasDone (is_own c) (take k ops) → MayEnd (body.Ult ops) k c → EndsSteps ops es c
ends-steps ops es k cause.Done n fit done may = (omega arith, subst NoExit (take-over ops k fit may) done)
ends-steps ops es k cause.Asked n fit done may = (omega arith, subst (λ m. NoExit (take m ops)) (sym n) done)
ends-steps ops es k cause.Access n fit done may = may
ends-steps ops es k cause.Own n fit done may = subst (λ m. last (take m ops) ≡ Some op.Exit) (sym n) (exits-last (take k ops) done)

-- a tasklet's end is not its own
ends-task : (ops : List Op) (es : List What) (k : ℕ) (c : Cause) → length (positions_in es) ≡ k → k ≤ length ops → HasDone (is_own c) (take k ops) → NoExit ops → MayEnd (body.Task ops) k c → EndsLife (body.Task ops) es c
ends-task ops es k cause.Done n fit done none may = (ends-steps ops es k cause.Done n fit done may, λ e. cc)
ends-task ops es k cause.Asked n fit done none may = (ends-steps ops es k cause.Asked n fit done may, λ e. cc)
ends-task ops es k cause.Access n fit done none may = absurd may
ends-task ops es k cause.Own n fit done none may = absurd (none (take-contains ops k op.Exit (exits-contains (take k ops) done)))

ends-sched : (es : List What) (c : Cause) → HasDone (is_own c) [] → passages_in es ≡ passage_of_cause c → EndsSched es c
ends-sched es cause.Done done h = (ap (λ (p : ℕ × ℕ). p.0) h, ap (λ (p : ℕ × ℕ). p.1) h)
ends-sched es cause.Asked done h = ap (λ (p : ℕ × ℕ). p.0) h
ends-sched es cause.Access done h = ap (λ (p : ℕ × ℕ). p.0) h
ends-sched es cause.Own done h = exits-not-nil done

pub ends-life : (b : Body) (es : List What) (k : ℕ) (c : Cause) → positions_in es ≡ count_up k → k ≤ length (ops_of b) → HasDone (is_own c) (take k (ops_of b)) → NoTaskExits b → (is_sched b ≡ true → passages_in es ≡ passage_of_cause c) → MayEnd b k c → EndsLife b es c
ends-life (body.Ult ops) es k c steps fit done tasks passed may = ends-steps ops es k c (length-positions es k steps) fit done may
ends-life (body.Task ops) es k c steps fit done tasks passed may = ends-task ops es k c (length-positions es k steps) fit done tasks may
ends-life (body.Sched g) es k c steps fit done tasks passed may =
    let none : k ≡ 0 = omega arith in
    (steps-fit (body.Sched g) es k (is_own c) steps fit done, ends-sched es c (subst (λ n. HasDone (is_own c) (take n [])) none done) (passed refl))
