-- A log grows by an event with a greater stamp.
use Rattle.std.proofs.Common.{◌≡◌, ◌<◌, ◌≤◌, ◌++◌, ◌+◌, ℕ, suc, Bool, true, false, cond, List, [], ◌∷◌, length, refl, sym, ap, ◌∙◌, arith}
use Rattle.std.proofs.lemmas.List.{length-append}
use Rattle.std.proofs.lemmas.List.Sums.{sum_by_push}
use Rattle.std.proofs.lemmas.List.Elements.{All-head, All-push, All-tail}
use Rattle.std.specs.List.{All}
use Rattle.abt_interleave.specs.Histories.{RisesAbove}
use Rattle.abt_machine.specs.declared.events.Event.{Event}
use Rattle.abt_machine.specs.declared.events.What.{What}
use Rattle.abt_machine.specs.declared.numbers.StreamNo.{StreamNo}
use Rattle.abt_machine.specs.Outcomes.{is_step, steps_in}
use Rattle.abt_stream.specs.Streams.{IsLog, stamps}

rises : (n clock : ℕ) (log : List Event) (e : Event) → RisesAbove n (stamps log) → All (λ f. f.stamp ≤ clock) log → clock < e.stamp → n < e.stamp → RisesAbove n (stamps (log ++ e ∷ []))
rises n clock [] e rising past above lower = (lower, tt)
rises n clock (f ∷ log) e rising past above lower =
    let here = All-head (λ (f : Event). f.stamp ≤ clock) f log past in
    (rising.0, rises f.stamp clock log e rising.1 (All-tail (λ (f : Event). f.stamp ≤ clock) f log past) above (omega arith))

-- the log with an event whose stamp is above the clock
pub log-written : (number : StreamNo) (clock stamp : ℕ) (log : List Event) (w : What) → IsLog number clock log → clock < stamp
    → IsLog number stamp (log ++ record { stamp = stamp; stream = number; what = w } ∷ [])
log-written number clock stamp log w is above = record {
  rises = rises 0 clock log (record { stamp = stamp; stream = number; what = w }) is.rises is.past above (omega arith);
  own = All-push (λ (e : Event). e.stream ≡ number) log (record { stamp = stamp; stream = number; what = w }) is.own refl;
  past = All-push (λ (e : Event). e.stamp ≤ stamp) log (record { stamp = stamp; stream = number; what = w })
      (λ k d lt. let before = is.past k d lt in omega arith) (omega arith);
}

-- how many events it has
pub many-more : (n : ℕ) (log new : List Event) (e : Event) → n ≡ length log → new ≡ log ++ e ∷ [] → n + 1 ≡ length new
many-more n log new e many more = sym (ap (λ (l : List Event). length l) more ∙ (length-append log (e ∷ []) ∙ ap (λ k. k + 1) (sym many)))

-- Steps.

-- an event more is counted if it is one
counted : (log : List Event) (e : Event) → steps_in (log ++ e ∷ []) ≡ steps_in log + cond (is_step e.what) 1 0
counted log e = sum_by_push (λ (f : Event). cond (is_step f.what) 1 0) log e

pub no-more : (log : List Event) (e : Event) → is_step e.what ≡ false → steps_in (log ++ e ∷ []) ≡ steps_in log
no-more log e h =
    let more = counted log e in
    let none : ◌≡◌ {A = ℕ} (cond (is_step e.what) 1 0) 0 = ap (λ (b : Bool). cond {A = ℕ} b 1 0) h in
    omega arith

pub one-more : (log : List Event) (e : Event) → is_step e.what ≡ true → steps_in (log ++ e ∷ []) ≡ suc (steps_in log)
one-more log e h =
    let more = counted log e in
    let one : ◌≡◌ {A = ℕ} (cond (is_step e.what) 1 0) 1 = ap (λ (b : Bool). cond {A = ℕ} b 1 0) h in
    omega arith
