-- Where one event more leads.
use Rattle.std.proofs.Common.{◌≡◌, ◌∙◌, ℕ, suc, ◌<◌, ◌+◌, ◌*◌, ◌^◌, Bool, true, false, List, [], ◌∷◌, ◌++◌, IfSome, Option, None, Some, ap, arith, drop, get_or, length, subst, sym, take}
use Rattle.std.proofs.lemmas.List.{length-take-le, length_push, take-append-drop}
use Rattle.abt_machine.specs.declared.events.Event.{Event}
use Rattle.abt_machine.specs.declared.events.What.{What}
use Rattle.abt_machine.specs.Outcomes.{steps_of}
use Rattle.abt_machine.specs.Stored.{Stored}
use Rattle.abt_machine.specs.declared.workload.Parts.{Parts}
use Rattle.abt_machine.specs.Events.{May, after}
use Rattle.abt_machine.specs.Runs.{Run, RunFrom, last_state}
use Rattle.abt_machine.specs.Start.{start}
use Rattle.abt_check.proofs.Judged.{first-more}
use Rattle.abt_explore.specs.Laws.{next_event}
use Rattle.abt_laws.proofs.RunParts.{run-front, run-push, run-rest, state_after-append}
use Rattle.abt_model.specs.Hints.{IsMade, TellsSome}
use Rattle.abt_model.specs.Lists.{AreNumbered}
use Rattle.abt_model.specs.Models.{IsAfter, IsDone, MayBeDone, StandsFor}
use Rattle.abt_schedule.specs.declared.reached.Reached.{Reached}
use Rattle.abt_schedule.specs.Reaching.{IsReached, made_after}
use Rattle.abt_schedule.proofs.Counting.{made-more}

module _ (W : Parts) (Z : Stored) (J : List Event) (e : Event) (old new : Reached) where
  -- what was done is reached
  reached-more : IsReached W Z J old → e.stream.0 < W.streams → IsDone W Z (length J) (last_state W J) e.stream.0 e.what new.model
      → new.made.items ≡ made_after old.made.items e.stream.0 e.what → IsReached W Z (J ++ e ∷ []) new
  reached-more reached declared done counted =
      let same : last_state W (J ++ e ∷ []) ≡ after W (last_state W J) e.stream.0 e.what = state_after-append W (start W) J (e ∷ []) in
      record {
        run = run-push W Z (start W) J e reached.run declared done.may;
        state = subst (λ n. IsAfter W Z n (last_state W (J ++ e ∷ []))) (let long : length (J ++ e ∷ []) ≡ length J + 1 = length_push J e in let is : suc (length J) ≡ length (J ++ e ∷ []) = omega arith in is)
            (subst (IsAfter W Z (suc (length J))) (sym same) done.state);
        stands = subst (λ S. StandsFor W S new.model) (sym same) done.stands;
        made = subst (AreNumbered W.streams (λ s. steps_of s (J ++ e ∷ []))) (sym counted) (made-more W J e old.made.items declared reached.made);
      }

module _ (W : Parts) (Z : Stored) (J : List Event) (s : ℕ) (old new : Reached) (reached : IsReached W Z J old) (declared : s < W.streams) where
  -- an event that was made
  pub reached-made : (made : Option What) (hint w : What) → made ≡ Some w → IsMade W Z (length J) (last_state W J) s hint made new.model → new.made.items ≡ made_after old.made.items s w
      → IsReached W Z (J ++ next_event J s w ∷ []) new
  reached-made made hint w is makes counted =
      reached-more W Z J (next_event J s w) old new reached declared (subst (λ (o : Option What). IfSome o (λ x. IsDone W Z (length J) (last_state W J) s x new.model)) is makes.done) counted

  -- one that the hint tells was made
  pub none-made-not : (made : Option What) (hint : What) → made ≡ None → IsMade W Z (length J) (last_state W J) s hint made new.model → TellsSome W Z (last_state W J) s hint → ⊥
  none-made-not made hint none makes (w, may, tells) = let some : made ≡ Some w = makes.told w may tells in let both : ◌≡◌ {A = Option What} None (Some w) = sym none ∙ some in cc

-- an event of a run that was followed
pub reached-followed : (W : Parts) (Z : Stored) (J : List Event) (e : Event) (old new : Reached) (b : Bool) → IsReached W Z J old → Run W Z (J ++ e ∷ []) → MayBeDone W Z (length J) (last_state W J) e.stream.0 e.what b new.model
    → new.made.items ≡ made_after old.made.items e.stream.0 e.what → IsReached W Z (J ++ e ∷ []) new
reached-followed W Z J e old new b reached run may counted =
    let last : RunFrom W Z (last_state W J) (e ∷ []) = run-rest W Z (start W) J (e ∷ []) run in
    by b may last.0 last.1
  where
    by : (b : Bool) → MayBeDone W Z (length J) (last_state W J) e.stream.0 e.what b new.model → e.stream.0 < W.streams → May W Z (last_state W J) e.stream.0 e.what → IsReached W Z (J ++ e ∷ []) new
    by true done declared comes = reached-more W Z J e old new reached declared done counted
    by false other declared comes = absurd (other comes)

-- the event's stream is declared
pub last-declared : (W : Parts) (Z : Stored) (J : List Event) (e : Event) → Run W Z (J ++ e ∷ []) → e.stream.0 < W.streams
last-declared W Z J e run = let last : RunFrom W Z (last_state W J) (e ∷ []) = run-rest W Z (start W) J (e ∷ []) run in last.0

-- Journals, event by event.

-- the first events of a journal, and the next
pub first-next : (J items : List Event) (at : ℕ) (e : Event) → items ≡ J → at < length items → e ≡ get_or items at e → take (at + 1) J ≡ take at J ++ e ∷ []
first-next J items at e same less is = (first-more J items at e same less).1 ∙ ap (λ (x : Event). take at J ++ x ∷ []) (sym is)

-- they are a run if all are
pub run-first : (W : Parts) (Z : Stored) (J items : List Event) (at : ℕ) (e : Event) → items ≡ J → at < length items → e ≡ get_or items at e → Run W Z J → Run W Z (take at J ++ e ∷ [])
run-first W Z J items at e same less is run =
    subst (Run W Z) (first-next J items at e same less is)
    (run-front W Z (start W) (take (at + 1) J) (drop (at + 1) J) (subst (Run W Z) (sym (take-append-drop (at + 1) J)) run))

-- they are few, if the journal's 32 bytes an event fit a slice
pub first-few : (J items : List Event) (at : ℕ) → items ≡ J → at < length items → length items * 32 < 2 ^ 63 → length (take at J) < 2 ^ 63
first-few J items at same less fits =
    let within : at < length J = subst (λ (xs : List Event). at < length xs) same less in
    let long : length (take at J) ≡ at = length-take-le at J (omega arith) in omega arith
