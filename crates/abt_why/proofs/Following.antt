-- A model follows a run, one event after the other.
use Rattle.std.proofs.Common.{◌≡◌, ◌∙◌, ℕ, suc, ◌<◌, ◌+◌, ◌-◌, ◌^◌, Bool, true, false, List, [], ◌∷◌, ◌++◌, ap, arith, drop, get_or, length, subst, sym, take}
use Rattle.std.proofs.lemmas.List.{length-take-le, length_push, take-append-drop, take_more}
use Rattle.abt_machine.specs.declared.events.Event.{Event}
use Rattle.abt_machine.specs.Stored.{Stored}
use Rattle.abt_machine.specs.declared.workload.Parts.{Parts}
use Rattle.abt_machine.specs.Events.{May, after}
use Rattle.abt_machine.specs.Rounds.{OrdersStored}
use Rattle.abt_machine.specs.Runs.{Run, RunFrom, last_state}
use Rattle.abt_machine.specs.Sound.{Sound}
use Rattle.abt_machine.specs.Start.{start}
use Rattle.abt_machine.specs.State.{State}
use Rattle.abt_machine.specs.Valid.{IsValid}
use Rattle.abt_laws.proofs.RunParts.{run-front, run-rest, state_after-append}
use Rattle.abt_laws.proofs.SoundStart.{start-is-sound}
use Rattle.abt_model.specs.Models.{IsAfter, MayBeDone, ModelValue, StandsFor}
use Rattle.abt_why.specs.Replays.{HasFollowed}

-- at the start no event was followed
pub starts : (W : Parts) (Z : Stored) (model : ModelValue) → IsValid W → OrdersStored W Z.orders → StandsFor W (start W) model → HasFollowed W Z [] model
starts W Z model valid stored stands = record {
  state = record { sound = start-is-sound W Z valid stored; rounds = λ s. (omega arith, tt) };
  stands = stands;
}

-- one of the first events more
pub first-more : (J items : List Event) (at : ℕ) (e : Event) → items ≡ J → at < length items → e ≡ get_or items at e → take (at + 1) J ≡ take at J ++ e ∷ []
first-more J items at e same l is =
    let within : at < length J = subst (λ (xs : List Event). at < length xs) same l in
    take_more J at e within ∙ ap (λ x. take at J ++ x ∷ []) (ap (λ (xs : List Event). get_or xs at e) (sym same) ∙ sym is)

module _ (W : Parts) (Z : Stored) where
  -- the last event of a run was one that may come
  run-last : (J : List Event) (e : Event) → Run W Z (J ++ e ∷ []) → (e.stream.0 < W.streams) × May W Z (last_state W J) e.stream.0 e.what
  run-last J e run = let rest : RunFrom W Z (last_state W J) (e ∷ []) = run-rest W Z (start W) J (e ∷ []) run in (rest.0, rest.1)

  -- an event of a run that was followed
  pub one-more : (J : List Event) (e : Event) (may : Bool) (new : ModelValue) → Run W Z (J ++ e ∷ []) → MayBeDone W Z (length J) (last_state W J) e.stream.0 e.what may new → HasFollowed W Z (J ++ e ∷ []) new
  one-more J e false new run done = absurd (done (run-last J e run).1)
  one-more J e true new run done =
      let same : last_state W (J ++ e ∷ []) ≡ after W (last_state W J) e.stream.0 e.what = state_after-append W (start W) J (e ∷ []) in
      record {
        state = subst (λ n. IsAfter W Z n (last_state W (J ++ e ∷ []))) (let long : length (J ++ e ∷ []) ≡ length J + 1 = length_push J e in omega arith) (subst (IsAfter W Z (suc (length J))) (sym same) done.state);
        stands = subst (λ (S : State). StandsFor W S new) (sym same) done.stands;
      }

  -- the stream of an event of a run is declared
  pub stream-declared : (J : List Event) (e : Event) → Run W Z (J ++ e ∷ []) → e.stream.0 < W.streams
  stream-declared J e run = (run-last J e run).0

  -- the run up to one of its events
  pub run-more : (J items : List Event) (at : ℕ) (e : Event) → items ≡ J → at < length items → e ≡ get_or items at e → Run W Z J → Run W Z (take at J ++ e ∷ [])
  run-more J items at e same l is run =
      let whole : Run W Z (take (at + 1) J ++ drop (at + 1) J) = subst (Run W Z) (sym (take-append-drop (at + 1) J)) run in
      subst (Run W Z) (first-more J items at e same l is) (run-front W Z (start W) (take (at + 1) J) (drop (at + 1) J) whole)

-- that many first events were followed
pub first-long : (J items : List Event) (at : ℕ) → items ≡ J → at < length items → length items < 2 ^ 64 → length (take at J) < 2 ^ 64 - 1
first-long J items at same l few =
    let within : at < length J = subst (λ (xs : List Event). at < length xs) same l in
    let long : length (take at J) ≡ at = length-take-le at J (omega arith) in omega arith

-- what holds of each sound state for which the model stands holds of the state after the journal
pub of-last : (W : Parts) (Z : Stored) (J : List Event) (model : ModelValue) (P : State → Type 0) → HasFollowed W Z J model → ((Y : Stored) (S : State) → Sound W Y S → StandsFor W S model → P S) → P (last_state W J)
of-last W Z J model P followed all = all Z (last_state W J) followed.state.sound followed.stands
