-- Journals that are replayed with any stored orders and functions, and what they put out.
use Rattle.std.proofs.Common.{◌≡◌, ◌∙◌, ℕ, suc, ◌<◌, ◌≤◌, ◌+◌, Bool, true, false, List, [], ◌∷◌, ◌++◌, Option, ap, arith, drop, inl, inr, length, refl, subst, sym, take}
use Rattle.std.proofs.lemmas.Bool.{cases_lt}
use Rattle.std.proofs.lemmas.List.{length-take-le, length_push, take-append-drop, take-append-le}
use Rattle.std.specs.Prelude.{IfOk, Result, Ok, Err}
use Rattle.abt_machine.specs.declared.events.Event.{Event}
use Rattle.abt_machine.specs.declared.events.Piece.{Piece}
use Rattle.abt_machine.specs.declared.workload.Parts.{Parts}
use Rattle.abt_machine.specs.Events.{after}
use Rattle.abt_machine.specs.Rounds.{OrdersStored}
use Rattle.abt_machine.specs.Runs.{Run, last_state, state_after}
use Rattle.abt_machine.specs.Start.{start}
use Rattle.abt_machine.specs.State.{State}
use Rattle.abt_machine.specs.Valid.{IsValid}
use Rattle.abt_laws.proofs.RunParts.{run-front}
use Rattle.abt_laws.proofs.SoundStart.{start-is-sound}
use Rattle.abt_outcomes.proofs.Stored.{orders-stored}
use Rattle.abt_check.specs.Pieces.{ArePieces, IsReplayed, Replays, any_stored, piece_by, pieces_from}
use Rattle.abt_model.specs.Models.{IsAfter, MayBeDone, ModelValue, StandsFor}
use Rattle.abt_check.proofs.Judged.{last_state-more, run-last, run-more}

-- what is known of an answer, if there is one, may be said in another way
pub ok-then : {T E : Type 0} (P Q : T → Type 0) (r : Result T E) → ((x : T) → P x → Q x) → IfOk r P → IfOk r Q
ok-then P Q (Ok x) f h = f x h
ok-then P Q (Err e) f h = h

module _ (W : Parts) where
  -- what one event more puts out comes last
  pub pieces-more : (S : State) (J : List Event) (e : Event) → pieces_from W S (J ++ e ∷ []) ≡ pieces_from W S J ++ piece_by W (state_after W S J) e.what ∷ []
  pieces-more S [] e = refl
  pieces-more S (f ∷ J) e = ap (λ ps. piece_by W S f.what ∷ ps) (pieces-more (after W S f.stream.0 f.what) J e)

  pub any-stored : IsValid W → OrdersStored W any_stored.orders
  any-stored valid = orders-stored W any_stored valid (omega arith)

  pub replay-starts : (model : ModelValue) → IsValid W → StandsFor W (start W) model → IsReplayed W [] model
  replay-starts model valid stands = record {
    run = tt;
    state = record { sound = start-is-sound W any_stored valid (any-stored valid); rounds = λ s. (omega arith, tt) };
    stands = stands;
  }

  pub replay-more : (J : List Event) (e : Event) (b : Bool) (model new : ModelValue) → IsReplayed W J model → e.stream.0 < W.streams
      → MayBeDone W any_stored (length J) (last_state W J) e.stream.0 e.what b new → Replays W (J ++ e ∷ []) b new
  replay-more J e true model new replayed l done =
      let same : last_state W (J ++ e ∷ []) ≡ after W (last_state W J) e.stream.0 e.what = last_state-more W any_stored J e in
      let long : length (J ++ e ∷ []) ≡ length J + 1 = length_push J e in
      record {
        run = run-more W any_stored J e replayed.run l done.may;
        state = subst (λ n. IsAfter W any_stored n (last_state W (J ++ e ∷ []))) (omega arith) (subst (IsAfter W any_stored (suc (length J))) (sym same) done.state);
        stands = subst (λ (S : State). StandsFor W S new) (sym same) done.stands;
      }
  replay-more J e false model new replayed l other = λ run. other (run-last W any_stored J e run).1

  pub not-replayed : (J : List Event) (e : Event) → (e.stream.0 < W.streams → ⊥) → Run W any_stored (J ++ e ∷ []) → ⊥
  not-replayed J e other run = other (run-last W any_stored J e run).0

  -- first events of a run are one
  take-run : (J : List Event) (k n : ℕ) → k ≤ n → n ≤ length J → Run W any_stored (take n J) → Run W any_stored (take k J)
  take-run J k n below within run =
      let long : length (take n J) ≡ n = length-take-le n J within in
      let same : take k (take n J) ≡ take k J = sym (take-append-le k (take n J) (drop n J) (omega arith)) ∙ ap (take k) (take-append-drop n J) in
      subst (Run W any_stored) same (run-front W any_stored (start W) (take k (take n J)) (drop k (take n J)) (subst (Run W any_stored) (sym (take-append-drop k (take n J))) run))

  -- the event after the first ones may not come
  pub ends-at : (J : List Event) (at : ℕ) (e : Event) (pieces : List (Option Piece)) → at < length J → take (at + 1) J ≡ take at J ++ e ∷ [] → Run W any_stored (take at J)
      → (Run W any_stored (take at J ++ e ∷ []) → ⊥) → pieces ≡ pieces_from W (start W) (take at J) → ArePieces W J pieces
  ends-at J at e pieces within more run next is = record {
    at = at;
    within = omega arith;
    run = run;
    greatest = λ n few h. elim (cases_lt at n) [ inl above ↦ absurd (next (subst (Run W any_stored) more (take-run J (at + 1) n (omega arith) few h))) | inr below ↦ below ];
    put_out = is;
  }

  -- all events were replayed
  pub ends-whole : (J : List Event) (at : ℕ) (pieces : List (Option Piece)) → at ≤ length J → length J ≤ at → Run W any_stored (take at J) → pieces ≡ pieces_from W (start W) (take at J)
      → ArePieces W J pieces
  ends-whole J at pieces up down run is = record { at = at; within = up; run = run; greatest = λ n few h. omega arith; put_out = is }
