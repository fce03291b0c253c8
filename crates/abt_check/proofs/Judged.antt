-- Runs, one event after the other, and what is judged of them.
use Rattle.std.proofs.Common.{◌≡◌, ◌∙◌, ℕ, suc, ◌<◌, ◌≤◌, ◌+◌, ◌-◌, ◌^◌, Bool, true, false, List, [], ◌∷◌, ◌++◌, ap, arith, drop, get_or, inl, inr, length, refl, subst, sym, take}
use Rattle.std.proofs.lemmas.Bool.{cases_lt}
use Rattle.std.proofs.lemmas.List.{length-take-le, length_push, take-append-drop, take-append-le, take_more}
use Rattle.std.proofs.lemmas.List.Elements.{Contains-push}
use Rattle.std.proofs.Math.Seq.{take-length}
use Rattle.abt_machine.specs.declared.events.Event.{Event}
use Rattle.abt_machine.specs.Stored.{Stored}
use Rattle.abt_machine.specs.declared.workload.Parts.{Parts}
use Rattle.abt_machine.specs.Events.{May, after}
use Rattle.abt_machine.specs.Rounds.{OrdersStored}
use Rattle.abt_machine.specs.Valid.{IsValid}
use Rattle.abt_bounds.specs.Laws.{NamesDeclared}
use Rattle.abt_bounds.proofs.Naming.{runs-name-declared}
use Rattle.abt_machine.specs.Runs.{Run, RunFrom, last_state}
use Rattle.abt_machine.specs.Start.{start}
use Rattle.abt_machine.specs.State.{State}
use Rattle.abt_laws.proofs.SoundStart.{start-is-sound}
use Rattle.abt_laws.proofs.RunParts.{run-front, run-push, run-rest, state_after-append}
use Rattle.abt_check.specs.Clocks.{AreClocks, ClocksValue, Stamps}
use Rattle.abt_check.specs.Judges.{HasJudged, JudgeValue, Judges}
use Rattle.abt_model.specs.Models.{IsAfter, IsDone, ModelValue, StandsFor}
use Rattle.abt_check.specs.Verdicts.{IsJudged, IsRunUpTo, IsStampedRun, OneVerdict}
use Rattle.abt_check.specs.declared.verdict.Verdict.{Verdict}
use Rattle.abt_check.specs.declared.verdict.Verdict.TheVariants as verdict
use Rattle.abt_check.proofs.Stamping.{stamped-front}

module _ (W : Parts) (Z : Stored) where
  -- an event that may come
  pub run-more : (J : List Event) (e : Event) → Run W Z J → e.stream.0 < W.streams → May W Z (last_state W J) e.stream.0 e.what → Run W Z (J ++ e ∷ [])
  run-more J e run l may = run-push W Z (start W) J e run l may

  -- the last event of a run was one that may come
  pub run-last : (J : List Event) (e : Event) → Run W Z (J ++ e ∷ []) → (e.stream.0 < W.streams) × May W Z (last_state W J) e.stream.0 e.what
  run-last J e run = let rest : RunFrom W Z (last_state W J) (e ∷ []) = run-rest W Z (start W) J (e ∷ []) run in (rest.0, rest.1)

  pub last_state-more : (J : List Event) (e : Event) → last_state W (J ++ e ∷ []) ≡ after W (last_state W J) e.stream.0 e.what
  last_state-more J e = state_after-append W (start W) J (e ∷ [])

  -- what an event of a run names is declared
  pub names-declared : (J : List Event) (e : Event) → IsValid W → OrdersStored W Z.orders → Run W Z J → e.stream.0 < W.streams → May W Z (last_state W J) e.stream.0 e.what → NamesDeclared W e.what
  names-declared J e valid stored run l may = (runs-name-declared W Z valid stored (J ++ e ∷ []) e (run-more J e run l may) (Contains-push J e)).1

  -- first events of a stamped run are one
  pub prefix-stamped_run : (J K : List Event) → IsStampedRun W Z (J ++ K) → IsStampedRun W Z J
  prefix-stamped_run J K h = (run-front W Z (start W) J K h.0, stamped-front W J K h.1)

  pub take-stamped_run : (J : List Event) (k n : ℕ) → k ≤ n → n ≤ length J → IsStampedRun W Z (take n J) → IsStampedRun W Z (take k J)
  take-stamped_run J k n below within h =
      let long : length (take n J) ≡ n = length-take-le n J within in
      let same : take k (take n J) ≡ take k J = sym (take-append-le k (take n J) (drop n J) (omega arith)) ∙ ap (take k) (take-append-drop n J) in
      subst (IsStampedRun W Z) same (prefix-stamped_run (take k (take n J)) (drop k (take n J)) (subst (IsStampedRun W Z) (sym (take-append-drop k (take n J))) h))

  -- Judging one event.

  pub not-declared : (J : List Event) (e : Event) → (e.stream.0 < W.streams → ⊥) → IsStampedRun W Z (J ++ e ∷ []) → ⊥
  not-declared J e other h = other (run-last J e h.0).0

  pub may-not : (J : List Event) (e : Event) → (May W Z (last_state W J) e.stream.0 e.what → ⊥) → IsStampedRun W Z (J ++ e ∷ []) → ⊥
  may-not J e other h = other (run-last J e h.0).1

  -- the event was done, and its stamp was judged
  pub judged-by : (J : List Event) (e : Event) (b : Bool) (model : ModelValue) (clocks : ClocksValue) → Run W Z J → e.stream.0 < W.streams → IsDone W Z (length J) (last_state W J) e.stream.0 e.what model → Stamps W J e b clocks
      → Judges W Z (J ++ e ∷ []) b (record { model = model; clocks = clocks })
  judged-by J e true model clocks run l done stamps =
      let same : last_state W (J ++ e ∷ []) ≡ after W (last_state W J) e.stream.0 e.what = last_state-more J e in
      record {
        run = run-more J e run l done.may;
        stamped = stamps.0;
        state = subst (λ n. IsAfter W Z n (last_state W (J ++ e ∷ []))) (let long : length (J ++ e ∷ []) ≡ length J + 1 = length_push J e in omega arith) (subst (IsAfter W Z (suc (length J))) (sym same) done.state);
        stands = subst (λ (S : State). StandsFor W S model) (sym same) done.stands;
        clocks = stamps.1;
      }
  judged-by J e false model clocks run l done stamps = λ h. stamps h.1

  -- The verdict.

  pub bad-at : (J : List Event) (at : ℕ) (e : Event) → at < length J → take (at + 1) J ≡ take at J ++ e ∷ [] → IsStampedRun W Z (take at J) → (IsStampedRun W Z (take at J ++ e ∷ []) → ⊥) → IsRunUpTo W Z J at
  bad-at J at e within more holds next = record {
    within = within;
    holds = holds;
    greatest = λ n few h. elim (cases_lt at n) [
      | inl above ↦ absurd (next (subst (IsStampedRun W Z) more (take-stamped_run J (at + 1) n (omega arith) few h)))
      | inr below ↦ below
    ];
  }

-- a journal has one right verdict
one-by : (W : Parts) (Z : Stored) (J : List Event) (one two : Verdict) → IsJudged W Z J one → IsJudged W Z J two → one ≡ two
one-by W Z J verdict.Run verdict.Run a b = refl
one-by W Z J verdict.Run (verdict.Bad at) a b =
    let most : length J ≤ at = b.greatest (length J) (omega arith) (subst (IsStampedRun W Z) (sym (take-length J)) a) in
    let less : at < length J = b.within in absurd (omega arith)
one-by W Z J (verdict.Bad at) verdict.Run a b =
    let most : length J ≤ at = a.greatest (length J) (omega arith) (subst (IsStampedRun W Z) (sym (take-length J)) b) in
    let less : at < length J = a.within in absurd (omega arith)
one-by W Z J (verdict.Bad i) (verdict.Bad j) a b =
    let one_in : i < length J = a.within in
    let two_in : j < length J = b.within in
    let up : i ≤ j = b.greatest i (omega arith) a.holds in
    let down : j ≤ i = a.greatest j (omega arith) b.holds in
    let same : i ≡ j = omega arith in ap (λ n. verdict.Bad n) same

pub one-right_verdict : (W : Parts) (Z : Stored) → OneVerdict W Z
one-right_verdict W Z J one two a b = one-by W Z J one two a b

-- Judging all events.

-- one event more of a journal
pub first-more : (J items : List Event) (at : ℕ) (d : Event) → items ≡ J → at < length items → (at < length J) × (take (at + 1) J ≡ take at J ++ get_or items at d ∷ [])
first-more J items at d same l =
    let within : at < length J = subst (λ (xs : List Event). at < length xs) same l in
    (within, take_more J at d within ∙ ap (λ (xs : List Event). take at J ++ get_or xs at d ∷ []) (sym same))

-- that many first events were judged
pub first-long : (J items : List Event) (at : ℕ) → items ≡ J → at < length items → length items < 2 ^ 64 → length (take at J) < 2 ^ 64 - 1
first-long J items at same l few =
    let within : at < length J = subst (λ (xs : List Event). at < length xs) same l in
    let long : length (take at J) ≡ at = length-take-le at J (omega arith) in omega arith

-- all events were judged
pub all-judged : (W : Parts) (Z : Stored) (J items : List Event) (at : ℕ) (judge : JudgeValue) → items ≡ J → at ≤ length items → length items ≤ at → HasJudged W Z (take at J) judge → IsStampedRun W Z J
all-judged W Z J items at judge same up down h =
    let long : length items ≡ length J = ap (λ (xs : List Event). length xs) same in
    let all : at ≡ length J = omega arith in
    let whole : take at J ≡ J = ap (λ n. take n J) all ∙ take-length J in
    subst (IsStampedRun W Z) whole (h.run, h.stamped)

-- the empty journal is judged
pub judge-starts : (W : Parts) (Z : Stored) (model : ModelValue) (clocks : ClocksValue) → IsValid W → OrdersStored W Z.orders → StandsFor W (start W) model → AreClocks W [] clocks → HasJudged W Z [] (record { model = model; clocks = clocks })
judge-starts W Z model clocks valid stored stands are = record {
  run = tt;
  stamped = tt;
  state = record { sound = start-is-sound W Z valid stored; rounds = λ s. (omega arith, tt) };
  stands = stands;
  clocks = are;
}
