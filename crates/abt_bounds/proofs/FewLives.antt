-- Without revivals each unit has one life at most.
use Rattle.std.proofs.Common.{◌≡◌, ℕ, suc, ◌≤◌, ◌<◌, true, List, [], ◌∷◌, ◌++◌, length, Option, Some, None, refl, sym, subst, append_assoc, arith}
use Rattle.std.proofs.lemmas.Bool.{cond_both, eqb-true, false≢true}
use Rattle.std.proofs.lemmas.List.{append-nil}
use Rattle.abt_machine.specs.declared.events.Code.TheVariants as code
use Rattle.abt_machine.specs.declared.events.Event.{Event}
use Rattle.abt_machine.specs.declared.events.Place.{Place}
use Rattle.abt_machine.specs.declared.events.Place.TheVariants as place
use Rattle.abt_machine.specs.declared.events.What.{What}
use Rattle.abt_machine.specs.declared.events.What.TheVariants as what
use Rattle.abt_machine.specs.declared.numbers.PoolNo.{PoolNo}
use Rattle.abt_machine.specs.declared.numbers.UnitNo.{UnitNo}
use Rattle.abt_machine.specs.declared.operations.Op.{Op}
use Rattle.abt_machine.specs.declared.operations.Op.TheVariants as op
use Rattle.abt_machine.specs.Stored.{Stored}
use Rattle.abt_machine.specs.declared.workload.Parts.{Parts}
use Rattle.abt_machine.specs.Codes.{code_at, is_unborn}
use Rattle.abt_machine.specs.Events.{May}
use Rattle.abt_machine.specs.Lives.{is_birth, last_life, life_after}
use Rattle.abt_machine.specs.Rounds.{OrdersStored}
use Rattle.abt_machine.specs.Runs.{Run, last_state}
use Rattle.abt_machine.specs.Start.{first_life, start}
use Rattle.abt_machine.specs.State.{State}
use Rattle.abt_machine.specs.Valid.{IsValid}
use Rattle.abt_machine.specs.Workloads.{op_at, start_of}
use Rattle.abt_laws.proofs.Codes.{reached-ok, unless-ok}
use Rattle.abt_laws.proofs.LifeJournals.{last_life-append}
use Rattle.abt_laws.proofs.LifeRuns.{run-unborn}
use Rattle.abt_laws.proofs.RunParts.{run-front, run-rest}
use Rattle.abt_laws.proofs.SoundRuns.{runs-are-sound}
use Rattle.abt_bounds.specs.Laws.{HasNoRevive, LivesAreFew}

-- One event.

unborn-is : (at : Place) → is_unborn at ≡ true → at ≡ place.Unborn
unborn-is place.Unborn e = refl
unborn-is _ e = absurd (false≢true e)

-- if an operation that doesn't revive gives unit u a life, u is unborn
birth-unborn : (W : Parts) (S : State) (s x u : ℕ) (o : Option Op) → ((v : UnitNo) (p : PoolNo) → o ≡ Some (op.Revive v p) → ⊥) → code_at W S s x o ≡ code.Ok → is_birth u o ≡ true → S.place u ≡ place.Unborn
birth-unborn W S s x u (Some (op.Create v p)) none ok birth =
    subst (λ n. S.place n ≡ place.Unborn) (eqb-true v.0 u birth) (unborn-is (S.place v.0) (unless-ok (is_unborn (S.place v.0)) code.Exists _ tt (reached-ok W S s x (op.Create v p) ok).1).0)
birth-unborn W S s x u (Some (op.Revive v p)) none ok birth = absurd (none v p refl)
birth-unborn W S s x u _ none ok birth = absurd (false≢true birth)

few-after : (W : Parts) (Z : Stored) (S : State) (s u now : ℕ) (w : What) → HasNoRevive W → May W Z S s w → (S.place u ≡ place.Unborn → now ≡ 0) → now ≤ 1 → life_after W u now w ≤ 1
few-after W Z S s u now (what.Step v k code.Ok) none may unborn few =
    cond_both (is_birth u (op_at W v.0 k)) (suc now) now (λ n. n ≤ 1)
    (λ birth. (let zero : now ≡ 0 = unborn (birth-unborn W S s v.0 u (op_at W v.0 k) (none v.0 k) (sym may.3) birth) in omega arith)) (λ _. few)
few-after W Z S s u now _ none may unborn few = few

-- Runs.

few-start : (o : Option ℕ) → first_life o ≤ 1
few-start None = omega arith
few-start (Some p) = omega arith

module _ (W : Parts) (Z : Stored) (valid : IsValid W) (stored : OrdersStored W Z.orders) (none : HasNoRevive W) (u : ℕ) (declared : u < length W.units) where
  few-along : (K es : List Event) → Run W Z (K ++ es) → last_life W K u ≤ 1 → last_life W (K ++ es) u ≤ 1
  few-along K [] run few = subst (λ J. last_life W J u ≤ 1) (sym (append-nil K)) few
  few-along K (e ∷ es) run few =
      let shift : (K ++ e ∷ []) ++ es ≡ K ++ e ∷ es = append_assoc K (e ∷ []) es in
      let before : Run W Z K = run-front W Z (start W) K (e ∷ es) run in
      let may : May W Z (last_state W K) e.stream.0 e.what = (run-rest W Z (start W) K (e ∷ es) run).1 in
      let next : last_life W (K ++ e ∷ []) u ≤ 1 =
      subst (λ n. n ≤ 1) (sym (last_life-append W K e u))
      (few-after W Z (last_state W K) e.stream.0 u (last_life W K u) e.what none may (run-unborn W Z (runs-are-sound W Z) valid stored u declared K before).0 few) in
      subst (λ J. last_life W J u ≤ 1) shift (few-along (K ++ e ∷ []) es (subst (Run W Z) (sym shift) run) next)

pub lives-are-few : (W : Parts) (Z : Stored) → LivesAreFew W Z
lives-are-few W Z valid stored none J u run declared = few-along W Z valid stored none u declared [] J run (few-start (start_of W u))
