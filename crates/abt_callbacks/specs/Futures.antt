-- What futures hold and answer.
use Rattle.std.specs.Prelude.{◌≡◌, ℕ, ◌+◌, ◌<◌, List, [], ◌∷◌, ◌++◌, length, Option, Some, None, Result, Ok, Err}
use Rattle.abt_machine.specs.declared.events.Code.{Code}
use Rattle.abt_machine.specs.declared.events.Code.TheVariants.{FutureFull}
use Rattle.abt_callbacks.specs.declared.fold.FoldShape.{FoldShape}
use Rattle.abt_callbacks.specs.declared.acts.FutureAct.{FutureAct}
use Rattle.abt_callbacks.specs.declared.acts.FutureAct.TheVariants.{Set, Read, Reset}
use Rattle.abt_callbacks.specs.declared.acts.FutureAnswer.{FutureAnswer}
use Rattle.abt_callbacks.specs.declared.acts.FutureAnswer.TheVariants.{Kept, Ready, Vacant, Full}
use Rattle.abt_callbacks.specs.Folding.{Folds}

-- a future that calls a fold: the fold, how many values it is for, the values that stand in order of set, and the answer that is kept
pub record CalledFutureValue (F : Type 0) : Type 0 where
  pub fold : F
  pub most : ℕ
  pub values : List ℕ
  pub answer : Option ℕ

-- no value stands
abbrev pub empty : {F : Type 0} → F → ℕ → CalledFutureValue F
empty fold n = record { fold = fold; most = n; values = []; answer = None }

-- one value more
abbrev pub with_value : {F : Type 0} → CalledFutureValue F → ℕ → CalledFutureValue F
with_value f v = record f { values = f.values ++ v ∷ [] }

-- one value more, which is the last, and the fold's answer
abbrev pub with_answer : {F : Type 0} → CalledFutureValue F → ℕ → ℕ → CalledFutureValue F
with_answer f v r = record f { values = f.values ++ v ∷ []; answer = Some r }

-- folds of which `shape_of` says what they answer, and `May` what one may return for a list
module _ {F : Type 0} (shape_of : F → FoldShape) (May : F → List ℕ → ℕ → Type 0) where
  -- What a set answers, the old future and the new one: it is full and stays as it was; the value is the last, and the answer is one that the fold
  -- may return for all values in order of set; or more values are to come.
  abbrev pub SetGives : CalledFutureValue F → ℕ → Result (Option ℕ) Code → CalledFutureValue F → Type 0
  SetGives old v (Err code) new = (code ≡ FutureFull) × (length old.values ≡ old.most) × (new ≡ old)
  SetGives old v (Ok (Some r)) new =
      (length old.values + 1 ≡ old.most) × Folds (shape_of old.fold) (old.values ++ v ∷ []) r × May old.fold (old.values ++ v ∷ []) r × (new ≡ with_answer old v r)
  SetGives old v (Ok None) new = (length old.values + 1 < old.most) × (new ≡ with_value old v)

  -- the old future, an act, its answer and the new future
  abbrev pub Does : CalledFutureValue F → FutureAct → FutureAnswer → CalledFutureValue F → Type 0
  Does old (Set v) Kept new = SetGives old v (Ok None) new
  Does old (Set v) (Ready r) new = SetGives old v (Ok (Some r)) new
  Does old (Set v) Full new = SetGives old v (Err FutureFull) new
  Does old (Set v) Vacant new = ⊥
  Does old Read Kept new = ⊥
  Does old Read (Ready r) new = (old.answer ≡ Some r) × (new ≡ old)
  Does old Read Full new = ⊥
  Does old Read Vacant new = (old.answer ≡ None) × (new ≡ old)
  Does old Reset Kept new = ⊥
  Does old Reset (Ready r) new = ⊥
  Does old Reset Full new = ⊥
  Does old Reset Vacant new = new ≡ empty old.fold old.most
