-- What a unit has done of its program: no `exit`, or one as the last operation.
use Rattle.std.proofs.Common.{◌≡◌, ℕ, zero, suc, ◌≤◌, ◌||◌, Bool, true, false, List, [], ◌∷◌, ◌++◌, length, take, drop, slice_get, Some, refl, sym, ◌∙◌, ap, subst, arith, inl, inr}
use Rattle.std.specs.Prelude.{Contains}
use Rattle.std.specs.List.{list_any}
use Rattle.std.proofs.Math.Seq.{take-length, take-suc}
use Rattle.std.proofs.lemmas.List.{take-append-drop}
use Rattle.std.proofs.lemmas.List.Elements.{Contains-append_left, Contains-append_right, Contains-push, Contains-push_cases}
use Rattle.std.proofs.lemmas.Option.{get_or_from_slice_get, slice_get_within}
use Rattle.abt_machine.specs.declared.events.Cause.{Cause}
use Rattle.abt_machine.specs.declared.events.Cause.TheVariants as cause
use Rattle.abt_machine.specs.declared.events.Place.{Place}
use Rattle.abt_machine.specs.declared.events.Place.TheVariants as place
use Rattle.abt_machine.specs.declared.numbers.StreamNo.{StreamNo}
use Rattle.abt_machine.specs.declared.operations.Body.{Body}
use Rattle.abt_machine.specs.declared.operations.Body.TheVariants as body
use Rattle.abt_machine.specs.declared.operations.Op.{Op}
use Rattle.abt_machine.specs.declared.operations.Op.TheVariants as op
use Rattle.abt_machine.specs.Lives.{NoExit, NoExitBefore}
use Rattle.abt_machine.specs.Operations.{may_block}
use Rattle.abt_machine.specs.Queues.{last}
use Rattle.abt_machine.specs.State.{Stream, Mark, Plain, Asked, Left, Exited}
use Rattle.abt_machine.specs.Valid.{IsBody}
use Rattle.abt_laws.proofs.Lists.{nil≢middle, last-or-within, last-push}

-- Who has ended itself.

-- the unit in hand has ended itself
abbrev pub is_exited : Mark → Bool
is_exited Plain = false
is_exited Asked = false
is_exited Left = false
is_exited Exited = true

abbrev pub is_own : Cause → Bool
is_own cause.Done = false
is_own cause.Asked = false
is_own cause.Access = false
is_own cause.Own = true

-- a unit at this place has ended itself
abbrev pub exited_at : (ℕ → Stream) → Place → Bool
exited_at streams (place.Hand s) = is_exited (streams s.0).mark
exited_at streams (place.Ended c) = is_own c
exited_at streams _ = false

pub exited-marks : (streams others : ℕ → Stream) (pl : Place) → ((r : StreamNo) → pl ≡ place.Hand r → (others r.0).mark ≡ (streams r.0).mark) → exited_at others pl ≡ exited_at streams pl
exited-marks streams others (place.Hand s) h = ap is_exited (h s refl)
exited-marks streams others _ h = refl

-- What has been done.

-- the last of these operations is an `exit`, and no other is
abbrev pub ExitsLast : List Op → Type 0
ExitsLast ops = (before : List Op) × (ops ≡ before ++ op.Exit ∷ []) × NoExit before

-- the operations that a unit has done, by whether it has ended itself
abbrev pub HasDone : Bool → List Op → Type 0
HasDone true ops = ExitsLast ops
HasDone false ops = NoExit ops

pub no-exit-nil : NoExit []
no-exit-nil (k, l, is) = omega arith

-- one more operation, which is no `exit`
pub no-exit-push : (ops : List Op) (o : Op) → NoExit ops → (o ≡ op.Exit → ⊥) → NoExit (ops ++ o ∷ [])
no-exit-push ops o none other has = elim (Contains-push_cases ops o op.Exit has) [ inl within ↦ none within | inr same ↦ other same ]

pub exits-not-nil : ExitsLast [] → ⊥
exits-not-nil (before, same, none) = nil≢middle before [] op.Exit same

-- the last one is an `exit`
pub exits-last : (ops : List Op) → ExitsLast ops → last ops ≡ Some op.Exit
exits-last ops done = ap last done.1 ∙ last-push done.0 op.Exit

pub exits-contains : (ops : List Op) → ExitsLast ops → Contains ops op.Exit
exits-contains ops done = subst (λ os. Contains os op.Exit) (sym done.1) (Contains-push done.0 op.Exit)

-- an operation in the middle is among them
middle-contains : (before rest : List Op) (o : Op) → Contains (before ++ o ∷ rest) o
middle-contains before rest o = Contains-append_right before (o ∷ rest) o (0, omega arith, refl)

-- no operation but the last is an `exit`
pub no-exit-before : (exited : Bool) (ops : List Op) → HasDone exited ops → NoExitBefore ops
no-exit-before false ops none before rest same = absurd (none (subst (λ os. Contains os op.Exit) (sym same) (middle-contains before rest op.Exit)))
no-exit-before true ops done before rest same =
    elim (last-or-within done.0 before rest op.Exit op.Exit (sym done.1 ∙ same)) [
      | inl end ↦ end
      | inr within ↦ absurd (done.2 (subst (λ os. Contains os op.Exit) (sym within.1) (middle-contains before within.0 op.Exit)))
    ]

-- a unit that keeps its position has done what it had, and has ended itself if it had
pub done-kept : (ops : List Op) (was now : Bool) (k n : ℕ) → now ≡ was → n ≡ k → HasDone was (take k ops) → HasDone now (take n ops)
done-kept ops was now k n same at done = subst (λ m. HasDone now (take m ops)) (sym at) (subst (λ exited. HasDone exited (take k ops)) (sym same) done)

-- Programs.

-- the next operation is done
pub take-next : (ops : List Op) (k : ℕ) (o : Op) → slice_get ops k ≡ Some o → take (suc k) ops ≡ take k ops ++ o ∷ []
take-next ops k o is = take-suc ops k o (slice_get_within ops k o is) ∙ ap (λ p. take k ops ++ p ∷ []) (get_or_from_slice_get ops k o o is)

-- all are done
pub take-over : (ops : List Op) (k : ℕ) → k ≤ length ops → length ops ≤ k → take k ops ≡ ops
take-over ops k fit over = let whole : k ≡ length ops = omega arith in ap (λ n. take n ops) whole ∙ take-length ops

-- what is done is of the program
pub take-contains : (ops : List Op) (k : ℕ) (o : Op) → Contains (take k ops) o → Contains ops o
take-contains ops k o has = subst (λ os. Contains os o) (take-append-drop k ops) (Contains-append_left (take k ops) (drop k ops) o has)

-- Tasklets.

-- a tasklet has no `exit`
abbrev pub NoTaskExits : Body → Type 0
NoTaskExits (body.Ult ops) = Unit {0}
NoTaskExits (body.Task ops) = NoExit ops
NoTaskExits (body.Sched g) = Unit {0}

neither : (a b : Bool) → (a || b) ≡ false → (a ≡ false) × (b ≡ false)
neither true b h = cc
neither false b h = (refl, h)

none-blocks : (ops : List Op) → list_any may_block ops ≡ false → Contains ops op.Exit → ⊥
none-blocks [] h (k, l, is) = omega arith
none-blocks (o ∷ ops) h (zero, l, is) =
    let may : may_block o ≡ true = ap may_block is in
    let not : may_block o ≡ false = (neither (may_block o) (list_any may_block ops) h).0 in
    cc
none-blocks (o ∷ ops) h (suc k, l, is) = none-blocks ops (neither (may_block o) (list_any may_block ops) h).1 (k, omega arith, is)

pub tasks-never-exit : (scheds : ℕ) (b : Body) → IsBody scheds b → NoTaskExits b
tasks-never-exit scheds (body.Ult ops) h = tt
tasks-never-exit scheds (body.Task ops) h = none-blocks ops h
tasks-never-exit scheds (body.Sched g) h = tt
