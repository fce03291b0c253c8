-- The words in a flow are the workload's, and an operation by which it is not confluent is its own.
use Rattle.std.proofs.Common.{◌≡◌, ◌++◌, ℕ, zero, suc, List, [], ◌∷◌, Option, Some, None, refl, sym, ap, subst, ◌∙◌, inl, inr}
use Rattle.std.specs.Prelude.{slice_get}
use Rattle.std.specs.List.{All}
use Rattle.std.proofs.lemmas.List.Elements.{All-append, All-cons, All-nil}
use Rattle.abt_machine.specs.declared.events.Piece.{Piece}
use Rattle.abt_machine.specs.declared.events.Piece.TheVariants as piece
use Rattle.abt_machine.specs.declared.operations.Op.{Op}
use Rattle.abt_machine.specs.declared.operations.Op.TheVariants as op
use Rattle.abt_machine.specs.declared.workload.Parts.{Parts}
use Rattle.abt_machine.specs.Operations.{IsDeclared}
use Rattle.abt_machine.specs.Pieces.{IsPieceOf}
use Rattle.abt_machine.specs.Valid.{IsValid}
use Rattle.abt_machine.specs.Workloads.{op_at}
use Rattle.abt_machine.proofs.Declared.{op-declared}
use Rattle.abt_flow.specs.declared.confluence.Violation.{Violation}
use Rattle.abt_flow.specs.Violations.{IsFirstViolation}
use Rattle.abt_flow.specs.Effects.{Memory, FlowEffect, Computes, Awaits, Calls, Depends, effect}
use Rattle.abt_flow.specs.Flow.{Executes, Functions, IsFlow, IsRow, Becomes, Made}

abbrev Says : Parts → Memory → Type 0
Says W m = All (IsPieceOf W) m.output

one-more : (W : Parts) (m : Memory) (x : Piece) → Says W m → IsPieceOf W x → All (IsPieceOf W) (m.output ++ x ∷ [])
one-more W m x says is = All-append (IsPieceOf W) m.output (x ∷ []) says (All-cons (IsPieceOf W) x [] is (All-nil (IsPieceOf W)))

same-output : (W : Parts) (old m : Memory) → m.output ≡ old.output → Says W old → Says W m
same-output W old m e says = subst (All (IsPieceOf W)) (sym e) says

module _ (W : Parts) (R : Functions) (u : ℕ) (Found : ℕ → ℕ → Type 0) (old m : Memory) (says : Says W old) where
  -- the output after an effect that is known from the memory alone
  abbrev output_after : FlowEffect → List Piece
  output_after (Computes f) = (f old).output
  output_after _ = old.output

  -- what adds nothing to the output says what was said before
  led-same : (e : FlowEffect) → output_after e ≡ old.output → Becomes R u Found e old m → Says W m
  led-same (Computes f) same is = same-output W old m (ap (λ (x : Memory). x.output) is ∙ same) says
  led-same (Calls f) same is = same-output W old m (ap (λ (x : Memory). x.output) is.2) says
  led-same (Awaits x) same is = same-output W old m (ap (λ (x : Memory). x.output) is.2) says
  led-same Depends same is = absurd is

  -- an operation says its own word, or none
  led : (o : Op) → IsDeclared W o → Becomes R u Found (effect o) old m → Says W m
  led (op.Say w) declared is = subst (All (IsPieceOf W)) (ap (λ (x : Memory). x.output) (sym is)) (one-more W old (piece.Said w) says declared)
  led op.Print declared is = subst (All (IsPieceOf W)) (ap (λ (x : Memory). x.output) (sym is)) (one-more W old (piece.Number old.acc) says tt)
  led o declared is = led-same (effect o) refl is

  done : (o : Option Op) → ((p : Op) → o ≡ Some p → IsDeclared W p) → Executes R u Found o old m → Says W m
  done None declared is = absurd is
  done (Some o) declared is = led o (declared o refl) is

module _ (W : Parts) (R : Functions) (valid : IsValid W) where
  made : (Found : ℕ → ℕ → Type 0) (u k : ℕ) (m : Memory) → Made W R Found u k m → Says W m
  made Found u zero m is = subst (Says W) (sym is) (All-nil (IsPieceOf W))
  made Found u (suc k) m is = done W R u Found is.0 m (made Found u k is.0 is.1) (op_at W u k) (λ p e. op-declared W u k p valid e) is.2

  row-says : (u : ℕ) (row : List Piece) → IsRow W R u row → All (IsPieceOf W) row
  row-says u row (inl is) = subst (All (IsPieceOf W)) is.1.2 (made _ u _ is.1.0 is.1.1)
  row-says u row (inr none) = subst (All (IsPieceOf W)) (sym none.1) (All-nil (IsPieceOf W))

  rows-say : (rows : List (List Piece)) → ((u : ℕ) (row : List Piece) → slice_get rows u ≡ Some row → All (IsPieceOf W) row) → All (All (IsPieceOf W)) rows
  rows-say [] each = All-nil (All (IsPieceOf W))
  rows-say (row ∷ rows) each = All-cons (All (IsPieceOf W)) row rows (each 0 row refl) (rows-say rows (λ u other at. each (suc u) other at))

  pub flow-says : (rows : List (List Piece)) → IsFlow W R rows → All (All (IsPieceOf W)) rows
  flow-says rows flow = rows-say rows (λ u row at. row-says u row (flow.each u row at))

-- an operation by which a workload is not confluent is declared
pub violation_declared : (W : Parts) (v : Violation) → IsValid W → IsFirstViolation W v → IsDeclared W v.operation
violation_declared W v valid first = op-declared W v.unit.0 v.position v.operation valid first.at
