-- Steps without a call: what a unit carries changes, the unit yields or ends itself, or the stream refuses by itself. Unit u, in the hand of stream s, makes the step.
use Rattle.std.proofs.Common.{◌≡◌, ℕ, Bool, true, false, List, [], ◌∷◌, refl, sym, ◌∙◌, ap, inl}
use Rattle.std.specs.Prelude.{if◌then◌else◌}
use Rattle.std.proofs.lemmas.List.{append-nil}
use Rattle.abt_machine.specs.declared.events.Code.{Code}
use Rattle.abt_machine.specs.declared.events.Code.TheVariants as code
use Rattle.abt_machine.specs.declared.operations.Op.{Op}
use Rattle.abt_machine.specs.declared.operations.Op.TheVariants as op
use Rattle.abt_machine.specs.Stored.{Stored}
use Rattle.abt_machine.specs.declared.workload.Parts.{Parts}
use Rattle.abt_machine.specs.State.{State, Stream, Carried, Exited}
use Rattle.abt_machine.specs.Carrying.{advanced, refused}
use Rattle.abt_machine.specs.Changes.{no_change, changed, goes_with, goes_on}
use Rattle.abt_machine.specs.Codes.{code_of, unless}
use Rattle.abt_machine.specs.Frames.{marked}
use Rattle.abt_machine.specs.Steps.{op_row}
use Rattle.abt_machine.specs.Values.{Owned, owned_at, part_of}
use Rattle.abt_machine.specs.Acts.{moved}
use Rattle.abt_machine.specs.Plans.{Plan, denied, local, keeps, empties, refusal}
use Rattle.abt_machine.specs.Turns.{stepped, exited}
use Rattle.abt_laws.proofs.Maps.{put_at-same}
use Rattle.abt_laws.proofs.Codes.{IsRefusal}
use Rattle.abt_simulation.proofs.Acting.{IsActing}
use Rattle.abt_simulation.proofs.OwnParts.{part-empties}
use Rattle.abt_simulation.proofs.Shapes.{owned, goes-part}
use Rattle.abt_simulation.proofs.Rows.{OwnDone, Row, RowBy, refused-row}

module _ (W : Parts) (Z : Stored) (S : State) (s u : ℕ) (acts : IsActing W Z S s u) where
  -- what u carries changes
  pub local-row : (a : Op) (f : Carried → Carried) → code.Ok ≡ code_of W S s u a → op_row W S s u a ≡ goes_with u (f (S.carried u)) → OwnDone W S s u a (local f (owned_at S u))
  local-row a f is row = record { code = is; own = ap (λ c. part_of W (changed S c) s) row ∙ goes-part W Z S s u acts (advanced (f (S.carried u))) no_change }

  -- u goes to the tray
  pub yield-row : Row W S s u op.Yield
  yield-row = record {
    code = refl;
    own = part-empties W Z S s u acts [] (u ∷ []) ((u, advanced (S.carried u)) ∷ []) no_change tt ((λ m. m), tt) (acts.declared, tt) (inl refl, tt) (inl refl, tt) (inl refl)
        ∙ ap (λ k. stepped (part_of W S s) (empties (owned u k ∷ []))) (put_at-same S.carried u (advanced (S.carried u)));
  }

  -- u stays in the hand, to be ended
  pub exit-row : Row W S s u op.Exit
  exit-row =
      let own : Stream = marked Exited (S.stream s) in
      let goes : part_of W (changed S (goes_on S u)) s ≡ stepped (part_of W S s) (keeps (moved (owned_at S u)) []) = goes-part W Z S s u acts (advanced (S.carried u)) no_change in (
        refl,
        (λ i. record (goes i) { own = put_at-same S.stream s own i })
            ∙ ap (λ (us : List Owned). record (exited (part_of W S s) (moved (owned_at S u))) { tray = us }) (append-nil (part_of W S s).tray),
      )

  -- a refusal by the stream itself
  pub denied-row : (a : Op) (c : Code) → IsRefusal c → c ≡ code_of W S s u a → OwnDone W S s u a (refusal (owned_at S u) c)
  denied-row a c r is = record { code = is; own = ap (λ d. part_of W (changed S d) s) (refused-row W Z S s u acts a c r) ∙ goes-part W Z S s u acts (refused c (S.carried u)) no_change }

  -- a plan by a pool that the stream may reach, or not
  pub reached-row : (a : Op) (may : Bool) (called : Plan) (rest : Code) → code_of W S s u a ≡ unless may code.PoolAccess rest → (may ≡ true → RowBy W S s u a called) → RowBy W S s u a (if may then called else denied (owned_at S u))
  reached-row a true called rest is row = row refl
  reached-row a false called rest is row = denied-row a code.PoolAccess tt (sym is)
