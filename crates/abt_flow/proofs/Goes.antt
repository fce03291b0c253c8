-- Each operation of a confluent workload goes through.
use Rattle.std.proofs.Common.{◌≡◌, ℕ, [], Some, refl, sym, subst}
use Rattle.std.specs.Option.{option_map_or}
use Rattle.std.specs.Prelude.{⊤}
use Rattle.abt_machine.specs.declared.events.Code.TheVariants as code
use Rattle.abt_machine.specs.declared.events.Place.TheVariants as place
use Rattle.abt_machine.specs.declared.operations.Op.{Op}
use Rattle.abt_machine.specs.declared.operations.Op.TheVariants as op
use Rattle.abt_machine.specs.declared.workload.Parts.{Parts}
use Rattle.abt_machine.specs.Stored.{IsNoCall}
use Rattle.abt_machine.specs.Changes.{changed, goes_with}
use Rattle.abt_machine.specs.Codes.{code_of}
use Rattle.abt_machine.specs.Lines.{tray_end}
use Rattle.abt_machine.specs.Numbers.{stream_no}
use Rattle.abt_machine.specs.Operations.{nature_of}
use Rattle.abt_machine.specs.State.{State, Carried}
use Rattle.abt_machine.specs.Steps.{op_row}
use Rattle.abt_machine.specs.Valid.{IsValid}
use Rattle.abt_machine.specs.Workloads.{op_at}
use Rattle.abt_flow.specs.Confluent.{Confluent, IsSettled}
use Rattle.abt_flow.specs.Effects.{FlowEffect, Computes, Calls, Awaits, Depends, effect}
use Rattle.abt_flow.specs.Flow.{Becomes, Functions}
use Rattle.abt_flow.specs.Tables.{CreatesNone, IsOther}
use Rattle.abt_flow.proofs.Creating.{create-ok, row-creates}
use Rattle.abt_flow.proofs.Keys.{other-sets}
use Rattle.abt_flow.proofs.Moving.{went}
use Rattle.abt_flow.proofs.Points.{HasValue}
use Rattle.abt_flow.proofs.Rows.{row-arrives, row-awaits, row-goes_to, row-goes_with, row-joins}
use Rattle.abt_flow.proofs.Setting.{row-sets, set-ok}
use Rattle.abt_flow.proofs.Stepping.{Stepped}
use Rattle.abt_flow.proofs.Tells.{Flowing, memory_of}

module _ (W : Parts) (R : Functions) (valid : IsValid W) (confluent : Confluent W) (t : ℕ) (S : State) (flowing : Flowing W R t S) (s u : ℕ) (held : S.place u ≡ place.Hand (stream_no s)) where
  abbrev pub Goes : Op → Type 0
  Goes o = (code_of W S s u o ≡ code.Ok) × Stepped W R t S (changed S (op_row W S s u o)) u o

  -- what unit u carries after an operation, if that is local
  abbrev made : Op → Carried
  made o = option_map_or (λ (f : Carried → Carried). f (S.carried u)) (nature_of o).local (S.carried u)

  -- an operation of this effect depends on the schedule, or goes through and changes only what unit u carries
  abbrev IsLocal : Op → FlowEffect → Type 0
  IsLocal o (Computes f) =
      IsOther o × CreatesNone (Some o) × (code_of W S s u o ≡ code.Ok) × (op_row W S s u o ≡ goes_with u (made o)) × ((made o).position ≡ (S.carried u).position) ×
      (memory_of (made o) ≡ f (memory_of (S.carried u)))
  IsLocal o (Calls f) = ⊥
  IsLocal o (Awaits x) = ⊥
  IsLocal o Depends = ⊤

  goes-locally : (o : Op) (e : FlowEffect) → effect o ≡ e → op_at W u (S.carried u).position ≡ Some o → IsLocal o e → Goes o
  goes-locally o (Computes f) same is local = (
    local.2,
    subst (λ r. Stepped W R t S (changed S r) u o) (sym local.3)
        (row-goes_with W R t S flowing s u held o is (λ x. other-sets o x local.0) (λ v q e. subst (λ p. CreatesNone (Some p)) e local.1) (made o) local.4
        (subst (λ e. Becomes R u (HasValue W R t) e (memory_of (S.carried u)) (memory_of (made o))) (sym same) local.5)),
  )
  goes-locally o (Calls f) same is local = absurd local
  goes-locally o (Awaits x) same is local = absurd local
  goes-locally o Depends same is local = absurd (subst IsSettled same (confluent.ops u (S.carried u).position o is))

  -- the last line is checked for each other operation by itself
  pub goes : (o : Op) → op_at W u (S.carried u).position ≡ Some o → IsNoCall (Some o) → Goes o
  goes (op.Call f) is step = absurd step
  goes op.Yield is step = (
    refl,
    row-goes_to W R t S flowing s u held op.Yield is (λ x e. cc) (λ v q e. cc) (place.Tray (stream_no s) (tray_end W S s)) (λ e. cc)
        (went W R t S flowing s u held op.Yield is (S.carried u) refl refl) [] [],
  )
  goes (op.Create v p) is step = (create-ok W R confluent t S flowing s u held v p is, row-creates W R confluent t S flowing s u held v p is)
  goes (op.Join v) is step = (refl, row-joins W R t S flowing s u held v is (S.place v.0))
  goes (op.EvWait x) is step = (refl, row-awaits W R t S flowing s u held x is (S.eventual x.0) refl)
  goes (op.EvSet x) is step = (set-ok W R valid confluent t S flowing s u held x is, row-sets W R valid confluent t S flowing s u held x is)
  goes (op.BarWait x) is step = (refl, row-arrives W R t S flowing s u held valid x is)
  goes o is step = goes-locally o (effect o) refl is (search)
