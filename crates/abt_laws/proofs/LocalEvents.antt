-- Every event changes only its stream, its site, and units that these keep.
use Rattle.std.proofs.Common.{◌≡◌, ℕ, Bool, true, false, Option, Some, None, refl, sym, subst}
use Rattle.abt_machine.specs.declared.events.Code.{Code}
use Rattle.abt_machine.specs.declared.events.Code.TheVariants as code
use Rattle.abt_machine.specs.declared.events.Site.TheVariants as site
use Rattle.abt_machine.specs.declared.events.What.{What}
use Rattle.abt_machine.specs.declared.events.What.TheVariants as what
use Rattle.abt_machine.specs.declared.operations.Op.{Op}
use Rattle.abt_machine.specs.Stored.{Stored}
use Rattle.abt_machine.specs.declared.workload.Parts.{Parts}
use Rattle.abt_machine.specs.Numbers.{unit_no}
use Rattle.abt_machine.specs.Workloads.{op_at}
use Rattle.abt_machine.specs.Operations.{IsDeclared}
use Rattle.abt_machine.specs.Valid.{IsValid}
use Rattle.abt_machine.specs.EventSites.{op_site, site_at, step_site, what_site}
use Rattle.abt_machine.specs.State.{State}
use Rattle.abt_machine.specs.Lines.{InTray, Joining, hand, standing, tray_end}
use Rattle.abt_machine.specs.Codes.{code_of, code_at}
use Rattle.abt_machine.specs.Changes.{no_change}
use Rattle.abt_machine.specs.Steps.{step_row}
use Rattle.abt_machine.specs.Events.{look_row, change, May}
use Rattle.abt_machine.proofs.Declared.{op-declared}
use Rattle.abt_laws.specs.Footprint.{Within, holder}
use Rattle.abt_laws.proofs.Keeping.{IsKept, first-kept, hand-kept, next-kept, front-kept, standing-kept}
use Rattle.abt_laws.proofs.Local.{IsLocal, local-none, local-moves, local-carried, local-desk, local-pool_next, local-stream}
use Rattle.abt_laws.proofs.LocalRows
use Rattle.abt_laws.proofs.SiteOps.{site-op}

-- Operations of unit u in the hand of stream s.

module _ (W : Parts) (valid : IsValid W) (S : State) (s u : ℕ) (in_hand : hand W S s ≡ Some u) where
  -- a refusal changes the unit in hand alone
  local-code : (o : Op) (c : Code) → IsDeclared W o → code_of W S s u o ≡ c → IsLocal W S s (op_site W s u o) (step_row W S s u (Some o) c)
  local-code o code.Ok d h = (site-op W valid S s u in_hand o d h).0
  local-code o _ d h = local-carried W S s _ no_change (local-none W S s _) _ (hand-kept W S s _ u in_hand, tt)

  -- a step with the code of its operation
  local-step : (o : Option Op) → ((p : Op) → o ≡ Some p → IsDeclared W p) → IsLocal W S s (site_at W s u o) (step_row W S s u o (code_at W S s u o))
  local-step None d = local-none W S s None
  local-step (Some o) d = local-code o (code_of W S s u o) (d o refl) refl

-- Events.

module _ (W : Parts) (S : State) (s u : ℕ) where
  -- a look, by the requests that it finds
  local-look : (b : Bool) (m : Option ℕ) → IsKept W S s (Some (site.Desk (unit_no u))) u → IsLocal W S s (Some (site.Desk (unit_no u))) (look_row W S s u b m)
  local-look true m k = local-stream W S s _ _ (local-desk W S s _ _ (local-moves W S s _ no_change (local-none W S s _) _ ((k, refl), tt)) u _ refl) _
  local-look false None k = local-stream W S s _ _ (local-desk W S s _ _ (local-moves W S s _ no_change (local-none W S s _) _ ((k, refl), tt)) u _ refl) _
  local-look false (Some p) k = local-desk W S s _ _ (local-carried W S s _ _ (local-moves W S s _ no_change (local-none W S s _) _ ((k, refl), tt)) _ (k, tt)) u _ refl

module _ (W : Parts) (valid : IsValid W) (Z : Stored) (S : State) (s : ℕ) where
  pub event-local : (w : What) → May W Z S s w → IsLocal W S s (what_site W s w) (change W S s w)
  event-local (what.Miss p) may = local-stream W S s _ no_change (local-none W S s _) _
  event-local (what.Take p u) may = local-stream W S s _ _ (local-moves W S s _ no_change (local-none W S s _) _ ((front-kept W S s _ p.0 u.0 refl may.1, refl), tt)) _
  event-local (what.Look u) may = local-look W S s u.0 (S.desk u.0).cancel (S.desk u.0).migrate (next-kept W S s _ u.0 may.1)
  event-local (what.Step u k c) may =
      subst (λ d. IsLocal W S s (step_site W s u.0 k) (step_row W S s u.0 (op_at W u.0 k) d)) (sym may.3)
      (local-step W valid S s u.0 may.1 (op_at W u.0 k) (λ o e. op-declared W u.0 k o valid e))
  event-local (what.Call u k n) may = local-carried W S s _ no_change (local-none W S s _) _ (hand-kept W S s _ u.0 may.1, tt)
  event-local (what.Put u p) may = local-pool_next W S s _ _ (local-moves W S s _ no_change (local-none W S s _) _ ((first-kept W S s _ (InTray s) u.0 refl may.1, refl), tt)) p.0 _ refl
  event-local (what.End u c) may =
      local-desk W S s _ _
      (local-moves W S s _ no_change (local-none W S s _) _
      ((hand-kept W S s _ u.0 may.1, refl), LocalRows.tray-within W S s _ (standing W S (Joining u.0)) (tray_end W S s) (standing-kept W S s _ (Joining u.0) refl)))
      u.0 _ refl
  event-local (what.Enter u) may = local-stream W S s _ _ (local-moves W S s _ no_change (local-none W S s _) _ ((hand-kept W S s _ u.0 may.1, refl), tt)) _
  event-local (what.Leave u) may = local-stream W S s _ _ (local-moves W S s _ no_change (local-none W S s _) _ ((subst (λ pl. Within s None (holder W u.0 pl)) (sym may.1) refl, refl), tt)) _
