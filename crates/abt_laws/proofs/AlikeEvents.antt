-- An event may come, and changes the same, in states that are alike at its stream and its site.
use Rattle.std.proofs.Common.{◌≡◌, ℕ, suc, ◌-◌, Bool, true, false, [], ◌∷◌, length, Option, Some, None, refl, sym, ◌∙◌, ap, subst, inl}
use Rattle.abt_machine.specs.declared.events.Code.{Code}
use Rattle.abt_machine.specs.declared.events.Code.TheVariants as code
use Rattle.abt_machine.specs.declared.events.Place.TheVariants as place
use Rattle.abt_machine.specs.declared.events.Site.TheVariants as site
use Rattle.abt_machine.specs.declared.events.What.{What}
use Rattle.abt_machine.specs.declared.events.What.TheVariants as what
use Rattle.abt_machine.specs.declared.operations.Op.{Op}
use Rattle.abt_machine.specs.Stored.{Stored, Returns}
use Rattle.abt_machine.specs.declared.workload.Parts.{Parts}
use Rattle.abt_machine.specs.Numbers.{stream_no, unit_no}
use Rattle.abt_machine.specs.Workloads.{body_at, op_at}
use Rattle.abt_machine.specs.Operations.{IsDeclared}
use Rattle.abt_machine.specs.Valid.{IsValid}
use Rattle.abt_machine.specs.EventSites.{op_site, site_at, what_site}
use Rattle.abt_machine.specs.Queues.{first}
use Rattle.abt_machine.specs.Carrying.{advanced, refused, with_acc, with_home}
use Rattle.abt_machine.specs.State.{State, Stream, Carried, Desk, Plain, Asked}
use Rattle.abt_machine.specs.Lines.{InTray, Joining, hand, standing}
use Rattle.abt_machine.specs.Rounds.{IsNextPool}
use Rattle.abt_machine.specs.Frames.{marked, round_taken, round_missed, entered, sched_of, left}
use Rattle.abt_machine.specs.Codes.{code_of, code_at}
use Rattle.abt_machine.specs.Changes.{no_change, tray_moves}
use Rattle.abt_machine.specs.Steps.{step_row}
use Rattle.abt_machine.specs.Events.{without_requests, look_row, change, May}
use Rattle.abt_machine.proofs.Declared.{op-declared}
use Rattle.abt_laws.specs.Footprint.{Within, holder}
use Rattle.abt_laws.proofs.AlikeCodes.{code_at-alike}
use Rattle.abt_laws.proofs.Keeping.{IsKept, next-kept, first-kept}
use Rattle.abt_laws.proofs.Alike.{IsAlike, standing-alike, hand-alike, next-alike, front-alike, tray_end-alike, caller-alike, due-alike}
use Rattle.abt_laws.proofs.SiteOps.{site-op}

-- Operations of unit u in the hand of stream s.

module _ (W : Parts) (valid : IsValid W) (S T : State) (s u : ℕ) (in_hand : hand W S s ≡ Some u) where
  -- with any code that the operation has
  row-alike : (o : Op) (c : Code) → IsDeclared W o → code_of W S s u o ≡ c → IsAlike W s (op_site W s u o) S T → step_row W S s u (Some o) c ≡ step_row W T s u (Some o) c
  row-alike o code.Ok d h alike = (site-op W valid S s u in_hand o d h).1 T alike
  row-alike o c d h alike = ap (λ (k : Carried). record no_change { carried = (u, refused c k) ∷ [] }) (caller-alike W s _ S T alike u in_hand)

  step-alike : (o : Option Op) (c : Code) → ((p : Op) → o ≡ Some p → IsDeclared W p) → code_at W S s u o ≡ c → IsAlike W s (site_at W s u o) S T → step_row W S s u o c ≡ step_row W T s u o c
  step-alike None c d h alike = refl
  step-alike (Some o) c d h alike = row-alike o c (d o refl) h alike

-- Events.

module _ (W : Parts) (S T : State) (s u : ℕ) (alike : IsAlike W s (Some (site.Desk (unit_no u))) S T) (kept : IsKept W S s (Some (site.Desk (unit_no u))) u) where
  same-desk : S.desk u ≡ T.desk u
  same-desk = alike.desk u refl

  -- by the requests that are found
  look-at : (b : Bool) (m : Option ℕ) → look_row W S s u b m ≡ look_row W T s u b m
  look-at true m = λ i. record no_change { moves = (u, place.Hand (stream_no s)) ∷ []; desks = (u, without_requests (same-desk i)) ∷ []; streams = (s, marked Asked (alike.stream i)) ∷ [] }
  look-at false None = λ i. record no_change { moves = (u, place.Hand (stream_no s)) ∷ []; desks = (u, without_requests (same-desk i)) ∷ []; streams = (s, marked Plain (alike.stream i)) ∷ [] }
  look-at false (Some p) = λ i. record no_change {
    moves = tray_moves s (tray_end-alike W s _ S T alike i) (u ∷ []);
    carried = (u, with_home p ((alike.units u (inl kept)).1 i)) ∷ [];
    desks = (u, without_requests (same-desk i)) ∷ [];
  }

  look-alike : look_row W S s u (S.desk u).cancel (S.desk u).migrate ≡ look_row W T s u (T.desk u).cancel (T.desk u).migrate
  look-alike = look-at (S.desk u).cancel (S.desk u).migrate ∙ ap (λ (d : Desk). look_row W T s u d.cancel d.migrate) same-desk

module _ (W : Parts) (valid : IsValid W) (Z : Stored) (S T : State) (s : ℕ) where
  -- an event changes the same
  pub change-alike : (w : What) → IsAlike W s (what_site W s w) S T → May W Z S s w → change W S s w ≡ change W T s w
  change-alike (what.Miss p) alike may = λ i. record no_change { streams = (s, round_missed W p.0 (alike.stream i)) ∷ [] }
  change-alike (what.Take p u) alike may = λ i. record no_change { moves = (u.0, place.Next (stream_no s)) ∷ []; streams = (s, round_taken (alike.stream i)) ∷ [] }
  change-alike (what.Look u) alike may = look-alike W S T s u.0 alike (next-kept W S s _ u.0 may.1)
  change-alike (what.Step u k c) alike may = step-alike W valid S T s u.0 may.1 (op_at W u.0 k) c (λ o e. op-declared W u.0 k o valid e) (sym may.3) alike
  change-alike (what.Call u k n) alike may = ap (λ (c : Carried). record no_change { carried = (u.0, advanced (with_acc n c)) ∷ [] }) (caller-alike W s _ S T alike u.0 may.1)
  change-alike (what.Put u p) alike may = λ i. record no_change { moves = (u.0, place.Pool p (alike.pool_next p.0 refl i)) ∷ []; pool_next = (p.0, suc (alike.pool_next p.0 refl i)) ∷ [] }
  change-alike (what.End u c) alike may =
      let w : standing W S (Joining u.0) ≡ standing W T (Joining u.0) = standing-alike W s _ S T alike (Joining u.0) refl in
      λ i. record no_change { moves = (u.0, place.Ended c) ∷ tray_moves s (tray_end-alike W s _ S T alike i) (w i); desks = (u.0, without_requests (alike.desk u.0 refl i)) ∷ [] }
  change-alike (what.Enter u) alike may = λ i. record no_change { moves = (u.0, place.Frame (stream_no s) (length (alike.stream i).below)) ∷ []; streams = (s, entered (sched_of (body_at W u.0)) (alike.stream i)) ∷ [] }
  change-alike (what.Leave u) alike may = λ i. record no_change { moves = (u.0, place.Hand (stream_no s)) ∷ []; streams = (s, left (alike.stream i)) ∷ [] }

  -- an event may come
  pub may-alike : (w : What) → IsAlike W s (what_site W s w) S T → May W Z S s w → May W Z T s w
  may-alike (what.Miss p) alike may =
      (sym (due-alike W s _ S T alike) ∙ may.0, sym (front-alike W s _ S T alike p.0 refl) ∙ may.1, subst (λ (own : Stream). IsNextPool W Z.orders own.top p.0) alike.stream may.2)
  may-alike (what.Take p u) alike may =
      (sym (due-alike W s _ S T alike) ∙ may.0, sym (front-alike W s _ S T alike p.0 refl) ∙ may.1, subst (λ (own : Stream). IsNextPool W Z.orders own.top p.0) alike.stream may.2)
  may-alike (what.Look u) alike may = (sym (due-alike W s _ S T alike) ∙ may.0, sym (next-alike W s _ S T alike) ∙ may.1)
  may-alike (what.Step u k c) alike may =
      let same : S.carried u.0 ≡ T.carried u.0 = caller-alike W s _ S T alike u.0 may.1 in (
        sym (due-alike W s _ S T alike) ∙ may.0,
        sym (hand-alike W s _ S T alike) ∙ may.1,
        ap (λ (c : Carried). c.position) (sym same) ∙ may.2,
        may.3 ∙ code_at-alike W s u.0 S T (op_at W u.0 k) alike,
        may.4,
      )
  may-alike (what.Call u k n) alike may =
      let same : S.carried u.0 ≡ T.carried u.0 = caller-alike W s _ S T alike u.0 may.1 in (
        sym (due-alike W s _ S T alike) ∙ may.0,
        sym (hand-alike W s _ S T alike) ∙ may.1,
        ap (λ (c : Carried). c.position) (sym same) ∙ may.2,
        subst (λ (c : Carried). Returns Z (op_at W u.0 k) u.0 c n) same may.3,
      )
  may-alike (what.Put u p) alike may =
      let same : S.carried u.0 ≡ T.carried u.0 = (alike.units u.0 (inl (first-kept W S s _ (InTray s) u.0 refl may.1))).1 in (
        sym (due-alike W s _ S T alike) ∙ may.0,
        ap first (sym (standing-alike W s _ S T alike (InTray s) refl)) ∙ may.1,
        ap (λ (c : Carried). c.home) (sym same) ∙ may.2,
      )
  may-alike (what.End u c) alike may = (sym (due-alike W s _ S T alike) ∙ may.0, sym (hand-alike W s _ S T alike) ∙ may.1)
  may-alike (what.Enter u) alike may = (sym (due-alike W s _ S T alike) ∙ may.0, sym (hand-alike W s _ S T alike) ∙ may.1)
  may-alike (what.Leave u) alike may = (
    sym (due-alike W s _ S T alike) ∙ may.0,
    subst (λ (own : Stream). T.place u.0 ≡ place.Frame (stream_no s) (length own.below - 1)) alike.stream
        (sym (alike.units u.0 (inl (subst (λ pl. Within s None (holder W u.0 pl)) (sym may.1) refl))).0 ∙ may.1),
  )
