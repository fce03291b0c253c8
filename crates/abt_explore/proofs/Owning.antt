-- Private events wait.
use Rattle.std.proofs.Common.{◌≡◌, ◌≢◌, ◌<◌, ◌⊎◌, ◌∙◌, ℕ, Bool, true, false, List, [], ◌∷◌, Option, Some, None, ap, if◌then◌else◌, inl, inr, refl, subst, sym}
use Rattle.std.proofs.lemmas.Bool.{eqb-true}
use Rattle.abt_machine.specs.declared.events.Code.{Code}
use Rattle.abt_machine.specs.declared.events.Code.TheVariants as code
use Rattle.abt_machine.specs.declared.events.Event.{Event}
use Rattle.abt_machine.specs.declared.events.Site.{Site}
use Rattle.abt_machine.specs.declared.events.Site.TheVariants as site
use Rattle.abt_machine.specs.declared.events.What.{What}
use Rattle.abt_machine.specs.declared.events.What.TheVariants as what
use Rattle.abt_machine.specs.declared.numbers.UnitNo.{UnitNo}
use Rattle.abt_machine.specs.declared.operations.Op.{Op}
use Rattle.abt_machine.specs.declared.operations.Op.TheVariants as op
use Rattle.abt_machine.specs.Stored.{Stored}
use Rattle.abt_machine.specs.declared.workload.Parts.{Parts}
use Rattle.abt_machine.specs.Access.{may_reach}
use Rattle.abt_machine.specs.EventSites.{plan_site, site_at, step_site, what_site}
use Rattle.abt_machine.specs.Carrying.{advanced, with_acc}
use Rattle.abt_machine.specs.Changes.{Change, changed, goes_with, no_change}
use Rattle.abt_machine.specs.Codes.{code_at, owned_by, unless}
use Rattle.abt_machine.specs.Events.{May, after, change}
use Rattle.abt_machine.specs.Fronts.{is_some_of}
use Rattle.abt_machine.specs.Lines.{hand}
use Rattle.abt_machine.specs.Numbers.{object_no, stream_no}
use Rattle.abt_machine.specs.Plans.{denied, reached_plan}
use Rattle.abt_machine.specs.Runs.{RunFrom, state_after}
use Rattle.abt_machine.specs.Start.{start}
use Rattle.abt_machine.specs.State.{Carried, Mutex, State}
use Rattle.abt_machine.specs.Steps.{step_row}
use Rattle.abt_machine.specs.Valid.{IsValid}
use Rattle.abt_machine.specs.Values.{Owned, owned_at}
use Rattle.abt_machine.specs.Workloads.{op_at}
use Rattle.abt_laws.specs.Footprint.{Within, holder}
use Rattle.abt_laws.specs.Laws.{IsMiss, IsStepOf}
use Rattle.abt_laws.proofs.Alike.{IsAlike, alike-after, caller-alike, due-alike, hand-alike, not-both}
use Rattle.abt_laws.proofs.AlikeEvents.{change-alike, may-alike}
use Rattle.abt_laws.proofs.Keeping.{IsKept, hand-kept, next-kept}
use Rattle.abt_laws.proofs.Local.{IsLocal, local-carried, local-none}
use Rattle.abt_laws.proofs.LocalEvents.{event-local}
use Rattle.abt_laws.proofs.Maps.{EachOf-key, KeyOf, put_all-commute}
use Rattle.abt_laws.proofs.Owning.{owners-alone}
use Rattle.abt_laws.proofs.Options.{none≢some}
use Rattle.abt_explore.specs.Alone.{IsWithout, MaySwap, Waits}
use Rattle.abt_explore.specs.Named.{IsNamed, IsPrivate, unit_named}
use Rattle.abt_explore.proofs.AlikeRuns.{IsLeft, alike-alone, left-waits}

-- Steps that touch a desk.

desk-number : (v u : UnitNo) → Some (site.Desk v) ≡ Some (site.Desk u) → v.0 ≡ u.0
desk-number v u e = let same : v ≡ u = cc in ap (λ n. n.0) same

-- the unit of the desk is named, or makes the step
plan-desk : (W : Parts) (o : Op) (own : Owned) (u : UnitNo) → plan_site (reached_plan W o own) ≡ Some (site.Desk u) → (unit_named o ≡ Some u.0) ⊎ (own.number ≡ u.0)
plan-desk W (op.Resume v) own u e = inl (ap Some (desk-number v u e))
plan-desk W (op.Create v p) own u e = inl (ap Some (desk-number v u e))
plan-desk W (op.Join v) own u e = inl (ap Some (desk-number v u e))
plan-desk W (op.Cancel v) own u e = inl (ap Some (desk-number v u e))
plan-desk W (op.Migrate v p) own u e = inl (ap Some (desk-number v u e))
plan-desk W (op.MigrateTo v r) own u e = inl (ap Some (desk-number v u e))
plan-desk W (op.Migratable v b) own u e = inl (ap Some (desk-number v u e))
plan-desk W (op.Revive v p) own u e = inl (ap Some (desk-number v u e))
plan-desk W op.Suspend own u e = inr (desk-number _ u e)
plan-desk W o own u e = cc

reach-desk : (W : Parts) (b : Bool) (o : Op) (own : Owned) (u : UnitNo) → plan_site (if b then reached_plan W o own else denied own) ≡ Some (site.Desk u) → (unit_named o ≡ Some u.0) ⊎ (own.number ≡ u.0)
reach-desk W true o own u e = plan-desk W o own u e
reach-desk W false o own u e = absurd (none≢some e)

step-desk : (W : Parts) (r v k : ℕ) (u : UnitNo) (a : Option Op) → op_at W v k ≡ a → site_at W r v a ≡ Some (site.Desk u) → IsNamed W u.0 ⊎ (v ≡ u.0)
step-desk W r v k u None at e = absurd (none≢some e)
step-desk W r v k u (Some o) at e = elim (reach-desk W (may_reach W r o) o (owned_at (start W) v) u e) [
  | inl named ↦ inl (v, k, o, at, named)
  | inr own ↦ inr own
]

-- Units of two streams.

module _ (W : Parts) (Z : Stored) (T : State) (s r : ℕ) (ne : r ≢ s) (u : UnitNo) (kept : IsKept W T s None u.0) (unnamed : IsNamed W u.0 → ⊥) where
  -- no other stream keeps it
  other-kept : (v : ℕ) → v ≡ u.0 → IsKept W T r None v → ⊥
  other-kept v same other = not-both r s None None (holder W u.0 (T.place u.0)) ne (λ z e f. none≢some e) (subst (IsKept W T r None) same other) kept

  -- nor touches its desk
  desk-left : (v : What) → May W Z T r v → what_site W r v ≡ Some (site.Desk u) → ⊥
  desk-left (what.Miss p) may e = cc
  desk-left (what.Take p q) may e = cc
  desk-left (what.Look v) may e = other-kept v.0 (desk-number v u e) (next-kept W T r None v.0 may.1)
  desk-left (what.Step v k c) may e = elim (step-desk W r v.0 k u (op_at W v.0 k) refl e) [
    | inl named ↦ unnamed named
    | inr own ↦ other-kept v.0 own (hand-kept W T r None v.0 may.1)
  ]
  desk-left (what.Call v k n) may e = absurd (none≢some e)
  desk-left (what.Put v p) may e = cc
  desk-left (what.End v c) may e = other-kept v.0 (desk-number v u e) (hand-kept W T r None v.0 may.1)
  desk-left (what.Enter v) may e = absurd (none≢some e)
  desk-left (what.Leave v) may e = absurd (none≢some e)

module _ (W : Parts) (valid : IsValid W) (Z : Stored) (S : State) (s : ℕ) where
  -- an event without an object
  pub none-left : (x : Option Site) → x ≡ None → IsLeft W Z s x S
  none-left x none K r v without run ne may z e f = none≢some (sym none ∙ f)

  -- the desk of a unit that the stream keeps
  pub kept-left : (u : UnitNo) → IsKept W S s None u.0 → (IsNamed W u.0 → ⊥) → IsLeft W Z s (Some (site.Desk u)) S
  kept-left u kept unnamed K r v without run ne may z e f =
      let T : State = state_after W S K in
      let there : IsKept W T s None u.0 = subst (λ pl. Within s None (holder W u.0 pl)) ((alike-alone W valid Z s S K without run).units u.0 (inl kept)).0 kept in
      desk-left W Z T s r ne u there unnamed v may (e ∙ sym f)

-- Loads of a mutex that the unit owns.

-- the unit of a step that goes through is in the hand of its stream
steps-in-hand : (W : Parts) (Z : Stored) (S : State) (r u : ℕ) (v : What) → May W Z S r v → IsStepOf u v → hand W S r ≡ Some u
steps-in-hand W Z S r u (what.Step q k c) may step = may.1 ∙ ap Some step.0
steps-in-hand W Z S r u v may step = absurd step

owned-some : (u : ℕ) (o : Option ℕ) → is_some_of u o ≡ true → o ≡ Some u
owned-some u None e = cc
owned-some u (Some v) e = ap Some (eqb-true v u e)

-- a load that goes through is of a mutex that its unit owns
load-owned : (W : Parts) (S : State) (s u x : ℕ) → code.Ok ≡ code_at W S s u (Some (op.Load (object_no x))) → (S.mutex x).owner ≡ Some u
load-owned W S s u x is = owned-some u (S.mutex x).owner (by (owned_by S u x) is) where
  by : (b : Bool) → code.Ok ≡ unless b code.NotOwner code.Ok → b ≡ true
  by true e = refl
  by false e = cc

module _ (W : Parts) (valid : IsValid W) (Z : Stored) (s u x : ℕ) where
  -- the mutex stays while the unit is in the hand
  mutex-stays : (S : State) (K : List Event) → hand W S s ≡ Some u → (S.mutex x).owner ≡ Some u → IsWithout s K → RunFrom W Z S K → (state_after W S K).mutex x ≡ S.mutex x
  mutex-stays S [] holds owner without run = refl
  mutex-stays S (f ∷ fs) holds owner without run =
      let T : State = after W S f.stream.0 f.what in
      let kept : hand W T s ≡ Some u = sym (hand-alike W s None S T (alike-alone W valid Z s S (f ∷ []) (without.0, tt) (run.0, run.1, tt))) ∙ holds in
      elim (owners-alone W Z S T f u x (run.0, run.1, refl) owner) [
        | inl same ↦ mutex-stays T fs kept (ap (λ (m : Mutex). m.owner) same ∙ owner) without.1 run.2 ∙ same
        | inr step ↦ absurd (not-both f.stream.0 s None None (holder W u (S.place u)) without.0 (λ z e g. none≢some e)
            (hand-kept W S f.stream.0 None u (steps-in-hand W Z S f.stream.0 u f.what run.1 step)) (hand-kept W S s None u holds))
      ]

-- the state with what unit u loads from mutex x
abbrev loads : ℕ → ℕ → State → Change
loads u x S = goes_with u (with_acc (S.mutex x).number (S.carried u))

module _ (W : Parts) (valid : IsValid W) (Z : Stored) (S : State) (s : ℕ) (u : UnitNo) (k x : ℕ) (c : Code) (may : May W Z S s (what.Step u k c)) (at : op_at W u.0 k ≡ Some (op.Load (object_no x))) (ok : c ≡ code.Ok) where
  -- the mutex is the unit's
  load-owner : (S.mutex x).owner ≡ Some u.0
  load-owner = load-owned W S s u.0 x (sym ok ∙ (may.3 ∙ ap (code_at W S s u.0) at))

  -- what the load changes
  load-change : (T : State) → change W T s (what.Step u k c) ≡ loads u.0 x T
  load-change T = λ i. step_row W T s u.0 (at i) (ok i)

  module _ (K : List Event) (without : IsWithout s K) (run : RunFrom W Z S K) where
    abbrev end : State
    end = state_after W S K

    same-mutex : end.mutex x ≡ S.mutex x
    same-mutex = mutex-stays W valid Z s u.0 x S K may.1 load-owner without run

    same-own : IsAlike W s None S end
    same-own = alike-alone W valid Z s S K without run

    same-carried : S.carried u.0 ≡ end.carried u.0
    same-carried = caller-alike W s None S end same-own u.0 may.1

    same-code : (a : Option Op) → a ≡ Some (op.Load (object_no x)) → code_at W S s u.0 a ≡ code_at W end s u.0 a
    same-code a is =
        ap (code_at W S s u.0) is ∙ (ap (λ (m : Mutex). unless (is_some_of u.0 m.owner) code.NotOwner code.Ok) (sym same-mutex) ∙ sym (ap (code_at W end s u.0) is))

    load-stays : May W Z end s (what.Step u k c)
    load-stays = (
      sym (due-alike W s None S end same-own) ∙ may.0,
      sym (hand-alike W s None S end same-own) ∙ may.1,
      ap (λ (d : Carried). d.position) (sym same-carried) ∙ may.2,
      may.3 ∙ same-code (op_at W u.0 k) at,
      may.4,
    )

    -- it loads the same
    same-loads : loads u.0 x end ≡ loads u.0 x S
    same-loads = λ i. goes_with u.0 (with_acc (same-mutex i).number (sym same-carried i))

  load-swaps : (K : List Event) (r : ℕ) (v : What) → IsWithout s K → RunFrom W Z S K → r < W.streams → r ≢ s → May W Z (state_after W S K) r v → MaySwap W Z (state_after W S K) s (what.Step u k c) r v
  load-swaps K r v without run there ne other =
      let T : State = state_after W S K in
      let w : What = what.Step u k c in
      let later : May W Z T s w = load-stays K without run in
      let local : IsLocal W T s None (change W T s w) =
      subst (IsLocal W T s None) (sym (load-change T)) (local-carried W T s None no_change (local-none W T s None) _ (hand-kept W T s None u.0 later.1, tt)) in
      let alike : IsAlike W r (what_site W r v) T (after W T s w) = alike-after W T s r None (what_site W r v) (change W T s w) (λ e. ne (sym e)) (λ z e f. none≢some e) local in
      let theirs : IsLocal W T r (what_site W r v) (change W T r v) = event-local W valid Z T r v other in
      let apart : (n : ℕ) → KeyOf n ((u.0, advanced (with_acc (T.mutex x).number (T.carried u.0))) ∷ []) → KeyOf n (change W T r v).carried → ⊥ = λ n mine other_s.
      not-both s r None (what_site W r v) (holder W n (T.place n)) (λ e. ne (sym e)) (λ z e f. none≢some e)
      (EachOf-key (IsKept W T s None) ((u.0, advanced (with_acc (T.mutex x).number (T.carried u.0))) ∷ []) n (hand-kept W T s None u.0 later.1, tt) mine)
      (EachOf-key (IsKept W T r (what_site W r v)) (change W T r v).carried n theirs.carried other_s) in
      record {
        may = may-alike W valid Z T (after W T s w) r v alike other;
        same =
            ap (changed (after W T s w)) (sym (change-alike W valid Z T (after W T s w) r v alike other))
            ∙ (ap (λ (d : Change). changed (changed T d) (change W T r v)) (load-change T)
            ∙ (ap (λ f. record (changed T (change W T r v)) { carried = f }) (put_all-commute T.carried ((u.0, advanced (with_acc (T.mutex x).number (T.carried u.0))) ∷ []) (change W T r v).carried apart)
            ∙ (ap (changed (after W T r v)) (sym (loads-after K r v without run there ne other))
            ∙ ap (changed (after W T r v)) (sym (load-change (after W T r v))))));
      } where
        loads-after : (K : List Event) (r : ℕ) (v : What) → IsWithout s K → RunFrom W Z S K → r < W.streams → r ≢ s → May W Z (state_after W S K) r v → loads u.0 x (after W (state_after W S K) r v) ≡ loads u.0 x (state_after W S K)
        loads-after K r v without run there ne other =
            let T : State = state_after W S K in
            let later : May W Z T s (what.Step u k c) = load-stays K without run in
            let owner : (T.mutex x).owner ≡ Some u.0 = ap (λ (m : Mutex). m.owner) (same-mutex K without run) ∙ load-owner in
            let e : Event = record { stamp = 0; stream = stream_no r; what = v } in
            let mutex : (after W T r v).mutex x ≡ T.mutex x = mutex-stays W valid Z s u.0 x T (e ∷ []) later.1 owner (ne, tt) (there, other, tt) in
            let own : T.carried u.0 ≡ (after W T r v).carried u.0 = caller-alike W s None T (after W T r v) (alike-alone W valid Z s T (e ∷ []) (ne, tt) (there, other, tt)) u.0 later.1 in
            λ i. goes_with u.0 (with_acc (mutex i).number (sym own i))

  pub load-waits : Waits W Z S s (what.Step u k c)
  load-waits = record { stays = load-stays; swaps = load-swaps }

-- Private events.

module _ (W : Parts) (valid : IsValid W) (Z : Stored) (S : State) (s : ℕ) (declared : s < W.streams) where
  -- a private event waits
  pub private-waits : (w : What) → IsPrivate W s w → May W Z S s w → Waits W Z S s w
  private-waits (what.Look u) private may = left-waits W valid Z S s (what.Look u) declared may (kept-left W valid Z S s u (next-kept W S s None u.0 may.1) private)
  private-waits (what.End u c) private may = left-waits W valid Z S s (what.End u c) declared may (kept-left W valid Z S s u (hand-kept W S s None u.0 may.1) private)
  private-waits (what.Step u k c) (inl none) may = left-waits W valid Z S s (what.Step u k c) declared may (none-left W valid Z S s (step_site W s u.0 k) none)
  private-waits (what.Step u k c) (inr own) may = load-waits W valid Z S s u k own.0 c may own.1 own.2
  private-waits (what.Call u k n) private may = left-waits W valid Z S s (what.Call u k n) declared may (none-left W valid Z S s None refl)
  private-waits (what.Enter u) private may = left-waits W valid Z S s (what.Enter u) declared may (none-left W valid Z S s None refl)
  private-waits (what.Leave u) private may = left-waits W valid Z S s (what.Leave u) declared may (none-left W valid Z S s None refl)
  private-waits w private may = absurd private

-- a private event is no miss
pub private-moves : (W : Parts) (s : ℕ) (w : What) → IsPrivate W s w → IsMiss w → ⊥
private-moves W s (what.Miss p) private miss = private
private-moves W s w private miss = miss
