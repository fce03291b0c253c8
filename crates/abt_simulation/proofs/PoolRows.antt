-- Yielding to a unit of a pool: it comes to Next, and the unit in hand to the tray. Unit u, in the hand of stream s, makes the step.
use Rattle.std.proofs.Common.{◌≡◌, ℕ, ◌==◌, Bool, true, false, List, [], ◌∷◌, ◌++◌, length, map, Some, None, refl, sym, ◌∙◌, ap, ap₂, subst, inl, inr}
use Rattle.std.specs.Prelude.{filter, find}
use Rattle.std.proofs.lemmas.Bool.{cond-true, cond-false, cases_eq, eq-eqb, ne_eqb}
use Rattle.abt_machine.specs.declared.events.Code.TheVariants as code
use Rattle.abt_machine.specs.declared.events.Place.{Place}
use Rattle.abt_machine.specs.declared.events.Place.TheVariants as place
use Rattle.abt_machine.specs.declared.events.Site.TheVariants as site
use Rattle.abt_machine.specs.declared.numbers.PoolNo.{PoolNo}
use Rattle.abt_machine.specs.declared.numbers.UnitNo.{UnitNo}
use Rattle.abt_machine.specs.declared.operations.Op.TheVariants as op
use Rattle.abt_machine.specs.Stored.{Stored}
use Rattle.abt_machine.specs.declared.workload.Parts.{Parts}
use Rattle.abt_machine.specs.Numbers.{stream_no}
use Rattle.abt_machine.specs.Maps.{put_at}
use Rattle.abt_machine.specs.Queues.{first}
use Rattle.abt_machine.specs.Workloads.{kind_of}
use Rattle.abt_machine.specs.Access.{may_take}
use Rattle.abt_machine.specs.State.{State, Carried}
use Rattle.abt_machine.specs.Lines.{InPool, InHand, InNext, InFrames, ticket_in, standing}
use Rattle.abt_machine.specs.Carrying.{advanced}
use Rattle.abt_machine.specs.Changes.{Change, changed, to_tray}
use Rattle.abt_machine.specs.Codes.{unless, is_in_pool, code_of}
use Rattle.abt_machine.specs.Steps.{op_row}
use Rattle.abt_machine.specs.Values.{Owned, owned_at, owned_in, part_of, PoolIs, pool_value}
use Rattle.abt_machine.specs.Acts as act
use Rattle.abt_machine.specs.Acts.{moved}
use Rattle.abt_machine.specs.Pools.{PoolGives, is_unit, without}
use Rattle.abt_machine.specs.Plans.{Calls, to_yielder}
use Rattle.abt_machine.specs.Turns.{stepped}
use Rattle.abt_laws.proofs.Lists.{EachOf, Among}
use Rattle.abt_laws.proofs.Maps.{put_at-same, put_at-other}
use Rattle.abt_laws.proofs.Options.{none≢some, some-injective}
use Rattle.abt_laws.proofs.Places.{same-self}
use Rattle.abt_laws.proofs.Arrivals.{IsBelow-empty}
use Rattle.abt_laws.proofs.Standing.{StandsIn, each-stands, among-standing}
use Rattle.abt_laws.proofs.Pushes.{IsDistinct, EachOf-among}
use Rattle.abt_laws.proofs.LinesAfter.{stays, stays-key, line-left, line-stays, line-gets, line-empty, all_but, all_but-none}
use Rattle.abt_laws.proofs.Filters.{EachOf-filter}
use Rattle.abt_simulation.proofs.Acting.{IsActing}
use Rattle.abt_simulation.proofs.OwnedLines.{owned-same, owned-stays, carried-stays}
use Rattle.abt_simulation.proofs.OwnParts.{IsOff, off-object, hand-only, hand-standing, tray-standing, tray-filled, away-other, standing-distinct}
use Rattle.abt_simulation.proofs.Shapes.{owned}
use Rattle.abt_simulation.proofs.Rows.{RowBy, ValueBy, row-by_value, pool-at, refuses}

-- A unit of a list, by its number.

-- the unit that is found stands there
found-among : (S : State) (v : ℕ) (us : List ℕ) (o : Owned) → find (is_unit v) (map (owned_at S) us) ≡ Some o → Among v us × (owned_at S v ≡ o)
found-among S v [] o e = absurd (none≢some e)
found-among S v (w ∷ ws) o e =
    elim (cases_eq w v) [
      | inl same ↦ (inl (sym same), ap (owned_at S) (sym same) ∙ some-injective (sym (cond-true (w == v) _ _ (eq-eqb w v same)) ∙ e))
      | inr other ↦ (let later : Among v ws × (owned_at S v ≡ o) = found-among S v ws o (sym (cond-false (w == v) _ _ (ne_eqb w v other)) ∙ e) in (inr later.0, later.1))
    ]

-- if none is found, none stands there
found-none : (S : State) (v : ℕ) (us : List ℕ) → find (is_unit v) (map (owned_at S) us) ≡ None → Among v us → ⊥
found-none S v [] e m = m
found-none S v (w ∷ ws) e m =
    elim (cases_eq w v) [
      | inl same ↦ none≢some (sym e ∙ cond-true (w == v) _ _ (eq-eqb w v same))
      | inr other ↦ elim m [ inl is ↦ other (sym is) | inr later ↦ found-none S v ws (sym (cond-false (w == v) _ _ (ne_eqb w v other)) ∙ e) later ]
    ]

-- the list without the unit is the list of the numbers without it
without-owned : (S : State) (v : ℕ) (pl : Place) (us : List ℕ) → IsDistinct us → map (owned_at S) (all_but v pl us) ≡ without v (map (owned_at S) us)
without-owned S v pl [] d = refl
without-owned S v pl (w ∷ ws) d =
    elim (cases_eq w v) [
      | inl same ↦
          ap (map (owned_at S)) (cond-false (stays ((v, pl) ∷ []) w) _ _ (stays-key ((v, pl) ∷ []) w (inl same)) ∙ all_but-none v pl ws (λ m. d.0 (subst (λ n. Among n ws) (sym same) m)))
          ∙ sym (cond-true (w == v) _ _ (eq-eqb w v same))
      | inr other ↦
          ap (map (owned_at S)) (cond-true (stays ((v, pl) ∷ []) w) _ _ (cond-false (w == v) _ _ (ne_eqb w v other)))
          ∙ (ap (λ os. owned_at S w ∷ os) (without-owned S v pl ws d.1) ∙ sym (cond-false (w == v) _ _ (ne_eqb w v other)))
    ]

-- who is in pool p has a ticket there
in-pool : (p : ℕ) (pl : Place) → is_in_pool p pl ≡ true → (t : ℕ) × (ticket_in (InPool p) pl ≡ Some t)
in-pool p (place.Pool q t) e = (t, cond-true (q.0 == p) (Some t) None e)
in-pool p _ e = absurd cc

module _ (W : Parts) (Z : Stored) (S : State) (s u : ℕ) (acts : IsActing W Z S s u) (v : UnitNo) (p : PoolNo) where
  -- v stands in p
  module _ (at : StandsIn W S (InPool p.0) v.0) where
    -- v is in no line of s
    v-off : IsOff s (S.place v.0)
    v-off = subst (IsOff s) (sym at.at) (off-object s (InPool p.0) at.ticket tt)

    -- u is in the hand still when v has moved
    u-there : put_at S.place v.0 (place.Next (stream_no s)) u ≡ place.Hand (stream_no s)
    u-there = put_at-other S.place v.0 (place.Next (stream_no s)) u (λ e. away-other W Z S s u acts v.0 v-off (sym e)) ∙ acts.in_hand

    -- v carries what it carried
    v-carries : put_at S.carried u (advanced (S.carried u)) v.0 ≡ S.carried v.0
    v-carries = put_at-other S.carried u (advanced (S.carried u)) v.0 (away-other W Z S s u acts v.0 v-off)

    -- v comes to Next, and u to the tray
    yields-part : part_of W (changed S (op_row W S s u (op.YieldTo v p))) s ≡ stepped (part_of W S s) (record { hand = None; next = Some (owned_at S v.0); wakes = moved (owned_at S u) ∷ []; code = code.Ok })
    yields-part =
        let c : Change = op_row W S s u (op.YieldTo v p) in
        let T : State = changed S c in
        let n : ℕ = length W.units in
        let g : ℕ → Place = put_at S.place v.0 (place.Next (stream_no s)) in
        λ i. record {
          own = S.stream s;
          hand = ap (λ us. first (map (owned_at T) us))
              (line-left n (InHand s) S.place c.moves (refl, (refl, tt)) ∙ (ap (filter (stays c.moves)) (hand-standing W Z S s u acts) ∙ cond-false (stays c.moves u) _ _ (stays-key c.moves u (inr (inl refl))))) i;
          next = (ap (λ us. first (map (owned_at T) us))
              (line-stays n (InNext s) g (to_tray W S s (u ∷ [])) (refl, tt) (ap (ticket_in (InNext s)) u-there, tt)
              ∙ (line-gets n (InNext s) S.place v.0 0 (same-self s 0) at.declared (v-off (InNext s) refl) (IsBelow-empty (InNext s) 0 S.place acts.no_next) ∙ ap (λ us. us ++ v.0 ∷ []) (line-empty n (InNext s) S.place acts.no_next)))
              ∙ ap (λ (k : Carried). Some (owned v.0 k)) v-carries) i;
          tray = (ap (map (owned_at T)) (tray-filled W Z S s u acts ((v.0, place.Next (stream_no s)) ∷ []) (u ∷ []) (refl, tt) ((λ m. m), tt) (acts.declared, tt))
              ∙ ap₂ (λ (k : Carried) (us : List ℕ). map (owned_at S) us ++ owned u k ∷ []) (put_at-same S.carried u (advanced (S.carried u))) (sym (tray-standing W Z S s u acts))) i;
          framed = owned-stays W S c (InFrames s) (refl, (refl, tt)) (v-off (InFrames s) refl, (hand-only W Z S s u acts (InFrames s) refl, tt)) (hand-only W Z S s u acts (InFrames s) refl, tt) i;
        }

    -- the pool is without v
    yields-pool : owned_in W (changed S (op_row W S s u (op.YieldTo v p))) (InPool p.0) ≡ without v.0 (owned_in W S (InPool p.0))
    yields-pool =
        let T : State = changed S (op_row W S s u (op.YieldTo v p)) in
        let n : ℕ = length W.units in
        let pl : Place = place.Next (stream_no s) in
        let same : EachOf (λ w. T.carried w ≡ S.carried w) (standing W S (InPool p.0)) = carried-stays W S (op_row W S s u (op.YieldTo v p)) (InPool p.0) (hand-only W Z S s u acts (InPool p.0) refl, tt) in
        ap (map (owned_at T))
        (line-stays n (InPool p.0) (put_at S.place v.0 pl) (to_tray W S s (u ∷ [])) (refl, tt) (ap (ticket_in (InPool p.0)) u-there, tt) ∙ line-left n (InPool p.0) S.place ((v.0, pl) ∷ []) (refl, tt))
        ∙ (owned-same S T (all_but v.0 pl (standing W S (InPool p.0))) (EachOf-filter (λ w. T.carried w ≡ S.carried w) (stays ((v.0, pl) ∷ [])) (standing W S (InPool p.0)) same)
        ∙ without-owned S v.0 pl (standing W S (InPool p.0)) (standing-distinct W S (InPool p.0)))

  -- the code by whether v is in p
  in-pool_code : (may : may_take W s p.0 ≡ true) (b : Bool) → is_in_pool p.0 (S.place v.0) ≡ b → code_of W S s u (op.YieldTo v p) ≡ unless b code.Absent code.Ok
  in-pool_code may b is = cond-true (may_take W s p.0) _ _ may ∙ ap (λ t. unless t code.Absent code.Ok) is

  -- who is found stands in p
  found-standing : Among v.0 (standing W S (InPool p.0)) → StandsIn W S (InPool p.0) v.0
  found-standing m = EachOf-among (StandsIn W S (InPool p.0)) (standing W S (InPool p.0)) v.0 (each-stands W S (InPool p.0)) m

  -- who stands in p is in p
  stands-in_pool : StandsIn W S (InPool p.0) v.0 → is_in_pool p.0 (S.place v.0) ≡ true
  stands-in_pool at = ap (is_in_pool p.0) at.at ∙ eq-eqb p.0 p.0 refl

  -- who does not is not
  not-in_pool : (Among v.0 (standing W S (InPool p.0)) → ⊥) → is_in_pool p.0 (S.place v.0) ≡ false
  not-in_pool out = by (is_in_pool p.0 (S.place v.0)) refl where
    by : (b : Bool) → is_in_pool p.0 (S.place v.0) ≡ b → is_in_pool p.0 (S.place v.0) ≡ false
    by false e = e
    by true e = let t : (t : ℕ) × (ticket_in (InPool p.0) (S.place v.0) ≡ Some t) = in-pool p.0 (S.place v.0) e in absurd (out (among-standing W S acts.sound.undeclared (InPool p.0) v.0 t.0 t.1))

  -- yielding to v, by the answer
  yieldto-value : may_take W s p.0 ≡ true → ValueBy W S s u (op.YieldTo v p) (λ T. pool_value W T p.0) PoolGives (Calls (site.Pool p) (act.Remove v.0) (to_yielder (owned_at S u)))
  yieldto-value may (act.Given o) new gives =
      let found : Among v.0 (standing W S (InPool p.0)) × (owned_at S v.0 ≡ o) = found-among S v.0 (standing W S (InPool p.0)) o gives.0 in
      let at : StandsIn W S (InPool p.0) v.0 = found-standing found.0 in
      record {
        code = sym (in-pool_code may true (stands-in_pool at));
        own = yields-part at ∙ ap (λ q. stepped (part_of W S s) (record { hand = None; next = Some q; wakes = moved (owned_at S u) ∷ []; code = code.Ok })) found.1;
        called = ap (λ os. record { kind = kind_of W p.0; units = os }) (yields-pool at) ∙ sym gives.1;
      }
  yieldto-value may (act.Coded code.Absent) new gives =
      refuses W Z S s u acts _ code.Absent (site.Pool p) PoolIs (λ T. pool_value W T p.0) PoolGives new (pool-at W p.0) tt (sym (in-pool_code may false (not-in_pool (found-none S v.0 (standing W S (InPool p.0)) gives.0)))) gives.1
  yieldto-value may _ new gives = absurd gives

  -- the row of yieldto
  pub yieldto-row : may_take W s p.0 ≡ true → RowBy W S s u (op.YieldTo v p) (Calls (site.Pool p) (act.Remove v.0) (to_yielder (owned_at S u)))
  yieldto-row may = row-by_value W S s u _ (Calls (site.Pool p) (act.Remove v.0) (to_yielder (owned_at S u))) _ _ _ (pool-at W p.0) (yieldto-value may)
