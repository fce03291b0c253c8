-- Every event keeps the order of those that stand in a pool.
use Rattle.std.proofs.Common.{◌≡◌, ◌≢◌, ◌==◌, ℕ, Bool, true, false, if◌then◌else◌, List, [], ◌∷◌, ◌++◌, length, Option, Some, None, refl, sym, ◌∙◌, ap, ap₂, subst, inl, inr}
use Rattle.std.specs.Prelude.{filter, not}
use Rattle.std.proofs.lemmas.Bool.{cases_eq, cond-false, cond-true, eq-eqb, ne_eqb}
use Rattle.std.proofs.lemmas.List.{append-nil}
use Rattle.abt_machine.specs.declared.events.Code.{Code}
use Rattle.abt_machine.specs.declared.events.Code.TheVariants as code
use Rattle.abt_machine.specs.declared.events.Place.{Place}
use Rattle.abt_machine.specs.declared.events.Place.TheVariants as place
use Rattle.abt_machine.specs.declared.events.Site.{Site}
use Rattle.abt_machine.specs.declared.events.Site.TheVariants as site
use Rattle.abt_machine.specs.declared.events.What.{What}
use Rattle.abt_machine.specs.declared.events.What.TheVariants as what
use Rattle.abt_machine.specs.declared.numbers.PoolNo.{PoolNo}
use Rattle.abt_machine.specs.declared.numbers.UnitNo.{UnitNo}
use Rattle.abt_machine.specs.declared.operations.Op.{Op}
use Rattle.abt_machine.specs.declared.operations.Op.TheVariants as op
use Rattle.abt_machine.specs.Stored.{Stored}
use Rattle.abt_machine.specs.declared.workload.Parts.{Parts}
use Rattle.abt_machine.specs.Access.{may_reach}
use Rattle.abt_machine.specs.Changes.{Change, changed}
use Rattle.abt_machine.specs.Codes.{code_at, code_of}
use Rattle.abt_machine.specs.EventSites.{op_site, plan_site, what_site}
use Rattle.abt_machine.specs.Events.{May, after, change}
use Rattle.abt_machine.specs.Lines.{InPool, InTray, hand, ticket_in, tray_end}
use Rattle.abt_machine.specs.Maps.{put_all, put_at}
use Rattle.abt_machine.specs.Numbers.{pool_no, stream_no}
use Rattle.abt_machine.specs.Operations.{IsDeclared}
use Rattle.abt_machine.specs.Plans.{reached_plan}
use Rattle.abt_machine.specs.Sound.{Sound}
use Rattle.abt_machine.specs.Start.{start}
use Rattle.abt_machine.specs.State.{State}
use Rattle.abt_machine.specs.Steps.{op_row, step_row}
use Rattle.abt_machine.specs.Valid.{IsValid}
use Rattle.abt_machine.specs.Values.{owned_at}
use Rattle.abt_machine.specs.Workloads.{op_at}
use Rattle.abt_machine.proofs.Declared.{op-declared}
use Rattle.abt_laws.specs.Footprint.{ChangesOnly, Within, holder}
use Rattle.abt_laws.proofs.Codes.{IsRefusal, reached-ok}
use Rattle.abt_laws.proofs.Filters.{filter-all}
use Rattle.abt_laws.proofs.LinesAfter.{line-gets, line-left, line-stays, stays}
use Rattle.abt_laws.proofs.Lists.{EachOf, EachOf-all, EachOf-then}
use Rattle.abt_laws.proofs.Local.{IsLocal, changes-only}
use Rattle.abt_laws.proofs.LocalEvents.{event-local}
use Rattle.abt_laws.proofs.Places.{same-self, ticket-place}
use Rattle.abt_laws.proofs.Queues.{queue-cong}
use Rattle.abt_laws.proofs.SiteOps.{site-op}
use Rattle.abt_laws.proofs.SoundChanges.{placed-below}
use Rattle.abt_laws.proofs.Standing.{StandsIn, each-stands, first-stands, hand-place}
use Rattle.abt_service.specs.Pools.{EventsKeepPools, is_taken, pooled, yields_to}

-- two tests that agree on a list choose the same of it
filter-same : (p q : ℕ → Bool) (us : List ℕ) → EachOf (λ u. p u ≡ q u) us → filter p us ≡ filter q us
filter-same p q [] each = refl
filter-same p q (u ∷ us) each = ap₂ (λ (b : Bool) (vs : List ℕ). if b then u ∷ vs else vs) each.0 (filter-same p q us each.1)

-- who is not v stays
stays-apart : (u v : ℕ) (b : Bool) → b ≡ true → (if u == v then false else b) ≡ not (v == u)
stays-apart u v b e =
    elim (cases_eq u v) [
      | inl same ↦ cond-true (u == v) false b (eq-eqb u v same) ∙ ap not (sym (eq-eqb v u (sym same)))
      | inr other ↦ cond-false (u == v) false b (ne_eqb u v other) ∙ (e ∙ ap not (sym (ne_eqb v u (λ q. other (sym q)))))
    ]

-- by a refused operation no unit yields
refused-stays : (u : ℕ) (o : Op) (c : Code) → IsRefusal c → yields_to u (Some o) c ≡ false
refused-stays u (op.YieldTo v p) code.Ok h = absurd h
refused-stays u (op.YieldTo v p) _ h = refl
refused-stays u _ c h = refl

module _ (W : Parts) (p : ℕ) where
  -- who leaves passes the test, the others stand on in their order, and whoever comes stands behind them
  abbrev Keeps : State → State → (ℕ → Bool) → Type 0
  Keeps S T leaves = (us : List ℕ) × (pooled W T p ≡ filter (λ u. not (leaves u)) (pooled W S p) ++ us)

  -- nobody comes
  none-comes : (S T : State) (leaves : ℕ → Bool) → pooled W T p ≡ filter (λ u. not (leaves u)) (pooled W S p) → Keeps S T leaves
  none-comes S T leaves e = ([], e ∙ sym (append-nil (filter (λ u. not (leaves u)) (pooled W S p))))

  -- nobody leaves
  all-stay : (S : State) (leaves : ℕ → Bool) → ((u : ℕ) → leaves u ≡ false) → filter (λ u. not (leaves u)) (pooled W S p) ≡ pooled W S p
  all-stay S leaves none = filter-all (λ u. not (leaves u)) (pooled W S p) (EachOf-all (λ u. not (leaves u) ≡ true) (pooled W S p) (λ u. ap not (none u)))

  untouched : (S T : State) (leaves : ℕ → Bool) → pooled W T p ≡ pooled W S p → ((u : ℕ) → leaves u ≡ false) → Keeps S T leaves
  untouched S T leaves e none = none-comes S T leaves (e ∙ sym (all-stay S leaves none))

  -- At another site nobody comes or leaves.

  module _ (S : State) (s : ℕ) (y : Option Site) (apart : y ≡ Some (site.Pool (pool_no p)) → ⊥) where
    -- who stands in the pool is kept elsewhere
    kept-away : (v : ℕ) (pl : Place) (t : ℕ) → ticket_in (InPool p) pl ≡ Some t → Within s y (holder W v pl) → ⊥
    kept-away v pl t has within = apart (subst (λ q. Within s y (holder W v q)) (ticket-place (InPool p) pl t has) within)

    site-stays : (c : Change) → IsLocal W S s y c → pooled W (changed S c) p ≡ pooled W S p
    site-stays c here = queue-cong _ _ (length W.units) (λ v _. by v (at (put_all S.place c.moves v)) (at (S.place v)) refl refl) where
      -- the ticket of a place
      at : Place → Option ℕ
      at = ticket_in (InPool p)

      only : ChangesOnly W s y S (changed S c)
      only = changes-only W S s y c here

      by : (v : ℕ) (a b : Option ℕ) → at (put_all S.place c.moves v) ≡ a → at (S.place v) ≡ b → at (put_all S.place c.moves v) ≡ at (S.place v)
      by v None None e f = e ∙ sym f
      by v (Some t) b e f = ap (ticket_in (InPool p)) (only.others v (λ w. kept-away v (put_all S.place c.moves v) t e (only.kept v w))).0
      by v None (Some t) e f = ap (ticket_in (InPool p)) (only.others v (kept-away v (S.place v) t f)).0

  -- A take and a put.

  take-keeps : (S : State) (s : ℕ) (q : PoolNo) (v : UnitNo) → Keeps S (after W S s (what.Take q v)) (λ u. v.0 == u)
  take-keeps S s q v =
      let ms : List (ℕ × Place) = (v.0, place.Next (stream_no s)) ∷ [] in
      none-comes S (after W S s (what.Take q v)) (λ u. v.0 == u)
      (line-left (length W.units) (InPool p) S.place ms (refl, tt)
      ∙ filter-same (stays ms) (λ u. not (v.0 == u)) (pooled W S p) (EachOf-all (λ u. stays ms u ≡ not (v.0 == u)) (pooled W S p) (λ u. stays-apart u v.0 true refl)))

  module _ (Z : Stored) (S : State) (s u : ℕ) (sound : Sound W Z S) (is : StandsIn W S (InTray s) u) where
    -- into this pool
    puts-here : (T : State) → T.place ≡ put_at S.place u (place.Pool (pool_no p) (S.pool_next p)) → Keeps S T (λ v. false)
    puts-here T places = (
      u ∷ [],
      ap (λ f. pooled W (record T { place = f }) p) places
          ∙ (line-gets (length W.units) (InPool p) S.place u (S.pool_next p) (same-self p (S.pool_next p)) is.declared (ap (ticket_in (InPool p)) is.at) (placed-below W Z S (InPool p) (S.pool_next p) sound (λ v t k. k.1))
          ∙ ap (λ us. us ++ u ∷ []) (sym (all-stay S (λ v. false) (λ v. refl)))),
    )

    -- into another
    puts-away : (T : State) (q : PoolNo) (t : ℕ) → T.place ≡ put_at S.place u (place.Pool q t) → q.0 ≢ p → Keeps S T (λ v. false)
    puts-away T q t places other =
        untouched S T (λ v. false)
        (ap (λ f. pooled W (record T { place = f }) p) places
        ∙ line-stays (length W.units) (InPool p) S.place ((u, place.Pool q t) ∷ []) (cond-false (q.0 == p) (Some t) None (ne_eqb q.0 p other), tt) (ap (ticket_in (InPool p)) is.at, tt)) (λ v. refl)

    put-keeps : (q : PoolNo) (T : State) → T.place ≡ put_at S.place u (place.Pool q (S.pool_next q.0)) → Keeps S T (λ v. false)
    put-keeps q T places =
        elim (cases_eq q.0 p) [
          | inl same ↦ puts-here T (places ∙ ap (λ n. put_at S.place u (place.Pool (pool_no n) (S.pool_next n))) same)
          | inr other ↦ puts-away T q (S.pool_next q.0) places other
        ]

  -- The steps of unit x, in the hand of stream s.

  module _ (valid : IsValid W) (S : State) (s x : ℕ) (in_hand : hand W S s ≡ Some x) where
    op-stays : (o : Op) → IsDeclared W o → code_of W S s x o ≡ code.Ok → (plan_site (reached_plan W o (owned_at (start W) x)) ≡ Some (site.Pool (pool_no p)) → ⊥) → pooled W (changed S (op_row W S s x o)) p ≡ pooled W S p
    op-stays o d ok apart =
        site-stays S s (op_site W s x o) (λ e. apart (sym (ap plan_site (cond-true (may_reach W s o) _ _ (reached-ok W S s x o ok).0)) ∙ e)) (op_row W S s x o) (site-op W valid S s x in_hand o d ok).0

    -- who stands in the pool is not in the hand
    not-held : (u : ℕ) → StandsIn W S (InPool p) u → u ≢ x
    not-held u is e = let at : place.Hand (stream_no s) ≡ place.Pool (pool_no p) is.ticket = sym (hand-place W S s x in_hand) ∙ (ap S.place (sym e) ∙ is.at) in cc

    yields-keep : (v : ℕ) (T : State) → T.place ≡ put_all S.place ((v, place.Next (stream_no s)) ∷ (x, place.Tray (stream_no s) (tray_end W S s)) ∷ []) → Keeps S T (λ u. v == u)
    yields-keep v T places =
        let ms : List (ℕ × Place) = (v, place.Next (stream_no s)) ∷ (x, place.Tray (stream_no s) (tray_end W S s)) ∷ [] in
        none-comes S T (λ u. v == u)
        (ap (λ f. pooled W (record T { place = f }) p) places
        ∙ (line-left (length W.units) (InPool p) S.place ms (refl, (refl, tt))
        ∙ filter-same (stays ms) (λ u. not (v == u)) (pooled W S p)
        (EachOf-then (StandsIn W S (InPool p)) (λ u. stays ms u ≡ not (v == u)) (pooled W S p)
        (λ u is. stays-apart u v (if u == x then false else true) (cond-false (u == x) false true (ne_eqb u x (not-held u is)))) (each-stands W S (InPool p)))))

    op-keeps : (o : Op) → IsDeclared W o → code_of W S s x o ≡ code.Ok → Keeps S (changed S (op_row W S s x o)) (λ u. yields_to u (Some o) code.Ok)
    op-keeps (op.YieldTo v q) d ok = yields-keep v.0 (changed S (op_row W S s x (op.YieldTo v q))) refl
    op-keeps o d ok = untouched S (changed S (op_row W S s x o)) (λ u. yields_to u (Some o) code.Ok) (op-stays o d ok (λ e. cc)) (λ u. refl)

    step-keeps : (o : Option Op) (c : Code) → ((a : Op) → o ≡ Some a → IsDeclared W a) → code_at W S s x o ≡ c → Keeps S (changed S (step_row W S s x o c)) (λ u. yields_to u o c)
    step-keeps None c declared e = untouched S S (λ u. yields_to u None c) refl (λ u. refl)
    step-keeps (Some o) code.Ok declared e = op-keeps o (declared o refl) e
    step-keeps (Some o) c declared e = untouched S (changed S (step_row W S s x (Some o) c)) (λ u. yields_to u (Some o) c) refl (λ u. refused-stays u o c tt)

  event-keeps : (Z : Stored) → IsValid W → (S : State) (s : ℕ) (w : What) → Sound W Z S → May W Z S s w → Keeps S (after W S s w) (λ u. is_taken W u w)
  event-keeps Z valid S s (what.Miss q) sound may = untouched S (after W S s (what.Miss q)) (λ u. false) refl (λ u. refl)
  event-keeps Z valid S s (what.Take q v) sound may = take-keeps S s q v
  event-keeps Z valid S s (what.Put u q) sound may = put-keeps Z S s u.0 sound (first-stands W S (InTray s) u.0 may.1) q (after W S s (what.Put u q)) refl
  event-keeps Z valid S s (what.Step u k c) sound may = step-keeps valid S s u.0 may.1 (op_at W u.0 k) c (λ o e. op-declared W u.0 k o valid e) (sym may.3)
  event-keeps Z valid S s w sound may =
      untouched S (after W S s w) (λ u. is_taken W u w) (site-stays S s (what_site W s w) (λ e. cc) (change W S s w) (event-local W valid Z S s w may)) (λ u. refl)

pub events-keep-pools : (W : Parts) (Z : Stored) → EventsKeepPools W Z
events-keep-pools W Z valid stored S T e p sound came =
    subst (λ (U : State). Keeps W p S U (λ u. is_taken W u e.what)) (sym came.2) (event-keeps W p Z valid S e.stream.0 e.what sound came.1)
