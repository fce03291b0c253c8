-- Along each run of an orderly workload: whose set is behind it, that eventual has a value; and units are where a main scheduler comes, or wait at an operation that is behind them.
use Rattle.std.proofs.Common.{◌≡◌, ℕ, suc, ◌-◌, ◌<◌, Bool, true, false, List, [], ◌∷◌, length, map, Option, Some, None, refl, sym, ◌∙◌, ap, subst, arith, ◌⊎◌, inl, inr}
use Rattle.std.specs.Prelude.{IsSome, ⊤}
use Rattle.std.proofs.lemmas.Bool.{cases_eq}
use Rattle.std.proofs.lemmas.Option.{slice_get-get_or}
use Rattle.abt_machine.specs.declared.events.Code.{Code}
use Rattle.abt_machine.specs.declared.events.Code.TheVariants as code
use Rattle.abt_machine.specs.declared.events.Event.{Event}
use Rattle.abt_machine.specs.declared.events.Place.{Place}
use Rattle.abt_machine.specs.declared.events.Place.TheVariants as place
use Rattle.abt_machine.specs.declared.events.Spot.TheVariants as spot
use Rattle.abt_machine.specs.declared.events.What.{What}
use Rattle.abt_machine.specs.declared.events.What.TheVariants as what
use Rattle.abt_machine.specs.declared.numbers.ObjectNo.{ObjectNo}
use Rattle.abt_machine.specs.declared.numbers.PoolNo.{PoolNo}
use Rattle.abt_machine.specs.declared.numbers.UnitNo.{UnitNo}
use Rattle.abt_machine.specs.declared.operations.Op.{Op}
use Rattle.abt_machine.specs.declared.operations.Op.TheVariants as op
use Rattle.abt_machine.specs.declared.workload.Parts.{Parts}
use Rattle.abt_machine.specs.Carrying.{advanced, newborn, with_acc}
use Rattle.abt_machine.specs.Changes.{changed, goes_on, goes_with, no_change, to_tray}
use Rattle.abt_machine.specs.Codes.{code_at, code_of}
use Rattle.abt_machine.specs.Events.{May, after, look_row, without_requests}
use Rattle.abt_machine.specs.Frames.{entered, left, marked, round_missed, round_taken, sched_of}
use Rattle.abt_machine.specs.Lines.{InPool, InTray, Joining, Waiting, standing, tray_end}
use Rattle.abt_machine.specs.Maps.{put_at}
use Rattle.abt_machine.specs.Next.{StepDue}
use Rattle.abt_machine.specs.Numbers.{stream_no}
use Rattle.abt_machine.specs.Runs.{Run, RunFrom, last_state, state_after}
use Rattle.abt_machine.specs.Sites.{home_from}
use Rattle.abt_machine.specs.Start.{start, start_place}
use Rattle.abt_machine.specs.State.{State, Carried, Desk, Plain, Stream}
use Rattle.abt_machine.specs.Steps.{awaits, begins, joins, op_row, receives, step_row}
use Rattle.abt_machine.specs.Stored.{IsNoCall, Returns, Stored}
use Rattle.abt_machine.specs.Valid.{IsValid}
use Rattle.abt_machine.specs.Workloads.{body_at, op_at, ops_of, start_of}
use Rattle.abt_laws.proofs.Dues.{due-unit, step-due}
use Rattle.abt_laws.proofs.LineMoves.{tray_moves-each}
use Rattle.abt_laws.proofs.Lists.{EachOf, EachOf-all, EachOf-map, EachOf-then}
use Rattle.abt_laws.proofs.Maps.{put_all-kept, put_at-other, put_at-same}
use Rattle.abt_laws.proofs.Options.{none≢some, some-injective}
use Rattle.abt_laws.proofs.Places.{place_in}
use Rattle.abt_laws.proofs.Standing.{StandsIn, each-stands, first-stands, front-stands, hand-place, next-place}
use Rattle.abt_flow.specs.Finishing.{IsListed, IsOrderly}
use Rattle.abt_flow.specs.Flow.{Functions}
use Rattle.abt_flow.proofs.Goes.{goes}
use Rattle.abt_flow.proofs.Moving.{before}
use Rattle.abt_flow.proofs.Runs.{CallsAreOne, call-steps, event-flows, start-flows, steps-after}
use Rattle.abt_flow.proofs.Stepping.{Stepped, behind}
use Rattle.abt_flow.proofs.Tells.{Flowing}

-- operation o of unit u is just behind it
abbrev pub IsPast : Parts → ℕ → Carried → Op → Type 0
IsPast W u c o = (k : ℕ) × (c.position ≡ suc k) × (op_at W u k ≡ Some o)

-- unit u may be at this place with these things to carry
abbrev pub Stands : Parts → ℕ → Carried → Place → Type 0
Stands W u c place.Unborn = ⊤
Stands W u c (place.Pool p t) = IsListed W c.home × IsListed W p.0
Stands W u c (place.Hand s) = IsListed W c.home
Stands W u c (place.Next s) = IsListed W c.home
Stands W u c (place.Tray s t) = IsListed W c.home
Stands W u c (place.Frame s d) = IsListed W c.home
Stands W u c (place.Blocked spot.Suspended t) = ⊥
Stands W u c (place.Blocked (spot.Join v) t) = IsListed W c.home × IsPast W u c (op.Join v)
Stands W u c (place.Blocked (spot.Object x) t) = IsListed W c.home × IsPast W u c (op.EvWait x)
Stands W u c (place.Ended e) = IsListed W c.home

pub record Settled (W : Parts) (S : State) : Type 0 where
  pub sets : (v j : ℕ) (x : ObjectNo) → op_at W v j ≡ Some (op.EvSet x) → j < (S.carried v).position → IsSome (S.eventual x.0)
  pub stands : (u : ℕ) → Stands W u (S.carried u) (S.place u)
  -- no unit is asked to migrate
  pub asks : (u : ℕ) → (S.desk u).migrate ≡ None

home-of : (W : Parts) (u : ℕ) (c : Carried) (pl : Place) → (pl ≡ place.Unborn → ⊥) → Stands W u c pl → IsListed W c.home
home-of W u c place.Unborn born h = absurd (born refl)
home-of W u c (place.Pool p t) born h = h.0
home-of W u c (place.Hand s) born h = h
home-of W u c (place.Next s) born h = h
home-of W u c (place.Tray s t) born h = h
home-of W u c (place.Frame s d) born h = h
home-of W u c (place.Blocked spot.Suspended t) born h = absurd h
home-of W u c (place.Blocked (spot.Join v) t) born h = h.0
home-of W u c (place.Blocked (spot.Object x) t) born h = h.0
home-of W u c (place.Ended e) born h = h

past-same : (W : Parts) (u : ℕ) (c d : Carried) (o : Op) → d.position ≡ c.position → IsPast W u c o → IsPast W u d o
past-same W u c d o p h = (h.0, p ∙ h.1, h.2)

stands-same : (W : Parts) (u : ℕ) (c d : Carried) (pl : Place) → d.position ≡ c.position → d.home ≡ c.home → Stands W u c pl → Stands W u d pl
stands-same W u c d place.Unborn p e h = h
stands-same W u c d (place.Pool q t) p e h = (subst (IsListed W) (sym e) h.0, h.1)
stands-same W u c d (place.Hand s) p e h = subst (IsListed W) (sym e) h
stands-same W u c d (place.Next s) p e h = subst (IsListed W) (sym e) h
stands-same W u c d (place.Tray s t) p e h = subst (IsListed W) (sym e) h
stands-same W u c d (place.Frame s k) p e h = subst (IsListed W) (sym e) h
stands-same W u c d (place.Blocked spot.Suspended t) p e h = absurd h
stands-same W u c d (place.Blocked (spot.Join v) t) p e h = (subst (IsListed W) (sym e) h.0, past-same W u c d (op.Join v) p h.1)
stands-same W u c d (place.Blocked (spot.Object x) t) p e h = (subst (IsListed W) (sym e) h.0, past-same W u c d (op.EvWait x) p h.1)
stands-same W u c d (place.Ended c') p e h = subst (IsListed W) (sym e) h

-- The events that are no steps.

module _ (W : Parts) (S : State) (settled : Settled W S) where
  -- who is born has a home that is listed
  homed : (u : ℕ) (pl : Place) → S.place u ≡ pl → (pl ≡ place.Unborn → ⊥) → IsListed W (S.carried u).home
  homed u pl at born = home-of W u (S.carried u) pl born (subst (Stands W u (S.carried u)) at (settled.stands u))

  moves-settle : (ms : List (ℕ × Place)) (ds : List (ℕ × Desk)) (ps : List (ℕ × ℕ)) (ss : List (ℕ × Stream)) → EachOf (λ (m : ℕ × Place). Stands W m.0 (S.carried m.0) m.1) ms →
      EachOf (λ (m : ℕ × Desk). m.1.migrate ≡ None) ds → Settled W (changed S (record no_change { moves = ms; desks = ds; pool_next = ps; streams = ss }))
  moves-settle ms ds ps ss each calm = record {
    sets = settled.sets;
    stands = λ u. put_all-kept (λ n pl. Stands W n (S.carried n) pl) S.place ms u each (settled.stands u);
    asks = λ u. put_all-kept (λ n (d : Desk). d.migrate ≡ None) S.desk ds u calm (settled.asks u);
  }

  looks-settle : (s u : ℕ) (c : Bool) (m : Option ℕ) → c ≡ false → m ≡ None → IsListed W (S.carried u).home → Settled W (changed S (look_row W S s u c m))
  looks-settle s u true m e f home = absurd cc
  looks-settle s u false (Some p) e f home = absurd cc
  looks-settle s u false None e f home = moves-settle ((u, place.Hand (stream_no s)) ∷ []) ((u, without_requests (S.desk u)) ∷ []) [] ((s, marked Plain (S.stream s)) ∷ []) (home, tt) (refl, tt)

  joiners-stand : (s v : ℕ) → EachOf (λ (m : ℕ × Place). Stands W m.0 (S.carried m.0) m.1) (to_tray W S s (standing W S (Joining v)))
  joiners-stand s v =
      tray_moves-each (λ m. Stands W m.0 (S.carried m.0) m.1) (λ u. StandsIn W S (Joining v) u) s (tray_end W S s) (standing W S (Joining v))
      (λ u k is. homed u (place_in (Joining v) is.ticket) is.at (λ e. cc)) (each-stands W S (Joining v))

-- The steps.

-- unit n stays where it was, or comes to a place where it may be
abbrev pub Arrives : Parts → State → State → ℕ → Type 0
Arrives W S T n = ((T.place n ≡ S.place n) × ((T.carried n).home ≡ (S.carried n).home)) ⊎ Stands W n (T.carried n) (T.place n)

module _ (W : Parts) (R : Functions) (valid : IsValid W) (orderly : IsOrderly W) (t : ℕ) (S : State) (flowing : Flowing W R t S) (settled : Settled W S) (s u : ℕ)
    (held : S.place u ≡ place.Hand (stream_no s)) where
  home : IsListed W (S.carried u).home
  home = homed W S settled u (place.Hand (stream_no s)) held (λ e. cc)

  module _ (o : Op) (is : op_at W u (S.carried u).position ≡ Some o) (T : State) (stepped : Stepped W R t S T u o) (kept : (x : ℕ) → IsSome (S.eventual x) → IsSome (T.eventual x))
      (set : (x : ObjectNo) → o ≡ op.EvSet x → IsSome (T.eventual x.0)) (arrives : (n : ℕ) → Arrives W S T n) (asks : (n : ℕ) → (T.desk n).migrate ≡ None) where
    sets-on : (v j : ℕ) (x : ObjectNo) → op_at W v j ≡ Some (op.EvSet x) → j < (T.carried v).position → IsSome (T.eventual x.0)
    sets-on v j x sets l =
        elim (behind W R t S T u o flowing is (before W R t S flowing s u held o is) stepped v j l) [
          | inl was ↦ kept x.0 (settled.sets v j x sets was)
          | inr now ↦ set x (some-injective (sym is ∙ subst (λ k. op_at W u k ≡ Some (op.EvSet x)) now.1 (subst (λ w. op_at W w j ≡ Some (op.EvSet x)) now.0 sets)))
        ]

    stays : (n : ℕ) → T.place n ≡ S.place n → (T.carried n).home ≡ (S.carried n).home → Stands W n (T.carried n) (T.place n)
    stays n at same =
        elim (cases_eq n u) [
          | inl here ↦ subst (Stands W n (T.carried n)) (sym (at ∙ (ap S.place here ∙ held))) (subst (IsListed W) (sym (same ∙ ap (λ k. (S.carried k).home) here)) home)
          | inr other ↦ subst (Stands W n (T.carried n)) (sym at) (stands-same W n (S.carried n) (T.carried n) (S.place n) (stepped.others n other) same (settled.stands n))
        ]

    settles : Settled W T
    settles = record { sets = sets-on; stands = λ n. elim (arrives n) [ inl a ↦ stays n a.0 a.1 | inr b ↦ b ]; asks = asks }

  -- unit u goes on with this to carry, and these units move
  module _ (c : Carried) (same : c.home ≡ (S.carried u).home) (ms : List (ℕ × Place)) (js os : List (ℕ × ℕ)) where
    abbrev moved : State
    moved = changed S (record (goes_with u c) { moves = ms; join_next = js; object_next = os })

    homes-stay : (n : ℕ) → (moved.carried n).home ≡ (S.carried n).home
    homes-stay n = put_all-kept (λ k (d : Carried). d.home ≡ (S.carried k).home) S.carried ((u, advanced c) ∷ []) n (same, tt) refl

    moved-arrive : EachOf (λ (m : ℕ × Place). Stands W m.0 (moved.carried m.0) m.1) ms → (n : ℕ) → Arrives W S moved n
    moved-arrive each n =
        put_all-kept (λ k pl. ((pl ≡ S.place k) × ((moved.carried k).home ≡ (S.carried k).home)) ⊎ Stands W k (moved.carried k) pl) S.place ms n
        (EachOf-then (λ (m : ℕ × Place). Stands W m.0 (moved.carried m.0) m.1)
        (λ (m : ℕ × Place). ((m.1 ≡ S.place m.0) × ((moved.carried m.0).home ≡ (S.carried m.0).home)) ⊎ Stands W m.0 (moved.carried m.0) m.1) ms (λ m h. inr h) each) (inl (refl, homes-stay n))

  -- it moves by itself
  own-arrives : (pl : Place) → Stands W u (advanced (S.carried u)) pl → (js os : List (ℕ × ℕ)) → (n : ℕ) →
      Arrives W S (changed S (record (goes_on S u) { moves = (u, pl) ∷ []; join_next = js; object_next = os })) n
  own-arrives pl stands js os n = moved-arrive (S.carried u) refl ((u, pl) ∷ []) js os (subst (λ d. Stands W u d pl) (sym (put_at-same S.carried u (advanced (S.carried u)))) stands, tt) n

  settles-with : (o : Op) → op_at W u (S.carried u).position ≡ Some o → ((x : ObjectNo) → o ≡ op.EvSet x → ⊥) → (c : Carried) → c.home ≡ (S.carried u).home →
      Stepped W R t S (changed S (goes_with u c)) u o → Settled W (changed S (goes_with u c))
  settles-with o is no_set c same stepped =
      settles o is (changed S (goes_with u c)) stepped (λ x h. h) (λ x e. absurd (no_set x e)) (moved-arrive c same [] [] [] tt) settled.asks

  settles-to : (o : Op) → op_at W u (S.carried u).position ≡ Some o → ((x : ObjectNo) → o ≡ op.EvSet x → ⊥) → (pl : Place) → Stands W u (advanced (S.carried u)) pl → (js os : List (ℕ × ℕ)) →
      Stepped W R t S (changed S (record (goes_on S u) { moves = (u, pl) ∷ []; join_next = js; object_next = os })) u o →
      Settled W (changed S (record (goes_on S u) { moves = (u, pl) ∷ []; join_next = js; object_next = os }))
  settles-to o is no_set pl stands js os stepped =
      settles o is (changed S (record (goes_on S u) { moves = (u, pl) ∷ []; join_next = js; object_next = os })) stepped (λ x h. h) (λ x e. absurd (no_set x e)) (own-arrives pl stands js os)
      settled.asks

  settles-joins : (v : UnitNo) → op_at W u (S.carried u).position ≡ Some (op.Join v) → (pl : Place) → Stepped W R t S (changed S (joins S u v.0 pl)) u (op.Join v) →
      Settled W (changed S (joins S u v.0 pl))
  settles-joins v is (place.Ended e) stepped = settles-with (op.Join v) is (λ x e. cc) (S.carried u) refl stepped
  settles-joins v is _ stepped = settles-to (op.Join v) is (λ x e. cc) (place.Blocked (spot.Join v) (S.join_next v.0)) (home, ((S.carried u).position, refl, is)) ((v.0, suc (S.join_next v.0)) ∷ []) []
      stepped

  settles-awaits : (x : ObjectNo) → op_at W u (S.carried u).position ≡ Some (op.EvWait x) → (o : Option ℕ) → Stepped W R t S (changed S (awaits S u x.0 o)) u (op.EvWait x) →
      Settled W (changed S (awaits S u x.0 o))
  settles-awaits x is None stepped = settles-to (op.EvWait x) is (λ x e. cc) (place.Blocked (spot.Object x) (S.object_next x.0)) (home, ((S.carried u).position, refl, is)) []
      ((x.0, suc (S.object_next x.0)) ∷ []) stepped
  settles-awaits x is (Some n) stepped = settles-with (op.EvWait x) is (λ x e. cc) (with_acc n (S.carried u)) refl stepped

  -- A set.

  module _ (x : ObjectNo) (is : op_at W u (S.carried u).position ≡ Some (op.EvSet x)) where
    abbrev waiters : List ℕ
    waiters = standing W S (Waiting x.0)

    abbrev acc : ℕ
    acc = (S.carried u).acc

    abbrev after-set : State
    after-set = changed S (op_row W S s u (op.EvSet x))

    set-homes : (n : ℕ) → (after-set.carried n).home ≡ (S.carried n).home
    set-homes n =
        put_all-kept (λ k (d : Carried). d.home ≡ (S.carried k).home) S.carried ((u, advanced (S.carried u)) ∷ map (receives S acc) waiters) n
        (refl, EachOf-map (λ (m : ℕ × Carried). m.1.home ≡ (S.carried m.0).home) (λ _. Unit {0}) (receives S acc) waiters (λ k _. refl) (EachOf-all (λ _. Unit {0}) waiters (λ _. tt))) refl

    set-arrives : (n : ℕ) → Arrives W S after-set n
    set-arrives n =
        put_all-kept (λ k pl. ((pl ≡ S.place k) × ((after-set.carried k).home ≡ (S.carried k).home)) ⊎ Stands W k (after-set.carried k) pl) S.place (to_tray W S s waiters) n
        (tray_moves-each (λ m. ((m.1 ≡ S.place m.0) × ((after-set.carried m.0).home ≡ (S.carried m.0).home)) ⊎ Stands W m.0 (after-set.carried m.0) m.1) (StandsIn W S (Waiting x.0)) s
        (tray_end W S s) waiters
        (λ k i stands. inr (subst (IsListed W) (sym (set-homes k)) (homed W S settled k (place_in (Waiting x.0) stands.ticket) stands.at (λ e. cc)))) (each-stands W S (Waiting x.0)))
        (inl (refl, set-homes n))

    set-kept : (y : ℕ) → IsSome (S.eventual y) → IsSome (after-set.eventual y)
    set-kept y h = put_all-kept (λ k (o : Option ℕ). IsSome (S.eventual k) → IsSome o) S.eventual ((x.0, Some acc) ∷ []) y ((λ _. refl), tt) (λ i. i) h

    set-here : (y : ObjectNo) → op.EvSet x ≡ op.EvSet y → IsSome (after-set.eventual y.0)
    set-here y e = let same : y ≡ x = cc in subst (λ (z : ObjectNo). IsSome (after-set.eventual z.0)) (sym same) (subst IsSome (sym (put_at-same S.eventual x.0 (Some acc))) refl)

    settles-set : Stepped W R t S after-set u (op.EvSet x) → Settled W after-set
    settles-set stepped = settles (op.EvSet x) is after-set stepped set-kept set-here set-arrives settled.asks

  -- A creation.

  module _ (v : UnitNo) (p : PoolNo) (is : op_at W u (S.carried u).position ≡ Some (op.Create v p)) where
    abbrev created : State
    created = changed S (begins W S s u v.0 p.0)

    abbrev went : ℕ → Carried
    went = put_at S.carried u (advanced (S.carried u))

    create-arrives : (n : ℕ) → Arrives W S created n
    create-arrives n =
        elim (cases_eq n v.0) [
          | inl same ↦ inr (subst (Stands W n (created.carried n)) (sym (ap created.place same ∙ put_at-same S.place v.0 (place.Tray (stream_no s) (tray_end W S s))))
              (subst (λ (d : Carried). IsListed W d.home) (sym (ap created.carried same ∙ put_at-same went v.0 (newborn p.0 (S.carried v.0)))) (orderly.created u (S.carried u).position v p is)))
          | inr other ↦ inl (
            put_at-other S.place v.0 (place.Tray (stream_no s) (tray_end W S s)) n other,
            ap (λ (d : Carried). d.home) (put_at-other went v.0 (newborn p.0 (S.carried v.0)) n other) ∙ homes-stay (S.carried u) refl [] [] [] n,
          )
        ]

    settles-create : Stepped W R t S created u (op.Create v p) → Settled W created
    settles-create stepped =
        settles (op.Create v p) is created stepped (λ x h. h) (λ x e. absurd cc) create-arrives
        (λ n. put_all-kept (λ k (d : Desk). d.migrate ≡ None) S.desk ((v.0, record (S.desk v.0) { life = suc (S.desk v.0).life }) ∷ []) n (settled.asks v.0, tt) (settled.asks n))

  -- Each operation that goes through.
  op-settles : (o : Op) → op_at W u (S.carried u).position ≡ Some o → IsNoCall (Some o) → Stepped W R t S (changed S (op_row W S s u o)) u o → Settled W (changed S (op_row W S s u o))
  op-settles (op.Set n) is step stepped = settles-with (op.Set n) is (λ x e. cc) _ refl stepped
  op-settles (op.Add n) is step stepped = settles-with (op.Add n) is (λ x e. cc) _ refl stepped
  op-settles (op.Say w) is step stepped = settles-with (op.Say w) is (λ x e. cc) _ refl stepped
  op-settles op.Print is step stepped = settles-with op.Print is (λ x e. cc) _ refl stepped
  op-settles (op.KeySet k) is step stepped = settles-with (op.KeySet k) is (λ x e. cc) _ refl stepped
  op-settles (op.KeyGet k) is step stepped = settles-with (op.KeyGet k) is (λ x e. cc) _ refl stepped
  op-settles (op.Calc c k) is step stepped = settles-with (op.Calc c k) is (λ x e. cc) _ refl stepped
  op-settles op.Yield is step stepped = settles-to op.Yield is (λ x e. cc) (place.Tray (stream_no s) (tray_end W S s)) home [] [] stepped
  op-settles (op.Create v p) is step stepped = settles-create v p is stepped
  op-settles (op.Join v) is step stepped = settles-joins v is (S.place v.0) stepped
  op-settles (op.EvWait x) is step stepped = settles-awaits x is (S.eventual x.0) stepped
  op-settles (op.EvSet x) is step stepped = settles-set x is stepped
  op-settles (op.BarWait x) is step stepped = absurd (orderly.no_barrier u (S.carried u).position x is)
  op-settles (op.Call f) is step stepped = absurd step
  op-settles o is step stepped = absurd (orderly.confluent.ops u (S.carried u).position o is)

  -- a step by its code, which is that its operation goes through
  step-settles : (o : Option Op) (c : Code) → op_at W u (S.carried u).position ≡ o → (o ≡ None → ⊥) → IsNoCall o → c ≡ code_at W S s u o → Settled W (changed S (step_row W S s u o c))
  step-settles None c is some step e = absurd (some refl)
  step-settles (Some o) c is some step e =
      let went : (code_of W S s u o ≡ code.Ok) × Stepped W R t S (changed S (op_row W S s u o)) u o = goes W R valid orderly.confluent t S flowing s u held o is step in
      subst (λ d. Settled W (changed S (step_row W S s u (Some o) d))) (sym (e ∙ went.0)) (op-settles o is step went.1)

-- The events.

module _ (W : Parts) (Z : Stored) (valid : IsValid W) (orderly : IsOrderly W) (one : CallsAreOne W Z.returns) (t : ℕ) (S : State) (flowing : Flowing W Z.returns t S) (settled : Settled W S) (s : ℕ) where
  call-settles : (u k n : ℕ) (o : Option Op) → S.place u ≡ place.Hand (stream_no s) → (S.carried u).position ≡ k → op_at W u k ≡ o → Returns Z o u (S.carried u) n →
      Settled W (changed S (goes_with u (with_acc n (S.carried u))))
  call-settles u k n (Some (op.Call f)) held at is may =
      let here : op_at W u (S.carried u).position ≡ Some (op.Call f) = ap (op_at W u) at ∙ is in
      settles-with W Z.returns valid orderly t S flowing settled s u held (op.Call f) here (λ x e. cc) (with_acc n (S.carried u)) refl
      (call-steps W Z valid orderly.confluent one t S flowing s u n f held here may)
  call-settles u k n None held at is may = absurd may
  call-settles u k n (Some o) held at is may = absurd may

  event-settles : (w : What) → May W Z S s w → Settled W (after W S s w)
  event-settles (what.Miss p) may = moves-settle W S settled [] [] [] ((s, round_missed W p.0 (S.stream s)) ∷ []) tt tt
  event-settles (what.Take p u) may =
      let stands : StandsIn W S (InPool p.0) u.0 = front-stands W S s p.0 u.0 may.1 in
      moves-settle W S settled ((u.0, place.Next (stream_no s)) ∷ []) [] [] ((s, round_taken (S.stream s)) ∷ []) (homed W S settled u.0 (place_in (InPool p.0) stands.ticket) stands.at (λ e. cc), tt) tt
  event-settles (what.Look u) may =
      looks-settle W S settled s u.0 (S.desk u.0).cancel (S.desk u.0).migrate (flowing.calm u.0) (settled.asks u.0)
      (homed W S settled u.0 (place.Next (stream_no s)) (next-place W S s u.0 may.1) (λ e. cc))
  event-settles (what.Step u k c) may =
      let held : S.place u.0 ≡ place.Hand (stream_no s) = hand-place W S s u.0 may.1 in
      let left : (S.carried u.0).position < length (ops_of (body_at W u.0)) = (step-due W s (S.stream s).mark (body_at W u.0) (S.carried u.0).position (due-unit W S s StepDue u.0 may.0 tt may.1)).1 in
      let some : op_at W u.0 (S.carried u.0).position ≡ None → ⊥ = λ e. none≢some (sym e ∙ slice_get-get_or (ops_of (body_at W u.0)) (S.carried u.0).position op.Print left) in
      subst (λ j. IsNoCall (op_at W u.0 j) → c ≡ code_at W S s u.0 (op_at W u.0 j) → Settled W (changed S (step_row W S s u.0 (op_at W u.0 j) c))) may.2
      (λ step e. step-settles W Z.returns valid orderly t S flowing settled s u.0 held (op_at W u.0 (S.carried u.0).position) c refl some step e) may.4 may.3
  event-settles (what.Call u k n) may = call-settles u.0 k n (op_at W u.0 k) (hand-place W S s u.0 may.1) may.2 refl may.3
  event-settles (what.Put u p) may =
      let stands : StandsIn W S (InTray s) u.0 = first-stands W S (InTray s) u.0 may.1 in
      let home : IsListed W (S.carried u.0).home = homed W S settled u.0 (place_in (InTray s) stands.ticket) stands.at (λ e. cc) in
      moves-settle W S settled ((u.0, place.Pool p (S.pool_next p.0)) ∷ []) [] ((p.0, suc (S.pool_next p.0)) ∷ []) [] ((home, subst (IsListed W) may.2 home), tt) tt
  event-settles (what.End u c) may =
      moves-settle W S settled ((u.0, place.Ended c) ∷ to_tray W S s (standing W S (Joining u.0))) ((u.0, without_requests (S.desk u.0)) ∷ []) [] []
      (homed W S settled u.0 (place.Hand (stream_no s)) (hand-place W S s u.0 may.1) (λ e. cc), joiners-stand W S settled s u.0) (refl, tt)
  event-settles (what.Enter u) may =
      moves-settle W S settled ((u.0, place.Frame (stream_no s) (length (S.stream s).below)) ∷ []) [] [] ((s, entered (sched_of (body_at W u.0)) (S.stream s)) ∷ [])
      (homed W S settled u.0 (place.Hand (stream_no s)) (hand-place W S s u.0 may.1) (λ e. cc), tt) tt
  event-settles (what.Leave u) may =
      moves-settle W S settled ((u.0, place.Hand (stream_no s)) ∷ []) [] [] ((s, left (S.stream s)) ∷ [])
      (homed W S settled u.0 (place.Frame (stream_no s) (length (S.stream s).below - 1)) may.1 (λ e. cc), tt) tt

-- Runs.

start-stands : (W : Parts) → IsOrderly W → (u : ℕ) (o : Option ℕ) → start_of W u ≡ o → Stands W u ((start W).carried u) (start_place W u o)
start-stands W orderly u None e = tt
start-stands W orderly u (Some p) e = let listed : IsListed W p = orderly.starts u p e in (subst (λ q. IsListed W (home_from q)) (sym e) listed, listed)

start-settles : (W : Parts) → IsOrderly W → Settled W (start W)
start-settles W orderly = record { sets = λ v j x is l. absurd (omega arith); stands = λ u. start-stands W orderly u (start_of W u) refl; asks = λ u. refl }

module _ (W : Parts) (Z : Stored) (valid : IsValid W) (orderly : IsOrderly W) (one : CallsAreOne W Z.returns) where
  settles-along : (t : ℕ) (S : State) (es : List Event) → Flowing W Z.returns t S → Settled W S → RunFrom W Z S es → Settled W (state_after W S es)
  settles-along t S [] flowing settled run = settled
  settles-along t S (e ∷ es) flowing settled run =
      settles-along (steps-after t e.what) (after W S e.stream.0 e.what) es (event-flows W Z valid orderly.confluent one t S flowing e.stream.0 e.what run.1)
      (event-settles W Z valid orderly one t S flowing settled e.stream.0 e.what run.1) run.2

  pub run-settles : (J : List Event) → Run W Z J → Settled W (last_state W J)
  run-settles J run = settles-along 0 (start W) J (start-flows W Z.returns) (start-settles W orderly) run
