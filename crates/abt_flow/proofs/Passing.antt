-- The events that are no steps: they move units and leave what programs made as it is.
use Rattle.std.proofs.Common.{◌≡◌, ℕ, ◌<◌, ◌≤◌, Bool, true, false, List, [], ◌∷◌, length, Option, Some, None, refl, sym, subst, arith, ◌⊎◌, inl, inr}
use Rattle.abt_machine.specs.declared.events.Cause.{Cause}
use Rattle.abt_machine.specs.declared.events.Place.{Place}
use Rattle.abt_machine.specs.declared.events.Place.TheVariants as place
use Rattle.abt_machine.specs.declared.numbers.PoolNo.{PoolNo}
use Rattle.abt_machine.specs.declared.operations.Body.{Body}
use Rattle.abt_machine.specs.declared.workload.Parts.{Parts}
use Rattle.abt_machine.specs.Carrying.{with_home}
use Rattle.abt_machine.specs.Changes.{changed, no_change, to_tray}
use Rattle.abt_machine.specs.Events.{look_row, without_requests}
use Rattle.abt_machine.specs.Frames.{entered, left, left_to, marked, round_missed, round_taken}
use Rattle.abt_machine.specs.Lines.{Joining, standing, tray_end}
use Rattle.abt_machine.specs.Next.{EndDue, due_of_unit}
use Rattle.abt_machine.specs.Numbers.{stream_no}
use Rattle.abt_machine.specs.State.{State, Stream, Frame, Carried, Desk, Mark, Plain}
use Rattle.abt_machine.specs.Workloads.{body_at, ops_of}
use Rattle.abt_laws.proofs.Dues.{due_of_unit-cases}
use Rattle.abt_laws.proofs.LineMoves.{tray_moves-each}
use Rattle.abt_laws.proofs.Lists.{EachOf, EachOf-then}
use Rattle.abt_laws.proofs.Maps.{put_all-kept}
use Rattle.abt_laws.proofs.Places.{place_in}
use Rattle.abt_laws.proofs.Standing.{StandsIn, each-stands}
use Rattle.abt_flow.proofs.Tells.{Flowing, GoesOn, IsCreated, IsPlain, IsSet, Tells, memory_of, plain-tells, tells-plain, tells-same}
use Rattle.abt_flow.specs.Flow.{Functions}

-- What such an event does.

-- unit u comes from one plain place to another, or ends after its last operation
abbrev pub Moves : Parts → State → ℕ → Place → Type 0
Moves W S u pl = IsPlain (S.place u) × (IsPlain pl ⊎ ((e : Cause) × (pl ≡ place.Ended e) × (length (ops_of (body_at W u)) ≤ (S.carried u).position)))

abbrev pub KeepsMemory : State → ℕ → Carried → Type 0
KeepsMemory S u c = (c.position ≡ (S.carried u).position) × (memory_of c ≡ memory_of (S.carried u))

pub record Passes (W : Parts) (S : State) (moves : List (ℕ × Place)) (carried : List (ℕ × Carried)) (desks : List (ℕ × Desk)) (streams : List (ℕ × Stream)) : Type 0 where
  pub move : EachOf (λ (m : ℕ × Place). Moves W S m.0 m.1) moves
  pub keep : EachOf (λ (m : ℕ × Carried). KeepsMemory S m.0 m.1) carried
  pub calm : EachOf (λ (m : ℕ × Desk). m.1.cancel ≡ false) desks
  pub marks : EachOf (λ (m : ℕ × Stream). GoesOn m.1.mark) streams

-- The states before and after.

module _ (W : Parts) (R : Functions) (t : ℕ) (S : State) (flowing : Flowing W R t S) (ms : List (ℕ × Place)) (cs : List (ℕ × Carried)) (ds : List (ℕ × Desk)) (ps : List (ℕ × ℕ))
    (ss : List (ℕ × Stream)) (passes : Passes W S ms cs ds ss) where
  abbrev after-it : State
  after-it = changed S (record no_change { moves = ms; carried = cs; desks = ds; pool_next = ps; streams = ss })

  kept : (u : ℕ) → KeepsMemory S u (after-it.carried u)
  kept u = put_all-kept (KeepsMemory S) S.carried cs u passes.keep (refl, refl)

  arrives : (u : ℕ) (pl : Place) → Moves W S u pl → Tells W R t u (S.carried u) pl
  arrives u pl (was, inl plain) = tells-plain W R t u (S.carried u) pl plain (plain-tells W R t u (S.carried u) (S.place u) was (flowing.units u))
  arrives u pl (was, inr ended) = subst (Tells W R t u (S.carried u)) (sym ended.1) (plain-tells W R t u (S.carried u) (S.place u) was (flowing.units u), ended.2)

  told : (u : ℕ) → Tells W R t u (S.carried u) (after-it.place u)
  told u = put_all-kept (λ n pl. Tells W R t n (S.carried n) pl) S.place ms u
      (EachOf-then (λ (m : ℕ × Place). Moves W S m.0 m.1) (λ (m : ℕ × Place). Tells W R t m.0 (S.carried m.0) m.1) ms (λ m h. arrives m.0 m.1 h) passes.move) (flowing.units u)

  never : (pl : Place) → IsPlain pl → pl ≡ place.Unborn → ⊥
  never pl h e = subst IsPlain e h

  not-born : (u : ℕ) (pl : Place) → Moves W S u pl → pl ≡ place.Unborn → ⊥
  not-born u pl (was, inl plain) e = never pl plain e
  not-born u pl (was, inr ended) e = cc

  -- who is unborn was so
  were-unborn : (u : ℕ) → after-it.place u ≡ place.Unborn → S.place u ≡ place.Unborn
  were-unborn u = put_all-kept (λ n pl. pl ≡ place.Unborn → S.place n ≡ place.Unborn) S.place ms u
      (EachOf-then (λ (m : ℕ × Place). Moves W S m.0 m.1) (λ (m : ℕ × Place). m.1 ≡ place.Unborn → S.place m.0 ≡ place.Unborn) ms (λ m h e. absurd (not-born m.0 m.1 h e)) passes.move) (λ e. e)

  -- and is so afterwards
  stay-unborn : (u : ℕ) → S.place u ≡ place.Unborn → after-it.place u ≡ place.Unborn
  stay-unborn u = put_all-kept (λ n pl. S.place n ≡ place.Unborn → pl ≡ place.Unborn) S.place ms u
      (EachOf-then (λ (m : ℕ × Place). Moves W S m.0 m.1) (λ (m : ℕ × Place). S.place m.0 ≡ place.Unborn → m.1 ≡ place.Unborn) ms (λ m h e. absurd (never (S.place m.0) h.0 e)) passes.move) (λ e. e)

  same-set : (x n : ℕ) → IsSet W R t S x n → IsSet W R t after-it x n
  same-set x n is = record {
    setter = is.setter;
    at = is.at;
    memory = is.memory;
    reached = is.reached;
    sets = is.sets;
    made = is.made;
    value = is.value;
    behind = subst (λ k. is.at < k)
        (sym (kept is.setter).0) is.behind;
  }

  same-created : (u : ℕ) → IsCreated W S u → IsCreated W after-it u
  same-created u is = record { creator = is.creator; at = is.at; pool = is.pool; creates = is.creates; behind = subst (λ k. is.at < k) (sym (kept is.creator).0) is.behind }

  was-created : (u : ℕ) → IsCreated W after-it u → IsCreated W S u
  was-created u is = record { creator = is.creator; at = is.at; pool = is.pool; creates = is.creates; behind = subst (λ k. is.at < k) (kept is.creator).0 is.behind }

  pub passes-on : Flowing W R t after-it
  passes-on = record {
    units = λ u. tells-same W R t u (S.carried u) (after-it.carried u) (after-it.place u) (kept u).0 (kept u).1 (told u);
    values = λ x n e. same-set x n (flowing.values x n e);
    born = λ u is e. flowing.born u (was-created u is) (were-unborn u e);
    created = λ u h start. same-created u (flowing.created u (λ e. h (stay-unborn u e)) start);
    calm = λ u. put_all-kept (λ n (d : Desk). d.cancel ≡ false) S.desk ds u passes.calm (flowing.calm u);
    marks = λ s. put_all-kept (λ n (own : Stream). GoesOn own.mark) S.stream ss s passes.marks (flowing.marks s);
  }

-- The events.

module _ (W : Parts) (R : Functions) (t : ℕ) (S : State) (flowing : Flowing W R t S) (s : ℕ) where
  at-place : (u : ℕ) (pl : Place) → S.place u ≡ pl → IsPlain pl → IsPlain (S.place u)
  at-place u pl e h = subst IsPlain (sym e) h

  pub passes-miss : (p : ℕ) → Flowing W R t (changed S (record no_change { streams = (s, round_missed W p (S.stream s)) ∷ [] }))
  passes-miss p = passes-on W R t S flowing [] [] [] [] ((s, round_missed W p (S.stream s)) ∷ []) (record { move = tt; keep = tt; calm = tt; marks = (flowing.marks s, tt) })

  pub passes-take : (p u : ℕ) → IsPlain (S.place u) → Flowing W R t (changed S (record no_change { moves = (u, place.Next (stream_no s)) ∷ []; streams = (s, round_taken (S.stream s)) ∷ [] }))
  passes-take p u was = passes-on W R t S flowing ((u, place.Next (stream_no s)) ∷ []) [] [] [] ((s, round_taken (S.stream s)) ∷ [])
      (record { move = ((was, inl tt), tt); keep = tt; calm = tt; marks = (flowing.marks s, tt) })

  pub passes-look : (u : ℕ) (c : Bool) (m : Option ℕ) → c ≡ false → IsPlain (S.place u) → Flowing W R t (changed S (look_row W S s u c m))
  passes-look u true m e was = absurd cc
  passes-look u false (Some p) e was =
      passes-on W R t S flowing (to_tray W S s (u ∷ [])) ((u, with_home p (S.carried u)) ∷ []) ((u, without_requests (S.desk u)) ∷ []) [] []
      (record { move = ((was, inl tt), tt); keep = ((refl, refl), tt); calm = (refl, tt); marks = tt })
  passes-look u false None e was =
      passes-on W R t S flowing ((u, place.Hand (stream_no s)) ∷ []) [] ((u, without_requests (S.desk u)) ∷ []) [] ((s, marked Plain (S.stream s)) ∷ [])
      (record { move = ((was, inl tt), tt); keep = tt; calm = (refl, tt); marks = (tt, tt) })

  pub passes-put : (u : ℕ) (p : PoolNo) (k : ℕ) (ps : List (ℕ × ℕ)) → IsPlain (S.place u) → Flowing W R t (changed S (record no_change { moves = (u, place.Pool p k) ∷ []; pool_next = ps }))
  passes-put u p k ps was = passes-on W R t S flowing ((u, place.Pool p k) ∷ []) [] [] ps [] (record { move = ((was, inl tt), tt); keep = tt; calm = tt; marks = tt })

  pub passes-enter : (u d : ℕ) (g : ℕ) → IsPlain (S.place u) → Flowing W R t
      (changed S (record no_change { moves = (u, place.Frame (stream_no s) d) ∷ []; streams = (s, entered g (S.stream s)) ∷ [] }))
  passes-enter u d g was = passes-on W R t S flowing ((u, place.Frame (stream_no s) d) ∷ []) [] [] [] ((s, entered g (S.stream s)) ∷ [])
      (record { move = ((was, inl tt), tt); keep = tt; calm = tt; marks = (flowing.marks s, tt) })

  left-goes_on : (own : Stream) (fs : List Frame) → GoesOn own.mark → GoesOn (left_to own fs).mark
  left-goes_on own [] h = h
  left-goes_on own (f ∷ fs) h = tt

  pub passes-leave : (u : ℕ) → IsPlain (S.place u) → Flowing W R t (changed S (record no_change { moves = (u, place.Hand (stream_no s)) ∷ []; streams = (s, left (S.stream s)) ∷ [] }))
  passes-leave u was = passes-on W R t S flowing ((u, place.Hand (stream_no s)) ∷ []) [] [] [] ((s, left (S.stream s)) ∷ [])
      (record { move = ((was, inl tt), tt); keep = tt; calm = tt; marks = (left-goes_on (S.stream s) (S.stream s).below (flowing.marks s), tt) })

  -- who ends neither asked nor by itself has no operation left
  pub end-due : (b : Body) (m : Mark) (k : ℕ) (e : Cause) → GoesOn m → due_of_unit W s m b k ≡ EndDue e → length (ops_of b) ≤ k
  end-due b m k e plain is =
      due_of_unit-cases W s k (λ m b d. GoesOn m → d ≡ EndDue e → length (ops_of b) ≤ k)
      (λ b h is. absurd h) (λ b h is. absurd h) (λ g h is. cc) (λ g h is. omega arith) (λ g h is. omega arith) (λ m b program more h is. cc) (λ m b program over h is. over) m b plain is

  joiners-move : (v : ℕ) → EachOf (λ (m : ℕ × Place). Moves W S m.0 m.1) (to_tray W S s (standing W S (Joining v)))
  joiners-move v =
      tray_moves-each (λ m. Moves W S m.0 m.1) (λ u. StandsIn W S (Joining v) u) s (tray_end W S s) (standing W S (Joining v))
      (λ u k is. (at-place u (place_in (Joining v) is.ticket) is.at tt, inl tt)) (each-stands W S (Joining v))

  pub passes-end : (u : ℕ) (e : Cause) → (length (ops_of (body_at W u)) ≤ (S.carried u).position) → IsPlain (S.place u) →
      Flowing W R t (changed S (record no_change { moves = (u, place.Ended e) ∷ to_tray W S s (standing W S (Joining u)); desks = (u, without_requests (S.desk u)) ∷ [] }))
  passes-end u e over was =
      passes-on W R t S flowing ((u, place.Ended e) ∷ to_tray W S s (standing W S (Joining u))) [] ((u, without_requests (S.desk u)) ∷ []) [] []
      (record { move = ((was, inr (e, refl, over)), joiners-move u); keep = tt; calm = (refl, tt); marks = tt })
