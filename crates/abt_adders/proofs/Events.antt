-- Each event keeps what holds of the adders.
use Rattle.std.proofs.Common.{◌≡◌, ◌≢◌, ℕ, zero, suc, ◌<◌, ◌≤◌, ◌+◌, ◌⊎◌, List, [], ◌∷◌, length, Option, Some, None, refl, sym, ◌∙◌, ap, subst, arith, inl, inr}
use Rattle.std.proofs.lemmas.Bool.{cases_eq, cases_lt}
use Rattle.abt_machine.specs.declared.events.Cause.{Cause}
use Rattle.abt_machine.specs.declared.events.Code.{Code}
use Rattle.abt_machine.specs.declared.events.Piece.TheVariants as piece
use Rattle.abt_machine.specs.declared.events.Place.{Place}
use Rattle.abt_machine.specs.declared.events.Place.TheVariants as place
use Rattle.abt_machine.specs.declared.events.What.{What}
use Rattle.abt_machine.specs.declared.events.What.TheVariants as what
use Rattle.abt_machine.specs.declared.operations.Op.{Op}
use Rattle.abt_machine.specs.declared.operations.Op.TheVariants as op
use Rattle.abt_machine.specs.Changes.{changed, no_change, to_tray}
use Rattle.abt_machine.specs.Codes.{code_at}
use Rattle.abt_machine.specs.Events.{May, after, without_requests}
use Rattle.abt_machine.specs.Frames.{entered, left, round_missed, round_taken, sched_of}
use Rattle.abt_machine.specs.Limits.{adder_limit}
use Rattle.abt_machine.specs.Lines.{InHand, InPool, InTray, Joining, standing, tray_end}
use Rattle.abt_machine.specs.Maps.{put_all, put_at}
use Rattle.abt_machine.specs.Next.{EndDue, StepDue}
use Rattle.abt_machine.specs.Numbers.{stream_no}
use Rattle.abt_machine.specs.State.{Carried, Mutex, State}
use Rattle.abt_machine.specs.Steps.{step_row}
use Rattle.abt_machine.specs.Stored.{Returns, Stored}
use Rattle.abt_machine.specs.Workloads.{body_at, op_at, ops_of}
use Rattle.abt_laws.proofs.Dues.{due-unit, step-due}
use Rattle.abt_laws.proofs.LineMoves.{tray_moves-each}
use Rattle.abt_laws.proofs.Maps.{put_all-kept, put_at-other, put_at-same}
use Rattle.abt_laws.proofs.Standing.{StandsIn, each-stands, first-stands, front-stands, hand-place, next-place}
use Rattle.abt_generate.specs.Generated.{generated}
use Rattle.abt_adders.specs.Laws.{sum_to}
use Rattle.abt_adders.proofs.AdderSteps.{adder-steps}
use Rattle.abt_adders.proofs.Calm.{calm-after, calm-left, end-after-all}
use Rattle.abt_adders.proofs.FirstSteps.{first-steps}
use Rattle.abt_adders.proofs.Going.{Adds, looks, stage-kept, stages, still}
use Rattle.abt_adders.proofs.Moving.{adder-moves, adding-same, first-moves, hands-same}
use Rattle.abt_adders.proofs.Programs.{adder-count, first-count, no-sched, op-adder, simple, unit-count}
use Rattle.abt_adders.proofs.Stages.{Active, AdderAt, AdderGoes, Adding, FirstAt, FirstEnds, FirstGoes, Joins, NotMine, Over, Stage, stage}

-- after its last operation

ended-adder : (m : Mutex) (v : ℕ) (c : Carried) (k : ℕ) → 6 ≤ k → AdderGoes m v c k → (k ≡ 6) × NotMine m v
ended-adder m v c zero l h = absurd (omega arith)
ended-adder m v c (suc zero) l h = absurd (omega arith)
ended-adder m v c (suc (suc zero)) l h = absurd (omega arith)
ended-adder m v c (suc (suc (suc zero))) l h = absurd (omega arith)
ended-adder m v c (suc (suc (suc (suc zero)))) l h = absurd (omega arith)
ended-adder m v c (suc (suc (suc (suc (suc zero))))) l h = absurd (omega arith)
ended-adder m v c (suc (suc (suc (suc (suc (suc zero)))))) l h = (refl, h)
ended-adder m v c (suc (suc (suc (suc (suc (suc (suc k))))))) l h = absurd h

ended-last : (n : ℕ) (m : Mutex) (c : Carried) (j : ℕ) → 3 ≤ j → FirstEnds n m c j → (j ≡ 3) × NotMine m 0 × (c.output ≡ piece.Number (sum_to n) ∷ [])
ended-last n m c zero l h = absurd (omega arith)
ended-last n m c (suc zero) l h = absurd (omega arith)
ended-last n m c (suc (suc zero)) l h = absurd (omega arith)
ended-last n m c (suc (suc (suc zero))) l h = (refl, h.0, h.1)
ended-last n m c (suc (suc (suc (suc j)))) l h = absurd h

ended-first : (n : ℕ) (m : Mutex) (c : Carried) → n + n + 4 ≤ c.position → FirstGoes n m c → FirstAt n m c Over
ended-first n m c far h =
    elim h [
      | inl b ↦ (let few : c.position ≤ n + n = b.0 in absurd (omega arith))
      | inr e ↦ (let is : c.position ≡ suc (n + n) + e.0 = e.1 in let last = ended-last n m c e.0 (omega arith) e.2 in let j = last.0 in (omega arith, last.1, last.2))
    ]

-- An end.

module _ (n t : ℕ) (S : State) (adds : Adds n t S) (s u : ℕ) (declared : u ≤ n) (held : S.place u ≡ place.Hand (stream_no s)) (c : Cause) (over : length (ops_of (body_at (generated n) u)) ≤ (S.carried u).position) where
  abbrev m : Mutex
  m = S.mutex 0

  -- the places where it has ended, and nobody is woken
  abbrev gone : ℕ → Place
  gone = put_at S.place u (place.Ended c)

  abbrev gone_stages : ℕ → Stage
  gone_stages v = stage (gone v)

  here : stage (S.place u) ≡ Active
  here = ap stage held

  gone-here : gone_stages u ≡ Over
  gone-here = ap stage (put_at-same S.place u (place.Ended c))

  others : (w : ℕ) → w ≢ u → (gone_stages w ≡ stages S w) × (S.carried w ≡ S.carried w)
  others w ne = (ap stage (put_at-other S.place u (place.Ended c) w ne), refl)

  ends-adder : 0 < u → Adding n t gone_stages S.carried m
  ends-adder some =
      let at : AdderAt (S.carried 0).position m u (S.carried u) Active = subst (AdderAt (S.carried 0).position m u (S.carried u)) here (adds.adding.adders u some declared) in
      let last = ended-adder m u (S.carried u) (S.carried u).position (omega (arith, adder-count n u some declared)) at.1 in
      adder-moves n t (stages S) gone_stages S.carried S.carried m m adds.adding u others (hands-same n m u adds.adding.owned) t some declared
      (subst (AdderAt (S.carried 0).position m u (S.carried u)) (sym gone-here) (at.0, last.0, last.1)) (λ o. gone-here) (adds.adding.silent u some) refl refl

  ends-first : u ≡ 0 → Adding n t gone_stages S.carried m
  ends-first none =
      let first_here : stage (S.place 0) ≡ Active = subst (λ v. stage (S.place v) ≡ Active) none here in
      let far : n + n + 4 ≤ (S.carried 0).position = subst (λ k. k ≤ (S.carried 0).position) (first-count n) (subst (λ v. length (ops_of (body_at (generated n) v)) ≤ (S.carried v).position) none over) in
      let at : FirstGoes n m (S.carried 0) = subst (FirstAt n m (S.carried 0)) first_here adds.adding.first in
      first-moves n t (stages S) gone_stages S.carried S.carried m m adds.adding (λ w ne. others w (λ e. ne (e ∙ none))) (hands-same n m 0 adds.adding.owned) t
      (subst (FirstAt n m (S.carried 0)) (sym (subst (λ v. gone_stages v ≡ Over) none gone-here)) (ended-first n m (S.carried 0) far at)) (omega arith) (λ v b l. l)
      (λ v some most l none_joined. adds.adding.joined v some most l (λ e. (let x : Active ≡ Joins v = sym first_here ∙ e in cc))) refl refl

  gone-adds : Adding n t gone_stages S.carried m
  gone-adds = elim (cases_lt 0 u) [ inl some ↦ ends-adder some | inr none ↦ ends-first (omega arith) ]

  -- Who joined it.

  abbrev joiners : List ℕ
  joiners = standing (generated n) S (Joining u)

  abbrev woken : ℕ → Place
  woken = put_all gone (to_tray (generated n) S s joiners)

  -- only unit 0 joins
  no-adder-joins : (p w : ℕ) (k : Mutex) (d : Carried) (a : Stage) → AdderAt p k w d a → a ≡ Joins u → ⊥
  no-adder-joins p w k d a h e = subst (AdderAt p k w d) e h

  joiner : (w : ℕ) → StandsIn (generated n) S (Joining u) w → (w ≡ 0) × (stages S w ≡ Joins u)
  joiner w is =
      let at : stages S w ≡ Joins u = ap stage is.at in
      let most : w ≤ n = (let l = is.declared in omega (arith, unit-count n)) in
      elim (cases_lt 0 w) [
        | inl some ↦ absurd (no-adder-joins (S.carried 0).position w m (S.carried w) (stages S w) (adds.adding.adders w some most) at)
        | inr none ↦ (omega arith, at)
      ]

  -- a unit's stage stays, or it is unit 0 and is woken
  abbrev Woken : ℕ → Place → Type 0
  Woken v to = (stage to ≡ gone_stages v) ⊎ ((v ≡ 0) × (stages S 0 ≡ Joins u) × (stage to ≡ Active))

  woken-each : (v : ℕ) → Woken v (woken v)
  woken-each v =
      put_all-kept Woken gone (to_tray (generated n) S s joiners) v
      (tray_moves-each (λ (x : ℕ × Place). Woken x.0 x.1) (StandsIn (generated n) S (Joining u)) s (tray_end (generated n) S s) joiners
      (λ w k is. (let j : (w ≡ 0) × (stages S w ≡ Joins u) = joiner w is in inr (j.0, subst (λ x. stages S x ≡ Joins u) j.0 j.1, refl))) (each-stands (generated n) S (Joining u))) (inl refl)

  -- unit 0 is not woken
  asleep : stage (woken 0) ≡ gone_stages 0 → Adding n t (λ v. stage (woken v)) S.carried m
  asleep same =
      adding-same n t t gone_stages (λ v. stage (woken v)) S.carried S.carried m m refl
      (λ v. elim (woken-each v) [ inl stays ↦ stays | inr moves ↦ subst (λ w. stage (woken w) ≡ gone_stages w) (sym moves.0) same ]) (λ v. refl) refl gone-adds

  -- unit 0 is woken
  wakes-first : stages S 0 ≡ Joins u → stage (woken 0) ≡ Active → Adding n t (λ v. stage (woken v)) S.carried m
  wakes-first at now =
      let apart : 0 ≢ u = λ e. (let x : Joins u ≡ Active = sym at ∙ subst (λ v. stages S v ≡ Active) (sym e) here in cc) in
      let was : FirstAt n m (S.carried 0) (Joins u) = subst (FirstAt n m (S.carried 0)) at adds.adding.first in
      let position : (S.carried 0).position ≡ n + u = was.2 in
      let gone_first : gone_stages 0 ≡ Joins u = (others 0 apart).0 ∙ at in
      first-moves n t gone_stages (λ v. stage (woken v)) S.carried S.carried m m gone-adds
      (λ w ne. (elim (woken-each w) [ inl stays ↦ stays | inr moves ↦ absurd (ne moves.0) ], refl)) (hands-same n m 0 adds.adding.owned) t
      (subst (FirstAt n m (S.carried 0)) (sym now) (inl (omega arith, was.3, was.4))) (omega arith) (λ v b l. l)
      (λ v some most l none. elim (cases_eq v u) [
        | inl same ↦ subst (λ w. gone_stages w ≡ Over) (sym same) gone-here
        | inr other ↦ gone-adds.joined v some most l (λ e. other (joins-same v (sym e ∙ gone_first)))
      ]) refl refl where
        target : Stage → ℕ
        target (Joins w) = w
        target _ = 0

        joins-same : (v : ℕ) → Joins v ≡ Joins u → v ≡ u
        joins-same v e = ap target e

  pub ends-adding : Adding n t (λ v. stage (woken v)) S.carried m
  ends-adding = elim (woken-each 0) [ inl same ↦ asleep same | inr moves ↦ wakes-first moves.1 moves.2 ]

-- Each event.

-- the steps after an event
abbrev pub steps_after : ℕ → What → ℕ
steps_after t (what.Step u k c) = suc t
steps_after t (what.Call u k a) = suc t
steps_after t _ = t

module _ (n : ℕ) (few : n ≤ adder_limit) (Z : Stored) (t : ℕ) (S : State) (adds : Adds n t S) (s : ℕ) where
  no-call : (u k a : ℕ) (o : Option Op) → op_at (generated n) u k ≡ o → Returns Z o u (S.carried u) a → ⊥
  no-call u k a None e returns = returns
  no-call u k a (Some (op.Call f)) e returns = simple n u k (op.Call f) e
  no-call u k a (Some _) e returns = returns

  declared-held : (u : ℕ) → StandsIn (generated n) S (InHand s) u → u ≤ n
  declared-held u is = let l = is.declared in omega (arith, unit-count n)

  steps-on : (u : ℕ) (q : Code) → StandsIn (generated n) S (InHand s) u → (S.carried u).position < length (ops_of (body_at (generated n) u)) →
      q ≡ code_at (generated n) S s u (op_at (generated n) u (S.carried u).position) → Adds n (suc t) (changed S (step_row (generated n) S s u (op_at (generated n) u (S.carried u).position) q))
  steps-on zero q is l e = first-steps n t S adds s is.at (omega (arith, first-count n)) (op_at (generated n) 0 (S.carried 0).position) q refl e
  steps-on (suc v) q is l e =
      let some : 0 < suc v = omega arith in
      let most : suc v ≤ n = declared-held (suc v) is in
      let at : AdderAt (S.carried 0).position (S.mutex 0) (suc v) (S.carried (suc v)) Active =
      subst (AdderAt (S.carried 0).position (S.mutex 0) (suc v) (S.carried (suc v))) (ap stage is.at) (adds.adding.adders (suc v) some most) in
      adder-steps n few t S adds s (suc v) some most is.at at.0 (S.carried (suc v)).position refl (omega (arith, adder-count n (suc v) some most)) at.1
      (op_at (generated n) (suc v) (S.carried (suc v)).position) q (op-adder n (suc v) (S.carried (suc v)).position some most) e

  pub event-adds : (w : What) → May (generated n) Z S s w → Adds n (steps_after t w) (after (generated n) S s w)
  event-adds (what.Miss p) may = still n t S adds [] [] [] ((s, round_missed (generated n) p.0 (S.stream s)) ∷ []) (λ v. refl) tt (adds.calm.marks s, tt)
  event-adds (what.Take p u) may =
      let is : StandsIn (generated n) S (InPool p.0) u.0 = front-stands (generated n) S s p.0 u.0 may.1 in
      still n t S adds ((u.0, place.Next (stream_no s)) ∷ []) [] [] ((s, round_taken (S.stream s)) ∷ []) (stage-kept S.place u.0 (place.Next (stream_no s)) (ap stage is.at)) tt (adds.calm.marks s, tt)
  event-adds (what.Look u) may =
      looks n t S adds (generated n) s u.0 (S.desk u.0).cancel (S.desk u.0).migrate (adds.calm.asks u.0).0 (adds.calm.asks u.0).1 (ap stage (next-place (generated n) S s u.0 may.1))
  event-adds (what.Step u k c) may =
      let is : StandsIn (generated n) S (InHand s) u.0 = first-stands (generated n) S (InHand s) u.0 may.1 in
      let l : (S.carried u.0).position < length (ops_of (body_at (generated n) u.0)) =
      (step-due (generated n) s (S.stream s).mark (body_at (generated n) u.0) (S.carried u.0).position (due-unit (generated n) S s StepDue u.0 may.0 tt may.1)).1 in
      subst (λ j. c ≡ code_at (generated n) S s u.0 (op_at (generated n) u.0 j) → Adds n (suc t) (changed S (step_row (generated n) S s u.0 (op_at (generated n) u.0 j) c))) may.2
      (λ e. steps-on u.0 c is l e) may.3
  event-adds (what.Call u k a) may = absurd (no-call u.0 k a (op_at (generated n) u.0 k) refl may.3)
  event-adds (what.Put u p) may =
      let is : StandsIn (generated n) S (InTray s) u.0 = first-stands (generated n) S (InTray s) u.0 may.1 in
      still n t S adds ((u.0, place.Pool p (S.pool_next p.0)) ∷ []) [] ((p.0, suc (S.pool_next p.0)) ∷ []) [] (stage-kept S.place u.0 (place.Pool p (S.pool_next p.0)) (ap stage is.at)) tt tt
  event-adds (what.End u c) may =
      let is : StandsIn (generated n) S (InHand s) u.0 = first-stands (generated n) S (InHand s) u.0 may.1 in
      let over : length (ops_of (body_at (generated n) u.0)) ≤ (S.carried u.0).position =
      end-after-all (generated n) s (S.stream s).mark (body_at (generated n) u.0) (S.carried u.0).position c (due-unit (generated n) S s (EndDue c) u.0 may.0 tt may.1) (adds.calm.marks s) (no-sched n u.0) in
      record {
        adding = ends-adding n t S adds s u.0 (declared-held u.0 is) is.at c over;
        calm = calm-after S
            (record no_change { moves = (u.0, place.Ended c) ∷ to_tray (generated n) S s (standing (generated n) S (Joining u.0)); desks = (u.0, without_requests (S.desk u.0)) ∷ [] })
            adds.calm ((refl, refl), tt) tt;
      }
  event-adds (what.Enter u) may =
      still n t S adds ((u.0, place.Frame (stream_no s) (length (S.stream s).below)) ∷ []) [] [] ((s, entered (sched_of (body_at (generated n) u.0)) (S.stream s)) ∷ [])
      (stage-kept S.place u.0 (place.Frame (stream_no s) (length (S.stream s).below)) (ap stage (hand-place (generated n) S s u.0 may.1))) tt (adds.calm.marks s, tt)
  event-adds (what.Leave u) may =
      still n t S adds ((u.0, place.Hand (stream_no s)) ∷ []) [] [] ((s, left (S.stream s)) ∷ []) (stage-kept S.place u.0 (place.Hand (stream_no s)) (ap stage may.1)) tt
      (calm-left (S.stream s) (adds.calm.marks s), tt)
