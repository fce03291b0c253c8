-- Each step of unit 0.
use Rattle.std.proofs.Common.{◌≡◌, ℕ, zero, suc, ◌<◌, ◌≤◌, ◌+◌, ◌-◌, List, [], ◌∷◌, ◌++◌, Option, Some, None, slice_get, refl, sym, ◌∙◌, ap, ap₂, subst, arith, inl, inr}
use Rattle.std.proofs.lemmas.Bool.{cases_eq, cases_lt, cond-true}
use Rattle.std.specs.Prelude.{◌%◌}
use Rattle.abt_machine.specs.declared.events.Code.{Code}
use Rattle.abt_machine.specs.declared.events.Code.TheVariants as code
use Rattle.abt_machine.specs.declared.events.Piece.{Piece}
use Rattle.abt_machine.specs.declared.events.Piece.TheVariants as piece
use Rattle.abt_machine.specs.declared.events.Place.{Place}
use Rattle.abt_machine.specs.declared.events.Place.TheVariants as place
use Rattle.abt_machine.specs.declared.events.Spot.TheVariants as spot
use Rattle.abt_machine.specs.declared.numbers.PoolNo.{PoolNo}
use Rattle.abt_machine.specs.declared.operations.Op.{Op}
use Rattle.abt_machine.specs.declared.operations.Op.TheVariants as op
use Rattle.abt_machine.specs.Access.{may_put}
use Rattle.abt_machine.specs.Carrying.{advanced, newborn, printed, with_acc}
use Rattle.abt_machine.specs.Changes.{changed, goes_with}
use Rattle.abt_machine.specs.Codes.{code_at, code_of, is_unborn, unless}
use Rattle.abt_machine.specs.Lines.{tray_end}
use Rattle.abt_machine.specs.Maps.{put_all, put_at}
use Rattle.abt_machine.specs.Numbers.{object_no, pool_no, stream_no, unit_no}
use Rattle.abt_machine.specs.State.{Carried, Mutex, State}
use Rattle.abt_machine.specs.Steps.{begins, joins, locks, set_owner, step_row}
use Rattle.abt_laws.proofs.Maps.{put_at-other, put_at-same}
use Rattle.abt_laws.proofs.Options.{none≢some}
use Rattle.abt_laws.proofs.Sums.{sum_up-same}
use Rattle.abt_machine.specs.Workloads.{op_at}
use Rattle.abt_generate.specs.Generated.{generated}
use Rattle.abt_generate.proofs.GeneratedOps.{create, join}
use Rattle.abt_adders.specs.Laws.{sum_to}
use Rattle.abt_adders.proofs.Calm.{calm-after}
use Rattle.abt_adders.proofs.Going.{Adds, stages}
use Rattle.abt_adders.proofs.Moving.{Hands, creates, hands-free, hands-lock, hands-same, is-absent, stored-zero}
use Rattle.abt_adders.proofs.Programs.{last_ops, may-put, op-create, op-join, op-last}
use Rattle.abt_adders.proofs.Stages.{Absent, Active, AdderAt, FirstAt, FirstEnds, FirstGoes, Joins, NotMine, Over, Stage, Waits, stage, stored}
use Rattle.abt_adders.proofs.Steps.{by-op, first-step, owned-ok, unlocks}
use Rattle.abt_adders.proofs.Sums.{sum-numbers}

-- a unit at this stage is at this place
unborn-place : (pl : Place) → stage pl ≡ Absent → pl ≡ place.Unborn
unborn-place place.Unborn e = refl
unborn-place (place.Blocked spot.Suspended t) e = absurd cc
unborn-place (place.Blocked (spot.Join v) t) e = absurd cc
unborn-place (place.Blocked (spot.Object x) t) e = absurd cc
unborn-place _ e = absurd cc

-- an adder at this stage has stored its number
over-stored : (p v : ℕ) (m : Mutex) (c : Carried) (a : Stage) → AdderAt p m v c a → a ≡ Over → stored v c.position ≡ v
over-stored p v m c a h e = let over : AdderAt p m v c Over = subst (AdderAt p m v c) e h in ap (stored v) over.1

module _ (n t : ℕ) (S : State) (adds : Adds n t S) (s : ℕ) (held : S.place 0 ≡ place.Hand (stream_no s)) where
  abbrev m : Mutex
  m = S.mutex 0

  abbrev p : ℕ
  p = (S.carried 0).position

  here : stage (S.place 0) ≡ Active
  here = ap stage held

  same-hands : Hands n m m 0
  same-hands = hands-same n m 0 adds.adding.owned

  -- who was joined before, while unit 0 goes on
  was-joined : (v : ℕ) → 0 < v → v ≤ n → n + v ≤ p → stage (S.place v) ≡ Over
  was-joined v some most l = adds.adding.joined v some most l (λ e. (let x : Active ≡ Joins v = sym here ∙ e in cc))

  -- unit 0 stays in its hand, with this to carry and this mutex, when all were born
  goes : (e : Carried) (ks : List (ℕ × Mutex)) → e.position ≡ p → Hands n m (put_all S.mutex ks 0) 0 → n ≤ p → ((v : ℕ) → 0 < v → v ≤ n → n + v ≤ suc p → stage (S.place v) ≡ Over) →
      (put_all S.mutex ks 0).number ≡ m.number → FirstGoes n (put_all S.mutex ks 0) (advanced e) → Adds n (suc t) (changed S (record (goes_with 0 e) { mutexes = ks }))
  goes e ks same hands born ended number mine =
      first-step n t S adds s 0 e [] [] [] ks refl (λ w ne. refl) Active here hands same mine born (λ v some most l none. ended v some most l) number

  -- The creations.

  creates-next : p < n → NotMine m 0 → (S.carried 0).output ≡ [] → (q : PoolNo) → Adds n (suc t) (changed S (begins (generated n) S s 0 (suc p) q.0))
  creates-next l free quiet q =
      let to : Place = place.Tray (stream_no s) (tray_end (generated n) S s) in
      let went : ℕ → Carried = put_at S.carried 0 (advanced (S.carried 0)) in
      let baby : Carried = newborn q.0 (S.carried (suc p)) in
      let first : put_at went (suc p) baby 0 ≡ advanced (S.carried 0) = put_at-other went (suc p) baby 0 (λ e. omega arith) ∙ put_at-same S.carried 0 (advanced (S.carried 0)) in
      let born : put_at went (suc p) baby (suc p) ≡ baby = put_at-same went (suc p) baby in
      record {
        adding =
            creates n t (stages S) S.carried m adds.adding (λ v. stage (put_at S.place (suc p) to v)) (put_at went (suc p) baby) (suc p) refl (omega arith) here
            (ap stage (put_at-other S.place (suc p) to 0 (λ e. omega arith)) ∙ here) (ap stage (put_at-same S.place (suc p) to))
            (ap (λ (c : Carried). c.position) first) (ap (λ (c : Carried). c.output) first) (ap (λ (c : Carried). c.position) born) (ap (λ (c : Carried). c.output) born)
            (λ w ne other. (ap stage (put_at-other S.place (suc p) to w other), put_at-other went (suc p) baby w other ∙ put_at-other S.carried 0 (advanced (S.carried 0)) w ne));
        calm = calm-after S (begins (generated n) S s 0 (suc p) q.0) adds.calm (adds.calm.asks (suc p), tt) tt;
      }

  create-ok : p < n → code_of (generated n) S s 0 (create (suc p)) ≡ code.Ok
  create-ok l =
      let unborn : S.place (suc p) ≡ place.Unborn = unborn-place (S.place (suc p)) (is-absent n t (stages S) S.carried m adds.adding (suc p) (omega arith) (omega arith) (omega arith)) in
      cond-true (may_put (generated n) s (suc p % 4)) (unless (is_unborn (S.place (suc p))) code.Exists code.Ok) code.PoolAccess (may-put n s (suc p % 4))
      ∙ cond-true (is_unborn (S.place (suc p))) code.Ok code.Exists (ap is_unborn unborn)

  -- The joins.

  module _ (i : ℕ) (l : i < n) (is : p ≡ n + i) (free : NotMine m 0) (quiet : (S.carried 0).output ≡ []) where
    -- who was joined before this one
    earlier : (v : ℕ) → 0 < v → v ≤ n → n + v ≤ suc p → (v ≡ suc i → ⊥) → stage (S.place v) ≡ Over
    earlier v some most b other = was-joined v some most (elim (cases_lt v (suc i)) [ inl below ↦ omega arith | inr above ↦ absurd (other (omega arith)) ])

    joins-next : (pl : Place) → S.place (suc i) ≡ pl → Adds n (suc t) (changed S (joins S 0 (suc i) pl))
    joins-next (place.Ended c) at =
        goes (S.carried 0) [] refl same-hands (omega arith)
        (λ v some most b. elim (cases_eq v (suc i)) [ inl e ↦ ap (λ w. stage (S.place w)) e ∙ ap stage at | inr other ↦ earlier v some most b other ]) refl (inl (omega arith, free, quiet))
    joins-next _ at =
        let to : Place = place.Blocked (spot.Join (unit_no (suc i))) (S.join_next (suc i)) in
        first-step n t S adds s 0 (S.carried 0) ((0, to) ∷ []) ((suc i, suc (S.join_next (suc i))) ∷ []) [] [] refl (put_at-other S.place 0 to) (Joins (suc i)) (ap stage (put_at-same S.place 0 to)) same-hands refl
        (omega arith, omega arith, omega arith, free, quiet) (omega arith) (λ v some most b none. earlier v some most b (λ e. none (ap Joins (sym e)))) refl

  -- The end.

  locks-adds : p ≡ n + n → NotMine m 0 → (S.carried 0).output ≡ [] → (o : Option ℕ) → m.owner ≡ o → Adds n (suc t) (changed S (locks S 0 0 o))
  locks-adds is free quiet None none =
      goes (S.carried 0) ((0, set_owner (Some 0) m) ∷ []) refl (hands-lock n m 0 (omega arith) none) (omega arith) (λ v some most b. was-joined v some most (omega arith)) refl (inr (0, omega arith, (refl, quiet)))
  locks-adds is free quiet (Some v) owned =
      let to : Place = place.Blocked (spot.Object (object_no 0)) (S.object_next 0) in
      first-step n t S adds s 0 (S.carried 0) ((0, to) ∷ []) [] ((0, suc (S.object_next 0)) ∷ []) [] refl (put_at-other S.place 0 to) (Waits 0) (ap stage (put_at-same S.place 0 to)) same-hands refl
      (refl, omega arith, free, quiet) (omega arith) (λ v some most b none. was-joined v some most (omega arith)) refl

  -- once all have ended the sum is complete
  complete : n + n ≤ p → m.number ≡ sum_to n
  complete far =
      adds.adding.number
      ∙ (sum_up-same (λ v. stored v (S.carried v).position) (λ v. v) (suc n)
      (λ v l. elim (cases_eq v 0) [
        | inl none ↦ subst (λ w. stored w (S.carried w).position ≡ w) (sym none) (stored-zero p)
        | inr other ↦ (let some : 0 < v = omega arith in
            over-stored p v m (S.carried v) (stage (S.place v)) (adds.adding.adders v some (omega arith)) (was-joined v some (omega arith) (omega arith)))
      ])
      ∙ sum-numbers n)

  -- after its lock
  ends-adds : (j : ℕ) → p ≡ suc (n + n) + j → p < n + n + 4 → FirstEnds n m (S.carried 0) j → (o : Option Op) (q : Code) → o ≡ slice_get last_ops (suc j) → q ≡ code_at (generated n) S s 0 o →
      Adds n (suc t) (changed S (step_row (generated n) S s 0 o q))
  ends-adds zero is l h o q e c =
      by-op n t S adds s 0 (suc t) o q (op.Load (object_no 0)) e c (owned-ok S 0 h.0)
      (goes (with_acc m.number (S.carried 0)) [] refl same-hands (omega arith) (λ v some most b. was-joined v some most (omega arith)) refl (inr (1, omega arith, (h.0, h.1, complete (omega arith)))))
  ends-adds (suc zero) is l h o q e c =
      by-op n t S adds s 0 (suc t) o q op.Print e c refl
      (goes (printed (piece.Number (S.carried 0).acc) (S.carried 0)) [] refl same-hands (omega arith) (λ v some most b. was-joined v some most (omega arith)) refl
      (inr (2, omega arith, (h.0, ap₂ (λ (xs : List Piece) (a : ℕ). xs ++ piece.Number a ∷ []) h.1 h.2))))
  ends-adds (suc (suc zero)) is l h o q e c =
      by-op n t S adds s 0 (suc t) o q (op.Unlock (object_no 0)) e c (owned-ok S 0 h.0)
      (unlocks n t S adds s 0 (goes (S.carried 0) ((0, set_owner None m) ∷ []) refl (hands-free n m 0 h.0) (omega arith) (λ v some most b. was-joined v some most (omega arith)) refl
      (inr (3, omega arith, ((λ x. none≢some x), h.1)))))
  ends-adds (suc (suc (suc j))) is l h o q e c = absurd (omega arith)

  -- before its lock
  begins-adds : p ≤ n + n → NotMine m 0 → (S.carried 0).output ≡ [] → (o : Option Op) (q : Code) → o ≡ op_at (generated n) 0 p → q ≡ code_at (generated n) S s 0 o → Adds n (suc t) (changed S (step_row (generated n) S s 0 o q))
  begins-adds most free quiet o q e c =
      elim (cases_lt p n) [
        | inl l ↦ by-op n t S adds s 0 (suc t) o q (create (suc p)) (e ∙ op-create n p l) c (create-ok l) (creates-next l free quiet (pool_no (suc p % 4)))
        | inr far ↦ elim (cases_lt p (n + n)) [
          | inl l ↦ (let i : ℕ = p - n in let is : p ≡ n + i = omega arith in
              by-op n t S adds s 0 (suc t) o q (join (suc i)) (e ∙ op-join n i p (omega arith) is) c refl (joins-next i (omega arith) is free quiet (S.place (suc i)) refl))
          | inr over ↦ (let is : p ≡ n + n = omega arith in
              by-op n t S adds s 0 (suc t) o q (op.Lock (object_no 0)) (e ∙ op-last n 0 p (omega arith)) c refl (locks-adds is free quiet m.owner refl))
        ]
      ]

  pub first-steps : p < n + n + 4 → (o : Option Op) (q : Code) → o ≡ op_at (generated n) 0 p → q ≡ code_at (generated n) S s 0 o → Adds n (suc t) (changed S (step_row (generated n) S s 0 o q))
  first-steps l o q e c =
      elim (subst (FirstAt n m (S.carried 0)) here adds.adding.first) [
        | inl b ↦ begins-adds b.0 b.1 b.2 o q e c
        | inr h ↦ (let is : p ≡ suc (n + n) + h.0 = h.1 in ends-adds h.0 is l h.2 o q (e ∙ op-last n (suc h.0) p (omega arith)) c)
      ]
