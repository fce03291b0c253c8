-- In a sound state two events of a stream that may come are one, unless they visit different pools.
use Rattle.std.proofs.Common.{◌≡◌, ℕ, List, [], ◌∷◌, ◌++◌, length, Option, Some, None, refl, ap, sym, ◌∙◌, subst, ◌-◌, slice_get}
use Rattle.abt_machine.specs.declared.events.Code.{Code}
use Rattle.abt_machine.specs.declared.events.Place.TheVariants as place
use Rattle.abt_machine.specs.declared.events.What.{What}
use Rattle.abt_machine.specs.declared.events.What.TheVariants as what
use Rattle.abt_machine.specs.declared.numbers.UnitNo.{UnitNo}
use Rattle.abt_machine.specs.declared.operations.OrderShape.{OrderShape}
use Rattle.abt_machine.specs.declared.operations.Op.{Op}
use Rattle.abt_machine.specs.declared.operations.Op.TheVariants as op
use Rattle.abt_machine.specs.Stored.{Stored, IsNoCall, IsReturned, Returns}
use Rattle.abt_machine.specs.declared.operations.OrderShape.TheVariants as shape
use Rattle.abt_machine.specs.declared.operations.Rule.{Rule}
use Rattle.abt_machine.specs.declared.operations.Rule.TheVariants as rule
use Rattle.abt_machine.specs.declared.workload.Parts.{Parts}
use Rattle.abt_machine.specs.Numbers.{stream_no, pool_no, unit_no}
use Rattle.abt_machine.specs.Workloads.{op_at, pools_of, rule_of}
use Rattle.abt_machine.specs.Queues.{first}
use Rattle.abt_machine.specs.State.{State, Carried, Frame}
use Rattle.abt_machine.specs.Lines.{standing, hand, next, ticket_in, InTray, InFrames}
use Rattle.abt_machine.specs.Next.{Due, due, PutDue, LookDue, EndDue, EnterDue, StepDue, LeaveDue, RoundDue}
use Rattle.abt_machine.specs.Fronts.{front}
use Rattle.abt_machine.specs.Rounds.{IsChosen, IsNextPool, choice_by, shaped}
use Rattle.abt_machine.specs.Codes.{code_at}
use Rattle.abt_machine.specs.Events.{May}
use Rattle.abt_machine.specs.Sound.{Sound}
use Rattle.abt_laws.proofs.Options.{none≢some, some-injective}
use Rattle.abt_laws.proofs.Places.{same-self}
use Rattle.abt_bounds.specs.Laws.{HasNoFreeCall, HasNoFreeOrder, OneAtEachPool, OneNext, OrdersAreOne, returned, visited}

-- Orders.

one-shaped : (o : Option OrderShape) (r : ℕ) (ps one two : List ℕ) → (o ≡ Some shape.Free → ⊥) → IsChosen (shaped o r ps) ps one → IsChosen (shaped o r ps) ps two → one ≡ two
one-shaped (Some shape.Rotate) r ps one two bound a b = a ∙ sym b
one-shaped (Some shape.Mirror) r ps one two bound a b = a ∙ sym b
one-shaped (Some shape.Free) r ps one two bound a b = absurd (bound refl)
one-shaped None r ps one two bound a b = absurd a

one-chosen : (W : Parts) (Z : Stored) (g r : ℕ) (o : Option Rule) (ps one two : List ℕ) → ((k : ℕ) → o ≡ Some (rule.User k) → slice_get Z.orders k ≡ Some shape.Free → ⊥) →
    IsChosen (choice_by W Z.orders g r o ps) ps one → IsChosen (choice_by W Z.orders g r o ps) ps two → one ≡ two
one-chosen W Z g r (Some rule.Basic) ps one two bound a b = a ∙ sym b
one-chosen W Z g r (Some rule.Prio) ps one two bound a b = a ∙ sym b
one-chosen W Z g r (Some (rule.Randws seed)) ps one two bound a b = a ∙ sym b
one-chosen W Z g r (Some (rule.User k)) ps one two bound a b = one-shaped (slice_get Z.orders k) r ps one two (bound k refl) a b
one-chosen W Z g r None ps one two bound a b = absurd a

pub orders-are-one : (W : Parts) (Z : Stored) → OrdersAreOne W Z
orders-are-one W Z bound g r one two a b = one-chosen W Z g r (rule_of W g) (pools_of W g) one two (bound g) a b

tail-is : {A : Type 0} {x y : A} {xs ys : List A} → x ∷ xs ≡ y ∷ ys → xs ≡ ys
tail-is e = cc

next-of : (seen : List ℕ) (p q : ℕ) (ps qs : List ℕ) → (seen ++ p ∷ []) ++ ps ≡ (seen ++ q ∷ []) ++ qs → p ≡ q
next-of [] p q ps qs e = cc
next-of (x ∷ seen) p q ps qs e = next-of seen p q ps qs (tail-is e)

-- and one next pool
next-pool-is : (W : Parts) (Z : Stored) (f : Frame) (p q : ℕ) → HasNoFreeOrder W Z → IsNextPool W Z.orders f p → IsNextPool W Z.orders f q → p ≡ q
next-pool-is W Z f p q bound n m = next-of f.seen p q n.2.0 m.2.0 (n.2.1 ∙ (orders-are-one W Z bound f.sched f.round n.0 m.0 n.1 m.1 ∙ sym m.2.1))

-- The event that may come, by what is due: at pool p if a round is due, of unit u if a leave is.

abbrev or_zero : Option ℕ → ℕ
or_zero None = 0
or_zero (Some u) = u

abbrev round_event : ℕ → Option ℕ → What
round_event p None = what.Miss (pool_no p)
round_event p (Some u) = what.Take (pool_no p) (unit_no u)

abbrev put_event : State → Option ℕ → What
put_event S o = what.Put (unit_no (or_zero o)) (pool_no (S.carried (or_zero o)).home)

abbrev step_event : Parts → State → ℕ → Option ℕ → What
step_event W S s o = what.Step (unit_no (or_zero o)) (S.carried (or_zero o)).position (code_at W S s (or_zero o) (op_at W (or_zero o) (S.carried (or_zero o)).position))

abbrev event_at : Parts → State → ℕ → ℕ → ℕ → Due → What
event_at W S s p u PutDue = put_event S (first (standing W S (InTray s)))
event_at W S s p u LookDue = what.Look (unit_no (or_zero (next W S s)))
event_at W S s p u (EndDue c) = what.End (unit_no (or_zero (hand W S s))) c
event_at W S s p u EnterDue = what.Enter (unit_no (or_zero (hand W S s)))
event_at W S s p u StepDue = step_event W S s (hand W S s)
event_at W S s p u LeaveDue = what.Leave (unit_no u)
event_at W S s p u RoundDue = round_event p (front W S s p)

-- the pool and the unit are such as the event asks
abbrev FitsDue : Parts → Stored → State → ℕ → ℕ → ℕ → Due → Type 0
FitsDue W Z S s p u LeaveDue = S.place u ≡ place.Frame (stream_no s) (length (S.stream s).below - 1)
FitsDue W Z S s p u RoundDue = IsNextPool W Z.orders (S.stream s).top p
FitsDue W Z S s p u _ = Unit {0}

-- no call
abbrev IsOther : What → Type 0
IsOther (what.Call u k n) = ⊥
IsOther _ = Unit {0}

abbrev Named : Parts → Stored → State → ℕ → What → Due → Type 0
Named W Z S s w d = (p : ℕ) × (u : ℕ) × FitsDue W Z S s p u d × (w ≡ event_at W S s p u d)

step-is : (W : Parts) (S : State) (s : ℕ) (u : UnitNo) (k : ℕ) (c : Code) → (S.carried u.0).position ≡ k → c ≡ code_at W S s u.0 (op_at W u.0 k) → what.Step u k c ≡ step_event W S s (Some u.0)
step-is W S s u k c at code = ap (what.Step u k) code ∙ ap (λ j. what.Step u j (code_at W S s u.0 (op_at W u.0 j))) (sym at)

named : (W : Parts) (Z : Stored) (S : State) (s : ℕ) (w : What) → IsOther w → May W Z S s w → Named W Z S s w (due W S s)
named W Z S s (what.Miss p) other m = subst (Named W Z S s (what.Miss p)) (sym m.0) (p.0, 0, m.2, ap (round_event p.0) (sym m.1))
named W Z S s (what.Take p u) other m = subst (Named W Z S s (what.Take p u)) (sym m.0) (p.0, 0, m.2, ap (round_event p.0) (sym m.1))
named W Z S s (what.Look u) other m = subst (Named W Z S s (what.Look u)) (sym m.0) (0, 0, tt, ap (λ o. what.Look (unit_no (or_zero o))) (sym m.1))
named W Z S s (what.Call u k n) other m = absurd other
named W Z S s (what.Step u k c) other m = subst (Named W Z S s (what.Step u k c)) (sym m.0) (0, 0, tt, step-is W S s u k c m.2 m.3 ∙ ap (step_event W S s) (sym m.1))
named W Z S s (what.Put u p) other m =
    subst (Named W Z S s (what.Put u p)) (sym m.0) (0, 0, tt, ap (λ h. what.Put u (pool_no h)) (sym m.2) ∙ ap (put_event S) (sym m.1))
named W Z S s (what.End u c) other m = subst (Named W Z S s (what.End u c)) (sym m.0) (0, 0, tt, ap (λ o. what.End (unit_no (or_zero o)) c) (sym m.1))
named W Z S s (what.Enter u) other m = subst (Named W Z S s (what.Enter u)) (sym m.0) (0, 0, tt, ap (λ o. what.Enter (unit_no (or_zero o))) (sym m.1))
named W Z S s (what.Leave u) other m = subst (Named W Z S s (what.Leave u)) (sym m.0) (0, u.0, m.1, refl)

-- Two of them.

framed-is : (W : Parts) (Z : Stored) (S : State) (s u v d : ℕ) → Sound W Z S → S.place u ≡ place.Frame (stream_no s) d → S.place v ≡ place.Frame (stream_no s) d → u ≡ v
framed-is W Z S s u v d sound a b = sound.one_each (InFrames s) u v d (ap (ticket_in (InFrames s)) a ∙ same-self s d) (ap (ticket_in (InFrames s)) b ∙ same-self s d)

-- two rounds visit one pool if it is said that they do
abbrev SamePool : ℕ → ℕ → Due → Type 0
SamePool p q RoundDue = p ≡ q
SamePool p q _ = Unit {0}

one-event : (W : Parts) (Z : Stored) (S : State) (s p q u v : ℕ) (d : Due) → Sound W Z S → FitsDue W Z S s p u d → FitsDue W Z S s q v d → SamePool p q d → event_at W S s p u d ≡ event_at W S s q v d
one-event W Z S s p q u v PutDue sound a b e = refl
one-event W Z S s p q u v LookDue sound a b e = refl
one-event W Z S s p q u v (EndDue c) sound a b e = refl
one-event W Z S s p q u v EnterDue sound a b e = refl
one-event W Z S s p q u v StepDue sound a b e = refl
one-event W Z S s p q u v LeaveDue sound a b e = ap (λ n. what.Leave (unit_no n)) (framed-is W Z S s u v _ sound a b)
one-event W Z S s p q u v RoundDue sound a b e = ap (λ n. round_event n (front W S s n)) e

pool-of-order : (W : Parts) (Z : Stored) (S : State) (s p q u v : ℕ) (d : Due) → HasNoFreeOrder W Z → FitsDue W Z S s p u d → FitsDue W Z S s q v d → SamePool p q d
pool-of-order W Z S s p q u v RoundDue bound a b = next-pool-is W Z (S.stream s).top p q bound a b
pool-of-order W Z S s p q u v PutDue bound a b = tt
pool-of-order W Z S s p q u v LookDue bound a b = tt
pool-of-order W Z S s p q u v (EndDue c) bound a b = tt
pool-of-order W Z S s p q u v EnterDue bound a b = tt
pool-of-order W Z S s p q u v StepDue bound a b = tt
pool-of-order W Z S s p q u v LeaveDue bound a b = tt

visited-round : (p : ℕ) (o : Option ℕ) → visited (round_event p o) ≡ Some p
visited-round p None = refl
visited-round p (Some u) = refl

pool-of-visit : (W : Parts) (S : State) (s p q u v : ℕ) (d : Due) → visited (event_at W S s p u d) ≡ visited (event_at W S s q v d) → SamePool p q d
pool-of-visit W S s p q u v RoundDue e = some-injective (sym (visited-round p (front W S s p)) ∙ (e ∙ visited-round q (front W S s q)))
pool-of-visit W S s p q u v PutDue e = tt
pool-of-visit W S s p q u v LookDue e = tt
pool-of-visit W S s p q u v (EndDue c) e = tt
pool-of-visit W S s p q u v EnterDue e = tt
pool-of-visit W S s p q u v StepDue e = tt
pool-of-visit W S s p q u v LeaveDue e = tt

-- Calls.

one-value : (o : Option ℕ) (n m : ℕ) → (k : ℕ) × (o ≡ Some k) → IsReturned o n → IsReturned o m → n ≡ m
one-value (Some k) n m some a b = a ∙ sym b
one-value None n m some a b = absurd (none≢some some.1)

one-return : (Z : Stored) (o : Option Op) (u : ℕ) (c : Carried) (n m : ℕ) → ((f : ℕ) → o ≡ Some (op.Call f) → (k : ℕ) × (Z.returns f u c.acc c.keys ≡ Some k)) → Returns Z o u c n →
    Returns Z o u c m → n ≡ m
one-return Z (Some (op.Call f)) u c n m some a b = one-value (Z.returns f u c.acc c.keys) n m (some f refl) a b
one-return Z None u c n m some a b = absurd a
one-return Z (Some o) u c n m some a b = absurd a

no-call : (Z : Stored) (o : Option Op) (u : ℕ) (c : Carried) (n : ℕ) → IsNoCall o → Returns Z o u c n → ⊥
no-call Z (Some (op.Call f)) u c n other h = other
no-call Z None u c n other h = h
no-call Z (Some o) u c n other h = h

-- two calls return one word
abbrev SameWord : What → What → Type 0
SameWord (what.Call u k n) (what.Call v j m) = n ≡ m
SameWord _ _ = Unit {0}

module _ (W : Parts) (Z : Stored) (S : State) (s : ℕ) where
  -- the operation of a call is that of any other step that may come
  calls-at : (u : UnitNo) (k n : ℕ) (v : UnitNo) (j : ℕ) → May W Z S s (what.Call u k n) → hand W S s ≡ Some v.0 → (S.carried v.0).position ≡ j → (u.0 ≡ v.0) × (k ≡ j) × Returns Z
      (op_at W v.0 j) v.0 (S.carried v.0) n
  calls-at u k n v j a held at =
      let units : u.0 ≡ v.0 = some-injective (sym a.1 ∙ held) in
      let places : k ≡ j = sym a.2 ∙ (ap (λ i. (S.carried i).position) units ∙ at) in
      (units, places, subst (λ (q : ℕ × ℕ). Returns Z (op_at W q.0 q.1) q.0 (S.carried q.0) n) (λ i. (units i, places i)) a.3)

  -- a call and another event that may come are one
  call-is : (u : UnitNo) (k n : ℕ) (w : What) → May W Z S s (what.Call u k n) → May W Z S s w → SameWord (what.Call u k n) w → what.Call u k n ≡ w
  call-is u k n (what.Call v j m) a b same =
      let here : (u.0 ≡ v.0) × (k ≡ j) × Returns Z (op_at W v.0 j) v.0 (S.carried v.0) n = calls-at u k n v j a b.1 b.2 in
      λ i. what.Call (unit_no (here.0 i)) (here.1 i) (same i)
  call-is u k n (what.Step v j c) a b same = absurd (no-call Z (op_at W v.0 j) v.0 (S.carried v.0) n b.4 (calls-at u k n v j a b.1 b.2).2)
  call-is u k n (what.Miss p) a b same = let e : StepDue ≡ RoundDue = sym a.0 ∙ b.0 in cc
  call-is u k n (what.Take p v) a b same = let e : StepDue ≡ RoundDue = sym a.0 ∙ b.0 in cc
  call-is u k n (what.Look v) a b same = let e : StepDue ≡ LookDue = sym a.0 ∙ b.0 in cc
  call-is u k n (what.Put v p) a b same = let e : StepDue ≡ PutDue = sym a.0 ∙ b.0 in cc
  call-is u k n (what.End v c) a b same = let e : StepDue ≡ EndDue c = sym a.0 ∙ b.0 in cc
  call-is u k n (what.Enter v) a b same = let e : StepDue ≡ EnterDue = sym a.0 ∙ b.0 in cc
  call-is u k n (what.Leave v) a b same = let e : StepDue ≡ LeaveDue = sym a.0 ∙ b.0 in cc

  -- two events that may come are one, if those are that are no calls, and calls return one word
  one-of : (w v : What) → May W Z S s w → May W Z S s v → SameWord w v → (IsOther w → IsOther v → w ≡ v) → w ≡ v
  one-of (what.Call u k n) v a b same rest = call-is u k n v a b same
  one-of w (what.Call u k n) a b same rest = sym (call-is u k n w b a tt)
  one-of w v a b same rest = rest tt tt

  -- calls of functions that are not free do
  free-word : HasNoFreeCall W Z → (w v : What) → May W Z S s w → May W Z S s v → SameWord w v
  free-word free (what.Call u k n) (what.Call v j m) a b =
      one-return Z (op_at W v.0 j) v.0 (S.carried v.0) n m (λ f is. free v.0 j f (S.carried v.0).acc (S.carried v.0).keys is) (calls-at u k n v j a b.1 b.2).2 b.3
  free-word free (what.Call u k n) v a b = tt
  free-word free w v a b = tt

  said-word : (w v : What) → returned w ≡ returned v → SameWord w v
  said-word (what.Call u k n) (what.Call v j m) e = some-injective e
  said-word (what.Call u k n) v e = tt
  said-word w v e = tt

pub one-next : (W : Parts) (Z : Stored) → OneNext W Z
one-next W Z bound S s w v sound m n = one-of W Z S s w v m n (free-word W Z S s bound.1 w v m n) (λ first second.
    let a : Named W Z S s w (due W S s) = named W Z S s w first m in
    let b : Named W Z S s v (due W S s) = named W Z S s v second n in
    let same : SamePool a.0 b.0 (due W S s) = pool-of-order W Z S s a.0 b.0 a.1 b.1 (due W S s) bound.0 a.2 b.2 in
    a.3 ∙ (one-event W Z S s a.0 b.0 a.1 b.1 (due W S s) sound a.2 b.2 same ∙ sym b.3))

pub one-at-each-pool : (W : Parts) (Z : Stored) → OneAtEachPool W Z
one-at-each-pool W Z S s w v sound m n e words = one-of W Z S s w v m n (said-word W Z S s w v words) (λ first second.
    let a : Named W Z S s w (due W S s) = named W Z S s w first m in
    let b : Named W Z S s v (due W S s) = named W Z S s v second n in
    let same : SamePool a.0 b.0 (due W S s) = pool-of-visit W S s a.0 b.0 a.1 b.1 (due W S s) (sym (ap visited a.3) ∙ (e ∙ ap visited b.3)) in
    a.3 ∙ (one-event W Z S s a.0 b.0 a.1 b.1 (due W S s) sound a.2 b.2 same ∙ sym b.3))
