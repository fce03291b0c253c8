-- A run is taken from what is left of a log.
use Rattle.std.proofs.Common.{◌≡◌, ◌≢◌, ℕ, ◌+◌, ◌<◌, ◌≤◌, List, [], ◌∷◌, ◌++◌, Option, Some, None, length, set, refl, sym, ◌∙◌, ap, subst, inl, inr, arith}
use Rattle.std.specs.List.{All, Contains}
use Rattle.std.proofs.lemmas.Bool.{cases_lt, cases_eq}
use Rattle.std.proofs.lemmas.List.{append_assoc, append-nil, get_or_past, length-append, get_or-set_same, get_or-set_other, length-set}
use Rattle.std.proofs.lemmas.List.Elements.{All-head, All-tail, All-contains, Contains-get_or, Contains-append_right}
use Rattle.std.proofs.lemmas.List.Sums.{sum_by-set}
use Rattle.abt_machine.specs.declared.events.Event.{Event}
use Rattle.abt_interleave.specs.Logs.{IsSooner}
use Rattle.abt_interleave.specs.Merges.{IsMerging, of_stream}
use Rattle.abt_interleave.proofs.HalfMerged.{merging-goes-on}
use Rattle.abt_interleave.proofs.OneList.{item-then}
use Rattle.abt_merge.specs.Heads.{head_of, IsAhead, FirstBut}
use Rattle.abt_merge.specs.Logs.{AreLogs, count_events, log_of}
use Rattle.abt_merge.specs.Runs.{IsLast, IsRun, BeginsBeyond}

-- what is left of each log comes behind the journal so far
abbrev pub Merging : List (List Event) → List (List Event) → List Event → Type 0
Merging logs rests J = IsMerging (λ e. e.stamp) (λ e. e.stream.0) (log_of logs) (log_of rests) J

-- a log that begins with an event is of a stream
within-logs : (rests : List (List Event)) (r : ℕ) (f : Event) (fs : List Event) → log_of rests r ≡ f ∷ fs → r < length rests
within-logs rests r f fs q = elim (cases_lt r (length rests)) [ inl l ↦ l | inr l ↦ let e : log_of rests r ≡ [] = get_or_past rests r [] l in cc ]

-- what is left of a log is of its stream
of-own : (logs rests : List (List Event)) (J : List Event) → AreLogs logs → Merging logs rests J → (r : ℕ) (f : Event) (fs : List Event) → log_of rests r ≡ f ∷ fs → f.stream.0 ≡ r
of-own logs rests J are way r f fs q =
    let first : Contains (f ∷ fs) f = Contains-get_or (f ∷ fs) 0 f (omega arith) in
    let left : Contains (log_of rests r) f = subst (λ es. Contains es f) (sym q) first in
    let all : Contains (log_of logs r) f = subst (λ es. Contains es f) (way.each r) (Contains-append_right (of_stream (λ e. e.stream.0) r J) (log_of rests r) f left) in
    All-contains (λ e. e.stream.0 ≡ r) (log_of logs r) f (are r).1 all

-- an event before the bound comes before all that the bound comes before
ahead-then : (first bound : ℕ × ℕ) (head : Option (ℕ × ℕ)) → IsAhead first (Some bound) → IsAhead bound head → IsAhead first head
ahead-then first bound None h k = tt
ahead-then first bound (Some other) h k = item-then {E = ℕ × ℕ} (λ e. e.0) (λ e. e.1) first bound other h k

-- and so before what is left of all other streams
before-others : (rests : List (List Event)) (s : ℕ) (bound : Option (ℕ × ℕ)) (t r : ℕ) → FirstBut rests s bound → IsAhead (t, s) bound → r < length rests → s ≢ r →
    IsAhead (t, s) (head_of r (log_of rests r))
before-others rests s None t r f h l ne = subst (IsAhead (t, s)) (sym (f r l (λ q. ne (sym q)))) tt
before-others rests s (Some bound) t r f h l ne = elim (cases_eq bound.1 r) [
  | inl q ↦ subst (λ i. IsAhead (t, s) (head_of i (log_of rests i))) q (subst (IsAhead (t, s)) (sym f.head) h)
  | inr other ↦ ahead-then (t, s) bound (head_of r (log_of rests r)) h (f.ahead r l (λ q. ne (sym q)) (λ q. other (sym q)))
]

module _ (logs rests : List (List Event)) (are : AreLogs logs) (s : ℕ) (in-rests : s < length rests) (bound : Option (ℕ × ℕ)) (others : FirstBut rests s bound) where
  -- the logs of other streams stay
  else-same : (es : List Event) (r : ℕ) → s ≢ r → log_of (set rests s es) r ≡ log_of rests r
  else-same es r ne = get_or-set_other rests s r es [] (λ q. ne (sym q))

  -- one event of the run
  one-goes-on : (e : Event) (es J : List Event) → IsAhead (e.stamp, s) bound → Merging logs (set rests s (e ∷ es)) J → Merging logs (set rests s es) (J ++ e ∷ [])
  one-goes-on e es J h way =
      let here : log_of (set rests s (e ∷ es)) s ≡ e ∷ es = get_or-set_same rests s (e ∷ es) [] in-rests in
      merging-goes-on Event (λ d. d.stamp) (λ d. d.stream.0) (log_of logs) (log_of (set rests s (e ∷ es))) (log_of (set rests s es)) J s e are way
      (here ∙ ap (λ ds. e ∷ ds) (sym (get_or-set_same rests s es [] in-rests)))
      (λ r ne. else-same es r ne ∙ sym (else-same (e ∷ es) r ne))
      (λ r f fs ne q.
      let left : log_of rests r ≡ f ∷ fs = sym (else-same (e ∷ es) r ne) ∙ q in
      let own : e.stream.0 ≡ s = of-own logs (set rests s (e ∷ es)) J are way s e es here in
      let other : f.stream.0 ≡ r = of-own logs (set rests s (e ∷ es)) J are way r f fs q in
      let ahead : IsAhead (e.stamp, s) (head_of r (log_of rests r)) = before-others rests s bound e.stamp r others h (within-logs rests r f fs left) ne in
      let sooner : IsSooner e.stamp s f.stamp r = subst (λ ds. IsAhead (e.stamp, s) (head_of r ds)) left ahead in
      subst (λ i. IsSooner e.stamp i f.stamp f.stream.0) (sym own) (subst (IsSooner e.stamp s f.stamp) (sym other) sooner))

  -- and all of it
  pub run-goes-on : (run left J : List Event) → All (λ e. IsAhead (e.stamp, s) bound) run → Merging logs (set rests s (run ++ left)) J → Merging logs (set rests s left) (J ++ run)
  run-goes-on [] left J h way = subst (Merging logs (set rests s left)) (sym (append-nil J)) way
  run-goes-on (e ∷ run) left J h way =
      let next : Merging logs (set rests s (run ++ left)) (J ++ e ∷ []) = one-goes-on e (run ++ left) J (All-head (λ d. IsAhead (d.stamp, s) bound) e run h) way in
      subst (Merging logs (set rests s left)) (append_assoc J (e ∷ []) run) (run-goes-on run left (J ++ e ∷ []) (All-tail (λ d. IsAhead (d.stamp, s) bound) e run h) next)

-- What is left of the log begins behind the bound.

-- without a bound nothing is left of it
none-left : (first : ℕ × ℕ) (last : ℕ) (left : List Event) → IsLast first None last → BeginsBeyond last left → head_of first.1 left ≡ None
none-left first last [] k h = refl
none-left first last (e ∷ es) k h = absurd (k.past e.stamp h.0 h.1)

-- else the bound comes before what is left of it
behind-left : (first bound : ℕ × ℕ) (last : ℕ) (left : List Event) → IsLast first (Some bound) last → BeginsBeyond last left → IsAhead bound (head_of first.1 left)
behind-left first bound last [] k h = tt
behind-left first bound last (e ∷ es) k h = k.past e.stamp h.0 h.1

-- so the bound comes first of all then
pub bound-first : (rests : List (List Event)) (first : ℕ × ℕ) (bound : Option (ℕ × ℕ)) (last : ℕ) (left : List Event) → first.1 < length rests → FirstBut rests first.1 bound →
    IsLast first bound last → BeginsBeyond last left → FirstBut (set rests first.1 left) (length (set rests first.1 left)) bound
bound-first rests first None last left w f k h = λ r l _. elim (cases_eq first.1 r) [
  | inl q ↦ subst (λ i. head_of i (log_of (set rests first.1 left) i) ≡ None) q (ap (head_of first.1) (get_or-set_same rests first.1 left [] w) ∙ none-left first last left k h)
  | inr ne ↦ ap (head_of r) (get_or-set_other rests first.1 r left [] (λ q. ne (sym q))) ∙ f r (omega (arith, length-set rests first.1 left)) (λ q. ne (sym q))
]
bound-first rests first (Some bound) last left w f k h = record {
  within = let l : bound.1 < length rests = f.within in omega (arith, length-set rests first.1 left);
  other = λ q. let l : bound.1 < length rests = f.within in omega (arith, length-set rests first.1 left);
  head = ap (head_of bound.1) (get_or-set_other rests first.1 bound.1 left [] f.other) ∙ f.head;
  ahead = λ r l _ nb. elim (cases_eq first.1 r) [
    | inl q ↦ subst (λ i. IsAhead bound (head_of i (log_of (set rests first.1 left) i))) q
        (subst (λ es. IsAhead bound (head_of first.1 es)) (sym (get_or-set_same rests first.1 left [] w)) (behind-left first bound last left k h))
    | inr ne ↦ subst (λ es. IsAhead bound (head_of r es)) (sym (get_or-set_other rests first.1 r left [] (λ q. ne (sym q))))
        (f.ahead r (omega (arith, length-set rests first.1 left)) (λ q. ne (sym q)) nb)
  ];
}

-- How many events are left.

-- a run has at least the event that comes first
pub takes-some : (first : ℕ × ℕ) (last : ℕ) (log run left : List Event) → IsRun last log run left → head_of first.1 log ≡ Some first → first.0 ≤ last → 0 < length run
takes-some first last log (e ∷ run) left r q l = omega arith
takes-some first last log [] [] r q l = let w : log ≡ [] = r.whole in let n : head_of first.1 log ≡ None = ap (head_of first.1) w in cc
takes-some first last log [] (e ∷ es) r q l =
    let w : log ≡ e ∷ es = r.whole in
    let n : head_of first.1 log ≡ Some (e.stamp, first.1) = ap (head_of first.1) w in
    let t : first.0 ≡ e.stamp = cc in
    let b : last < e.stamp = r.beyond.0 in
    omega arith

-- those of the run are not left
pub counts : (rests : List (List Event)) (s last : ℕ) (run left : List Event) → s < length rests → IsRun last (log_of rests s) run left →
    count_events (set rests s left) + length run ≡ count_events rests
counts rests s last run left l r = omega (arith, sum_by-set length rests s left [] l, ap length r.whole ∙ length-append run left)
