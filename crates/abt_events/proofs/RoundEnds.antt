-- How rounds end.
use Rattle.std.proofs.Common.{◌≡◌, ℕ, suc, ◌+◌, List, [], ◌∷◌, ◌++◌, length, sym, ◌∙◌, ap, subst, arith, length-append}
use Rattle.std.specs.Prelude.{◌==◌}
use Rattle.std.proofs.lemmas.Bool.{cond-false, cond-true, eq-eqb, ne_eqb}
use Rattle.std.proofs.lemmas.List.{append-nil}
use Rattle.std.proofs.lemmas.List.Sorted.{length_permutation}
use Rattle.abt_machine.specs.declared.events.What.{What}
use Rattle.abt_machine.specs.declared.events.What.TheVariants as what
use Rattle.abt_machine.specs.Stored.{Stored}
use Rattle.abt_machine.specs.declared.workload.Parts.{Parts}
use Rattle.abt_machine.specs.Events.{May, after}
use Rattle.abt_machine.specs.Frames.{frame_missed, round_missed, round_taken}
use Rattle.abt_machine.specs.Rounds.{IsNextPool}
use Rattle.abt_machine.specs.State.{Frame, State, Stream}
use Rattle.abt_machine.specs.Workloads.{pools_of}
use Rattle.abt_laws.proofs.Maps.{put_at-same}
use Rattle.abt_laws.proofs.Orders.{order-permutes}
use Rattle.abt_events.specs.Rounds.{IsWholeRound, MissesEndRounds, TakesEndRounds, after_empty_round, having_seen}

-- a list that is as long as its prefix is its prefix
nothing-left : (ps rest order : List ℕ) → ps ++ rest ≡ order → length order ≡ length ps → ps ≡ order
nothing-left ps [] order e long = sym (append-nil ps) ∙ e
nothing-left ps (q ∷ rest) order e long =
    let all : length (ps ++ q ∷ rest) ≡ length ps + suc (length rest) = length-append ps (q ∷ rest) in
    let same : length (ps ++ q ∷ rest) ≡ length order = ap length e in absurd (omega arith)

module _ (W : Parts) (Z : Stored) (f : Frame) (p : ℕ) where
  -- a whole round visits all pools
  visits-all : IsWholeRound W Z f (f.seen ++ p ∷ []) → length (pools_of W f.sched) ≡ suc (length f.seen)
  visits-all is =
      let all : length (f.seen ++ p ∷ []) ≡ length (pools_of W f.sched) = length_permutation (pools_of W f.sched) (f.seen ++ p ∷ []) (order-permutes W Z f.sched f.round (f.seen ++ p ∷ []) is) in
      let more : length (f.seen ++ p ∷ []) ≡ length f.seen + 1 = length-append f.seen (p ∷ []) in omega arith

  -- and if all are visited the round is whole
  is-whole : IsNextPool W Z.orders f p → length (pools_of W f.sched) ≡ suc (length f.seen) → IsWholeRound W Z f (f.seen ++ p ∷ [])
  is-whole next all =
      let long : length next.0 ≡ length (pools_of W f.sched) = length_permutation (pools_of W f.sched) next.0 (order-permutes W Z f.sched f.round next.0 next.1) in
      let more : length (f.seen ++ p ∷ []) ≡ length f.seen + 1 = length-append f.seen (p ∷ []) in
      let same : length next.0 ≡ length (f.seen ++ p ∷ []) = omega arith in
      subst (IsWholeRound W Z f) (sym (nothing-left (f.seen ++ p ∷ []) next.2.0 next.0 next.2.1 same)) next.1

  missed-last : IsWholeRound W Z f (f.seen ++ p ∷ []) → frame_missed W f p ≡ after_empty_round f
  missed-last is = cond-true (length (pools_of W f.sched) == suc (length f.seen)) _ _ (eq-eqb (length (pools_of W f.sched)) (suc (length f.seen)) (visits-all is))

  missed-other : IsNextPool W Z.orders f p → (IsWholeRound W Z f (f.seen ++ p ∷ []) → ⊥) → frame_missed W f p ≡ having_seen (f.seen ++ p ∷ []) f
  missed-other next goes_on = cond-false (length (pools_of W f.sched) == suc (length f.seen)) _ _ (ne_eqb (length (pools_of W f.sched)) (suc (length f.seen)) (λ all. goes_on (is-whole next all)))

-- the frame on top of stream s after an event
top-after : (W : Parts) (S T : State) (s : ℕ) (w v : What) (own : Stream) → T ≡ after W S s w → w ≡ v → (after W S s v).stream s ≡ own → (T.stream s).top ≡ own.top
top-after W S T s w v own leads is has = ap (λ (U : State). (U.stream s).top) leads ∙ (ap (λ x. ((after W S s x).stream s).top) is ∙ ap (λ (r : Stream). r.top) has)

pub takes-end-rounds : (W : Parts) (Z : Stored) → TakesEndRounds W Z
takes-end-rounds W Z S T e p u comes is =
    let s : ℕ = e.stream.0 in
    top-after W S T s e.what (what.Take p u) (round_taken (S.stream s)) comes.2 is (put_at-same S.stream s (round_taken (S.stream s)))

pub misses-end-rounds : (W : Parts) (Z : Stored) → MissesEndRounds W Z
misses-end-rounds W Z S T e p comes is =
    let s : ℕ = e.stream.0 in
    let f : Frame = (S.stream s).top in
    let may : May W Z S s (what.Miss p) = subst (May W Z S s) is comes.1 in
    let top : (T.stream s).top ≡ frame_missed W f p.0 = top-after W S T s e.what (what.Miss p) (round_missed W p.0 (S.stream s)) comes.2 is (put_at-same S.stream s (round_missed W p.0 (S.stream s))) in
    ((λ whole. top ∙ missed-last W Z f p.0 whole), (λ goes_on. top ∙ missed-other W Z f p.0 may.2 goes_on))
