use Rattle.std.proofs.Common.{ℕ, List, ◌<◌, ◌+◌, length, subst, sym, arith, rules}
use Rattle.std.specs.Prelude.{IsPermutation}
use Rattle.std.specs.List.{range_with_len}
use Rattle.std.proofs.lemmas.List.Elements.{All-take, All-drop}
use Rattle.std.proofs.lemmas.List.Sorted.{IsPermutation-refl, IsPermutation-trans}
use Rattle.abt_order.specs.Places.{HasNearestAnswer}
use Rattle.abt_order.specs.Stored.{answers_of}
use Rattle.abt_order.proofs.places.arrange.Goals as goal
use Rattle.abt_order.proofs.ChosenPlaces.{exchanged-answered, exchanged-fits, fits-below, nearest-left, places-below}

pub loop-i-init : goal.loop-i-init
loop-i-init g c = record {
  count = search rules;
  permuted = subst (λ (ps : List ℕ). IsPermutation ps c.args.places.now) c.requires.each (IsPermutation-refl c.args.places.now);
  fit = λ k l. absurd (omega arith);
  asked = λ k l. absurd (omega arith);
}

pub loop-i-preserved : goal.loop-i-preserved
loop-i-preserved g c =
    let kept = c.loop-i.invariant in
    let n : ℕ = length c.args.places.now in
    let inside : c.nearest.result + c.loop-i.i < length c.loop-i.places = omega (arith, c.nearest.ensures.among) in
    record {
      count = omega arith;
      permuted = IsPermutation-trans (range_with_len 0 n) c.loop-i.places c.swap.new.self kept.permuted c.swap.ensures.permutation;
      fit = exchanged-fits c.args.order.now.shape c.args.round n c.loop-i.i (c.loop-i.i + c.nearest.result) c.answer-answer.result c.loop-i.places c.swap.new.self (omega arith) (omega arith) kept.count kept.permuted c.swap.ensures.by_index kept.fit c.answer-answer.ensures.fits (nearest-left n c.loop-i.places c.loop-i.i c.nearest.result c.answer-answer.result c.nearest.ensures.nearest);
      asked = exchanged-answered (answers_of c.args.order.now c.args.round) n c.loop-i.i (c.loop-i.i + c.nearest.result) c.answer-answer.result c.loop-i.places c.swap.new.self (omega arith) (omega arith) (omega arith) c.swap.ensures.by_index kept.asked c.answer-answer.ensures.asked (nearest-left n c.loop-i.places c.loop-i.i c.nearest.result c.answer-answer.result c.nearest.ensures.nearest);
    }

pub nearest-requires-clause-answer : goal.nearest-requires-clause-answer
nearest-requires-clause-answer g c = fits-below c.args.order.now.shape c.args.round (length c.args.places.now) c.loop-i.i c.answer-answer.result (omega arith) c.answer-answer.ensures.fits

pub nearest-requires-clause-left : goal.nearest-requires-clause-left
nearest-requires-clause-left g c =
    let P : ℕ → Type 0 = λ p. p < length c.args.places.now in
    All-take P _ _ (All-drop P c.loop-i.i c.loop-i.places (places-below (length c.args.places.now) c.loop-i.places c.loop-i.invariant.permuted))

pub returns-clause-permutes : goal.returns-clause-permutes
returns-clause-permutes g c = subst (λ (ps : List ℕ). IsPermutation ps c.loop-i.places) (sym c.requires.each) c.loop-i.invariant.permuted

pub returns-clause-asked : goal.returns-clause-asked
returns-clause-asked g c i l =
    subst (λ (n : ℕ). HasNearestAnswer (answers_of c.args.order.now c.args.round) n c.loop-i.places i) (sym c.loop-i.invariant.count) (c.loop-i.invariant.asked i (omega arith))
