-- One draw more.
use Rattle.std.proofs.Common.{◌≡◌, ◌∙◌, ℕ, suc, ◌<◌, ◌+◌, ◌-◌, ◌++◌, List, [], ap, arith, length, subst, sym}
use Rattle.std.specs.List.{remove}
use Rattle.std.proofs.lemmas.List.{get_or_read}
use Rattle.std.proofs.lemmas.List.Edits.{length-remove}
use Rattle.abt_machine.specs.Lives.{count_up}
use Rattle.abt_machine.specs.Rounds.{generator_at}
use Rattle.rand_pcg.specs.Lcg.{Lcg}
use Rattle.rand_pcg.specs.Pcg.{pcg32}
use Rattle.abt_schedule.specs.Drawing.{drawn, drawn_place}
use Rattle.abt_schedule.proofs.Drawn.{count-long, draw-on}
use Rattle.abt_schedule.proofs.drawing.draw.Goals as goal

pub loop-init : goal.loop-init
loop-init c =
    let n = c.args.streams in
    let words : Lcg = c.args.words.now in
    let none : c.in_ok-order.order.items ≡ [] = c.in_ok-order.ensures.items in
    let numbers : c.in_ok-left.left.items ≡ count_up n = c.in_ok-left.ensures in
    let all : n - 0 ≡ n = omega arith in
    record {
      order = ap (λ (xs : List ℕ). xs ++ drawn (n - 0) words c.in_ok-left.left.items) none ∙ (ap (λ k. drawn k words c.in_ok-left.left.items) all ∙ ap (λ xs. drawn n words xs) numbers);
      long = ap (λ (xs : List ℕ). length xs) numbers ∙ (count-long n ∙ sym all);
      words = λ seed g m is. is ∙ ap (generator_at seed g) (let e : m ≡ m + 0 = omega arith in e);
    }

pub loop-preserved : goal.loop-preserved
loop-preserved c =
    let n = c.args.streams in
    let i = c.loop.counter in
    let left : List ℕ = c.loop.left.items in
    let words : Lcg = c.loop.words in
    let below : i < n = c.loop-test.true in
    let more : n - i ≡ suc (n - (i + 1)) = omega arith in
    let place : c.place-k.result ≡ drawn_place words left = subst (λ xs. c.place-k.result ≡ drawn_place words xs) c.as_slice.ensures.value c.place-k.ensures.place in
    let within : c.place-k.result < length left = subst (λ (xs : List ℕ). c.place-k.result < length xs) c.as_slice.ensures.value c.place-k.ensures.within in
    let less : length (remove left c.place-k.result) + 1 ≡ length left = length-remove left c.place-k.result within in
    let rest : length c.remove.new.self.items ≡ length (remove left c.place-k.result) = ap (λ (xs : List ℕ). length xs) c.remove.ensures.items in
    let long : length left ≡ n - i = c.loop.invariant.long in
    record {
      order = draw-on (n - i) (n - (i + 1)) c.place-k.result c.remove.result words c.place-k.new.words left c.remove.new.self.items c.loop.order.items c.push.new.self.items
          (drawn n c.args.words.now (count_up n)) more place c.place-k.ensures.words (get_or_read left c.place-k.result c.remove.result within c.remove.ensures.value 0) c.remove.ensures.items c.in_ok-push.ensures.items c.loop.invariant.order;
      long = omega arith;
      words = λ seed g m is. c.place-k.ensures.words ∙ (ap (λ (ws : Lcg). (pcg32 ws).1) (c.loop.invariant.words seed g m is) ∙ ap (generator_at seed g) (let e : suc (m + i) ≡ m + (i + 1) = omega arith in e));
    }
