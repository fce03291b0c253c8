-- One lock more is closed.
use Rattle.std.proofs.Common.{◌≡◌, ◌+◌, ◌++◌, [], ◌∷◌, max, set, reverse, length, get_or, refl, sym, ◌∙◌, ap, subst, arith, length-append, append_assoc}
use Rattle.std.proofs.lemmas.List.{append-nil, reverse-append}
use Rattle.abt_commons.specs.Closing.{WereClosed}
use Rattle.abt_commons.proofs.Closings.{Remain, closed-more, ends-as, none-ended, remain-all, remain-less, same-count}
use Rattle.abt_commons.proofs.unlocking.unlock_all.Goals as goal

pub loop-booth-init : goal.loop-booth-init
loop-booth-init c = record {
  gone = [];
  split = sym (append-nil c.args.booths.items);
  objects = [];
  ended = none-ended c.args.booths.items c.args.passes.now c.args.clocks.now;
  put = sym (append-nil c.args.room.now.items);
  remain = remain-all c.args.booths.items c.args.passes.now c.requires.turns;
  place = c.requires.room;
}

pub closed-object-requires-clause-count : goal.closed-object-requires-clause-count
closed-object-requires-clause-count c =
    let inv = c.loop-booth.invariant in
    let split = inv.split ∙ ap (λ xs. xs ++ inv.gone) c.in-Some.ensures.items in
    same-count c.args.booths.items c.pop.new.self.items inv.gone c.in-Some.booth (length c.args.passes.now) split c.requires.seated ∙ sym inv.remain.many

pub closed-object-requires-clause-turns : goal.closed-object-requires-clause-turns
closed-object-requires-clause-turns c =
    let inv = c.loop-booth.invariant in
    let left = c.pop.new.self.items in
    let split = inv.split ∙ ap (λ xs. xs ++ inv.gone) c.in-Some.ensures.items in
    let fewer : length c.loop-booth.booths.items ≡ length left + 1 = ap length c.in-Some.ensures.items ∙ length-append left (c.in-Some.booth ∷ []) in
    ends-as c.args.booths.items c.args.passes.now c.requires.turns left inv.gone c.in-Some.booth split c.loop-booth.passes (subst (λ n. Remain n c.args.passes.now c.loop-booth.passes) fewer inv.remain)

pub loop-booth-preserved : goal.loop-booth-preserved
loop-booth-preserved c =
    let inv = c.loop-booth.invariant in
    let booths = c.args.booths.items in
    let passes = c.args.passes.now in
    let left = c.pop.new.self.items in
    let booth = c.in-Some.booth in
    let object = c.closed-object.result.object in
    let split = inv.split ∙ ap (λ xs. xs ++ inv.gone) c.in-Some.ensures.items in
    let fewer : length c.loop-booth.booths.items ≡ length left + 1 = ap length c.in-Some.ensures.items ∙ length-append left (booth ∷ []) in
    let remain = subst (λ n. Remain n passes c.loop-booth.passes) fewer inv.remain in
    let ended = subst (λ n. WereClosed booths passes c.args.clocks.now n inv.objects c.loop-booth.clocks) fewer inv.ended in
    let count = same-count booths left inv.gone booth (length passes) split c.requires.seated in
    let at : c.len.result ≡ length left = omega (arith, c.len.ensures, c.pop.new.self.ok.0) in
    let raised = max (get_or c.loop-booth.clocks (length left) 0) c.closed-object.result.clock in
    let clocks : c.raise.new.clocks ≡ set c.loop-booth.clocks (length left) raised =
    c.raise.ensures ∙ ap (λ n. set c.loop-booth.clocks n (max (get_or c.loop-booth.clocks n 0) c.closed-object.result.clock)) at in
    record {
      gone = booth ∷ inv.gone;
      split = split ∙ append_assoc left (booth ∷ []) inv.gone;
      objects = object ∷ inv.objects;
      ended = subst (λ cs. WereClosed booths passes c.args.clocks.now (length left) (object ∷ inv.objects) cs) (sym clocks)
          (closed-more booths passes c.requires.turns left inv.gone booth split c.loop-booth.passes remain c.closed-object.new.passes object c.closed-object.result.clock c.closed-object.ensures
          c.args.clocks.now inv.objects c.loop-booth.clocks ended c.requires.clocks c.requires.some count raised refl);
      put = c.push_reserved.ensures.items ∙ (ap (λ xs. xs ++ object ∷ []) inv.put ∙ (append_assoc c.args.room.now.items (reverse inv.objects) (object ∷ []) ∙ ap (λ xs. c.args.room.now.items ++ xs) (sym (reverse-append (object ∷ []) inv.objects))));
      remain = remain-less booths passes c.requires.turns left inv.gone booth split c.loop-booth.passes remain c.closed-object.new.passes object c.closed-object.result.clock c.closed-object.ensures;
      place =
          (let more : length c.push_reserved.new.self.items ≡ length c.loop-booth.room.items + 1 = ap length c.push_reserved.ensures.items ∙ length-append c.loop-booth.room.items (object ∷ []) in
          let old = inv.place in
          let same = c.push_reserved.ensures.capacity in
          omega (arith, more, old, same, fewer));
    }
