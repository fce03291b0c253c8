-- One lock more is made.
use Rattle.std.proofs.Common.{◌≡◌, ◌+◌, ◌++◌, [], ◌∷◌, map, reverse, length, sym, ◌∙◌, ap, subst, arith, length-append}
use Rattle.std.specs.List.{All}
use Rattle.std.proofs.lemmas.List.{map-append}
use Rattle.std.proofs.lemmas.List.Elements.{All-nil, All-cons, All-append}
use Rattle.abt_booth.specs.Seats.{opening_of, seats_of}
use Rattle.abt_commons.specs.Locking.{AreDealt}
use Rattle.abt_commons.proofs.Dealing.{SiteBooth, dealt-more, one-locked}
use Rattle.abt_commons.proofs.locking.lock_all.Goals as goal

pub loop-one-preserved : goal.loop-one-preserved
loop-one-preserved c =
    let inv = c.loop-one.invariant in
    let n = c.args.streams in
    let booth : SiteBooth = c.in-Ok.booth in
    let booths = c.loop-one.booths.items in
    let room = c.pop.new.self.items in
    let one = c.in-Some.one in
    let locked : c.push_reserved.new.self.items ≡ booths ++ booth ∷ [] = c.push_reserved.ensures.items in
    let popped : c.loop-one.room.items ≡ room ++ one ∷ [] = c.in-Some.ensures.items in
    let fewer : length c.loop-one.room.items ≡ length room + 1 = ap length popped ∙ length-append room (one ∷ []) in
    let more : length c.push_reserved.new.self.items ≡ length booths + 1 = ap length locked ∙ length-append booths (booth ∷ []) in
    let objects : map opening_of (booths ++ booth ∷ []) ++ reverse room ≡ map opening_of booths ++ reverse c.loop-one.room.items =
    ap (λ os. os ++ reverse room) (map-append opening_of booths (booth ∷ []) ∙ ap (λ o. map opening_of booths ++ o ∷ []) c.in-Ok.ensures.booth.0)
    ∙ (one-locked (map opening_of booths) room one ∙ ap (λ xs. map opening_of booths ++ reverse xs) (sym popped)) in
    record {
      dealt = subst (λ bs. AreDealt bs (length room) n c.deal.new.passes) (sym locked)
          (dealt-more booths booth (length room) n c.loop-one.passes c.deal.new.passes (subst (λ k. AreDealt booths k n c.loop-one.passes) fewer inv.dealt) c.deal.ensures);
      seated = subst (λ bs. All (λ (b : SiteBooth). seats_of b ≡ n) bs) (sym locked)
          (All-append (λ (b : SiteBooth). seats_of b ≡ n) booths (booth ∷ []) inv.seated (All-cons (λ (b : SiteBooth). seats_of b ≡ n) booth [] c.in-Ok.ensures.booth.1 (All-nil (λ (b : SiteBooth). seats_of b ≡ n))));
      objects = ap (λ bs. map opening_of bs ++ reverse room) locked ∙ (objects ∙ inv.objects);
      room = c.in-Some.ensures.capacity ∙ inv.room;
      place = (let old = inv.place in let same = c.push_reserved.ensures.capacity in omega (arith, old, fewer, more, same));
    }
