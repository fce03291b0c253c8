use Rattle.std.proofs.Common.{rules, ◌≡◌, ◌≤◌, ◌+◌, ◌∙◌, ◌++◌, List, [], ◌∷◌, ap, subst, sym}
use Rattle.abt_booth.specs.Seats.{number_of, seen_of, IsSeatOf}
use Rattle.booth_caller.specs.Calling.{AsksMore}
use Rattle.booth_caller.proofs.Calling.{asks-more}
use Rattle.abt_callbacks.specs.declared.acts.FutureAct.{FutureAct}
use Rattle.abt_callbacks.specs.declared.acts.FutureAct.TheVariants.{Set}
use Rattle.abt_callbacks.specs.Futures.{Does}
use Rattle.abt_callbacks.specs.Runs.{sets_of}
use Rattle.abt_callbacks.specs.Seen.{future_of}
use Rattle.abt_callbacks.proofs.Numbers.{sets-hit, sets-miss}
use Rattle.abt_callbacks.proofs.folding.set_numbers.Goals as goal
use Rattle.abt_callbacks.proofs.folding.set_numbers.Goals.{then-value-workers, else-value-workers}

pub loop-below-preserved : goal.loop-below-preserved
loop-below-preserved g c =
    let first = c.args.seat.now in
    let i = c.loop-below.invariant in
    let n = c.loop-below.below in
    let more = sets_of c.args.workers n c.args.worker in
    let A : List FutureAct → Type 0 = λ l. AsksMore (number_of first) l (seen_of first) (seen_of c.if-value-workers.seat) in
    let lt : n + 1 ≤ c.args.n = search rules in
    elim c.if-value-workers.branch [
      | then-value-workers w ↦
          let hit = w.if-value-workers.true in
          let asked = asks-more (λ old act answer new. Does g.F.Fold.shape g.F.Fold.may_return (future_of old) act answer (future_of new)) c.args.booth.now c.loop-below.seat w.call.new.seat (number_of first) more (Set (n + 1)) w.call.result (seen_of first) i.number i.asked w.call.ensures.reply in record {
            seat = subst (IsSeatOf c.args.booth.now) (sym w.seat-is) w.call.ensures.seat;
            bound = lt;
            number = ap number_of w.seat-is ∙ (w.call.ensures.number ∙ i.number);
            asked = subst A (sets-hit c.args.workers n c.args.worker hit) (subst (λ s. AsksMore (number_of first) (more ++ Set (n + 1) ∷ []) (seen_of first) (seen_of s)) (sym w.seat-is) asked);
          }
      | else-value-workers w ↦ record {
        seat = subst (IsSeatOf c.args.booth.now) (sym w.seat-is) i.seat;
        bound = lt;
        number = ap number_of w.seat-is ∙ i.number;
        asked = subst A (sets-miss c.args.workers n c.args.worker w.if-value-workers.false) (subst (λ s. AsksMore (number_of first) more (seen_of first) (seen_of s)) (sym w.seat-is) i.asked);
      }
    ]

pub returns-clause-asked : goal.returns-clause-asked
returns-clause-asked g c =
    let first = c.args.seat.now in
    let whole : c.loop-below.below ≡ c.args.n = search rules in
    subst (λ n. AsksMore (number_of first) (sets_of c.args.workers n c.args.worker) (seen_of first) (seen_of c.loop-below.seat)) whole c.loop-below.invariant.asked
