-- One object more is seen.
use Rattle.std.proofs.Common.{◌≡◌, ◌<◌, ◌+◌, ◌∙◌, ℕ, List, Some, ap, get_or, length, refl, slice_get, subst, sym}
use Rattle.std.proofs.lemmas.Option.{slice_get-get_or}
use Rattle.abt_machine.specs.declared.operations.Thing.{Thing}
use Rattle.abt_machine.specs.declared.operations.Thing.TheVariants as thing
use Rattle.abt_machine.specs.Counting.{AreCounted}
use Rattle.abt_machine.proofs.Conditions.{few-counted, mutex-within, none-counted, one-counted}
use Rattle.abt_machine.proofs.counting.count_all.Goals.{in-Cond, in_default}
use Rattle.abt_machine.proofs.counting.count_all.Goals as goal

-- what is read there stands there
stands : (things : List Thing) (x : ℕ) (t : Thing) → x < length things → get_or things x thing.Mutex ≡ t → slice_get things x ≡ Some t
stands things x t within is = slice_get-get_or things x thing.Mutex within ∙ ap (λ (t : Thing). Some t) is

pub count_one-requires-clause-mutex : goal.count_one-requires-clause-mutex
count_one-requires-clause-mutex c =
    let is = stands c.args.things.now c.loop-x.x (thing.Cond c.in-Cond.mutex) c.loop-x-test.true c.in-Cond.is in
    mutex-within c.args.things.now c.loop-x.x c.loop-x.counts c.loop-x.invariant.0 c.requires.valid c.in-Cond.mutex is

pub count_one-requires-clause-few : goal.count_one-requires-clause-few
count_one-requires-clause-few c =
    let is = stands c.args.things.now c.loop-x.x (thing.Cond c.in-Cond.mutex) c.loop-x-test.true c.in-Cond.is in
    few-counted c.args.things.now c.loop-x.x c.loop-x.counts c.loop-x.invariant.0 c.requires.valid c.in-Cond.mutex is c.requires.few

pub loop-x-preserved : goal.loop-x-preserved
loop-x-preserved c =
    let things = c.args.things.now in
    let x = c.loop-x.x in
    elim c.match-things-x.branch [
      | in-Cond w ↦ (
        let is = stands things x (thing.Cond w.in-Cond.mutex) c.loop-x-test.true w.in-Cond.is in
            let one = one-counted things x c.loop-x.counts c.loop-x.invariant.0 c.requires.valid w.in-Cond.mutex is in
            subst (λ (xs : List ℕ). AreCounted things (x + 1) xs) (sym w.count_one.ensures ∙ sym w.counts-is) one,
        refl,
      )
      | in_default w ↦ (
        let is = stands things x (get_or things x thing.Mutex) c.loop-x-test.true refl in
            subst (λ (xs : List ℕ). AreCounted things (x + 1) xs) (sym w.counts-is) (none-counted things x c.loop-x.counts c.loop-x.invariant.0 (get_or things x thing.Mutex) is w.in_default.not-Cond),
        refl,
      )
    ]
