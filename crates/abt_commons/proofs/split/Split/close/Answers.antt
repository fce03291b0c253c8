-- A split is closed.
use Rattle.std.proofs.Common.{◌≡◌, ◌++◌, reverse, refl, sym, ◌∙◌, ap, subst}
use Rattle.std.proofs.lemmas.List.{append-nil}
use Rattle.abt_commons.specs.AllPasses.{AreAll}
use Rattle.abt_commons.specs.Closing.{WereClosed}
use Rattle.abt_commons.specs.Held.{objects_value}
use Rattle.abt_commons.specs.Splits.{IsPassOf, SplitLeft, SplitValue, pass_stream}
use Rattle.abt_commons.proofs.SplitLefts.{left-split, left-whole}
use Rattle.abt_commons.proofs.split.Split.close.Goals.{After-unlocked-ones}
use Rattle.abt_commons.proofs.split.Split.close.Goals as goal

module _ (g : _) (c : After-unlocked-ones g) where
  abbrev split : SplitValue
  split = record { workload = c.self.inside.w.now; streams = c.self.inside.streams; booths = c.self.inside.booths.items; clocks = c.self.inside.clocks.items }

  passes : AreAll (IsPassOf split) pass_stream split.streams c.args.passes.items
  passes = subst (λ (v : SplitValue). AreAll (IsPassOf v) pass_stream v.streams c.args.passes.items) (sym c.self.view_is) c.requires.passes

  -- all locks have ended, and their objects are these
  ended : WereClosed split.booths c.args.passes.items split.clocks 0 c.unlocked-ones.ensures.0 c.unlocked-ones.result.1.items
  ended = subst (λ ps. WereClosed split.booths ps split.clocks 0 c.unlocked-ones.ensures.0 c.unlocked-ones.result.1.items) c.as_mut_slice.ensures.value c.unlocked-ones.ensures.2

  ones : c.unlocked-ones.result.0.items ≡ c.unlocked-ones.ensures.0
  ones =
      let closed = c.unlocked-ones.ensures in
      closed.1 ∙ (ap (λ xs. closed.0 ++ reverse xs) c.self.invariant.1 ∙ append-nil closed.0)

pub invariant_of-result : goal.invariant_of-result
invariant_of-result g c =
    let path = (goal.at.invariant_of-result g c).After-unlocked-ones in
    left-whole (split g path) c.args.passes.items c.self.invariant.0 (passes g path).many c.unlocked-ones.ensures.0 c.unlocked-ones.result.1.items (ended g path) c.unlocked-ones.result.0.items
    c.unlocked-ones.result.1.items (ones g path) refl

pub returns : goal.returns
returns g c =
    let path = (goal.at.returns g c).After-unlocked-ones in
    record {
      leaves = subst (λ (v : SplitValue). SplitLeft v c.args.passes.items (objects_value c.self.inside.w.now c.unlocked-ones.result.0.items c.unlocked-ones.result.1.items)) c.self.view_is
          (left-split (split g path) c.args.passes.items c.self.invariant.0 (passes g path).many c.unlocked-ones.ensures.0 c.unlocked-ones.result.1.items (ended g path) c.unlocked-ones.result.0.items
          c.unlocked-ones.result.1.items (ones g path) refl);
    }
