use Rattle.std.proofs.Common.{◌∙◌, ◌<◌, subst, sym}
use Rattle.abt_why.specs.Waits.{main_lists}
use Rattle.abt_why.proofs.Numbers.{none-more, some-found}
use Rattle.abt_why.proofs.finding.is_listed.Goals as goal

pub returns-then-main_lists : goal.returns-then-main_lists
returns-then-main_lists c =
    let W = c.args.w.now in
    let within : c.loop-s.s < W.streams = subst (λ n. c.loop-s.s < n) c.loop-s.invariant.end c.loop-s-test.true in
    some-found (main_lists W c.args.p.0) c.loop-s.s W.streams within (sym c.main_lists.ensures ∙ c.if-main_lists.true)

pub loop-s-preserved : goal.loop-s-preserved
loop-s-preserved c = record {
  none = none-more (main_lists c.args.w.now c.args.p.0) c.loop-s.s c.loop-s.invariant.none (sym c.main_lists.ensures ∙ c.if-main_lists.false);
  end = c.loop-s.invariant.end;
}
