use Rattle.std.proofs.Common.{◌≡◌, ◌<◌, length, Some, subst, sym, ◌∙◌, ap}
use Rattle.abt_flow.specs.Checks.{named_at, named_from}
use Rattle.abt_flow.proofs.Named.{named-below, named-more}
use Rattle.abt_flow.proofs.naming.mark.Goals as goal

pub returns : goal.returns
returns c =
    let here : named_at c.args.w.now c.args.naming c.args.u.0 c.args.k ≡ Some c.in-Some.x = ap (named_from c.args.naming) c.requires.at ∙ (sym c.of.ensures ∙ c.in-Some.is) in
    let below : c.in-Some.x < length c.args.seen.now = subst (λ n. c.in-Some.x < n) (sym c.requires.named.all)
    (named-below c.args.w.now c.args.naming c.args.u.0 c.args.k c.in-Some.x c.known.ensures here) in
    named-more c.args.w.now c.args.naming c.args.u.0 c.args.k c.args.seen.now c.requires.named c.in-Some.x here c.if-seen-x.false below
