use Rattle.std.proofs.Common.{rules, ◌≡◌, ◌+◌, ◌∷◌, ◌++◌, [], length, subst, sym}
use Rattle.abt_compute.proofs.Cutting.{IsCut, cut-more, cut-whole}
use Rattle.abt_compute.proofs.numbers.read_numbers.Goals as goal

pub loop-rest-preserved : goal.loop-rest-preserved
loop-rest-preserved c =
    let kept : c.keep.new.numbers.items ≡ c.loop-rest.numbers.items ++ c.in-Some.n ∷ [] = search rules in
    subst (λ l. IsCut c.args.text.now c.first_line.result.1.now l (c.loop-rest.count + 1)) (sym kept)
    (cut-more c.args.text.now c.loop-rest.rest.now c.first_line.result.1.now c.first_line.result.0.now c.loop-rest.numbers.items c.loop-rest.count c.in-Some.n c.loop-rest.invariant c.first_line.ensures.line c.first_line.ensures.shorter (search rules))

pub returns-clause-lists : goal.returns-clause-lists
returns-clause-lists c =
    let none : length c.loop-rest.rest.now ≡ 0 = search rules in
    cut-whole c.args.text.now c.loop-rest.rest.now c.loop-rest.numbers.items c.loop-rest.count c.loop-rest.invariant none
