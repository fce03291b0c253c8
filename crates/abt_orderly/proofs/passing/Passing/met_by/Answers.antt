use Rattle.std.proofs.Common.{◌≡◌, ◌<◌, ◌∙◌, length, Some, arith, ap, sym}
use Rattle.std.specs.Prelude.{slice_get}
use Rattle.abt_orderly.specs.declared.scanning.Standing.TheVariants as standing
use Rattle.abt_orderly.specs.Needs.{meets_at}
use Rattle.abt_orderly.specs.Passing.{Stands}
use Rattle.abt_orderly.proofs.Entries.{read-at, read-is}
use Rattle.abt_orderly.proofs.Meeting.{meets-option, not-reached}
use Rattle.abt_orderly.proofs.passing.Passing.met_by.Goals as goal

pub returns-in-Reached : goal.returns-in-Reached
returns-in-Reached c =
    let l : c.args.u.0 < length c.args.self.now.standing.items = (let e = c.requires.passes.standing.all in let u = c.requires.unit in omega arith) in
    let m : c.args.u.0 < length c.args.self.now.done.items = (let e = c.requires.passes.all in let u = c.requires.unit in omega arith) in
    let at : slice_get c.args.self.now.standing.items c.args.u.0 ≡ Some standing.Reached = read-at c.args.self.now.standing.items c.args.u.0 c.index.result.now l c.index.ensures ∙ ap (λ s. Some s) c.in-Reached.is in
    let stands : Stands c.args.w.now c.args.self.now.done.items c.args.u.0 standing.Reached = c.requires.passes.standing.each c.args.u.0 standing.Reached at in
    meets-option c.args.w.now c.args.self.now c.args.u.0 stands.1 c.met_need.result
    (c.met_need.ensures ∙ ap (meets_at c.args.w.now c.args.u.0) (sym (read-is c.args.self.now.done.items c.args.u.0 c.index-in-Reached.result.now 0 m c.index-in-Reached.ensures)))

pub returns-in-Unborn : goal.returns-in-Unborn
returns-in-Unborn c i reached e =
    let l : c.args.u.0 < length c.args.self.now.standing.items = (let e = c.requires.passes.standing.all in let u = c.requires.unit in omega arith) in
    not-reached c.args.w.now c.args.self.now c.args.u.0 l c.requires.passes c.requires.may c.index.result.now c.index.ensures c.in-Unborn.is reached
