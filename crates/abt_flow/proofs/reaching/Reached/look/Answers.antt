use Rattle.std.proofs.Common.{◌∙◌, ◌+◌, ◌<◌, length, Some, ap, sym, arith}
use Rattle.std.proofs.lemmas.Option.{slice_get-get_or}
use Rattle.abt_flow.specs.Tables.{Closes, Grows, IsClosedBelow}
use Rattle.abt_flow.proofs.Finds.{closed-more, reached-declared}
use Rattle.abt_flow.proofs.Plain.{ok-both}
use Rattle.abt_flow.proofs.reaching.Reached.look.Goals as goal

pub add_all_created-requires-clause-unit : goal.add_all_created-requires-clause-unit
add_all_created-requires-clause-unit c =
    reached-declared c.args.w.now c.index-u.result.now.0 c.known.ensures
    (c.requires.finds.reached c.index-u.result.now (c.args.at, (let l : c.args.at < length c.args.self.now.units.items = omega arith in l), sym c.index-u.ensures))

pub returns-clause-closed : goal.returns-clause-closed
returns-clause-closed c =
    let l : c.args.at < length c.args.self.now.units.items = omega arith in
    ok-both (λ _. Grows c.args.self.now.units.items c.args.self.now.marks.items c.add_all_created.new.self.units.items c.add_all_created.new.self.marks.items)
    (λ _. Closes c.args.w.now c.add_all_created.new.self.marks.items c.index-u.result.now.0)
    (λ _. IsClosedBelow c.args.w.now c.add_all_created.new.self.units.items c.add_all_created.new.self.marks.items (c.args.at + 1)) c.add_all_created.result
    (λ _ grows closes. closed-more c.args.w.now c.args.self.now.units.items c.add_all_created.new.self.units.items c.args.self.now.marks.items
    c.add_all_created.new.self.marks.items c.args.at c.index-u.result.now grows l
    (slice_get-get_or c.args.self.now.units.items c.args.at c.index-u.result.now l ∙ ap (λ x. Some x) (sym c.index-u.ensures)) c.requires.closed closes)
    c.add_all_created.ensures.grows c.add_all_created.ensures.marked
