use Rattle.std.proofs.Common.{rules}
use Rattle.std.proofs.lemmas.Slice.Eq.{slice_eq-Decides}
use Rattle.abt_machine.specs.declared.events.Piece.{Piece}
use Rattle.abt_explore.proofs.same.are_same.Goals as goal

pub returns : goal.returns
returns c = slice_eq-Decides (λ (a b : Piece). search rules) c.args.one.now c.args.two.now c.eq.result c.eq.ensures
