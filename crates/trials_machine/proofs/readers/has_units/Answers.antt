-- An operation of a unit is declared, its word too.
use Rattle.std.proofs.Common.{sym}
use Rattle.abt_machine.specs.declared.operations.Op.TheVariants as op
use Rattle.abt_machine.proofs.Declared.{op-declared}
use Rattle.trials_machine.proofs.readers.has_units.Goals as goal

pub word-requires : goal.word-requires
word-requires g c = op-declared c.args.w.now 2 0 (op.Say c.in-Some-Say.word) c.known.ensures (sym (rw c.in-Some-Say.field-0-is at c.in-Some-Say.ensures))
