use Rattle.std.proofs.Common.{◌∙◌, sym}
use Rattle.std.proofs.lemmas.Bool.{ltb-false}
use Rattle.abt_workload.proofs.Firm.{seen-closable, seen-reads, seen-valid}
use Rattle.abt_workload.proofs.reading.read.Goals as goal

pub into_parts-requires : goal.into_parts-requires
into_parts-requires c = seen-closable c.args.bytes.now _ c.in_ok-draft.ensures.ok

pub new-requires : goal.new-requires
new-requires c = seen-valid c.args.bytes.now _ c.in-Ok.parts c.in_ok-draft.ensures.ok c.in-Ok.ensures

pub returns-in-Ok-new-clause-ok : goal.returns-in-Ok-new-clause-ok
returns-in-Ok-new-clause-ok c = seen-reads c.args.bytes.now _ _ (ltb-false _ _ (sym c.is_too_long.ensures ∙ c.if-is_too_long.false)) c.in_ok-draft.ensures.ok (c.in-Ok-new.ensures ∙ c.in-Ok.ensures)
