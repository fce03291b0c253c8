-- The log of a stream that keeps it.
use Rattle.std.proofs.Common.{Some, None, subst}
use Rattle.abt_record.specs.Records.{IsKept}
use Rattle.abt_streams.proofs.logs.kept_log.Goals as goal

pub returns : goal.returns
returns c = subst (λ k. IsKept k c.args.stream.now.log (Some c.in-Some.log.now)) c.requires c.in-Some.ensures

pub unreachable-requires : goal.unreachable-requires
unreachable-requires c = subst (λ k. IsKept k c.args.stream.now.log None) c.requires c.in-None.ensures
