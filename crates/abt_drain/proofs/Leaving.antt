-- What streams leave is what they held.
use Rattle.std.proofs.Common.{◌≡◌, sym, subst}
use Rattle.std.specs.List.{All}
use Rattle.abt_machine.specs.declared.workload.Parts.{Parts}
use Rattle.abt_unit.specs.Fits.{Fits}
use Rattle.abt_calls.specs.Holders.{units_held}
use Rattle.abt_stream.specs.declared.stream.StreamParts.{StreamParts}
use Rattle.abt_stream.specs.Streams.{FitsStream, StreamValue}
use Rattle.abt_drain.specs.Pictures.{LeavesWhatFits, units_in_parts}

module _ (stream : StreamValue) (parts : StreamParts) where
  pub left-fits : (W : Parts) → FitsStream W stream → units_in_parts parts ≡ units_held stream.held → LeavesWhatFits W parts
  left-fits W fits same = subst (All (Fits W)) (sym same) fits.units
