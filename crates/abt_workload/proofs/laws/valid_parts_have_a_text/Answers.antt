use Rattle.abt_workload.proofs.RoundTrip.{only-valid, reads-canonical}
use Rattle.abt_workload.proofs.laws.valid_parts_have_a_text.Goals as goal

pub returns : goal.returns
returns c = record { canonical = reads-canonical; only_valid = only-valid }
