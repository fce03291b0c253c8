-- Two events of different streams and different sites may change places.
use Rattle.abt_laws.proofs.Commute.{events-commute}
use Rattle.abt_laws.proofs.footprint.events_commute.Goals as goal

pub returns : goal.returns
returns c = λ W Z valid stored S T U e f sound ne apart one two. events-commute W valid Z S T U e f ne apart one two
