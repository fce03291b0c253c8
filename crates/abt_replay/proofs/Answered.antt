-- Which answers come.
pub use Rattle.abt_plans.proofs.Answered.{bringing, for-caller, for_giver, for_taker, for-yielder, tells-caller}
use Rattle.abt_machine.specs.Acts.{Act, Answer}
use Rattle.abt_machine.specs.declared.events.Site.{Site}
use Rattle.abt_calls.specs.Suits.{Suits}
use Rattle.abt_calls.proofs.Suited.{answers-suit}
use Rattle.abt_replay.specs.Objects.{Called, ObjectsValue, object_at}

-- an object answers an act by what the act may get
pub called_suits : (old new : ObjectsValue) (x : Site) (a : Act) (b : Answer) → Called old x a b new → Suits a b
called_suits old new x a b called = answers-suit (object_at old x) a b (object_at new x) called.gives
