-- What barriers keep.
use Rattle.std.specs.Prelude.{◌≡◌, ◌<◌, length}
use Rattle.abt_machine.specs.Acts.{Act, Answer}
use Rattle.abt_machine.specs.Barriers.{BarrierGives}
use Rattle.abt_machine.specs.Values.{BarrierValue}
use Rattle.abt_chain.specs.Keeping.{Contents, KeepsWhatFits, only_units}

-- what a barrier holds
abbrev pub contents_of_barrier : BarrierValue → Contents
contents_of_barrier barrier = only_units barrier.waiters

abbrev pub BarriersKeepWhatFits : Type 0
BarriersKeepWhatFits = KeepsWhatFits contents_of_barrier BarrierGives

-- fewer units wait than the barrier has parties
abbrev pub LacksAParty : BarrierValue → Type 0
LacksAParty barrier = length barrier.waiters < barrier.size

-- the barrier has as many parties as before, and fewer units wait
abbrev pub StaysShort : BarrierValue → BarrierValue → Type 0
StaysShort old new = (new.size ≡ old.size) × LacksAParty new

-- no call changes how many parties a barrier has, and none leaves as many units waiting
abbrev pub BarriersLackAParty : Type 0
BarriersLackAParty =
    (old : BarrierValue) (act : Act) (answer : Answer) (new : BarrierValue) → BarrierGives old act answer new → LacksAParty old → StaysShort old new
