-- What pools keep of their units.
use Rattle.abt_machine.specs.Pools.{PoolGives}
use Rattle.abt_machine.specs.Values.{PoolValue}
use Rattle.abt_chain.specs.Keeping.{Contents, KeepsWhatFits, only_units}

-- what a pool holds
abbrev pub contents_of_pool : PoolValue → Contents
contents_of_pool pool = only_units pool.units

abbrev pub PoolsKeepWhatFits : Type 0
PoolsKeepWhatFits = KeepsWhatFits contents_of_pool PoolGives
