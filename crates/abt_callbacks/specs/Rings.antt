-- What callers see of a ring of keys.
use Rattle.std.specs.Prelude.{ℕ, List, Option}
use Rattle.abt_callbacks.specs.declared.ring.KeyRing.{KeyRing}

-- the function of each key
abbrev pub ends_of : {E : Type 0} → KeyRing E → List E
ends_of ring = ring.ends.items

-- the value of each key, None if it is not set
abbrev pub values_of : {E : Type 0} → KeyRing E → List (Option ℕ)
values_of ring = ring.values.items
