-- How many links counted calls walk: a call pays for the links that it walks from what was owed, and for one more at most.
use Rattle.std.specs.Prelude.{ℕ, zero, suc, ◌≡◌, ◌≤◌, ◌+◌, ◌⊎◌}
use Rattle.abt_chain.specs.Chains.{ChainValue}

-- what was walked so far, and what the chain owes
pub record Walk : Type 0 where
  pub walked : ℕ
  pub owed : ℕ

-- the walk of a counter and a chain
abbrev pub walk_of : ℕ → ChainValue → Walk
walk_of steps chain = record { walked = steps; owed = chain.owed }

-- what is walked and what is owed are together one more than before
abbrev pub RisesByOne : Walk → Walk → Type 0
RisesByOne before after = after.walked + after.owed ≡ before.walked + before.owed + 1

-- a counted call: it raises them by one, or it finds no unit
abbrev pub IsCounted : Walk → Walk → Type 0
IsCounted before after = RisesByOne before after ⊎ (after ≡ before)

-- that many counted calls, one after the other
abbrev pub Calls : ℕ → Walk → Walk → Type 0
Calls zero before after = after ≡ before
Calls (suc m) before after = (between : Walk) × IsCounted before between × Calls m between after

-- from a chain that owes nothing, m counted calls walk at most m links
abbrev pub CallsWalkFewLinks : Type 0
CallsWalkFewLinks = (m : ℕ) (before after : Walk) → before.owed ≡ 0 → Calls m before after → after.walked ≤ before.walked + m
