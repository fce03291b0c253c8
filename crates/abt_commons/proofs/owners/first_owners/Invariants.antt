-- There is room for all owners.
use Rattle.std.proofs.Common.{◌≡◌, ◌≤◌, vec_capacity, vec_len}
use Rattle.abt_commons.proofs.owners.first_owners.Given as goal

abbrev pub invariant-loop : goal.invariant-loop
invariant-loop l = (vec_len l.owners ≡ l.counter) × (l.count ≤ vec_capacity l.owners)
