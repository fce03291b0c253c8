-- What a future answers, and what it is afterwards.
use Rattle.std.specs.Prelude.{ℕ, ◌≡◌, ◌==◌, if◌then◌else◌, Bool, List, [], ◌∷◌, ◌++◌, map, IsTrue, IsFalse}
use Rattle.abt_machine.specs.declared.events.Code.TheVariants as code
use Rattle.abt_machine.specs.State.{Future}
use Rattle.abt_machine.specs.Numbers.{truth}
use Rattle.abt_machine.specs.Steps.{filled_by}
use Rattle.abt_machine.specs.Values.{Owned, FutureValue}
use Rattle.abt_machine.specs.Acts.{Act, Await, Fill, Reset, Test, Answer, Given, Woke, Rested, Number, Coded, received}

-- all compartments are filled
abbrev pub is_ready : FutureValue → Bool
is_ready f = f.filled == f.size

abbrev pub with_filled : Future → FutureValue → FutureValue
with_filled state f = record f { filled = state.filled; value = state.value }

-- one more compartment is filled, by the future's rule
abbrev pub with_one_more : ℕ → FutureValue → FutureValue
with_one_more n f = with_filled (filled_by f.combine (record { filled = f.filled; value = f.value }) n) f

-- whom a future wakes by becoming this
abbrev pub woken_by : FutureValue → List Owned
woken_by f = if is_ready f then map (received f.value) f.waiters else []

-- who still waits when a future has become this
abbrev pub left_waiting : FutureValue → FutureValue
left_waiting f = record f { waiters = if is_ready f then [] else f.waiters }

-- a future's answer, and the future afterwards
abbrev pub FutureGives : FutureValue → Act → Answer → FutureValue → Type 0
FutureGives old (Await o) (Given b) new = IsTrue (is_ready old) × (b ≡ received old.value o) × (new ≡ old)
FutureGives old (Await o) Rested new = IsFalse (is_ready old) × (new ≡ record old { waiters = old.waiters ++ o ∷ [] })
FutureGives old (Fill n) (Woke os) new =
    IsFalse (is_ready old) × (os ≡ woken_by (with_one_more n old)) × (new ≡ left_waiting (with_one_more n old))
FutureGives old (Fill n) (Coded code.FutureFull) new = IsTrue (is_ready old) × (new ≡ old)
FutureGives old Reset Rested new = new ≡ with_filled (record { filled = 0; value = 0 }) old
FutureGives old Test (Number n) new = (n ≡ truth (is_ready old)) × (new ≡ old)
FutureGives old act answer new = ⊥
