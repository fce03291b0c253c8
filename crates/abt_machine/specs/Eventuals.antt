-- What an eventual answers, and what it is afterwards.
use Rattle.std.specs.Prelude.{◌≡◌, is_some, [], ◌∷◌, ◌++◌, map, Some, None, option_map, IsSome, IsNone}
use Rattle.abt_machine.specs.declared.events.Code.TheVariants as code
use Rattle.abt_machine.specs.Numbers.{truth}
use Rattle.abt_machine.specs.Values.{EventualValue}
use Rattle.abt_machine.specs.Acts.{Act, Await, Fill, Reset, Test, Answer, Given, Woke, Rested, Number, Coded, received}

-- an eventual's answer, and the eventual afterwards
abbrev pub EventualGives : EventualValue → Act → Answer → EventualValue → Type 0
EventualGives old (Await o) (Given b) new = (option_map (λ n. received n o) old.value ≡ Some b) × (new ≡ old)
EventualGives old (Await o) Rested new = IsNone old.value × (new ≡ record old { waiters = old.waiters ++ o ∷ [] })
EventualGives old (Fill n) (Woke os) new =
    IsNone old.value × (os ≡ map (received n) old.waiters) × (new ≡ record { value = Some n; waiters = [] })
EventualGives old (Fill n) (Coded code.EventualSet) new = IsSome old.value × (new ≡ old)
EventualGives old Reset Rested new = new ≡ record old { value = None }
EventualGives old Test (Number n) new = (n ≡ truth (is_some old.value)) × (new ≡ old)
EventualGives old act answer new = ⊥
