-- What a barrier answers, and what it is afterwards.
use Rattle.std.specs.Prelude.{suc, ◌≡◌, ◌≢◌, [], ◌∷◌, ◌++◌, length}
use Rattle.abt_machine.specs.Values.{BarrierValue}
use Rattle.abt_machine.specs.Acts.{Act, Arrive, Answer, Through, Rested}

-- a barrier's answer, and the barrier afterwards: the last party goes through with all that wait, any other waits
abbrev pub BarrierGives : BarrierValue → Act → Answer → BarrierValue → Type 0
BarrierGives old (Arrive o) (Through b os) new =
    (suc (length old.waiters) ≡ old.size) × (b ≡ o) × (os ≡ old.waiters) × (new ≡ record old { waiters = [] })
BarrierGives old (Arrive o) Rested new =
    (suc (length old.waiters) ≢ old.size) × (new ≡ record old { waiters = old.waiters ++ o ∷ [] })
BarrierGives old act answer new = ⊥
