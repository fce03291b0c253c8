-- What stored functions may return.
use Rattle.std.specs.Prelude.{◌≡◌, ℕ, true, List}
use denote.Param.Members.{Mut}
use denote.Ref.{Bor}
use Rattle.abt_callbacks.specs.declared.end.StoredEnd.{StoredEnd}
use Rattle.abt_callbacks.specs.declared.fold.StoredFold.{StoredFold}

-- the stored function may return this number for a list
abbrev pub MayReturn : {X : Type 0} {F : X → Type 0} {called : Mut ((x : X) × F x) (Bor (List ℕ) × Unit {0}) ℕ} → StoredFold X F called → List ℕ → ℕ → Type 0
MayReturn {called = called} fold list answer = (values : Bor (List ℕ)) × (values.now ≡ list) × called.post (fold.function.vtable, fold.function.value) (values, tt) answer

-- the stored function of a key may return this answer for a value, which is the value itself if the function is stored as one that answers the
-- number that it is called for
abbrev pub MayAnswer : {X : Type 0} {F : X → Type 0} {called : Mut ((x : X) × F x) (ℕ × Unit {0}) ℕ} → StoredEnd X F called → ℕ → ℕ → Type 0
MayAnswer {called = called} end value answer = called.post (end.function.vtable, end.function.value) (value, tt) answer × (end.same ≡ true → answer ≡ value)
