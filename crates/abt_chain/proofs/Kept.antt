-- What is kept of every unit that an object holds.
use Rattle.std.proofs.Common.{◌≡◌, ℕ, List, [], ◌∷◌, map, Bool, true, false, Option, Some, cond, subst, All}
use Rattle.std.proofs.lemmas.List.Elements.{All-cons, All-nil, All-head, All-tail}
use Rattle.std.specs.List.{find}
use Rattle.abt_machine.specs.declared.workload.Parts.{Parts}
use Rattle.abt_machine.specs.Acts.{received}
use Rattle.abt_machine.specs.Pools.{is_unit, without}
use Rattle.abt_machine.specs.Values.{Owned}
use Rattle.abt_unit.specs.Fits.{Fits}
use Rattle.abt_unit.proofs.Fitting.{Fits-received, Fits-reborn}
use Rattle.abt_chain.specs.Keeping.{Have, IsPoolOf, LastsWith, no_contents, only_pool, only_unit, only_units}

-- what objects do to a unit keeps it fit for its workload
pub Fits-lasts : (W : Parts) → LastsWith (IsPoolOf W) (Fits W)
Fits-lasts W = record { received = λ o n fits. Fits-received fits n; reborn = λ o p fits declared. Fits-reborn fits p declared }

find-by : (F : Owned → Type 0) (b : Bool) (x o : Owned) (f : Option Owned) → F x → (f ≡ Some o → F o) → cond b (Some x) f ≡ Some o → F o
find-by F true x o f has go e = let same : x ≡ o = cc in subst F same has
find-by F false x o f has go e = go e

-- what is true of each unit is true of the one that is found
pub All-find : (F : Owned → Type 0) (u : ℕ) (xs : List Owned) (o : Owned) → All F xs → find (is_unit u) xs ≡ Some o → F o
All-find F u [] o all e = cc
All-find F u (x ∷ xs) o all e = find-by F (is_unit u x) x o _ (All-head F x xs all) (All-find F u xs o (All-tail F x xs all)) e

without-by : (F : Owned → Type 0) (b : Bool) (x : Owned) (xs w : List Owned) → F x → All F xs → All F w → All F (cond b xs (x ∷ w))
without-by F true x xs w has all left = all
without-by F false x xs w has all left = All-cons F x w has left

-- what is true of each unit is true of each that is left
pub All-without : (F : Owned → Type 0) (u : ℕ) (xs : List Owned) → All F xs → All F (without u xs)
All-without F u [] all = All-nil F
All-without F u (x ∷ xs) all = without-by F (is_unit u x) x xs _ (All-head F x xs all) (All-tail F x xs all) (All-without F u xs (All-tail F x xs all))

-- what a received value keeps is true of each unit that has received it
pub All-received : (F : Owned → Type 0) (D : ℕ → Type 0) → LastsWith D F → (n : ℕ) (xs : List Owned) → All F xs → All F (map (received n) xs)
All-received F D lasts n [] all = All-nil F
All-received F D lasts n (x ∷ xs) all =
    All-cons F (received n x) (map (received n) xs) (lasts.received x n (All-head F x xs all)) (All-received F D lasts n xs (All-tail F x xs all))

-- facts of nothing, of one unit, of units and of one pool

pub Have-nothing : (F : Owned → Type 0) (D : ℕ → Type 0) → Have F D no_contents
Have-nothing F D = (All-nil F, All-nil D)

pub Have-unit : (F : Owned → Type 0) (D : ℕ → Type 0) (o : Owned) → F o → Have F D (only_unit o)
Have-unit F D o has = (All-cons F o [] has (All-nil F), All-nil D)

pub Have-units : (F : Owned → Type 0) (D : ℕ → Type 0) (os : List Owned) → All F os → Have F D (only_units os)
Have-units F D os all = (all, All-nil D)

pub Have-pool : (F : Owned → Type 0) (D : ℕ → Type 0) (p : ℕ) → D p → Have F D (only_pool p)
Have-pool F D p has = (All-nil F, All-cons D p [] has (All-nil D))
