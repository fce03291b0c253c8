-- Options that are there or not.
use Rattle.std.proofs.Common.{◌≡◌, Some, None}

pub some-injective : {A : Type 0} {a b : A} → Some a ≡ Some b → a ≡ b
some-injective h = cc

pub none≢some : {A : Type 0} {a : A} → None ≡ Some a → ⊥
none≢some h = cc
