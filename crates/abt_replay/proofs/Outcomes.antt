-- What a result brings if it is there.
use Rattle.std.specs.Prelude.{IfOk}
use Rattle.std.proofs.Common.{Result, Ok, Err}

pub if-ok : {A E : Type 0} (P Q : A → Type 0) (r : Result A E) → ((a : A) → P a → Q a) → IfOk r P → IfOk r Q
if-ok P Q (Ok a) f h = f a h
if-ok P Q (Err e) f h = h
