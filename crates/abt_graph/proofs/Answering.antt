-- What is known of an answer, from what is known of the values of a graph.
use Rattle.std.proofs.Common.{ℕ, List, Vec, Global}
use Rattle.std.specs.Prelude.{IfOk, Result}
use Rattle.std.proofs.lemmas.Result.{IfOk-weaker}

pub answers-then : {E : Type 0} (result : Result (Vec ℕ Global) E) (P Q : List ℕ → Type 0) → ((values : List ℕ) → P values → Q values) →
    IfOk result (λ (values : Vec ℕ Global). P values.items) → IfOk result (λ (values : Vec ℕ Global). Q values.items)
answers-then result P Q h is = IfOk-weaker result (λ (values : Vec ℕ Global). P values.items) (λ (values : Vec ℕ Global). Q values.items) (λ values. h values.items) is
