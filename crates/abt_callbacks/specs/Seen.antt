-- What callers see of a future.
use Rattle.abt_callbacks.specs.declared.future.CalledFuture.{CalledFuture}
use Rattle.abt_callbacks.specs.Futures.{CalledFutureValue}

-- the future
abbrev pub future_of : {F : Type 0} → CalledFuture F → CalledFutureValue F
future_of f = record { fold = f.fold; most = f.most; values = f.values.items; answer = f.answer }
