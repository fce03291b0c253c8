-- What the writes of an output of the process leave.
use Rattle.std.proofs.Common.{◌≡◌, ◌≤◌, ℕ, List, take, Result, Ok, Err, IfOk, OnOk, OnErr, ap, arith}
use Rattle.abt_source.specs.Source.{Rose, WriteTakes}
use Rattle.abt_source.specs.RealSink.{SinkOfProcess, after_fault, after_putting}
use Rattle.abt_source.specs.declared.Failed.{Failed}
use Rattle.abt_source.proofs.Counts.{next_count-le, next_count-Rose}

-- A write puts the bytes that the host took, and none if it fails.
pub write-takes : (r : Result ℕ Failed) (old new : SinkOfProcess) (piece : List ℕ)
    → IfOk r (λ n. new ≡ after_putting old (take n piece)) → OnErr r (new ≡ after_fault old) → WriteTakes old.put new.put r piece
write-takes (Ok n) old new piece ok failed = ap (λ (sink : SinkOfProcess). sink.put) ok
write-takes (Err e) old new piece ok failed = ap (λ (sink : SinkOfProcess). sink.put) failed

-- The count of faults stays at a write that is taken.
pub write-quiet : (r : Result ℕ Failed) (old new : SinkOfProcess) (piece : List ℕ)
    → IfOk r (λ n. new ≡ after_putting old (take n piece)) → OnOk r (new.faults ≡ old.faults)
write-quiet (Ok n) old new piece ok = ap (λ (sink : SinkOfProcess). sink.faults) ok
write-quiet (Err e) old new piece ok = tt

-- It rises at one that fails.
pub write-cause : (r : Result ℕ Failed) (old new : SinkOfProcess) → OnErr r (new ≡ after_fault old) → OnErr r (Rose old.faults new.faults)
write-cause (Ok n) old new failed = tt
write-cause (Err e) old new failed = next_count-Rose old.faults new.faults (ap (λ (sink : SinkOfProcess). sink.faults) failed)

-- And so it never falls.
pub write-later : (r : Result ℕ Failed) (old new : SinkOfProcess) (piece : List ℕ)
    → IfOk r (λ n. new ≡ after_putting old (take n piece)) → OnErr r (new ≡ after_fault old) → old.faults ≤ new.faults
write-later (Ok n) old new piece ok failed = let same : new.faults ≡ old.faults = ap (λ (sink : SinkOfProcess). sink.faults) ok in omega arith
write-later (Err e) old new piece ok failed = next_count-le old.faults new.faults (ap (λ (sink : SinkOfProcess). sink.faults) failed)
