use Rattle.std.proofs.Common.{ap}
use Rattle.abt_source.specs.RealFiles.{FilesOfProcess}
use Rattle.abt_source.proofs.Counts.{later, cause, next_count-Rose}
use Rattle.abt_source.proofs.Process.{begin-later, begin-left, begin-nothing, begin-quiet, begin-seen, begin-closed, read-begun, read-failed, read-next, read-ok, read-seen, read-unseen}
use Rattle.abt_source.proofs.real_files.RealFilesFiles.TheImpl.Goals as goal

pub begin-tells : goal.begin-tells
begin-tells g c =
    let old : FilesOfProcess = c.args.self.now in
    let new : FilesOfProcess = c.new.self.now in record {
      begins = begin-seen c.result old new c.args.name.now c.ensures.ok;
      closed = begin-closed c.result old new c.ensures.failed c.ensures.memory;
      absent = λ never. absurd never;
      missing = λ _ never. never;
      begun = c.ensures.begun;
      left = begin-left c.result old new c.args.name.now c.ensures.ok;
      nothing = begin-nothing c.result old new c.ensures.failed c.ensures.memory;
      later = begin-later c.result old new c.args.name.now c.ensures.ok c.ensures.failed c.ensures.memory;
      cause = λ failed. next_count-Rose old.faults new.faults (ap (λ (m : FilesOfProcess). m.faults) (c.ensures.failed failed));
      quiet = begin-quiet c.result old new c.args.name.now c.ensures.ok;
      memory = λ memory. ap (λ (m : FilesOfProcess). m.faults) (c.ensures.memory memory);
    }

pub read-tells : goal.read-tells
read-tells g c =
    let old : FilesOfProcess = c.args.self.now in
    let new : FilesOfProcess = c.new.self.now in
    let ok = read-ok c.result old new c.new.into.now c.ensures.ok in
    let failed = read-failed c.result old new c.ensures.failed in record {
      seen = read-seen c.result old new c.new.into.now c.ensures.ok;
      unseen = read-unseen c.result old new c.ensures.failed;
      missing = λ _ never. never;
      begun = read-begun c.result old new c.new.into.now c.ensures.ok c.ensures.failed;
      bound = c.ensures.bound;
      gives = read-next c.result old new c.new.into.now c.ensures.nothing c.ensures.ok c.ensures.failed;
      later = later c.result old.faults new.faults ok failed;
      cause = cause c.result old.faults new.faults failed;
      quiet = ok;
    }
