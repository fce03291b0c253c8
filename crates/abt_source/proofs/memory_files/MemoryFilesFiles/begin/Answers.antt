use Rattle.std.proofs.Common.{OnErr, option_map, string_bytes, subst}
use Rattle.abt_source.specs.MemoryFiles.{FilesInMemory, IsWhy, given_name}
use Rattle.abt_source.proofs.Naming.{why-given}
use Rattle.abt_source.proofs.memory_files.MemoryFilesFiles.begin.Goals as goal

pub returns-clause-fails : goal.returns-clause-fails
returns-clause-fails c = rw (← c.self.view_is) c.open.ensures.fails

pub returns-clause-reason : goal.returns-clause-reason
returns-clause-reason c =
    let kept = option_map string_bytes c.kept_name.result in
    why-given c.open.result c.args.self.now kept c.args.name.now c.open.new.self.reason
    (subst (λ (m : FilesInMemory). OnErr c.open.result (IsWhy (given_name m kept) c.args.name.now c.open.new.self.reason)) c.self.view_is c.open.ensures.reason)
