use Rattle.abt_source.proofs.memory_files.MemoryFiles.fails.Goals as goal

pub returns-clause-fails : goal.returns-clause-fails
returns-clause-fails c = rw (← c.self.view_is, ← c.deref.ensures.value) c.is_listed.ensures
