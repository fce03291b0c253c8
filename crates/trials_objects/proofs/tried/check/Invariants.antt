use Rattle.trials_objects.proofs.tried.check.Given as goal

-- the object goes on as it has to
abbrev pub invariant-loop-at : goal.invariant-loop-at
invariant-loop-at g l = g.T.Tried.stays l.tried
