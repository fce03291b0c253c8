use Rattle.trials_objects.proofs.chains.eight_calls_walk_few_links.Given as goal

abbrev pub ghosts-counted : goal.ghosts-counted
ghosts-counted g a = record { name = a.blank.name; parts = a.blank.parts }
