use Rattle.abt_chain.proofs.chain.Chain.push_back.Given as goal

abbrev pub ghosts-push_back_by : goal.ghosts-push_back_by
ghosts-push_back_by a = record { name = a.blank.name; parts = a.blank.parts }
