use Rattle.abt_chain.proofs.chain.Chain.take_front.Given as goal

abbrev pub ghosts-take_front_by : goal.ghosts-take_front_by
ghosts-take_front_by a = record { name = a.blank.name; parts = a.blank.parts }
