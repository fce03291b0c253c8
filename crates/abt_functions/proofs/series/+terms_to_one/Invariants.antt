use Rattle.abt_functions.proofs.series.+terms_to_one.Given as goal

abbrev pub decreases-terms_to_one : goal.decreases-terms_to_one
decreases-terms_to_one l = l.limit
