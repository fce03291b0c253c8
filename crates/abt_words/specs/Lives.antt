-- What the words of the program that runs on lives ask for.
use Rattle.std.specs.Prelude.{true, false, List, [], ◌∷◌, None, codes}
use Rattle.abt_machine.specs.Words.{Text}
use Rattle.abt_words.specs.declared.lives.LivesAsked.{LivesAsked}
use Rattle.abt_words.specs.declared.lives.LivesWords.{LivesWords}
use Rattle.abt_words.specs.Commands.{AreFiles, HasWords, SaysFlag, SaysSteps}
use Rattle.abt_words.specs.Rests.{Options, Rest, rest_of}

abbrev pub lives_options : Options
lives_options = (codes "steps", true) ∷ (codes "journal", false) ∷ []

-- exactly two FILEs, and the options, each at most once, in any order
abbrev pub SaysLivesRest : Rest → LivesWords → Type 0
SaysLivesRest r w = HasWords r (w.workload ∷ w.lives ∷ []) × AreFiles w.workload w.lives × SaysSteps (r.given (codes "steps")) w.steps
    × SaysFlag (r.given (codes "journal")) w.journal

-- the words after the program's name say this
abbrev pub SaysLives : List Text → LivesWords → Type 0
SaysLives words = SaysLivesRest (rest_of lives_options None words)

-- the words, with names of their own
abbrev pub lives_words : LivesAsked → LivesWords
lives_words a = record { workload = a.workload.now; lives = a.lives.now; steps = a.steps; journal = a.journal }
