-- What a program is asked about itself.
use Rattle.std.specs.Prelude.{◌≡◌, List, [], ◌∷◌, codes}
use Rattle.abt_machine.specs.Words.{Text}
use Rattle.abt_words.specs.declared.itself.Topic.{Topic}
use Rattle.abt_words.specs.declared.itself.Topic.TheVariants.{Help, Version}

-- the word that asks for it
abbrev pub about_word : Topic → Text
about_word Help = codes "--help"
about_word Version = codes "--version"

-- the words ask for it: there is no other word
abbrev pub AsksAbout : List Text → Topic → Type 0
AsksAbout words a = words ≡ about_word a ∷ []
