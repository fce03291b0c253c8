-- What a program says of its version.
use Rattle.std.specs.Prelude.{◌++◌, codes}
use Rattle.abt_machine.specs.Words.{Text}
use Rattle.abt_words.specs.declared.versions.Program.{Program}
use Rattle.abt_words.specs.declared.versions.Program.TheVariants.{Run, Waves, View, Fold, Work}

-- the name of a program
abbrev pub program_name : Program → Text
program_name Run = codes "abtrun"
program_name Waves = codes "abtwaves"
program_name View = codes "abtview"
program_name Fold = codes "abtfold"
program_name Work = codes "abtwork"

-- a line of the program, its version, and the sum of the logic by which its sources are proved
abbrev pub version_text : Program → Text
version_text p = program_name p ++ codes " 1, proved by the logic dac8208d650f15bf\n"
