-- What a tray does.
use Rattle.std.specs.Prelude.{◌≡◌, Box, Option, Some, None}
use Rattle.std.specs.declared.alloc.Global.{Global}
use Rattle.booth_caller.specs.declared.letters.Letter.{Letter}
use Rattle.booth_caller.specs.declared.letters.Tray.{Tray}
use Rattle.booth_caller.specs.declared.letters.Ask.{Ask}
use Rattle.booth_caller.specs.declared.letters.Ask.TheVariants as ask
use Rattle.booth_caller.specs.declared.letters.Reply.{Reply}
use Rattle.booth_caller.specs.declared.letters.Reply.TheVariants as reply

-- the letter held, what is asked, the answer, and the letter held afterwards
abbrev pub TrayAnswers : Option (Box Letter Global) → Ask → Reply → Option (Box Letter Global) → Type 0
TrayAnswers None (ask.Put letter) answer after = (answer ≡ reply.Stored) × (after ≡ Some letter)
TrayAnswers (Some held) (ask.Put letter) answer after = (answer ≡ reply.Full letter) × (after ≡ Some held)
TrayAnswers None ask.Take answer after = (answer ≡ reply.Empty) × (after ≡ None)
TrayAnswers (Some held) ask.Take answer after = (answer ≡ reply.Given held) × (after ≡ None)

-- the old tray, what it is asked, its answer, and the new tray
abbrev pub Does : Tray → Ask → Reply → Tray → Type 0
Does old asked answer new = TrayAnswers old.letter asked answer new.letter
