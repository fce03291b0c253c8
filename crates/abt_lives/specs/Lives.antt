-- What the text of lives is, and what is written about waves.
use Rattle.std.specs.Prelude.{ℕ, ◌≡◌, ◌<◌, ◌≤◌, ◌⊎◌, List, ◌∷◌, Option, IfSome, codes, decimal, length, map}
use Rattle.abt_machine.specs.declared.workload.Parts.{Parts}
use Rattle.abt_machine.specs.Words.{Text, numbered, text_of}
use Rattle.abt_shell.specs.declared.status.Stop.{Stop}
use Rattle.abt_shell.specs.declared.status.Wrong.{Wrong}
use Rattle.abt_shell.specs.declared.status.Wrong.TheVariants.{Workload, Journal, Lives}
use Rattle.abt_shell.specs.Fetched.{HasNot}
use Rattle.abt_workload.specs.Hints.{line_hint}
use Rattle.abt_streams.specs.declared.life.Life.{Life}
use Rattle.abt_streams.specs.declared.wave.Wave.{Wave}
use Rattle.abt_streams.specs.Lives.{AreLives}
use Rattle.abt_streams.specs.Texts.{IsBadLifeAt, IsNoLivesText, IsTextOfLives}

-- how many bytes the text of lives has at most
abbrev pub lives_limit : ℕ
lives_limit = 65536

-- the bytes, which are few enough, are the text of these lives of streams of W
pub record ReadsLives (W : Parts) (bytes : Text) (lives : List Life) : Type 0 where
  pub few : length bytes ≤ lives_limit
  pub are : AreLives W lives
  pub text : IsTextOfLives lives bytes

-- why the bytes are not: they are too many, which line 0 means, or line l is the first that breaks a rule
abbrev pub RefusesLives : Parts → Text → ℕ → Type 0
RefusesLives W bytes l = ((lives_limit < length bytes) × (l ≡ 0)) ⊎ ((length bytes ≤ lives_limit) × IsBadLifeAt W bytes l × IsNoLivesText W bytes)

-- and this may be said further
abbrev pub RefusesLivesSo : Parts → Text → ℕ → Text → Type 0
RefusesLivesSo W bytes l said = RefusesLives W bytes l × (said ≡ line_hint bytes l)

-- a line of a file, by its bytes if they are observable, has this wrong, which keeps it from being the text of lives of streams of W
abbrev pub IsNoLivesLine : Parts → Option Text → ℕ → Wrong → Type 0
IsNoLivesLine W told line (Workload f said) = ⊥
IsNoLivesLine W told line (Journal said) = ⊥
IsNoLivesLine W told line (Lives said) = IfSome told (λ bytes. RefusesLivesSo W bytes line said.now)

-- why the file has no lives
abbrev pub HasNoLives : Parts → Option Text → ℕ × ℕ → Stop → Type 0
HasNoLives W told = HasNot (IsNoLivesLine W told)

-- what is written about wave i
abbrev pub wave_words : ℕ → Wave → List Text
wave_words i wave = codes "wave" ∷ decimal i ∷ codes "from" ∷ decimal wave.from ∷ codes "streams" ∷ map decimal wave.streams

-- and of all
abbrev pub waves_text : List Wave → Text
waves_text waves = text_of (numbered wave_words waves)
