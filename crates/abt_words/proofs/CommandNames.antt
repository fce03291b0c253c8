-- No two commands have one name.
use Rattle.std.proofs.Common.{◌≡◌, ℕ, ◌+◌, ◌*◌, ap, List, None, [], ◌∷◌, codes, length, arith}
use Rattle.abt_words.specs.declared.commands.CheckWords.{CheckWords}
use Rattle.abt_words.specs.declared.commands.Command.{Command}
use Rattle.abt_words.specs.declared.commands.Command.TheVariants as command
use Rattle.abt_words.specs.declared.commands.ExploreWords.{ExploreWords}
use Rattle.abt_words.specs.declared.commands.OutputWords.{OutputWords}
use Rattle.abt_words.specs.declared.commands.RunWords.{RunWords}
use Rattle.abt_words.specs.declared.commands.Shows.{Shows}
use Rattle.abt_words.specs.declared.commands.Shows.TheVariants as shows
use Rattle.abt_words.specs.Commands.{SaysBy, SaysCheck, SaysExplore, SaysFile, SaysFollow, SaysJudge, SaysOutput, SaysRun, SaysSelf, check_options, explore_options, judge_name, run_options}
use Rattle.abt_words.specs.Rests.{rest_of}
use Rattle.abt_machine.specs.Words.{Text}

-- names differ in their first letter or their length
abbrev mark : Text → ℕ
mark [] = 0
mark (c ∷ cs) = c + 1000 * length cs

-- what is judged by its report is named as a run is
judged-run : (ws : List Text) (s : Shows) (w : CheckWords) → codes "run" ≡ judge_name s → SaysJudge s ws w → SaysFollow (rest_of run_options None ws) w
judged-run ws shows.Verdict w named says = absurd (let other : 2114 ≡ 4099 = ap mark named in omega arith)
judged-run ws shows.End w named says = absurd (let other : 2114 ≡ 4099 = ap mark named in omega arith)
judged-run ws (shows.Report why) w named says = says

-- and what is not, as a check
judged-check : (ws : List Text) (s : Shows) (w : CheckWords) → codes "check" ≡ judge_name s → SaysJudge s ws w → SaysCheck (rest_of check_options None ws) w
judged-check ws shows.Verdict w named says = says
judged-check ws shows.End w named says = says
judged-check ws (shows.Report why) w named says = absurd (let other : 4099 ≡ 2114 = ap mark named in omega arith)

-- there is no other name
not-judged : (name : Text) (s : Shows) → (name ≡ codes "check" → ⊥) → (name ≡ codes "run" → ⊥) → name ≡ judge_name s → ⊥
not-judged name shows.Verdict check run named = check named
not-judged name shows.End check run named = check named
not-judged name (shows.Report why) check run named = run named

module _ (ws : List Text) (P : Command → Type 0) where
  -- what says a command by its name says one of that kind
  pub by-run : ((w : RunWords) → SaysRun (rest_of run_options None ws) w → P (command.Run w)) → ((w : CheckWords) → SaysFollow (rest_of run_options None ws) w → P (command.Check w))
      → (c : Command) → SaysBy (codes "run") ws c → P c
  by-run h k (command.Run w) says = h w says.1
  by-run h k (command.SelfRun n) says = absurd (let named : 2114 ≡ 3115 = ap mark says.0 in omega arith)
  by-run h k (command.Check w) says = k w (judged-run ws w.shows w says.0 says.1)
  by-run h k (command.CheckOutput w) says = absurd (let named : 2114 ≡ 4099 = ap mark says.0 in omega arith)
  by-run h k (command.Flow f) says = absurd (let named : 2114 ≡ 3102 = ap mark says.0 in omega arith)
  by-run h k (command.Explore w) says = absurd (let named : 2114 ≡ 6101 = ap mark says.0 in omega arith)
  by-run h k command.Help says = absurd (let named : 2114 ≡ 5045 = ap mark says.0 in omega arith)
  by-run h k command.Version says = absurd (let named : 2114 ≡ 8045 = ap mark says.0 in omega arith)

  pub by-self : ((n : ℕ) → SaysSelf (rest_of [] None ws) n → P (command.SelfRun n)) → (c : Command) → SaysBy (codes "self") ws c → P c
  by-self h (command.Run w) says = absurd (let named : 3115 ≡ 2114 = ap mark says.0 in omega arith)
  by-self h (command.SelfRun n) says = h n says.1
  by-self h (command.Check w) says = absurd (not-judged (codes "self") w.shows (λ e. let named : 3115 ≡ 4099 = ap mark e in omega arith)
      (λ e. let named : 3115 ≡ 2114 = ap mark e in omega arith) says.0)
  by-self h (command.CheckOutput w) says = absurd (let named : 3115 ≡ 4099 = ap mark says.0 in omega arith)
  by-self h (command.Flow f) says = absurd (let named : 3115 ≡ 3102 = ap mark says.0 in omega arith)
  by-self h (command.Explore w) says = absurd (let named : 3115 ≡ 6101 = ap mark says.0 in omega arith)
  by-self h command.Help says = absurd (let named : 3115 ≡ 5045 = ap mark says.0 in omega arith)
  by-self h command.Version says = absurd (let named : 3115 ≡ 8045 = ap mark says.0 in omega arith)

  pub by-check : ((w : CheckWords) → SaysCheck (rest_of check_options None ws) w → P (command.Check w))
      → ((w : OutputWords) → SaysOutput (rest_of check_options None ws) w → P (command.CheckOutput w)) → (c : Command) → SaysBy (codes "check") ws c → P c
  by-check h k (command.Run w) says = absurd (let named : 4099 ≡ 2114 = ap mark says.0 in omega arith)
  by-check h k (command.SelfRun n) says = absurd (let named : 4099 ≡ 3115 = ap mark says.0 in omega arith)
  by-check h k (command.Check w) says = h w (judged-check ws w.shows w says.0 says.1)
  by-check h k (command.CheckOutput w) says = k w says.1
  by-check h k (command.Flow f) says = absurd (let named : 4099 ≡ 3102 = ap mark says.0 in omega arith)
  by-check h k (command.Explore w) says = absurd (let named : 4099 ≡ 6101 = ap mark says.0 in omega arith)
  by-check h k command.Help says = absurd (let named : 4099 ≡ 5045 = ap mark says.0 in omega arith)
  by-check h k command.Version says = absurd (let named : 4099 ≡ 8045 = ap mark says.0 in omega arith)

  pub by-flow : ((f : Text) → SaysFile (rest_of [] None ws) f → P (command.Flow f)) → (c : Command) → SaysBy (codes "flow") ws c → P c
  by-flow h (command.Run w) says = absurd (let named : 3102 ≡ 2114 = ap mark says.0 in omega arith)
  by-flow h (command.SelfRun n) says = absurd (let named : 3102 ≡ 3115 = ap mark says.0 in omega arith)
  by-flow h (command.Check w) says = absurd (not-judged (codes "flow") w.shows (λ e. let named : 3102 ≡ 4099 = ap mark e in omega arith)
      (λ e. let named : 3102 ≡ 2114 = ap mark e in omega arith) says.0)
  by-flow h (command.CheckOutput w) says = absurd (let named : 3102 ≡ 4099 = ap mark says.0 in omega arith)
  by-flow h (command.Flow f) says = h f says.1
  by-flow h (command.Explore w) says = absurd (let named : 3102 ≡ 6101 = ap mark says.0 in omega arith)
  by-flow h command.Help says = absurd (let named : 3102 ≡ 5045 = ap mark says.0 in omega arith)
  by-flow h command.Version says = absurd (let named : 3102 ≡ 8045 = ap mark says.0 in omega arith)

  pub by-explore : ((w : ExploreWords) → SaysExplore (rest_of explore_options None ws) w → P (command.Explore w)) → (c : Command) → SaysBy (codes "explore") ws c → P c
  by-explore h (command.Run w) says = absurd (let named : 6101 ≡ 2114 = ap mark says.0 in omega arith)
  by-explore h (command.SelfRun n) says = absurd (let named : 6101 ≡ 3115 = ap mark says.0 in omega arith)
  by-explore h (command.Check w) says = absurd (not-judged (codes "explore") w.shows (λ e. let named : 6101 ≡ 4099 = ap mark e in omega arith)
      (λ e. let named : 6101 ≡ 2114 = ap mark e in omega arith) says.0)
  by-explore h (command.CheckOutput w) says = absurd (let named : 6101 ≡ 4099 = ap mark says.0 in omega arith)
  by-explore h (command.Flow f) says = absurd (let named : 6101 ≡ 3102 = ap mark says.0 in omega arith)
  by-explore h (command.Explore w) says = h w says.1
  by-explore h command.Help says = absurd (let named : 6101 ≡ 5045 = ap mark says.0 in omega arith)
  by-explore h command.Version says = absurd (let named : 6101 ≡ 8045 = ap mark says.0 in omega arith)

  pub by-help : (ws ≡ [] → P command.Help) → (c : Command) → SaysBy (codes "--help") ws c → P c
  by-help h (command.Run w) says = absurd (let named : 5045 ≡ 2114 = ap mark says.0 in omega arith)
  by-help h (command.SelfRun n) says = absurd (let named : 5045 ≡ 3115 = ap mark says.0 in omega arith)
  by-help h (command.Check w) says = absurd (not-judged (codes "--help") w.shows (λ e. let named : 5045 ≡ 4099 = ap mark e in omega arith)
      (λ e. let named : 5045 ≡ 2114 = ap mark e in omega arith) says.0)
  by-help h (command.CheckOutput w) says = absurd (let named : 5045 ≡ 4099 = ap mark says.0 in omega arith)
  by-help h (command.Flow f) says = absurd (let named : 5045 ≡ 3102 = ap mark says.0 in omega arith)
  by-help h (command.Explore w) says = absurd (let named : 5045 ≡ 6101 = ap mark says.0 in omega arith)
  by-help h command.Help says = h says.1
  by-help h command.Version says = absurd (let named : 5045 ≡ 8045 = ap mark says.0 in omega arith)

  pub by-version : (ws ≡ [] → P command.Version) → (c : Command) → SaysBy (codes "--version") ws c → P c
  by-version h (command.Run w) says = absurd (let named : 8045 ≡ 2114 = ap mark says.0 in omega arith)
  by-version h (command.SelfRun n) says = absurd (let named : 8045 ≡ 3115 = ap mark says.0 in omega arith)
  by-version h (command.Check w) says = absurd (not-judged (codes "--version") w.shows (λ e. let named : 8045 ≡ 4099 = ap mark e in omega arith)
      (λ e. let named : 8045 ≡ 2114 = ap mark e in omega arith) says.0)
  by-version h (command.CheckOutput w) says = absurd (let named : 8045 ≡ 4099 = ap mark says.0 in omega arith)
  by-version h (command.Flow f) says = absurd (let named : 8045 ≡ 3102 = ap mark says.0 in omega arith)
  by-version h (command.Explore w) says = absurd (let named : 8045 ≡ 6101 = ap mark says.0 in omega arith)
  by-version h command.Help says = absurd (let named : 8045 ≡ 5045 = ap mark says.0 in omega arith)
  by-version h command.Version says = h says.1
