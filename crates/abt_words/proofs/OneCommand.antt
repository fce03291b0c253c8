-- Words say at most one command.
use Rattle.std.proofs.Common.{◌≡◌, ◌⊎◌, inl, inr, ℕ, Bool, true, refl, sym, ap, subst, ◌∙◌, List, [], ◌∷◌, Option, Some, None, codes}
use Rattle.std.specs.Str.Parse.{digits_value}
use Rattle.std.specs.Prelude.{IfOk, Result, Ok, Err}
use Rattle.abt_words.specs.declared.fault.WordFault.{WordFault}
use Rattle.abt_words.specs.declared.commands.Command.{Command}
use Rattle.abt_words.specs.declared.commands.Command.TheVariants as command
use Rattle.abt_words.specs.declared.commands.CheckWords.{CheckWords}
use Rattle.abt_words.specs.declared.commands.ExploreWords.{ExploreWords}
use Rattle.abt_words.specs.declared.commands.OutputWords.{OutputWords}
use Rattle.abt_words.specs.declared.commands.RunWords.{RunWords}
use Rattle.abt_words.specs.declared.commands.Schedule.{Schedule}
use Rattle.abt_words.specs.declared.commands.Schedule.TheVariants as schedule
use Rattle.abt_words.specs.declared.commands.Shows.{Shows}
use Rattle.abt_words.specs.declared.commands.Shows.TheVariants as shows
use Rattle.abt_machine.specs.Words.{Text}
use Rattle.abt_machine.specs.declared.grammar.Format.TheVariants as format
use Rattle.abt_machine.specs.Spelling.{SaysNumber}
use Rattle.abt_words.specs.Commands.{Says, SaysAtMostOne, SaysBy, SaysCheck, SaysEnd, SaysExplore, SaysFile, SaysFlag, SaysFollow, SaysJudge, SaysOutput, SaysReport, SaysRun, SaysSchedule, SaysSelf, check_options, explore_options, judge_name, run_options, state_limit}
use Rattle.abt_words.specs.Rests.{Rest, rest_of}
use Rattle.abt_words.specs.Steps.{step_limit_of}
use Rattle.abt_words.proofs.CommandNames.{by-check, by-explore, by-flow, by-help, by-run, by-self, by-version}

pub head-of : (x y : Text) (xs ys : List Text) → x ∷ xs ≡ y ∷ ys → x ≡ y
head-of x y xs ys e = cc

no-head : (x : Text) (xs : List Text) → x ∷ xs ≡ [] → ⊥
no-head x xs e = cc

pub tail-of : (x y : Text) (xs ys : List Text) → x ∷ xs ≡ y ∷ ys → xs ≡ ys
tail-of x y xs ys e = cc

one-number : (most : ℕ) (digits : Text) (m n : ℕ) → SaysNumber most digits m → SaysNumber most digits n → m ≡ n
one-number most digits m n a b = a.1 ∙ sym b.1

pub one-asked : (most : ℕ) (vs : List Text) (m n : Option ℕ) → SaysAtMostOne most vs m → SaysAtMostOne most vs n → m ≡ n
one-asked most [] m n a b = a ∙ sym b
one-asked most (v ∷ []) None n a b = absurd a
one-asked most (v ∷ []) (Some m) None a b = absurd b
one-asked most (v ∷ []) (Some m) (Some n) a b = ap (λ (k : ℕ). Some k) (one-number most v m n a b)
one-asked most (v ∷ w ∷ vs) m n a b = absurd a

pub one-flag : (vs : List Text) (j k : Bool) → SaysFlag vs j → SaysFlag vs k → j ≡ k
one-flag [] j k a b = a ∙ sym b
one-flag (v ∷ []) j k a b = a ∙ sym b
one-flag (v ∷ w ∷ vs) j k a b = absurd a

one-schedule : (in_turns seeds : List Text) (s t : Schedule) → SaysSchedule in_turns seeds s → SaysSchedule in_turns seeds t → s ≡ t
one-schedule [] [] s t a b = a ∙ sym b
one-schedule (v ∷ []) [] s t a b = a ∙ sym b
one-schedule [] (d ∷ []) s t a b = a.1 ∙ ap (λ (n : ℕ). schedule.Seed n) (a.2.1 ∙ sym b.2.1) ∙ sym b.1
one-schedule [] (d ∷ e ∷ es) s t a b = absurd a
one-schedule (v ∷ []) (d ∷ ds) s t a b = absurd a
one-schedule (v ∷ w ∷ ws) ds s t a b = absurd a

one-report : (vs : List Text) (s t : Shows) → SaysReport vs s → SaysReport vs t → s ≡ t
one-report [] s t a b = a ∙ sym b
one-report (v ∷ []) s t a b = a ∙ sym b
one-report (v ∷ w ∷ vs) s t a b = absurd a

one-end : (vs : List Text) (s t : Shows) → SaysEnd vs s → SaysEnd vs t → s ≡ t
one-end [] s t a b = a ∙ sym b
one-end (v ∷ []) s t a b = a ∙ sym b
one-end (v ∷ w ∷ vs) s t a b = absurd a

-- an option that is not given is not asked for
not-given : (vs : List Text) → vs ≡ [] → SaysFlag vs true → ⊥
not-given [] none says = cc
not-given (v ∷ vs) none says = no-head v vs none

module _ (ws : List Text) where
  one-run : (w : RunWords) → SaysRun (rest_of run_options None ws) w → (d : Command) → SaysBy (codes "run") ws d → command.Run w ≡ d
  one-run w a = by-run ws (λ d. command.Run w ≡ d) (λ x b.
      let r = rest_of run_options None ws in
      let file : w.file ≡ x.file = head-of w.file x.file [] [] (sym a.0.0 ∙ b.0.0) in
      let steps : w.steps ≡ x.steps = one-asked (step_limit_of format.Three) (r.given (codes "steps")) w.steps x.steps a.2 b.2 in
      let journal : w.journal ≡ x.journal = one-flag (r.given (codes "journal")) w.journal x.journal a.3 b.3 in
      let why : w.why ≡ x.why = one-flag (r.given (codes "why")) w.why x.why a.4 b.4 in
      let schedule : w.schedule ≡ x.schedule = one-schedule (r.given (codes "in-turn")) (r.given (codes "seed")) w.schedule x.schedule a.5 b.5 in
      λ i. command.Run (record { file = file i; steps = steps i; journal = journal i; why = why i; schedule = schedule i }))
      (λ x b. absurd (no-head x.journal [] (sym b.2 ∙ a.6)))

  one-follow : (w : CheckWords) → SaysFollow (rest_of run_options None ws) w → (d : Command) → SaysBy (codes "run") ws d → command.Check w ≡ d
  one-follow w a = by-run ws (λ d. command.Check w ≡ d) (λ x b. absurd (no-head w.journal [] (sym a.2 ∙ b.6))) (λ x b.
      let workload : w.workload ≡ x.workload = head-of w.workload x.workload [] [] (sym a.0.0 ∙ b.0.0) in
      let journal : w.journal ≡ x.journal = head-of w.journal x.journal [] [] (sym a.2 ∙ b.2) in
      let shows : w.shows ≡ x.shows = one-report ((rest_of run_options None ws).given (codes "why")) w.shows x.shows a.3 b.3 in
      λ i. command.Check (record { workload = workload i; journal = journal i; shows = shows i }))

  one-self : (m : ℕ) → SaysSelf (rest_of [] None ws) m → (d : Command) → SaysBy (codes "self") ws d → command.SelfRun m ≡ d
  one-self m a = by-self ws (λ d. command.SelfRun m ≡ d) (λ n b.
      let word : a.0 ≡ b.0 = head-of a.0 b.0 [] [] (sym a.1.0 ∙ b.1.0) in
      ap (λ (u : ℕ). command.SelfRun u) (a.2.1 ∙ (ap (digits_value 10) word ∙ sym b.2.1)))

  one-check : (w : CheckWords) → SaysCheck (rest_of check_options None ws) w → (d : Command) → SaysBy (codes "check") ws d → command.Check w ≡ d
  one-check w a = by-check ws (λ d. command.Check w ≡ d) (λ x b.
      let words : w.workload ∷ w.journal ∷ [] ≡ x.workload ∷ x.journal ∷ [] = sym a.0.0 ∙ b.0.0 in
      let workload : w.workload ≡ x.workload = head-of w.workload x.workload _ _ words in
      let journal : w.journal ≡ x.journal = head-of w.journal x.journal [] [] (tail-of w.workload x.workload _ _ words) in
      let shows : w.shows ≡ x.shows = one-end ((rest_of check_options None ws).given (codes "end")) w.shows x.shows a.2 b.2 in
      λ i. command.Check (record { workload = workload i; journal = journal i; shows = shows i }))
      (λ x b. absurd (not-given ((rest_of check_options None ws).given (codes "report")) a.3 b.2))

  one-output : (w : OutputWords) → SaysOutput (rest_of check_options None ws) w → (d : Command) → SaysBy (codes "check") ws d → command.CheckOutput w ≡ d
  one-output w a = by-check ws (λ d. command.CheckOutput w ≡ d) (λ x b. absurd (not-given ((rest_of check_options None ws).given (codes "report")) b.3 a.2)) (λ x b.
      let words : w.workload ∷ w.output ∷ [] ≡ x.workload ∷ x.output ∷ [] = sym a.0.0 ∙ b.0.0 in
      let workload : w.workload ≡ x.workload = head-of w.workload x.workload _ _ words in
      let output : w.output ≡ x.output = head-of w.output x.output [] [] (tail-of w.workload x.workload _ _ words) in
      let why : w.why ≡ x.why = one-flag ((rest_of check_options None ws).given (codes "why")) w.why x.why a.3 b.3 in
      λ i. command.CheckOutput (record { workload = workload i; output = output i; why = why i }))

  one-judge : (s : Shows) (w : CheckWords) → SaysJudge s ws w → (d : Command) → SaysBy (judge_name s) ws d → command.Check w ≡ d
  one-judge shows.Verdict w a = one-check w a
  one-judge shows.End w a = one-check w a
  one-judge (shows.Report why) w a = one-follow w a

  one-flow : (f : Text) → SaysFile (rest_of [] None ws) f → (d : Command) → SaysBy (codes "flow") ws d → command.Flow f ≡ d
  one-flow f a = by-flow ws (λ d. command.Flow f ≡ d) (λ g b. ap (λ (f : Text). command.Flow f) (head-of f g [] [] (sym a.0.0 ∙ b.0.0)))

  one-explore : (w : ExploreWords) → SaysExplore (rest_of explore_options None ws) w → (d : Command) → SaysBy (codes "explore") ws d → command.Explore w ≡ d
  one-explore w a = by-explore ws (λ d. command.Explore w ≡ d) (λ x b.
      let r = rest_of explore_options None ws in
      let file : w.file ≡ x.file = head-of w.file x.file [] [] (sym a.0.0.0 ∙ b.0.0.0) in
      let states : w.states ≡ x.states = one-asked state_limit (r.given (codes "states")) w.states x.states a.1 b.1 in
      let end : w.end ≡ x.end = one-asked state_limit (r.given (codes "end")) w.end x.end a.2 b.2 in
      let journal : w.journal ≡ x.journal = one-flag (r.given (codes "journal")) w.journal x.journal a.3 b.3 in
      λ i. command.Explore (record { file = file i; states = states i; end = end i; journal = journal i }))

  one-by : (name : Text) (c d : Command) → SaysBy name ws c → SaysBy name ws d → c ≡ d
  one-by name (command.Run w) d a b = one-run w a.1 d (sym a.0 ∙ b.0, b.1)
  one-by name (command.SelfRun n) d a b = one-self n a.1 d (sym a.0 ∙ b.0, b.1)
  one-by name (command.Check w) d a b = one-judge w.shows w a.1 d (sym a.0 ∙ b.0, b.1)
  one-by name (command.CheckOutput w) d a b = one-output w a.1 d (sym a.0 ∙ b.0, b.1)
  one-by name (command.Flow f) d a b = one-flow f a.1 d (sym a.0 ∙ b.0, b.1)
  one-by name (command.Explore w) d a b = one-explore w a.1 d (sym a.0 ∙ b.0, b.1)
  one-by name command.Help d a b = by-help ws (λ d. command.Help ≡ d) (λ none. refl) d (sym a.0 ∙ b.0, b.1)
  one-by name command.Version d a b = by-version ws (λ d. command.Version ≡ d) (λ none. refl) d (sym a.0 ∙ b.0, b.1)

pub one-command : (words : List Text) (c d : Command) → Says words c → Says words d → c ≡ d
one-command [] c d a b = absurd a
one-command (name ∷ ws) c d a b = one-by ws name c d a b

-- ---- from the rest to the words

module _ (words : List Text) (name : Text) (rest : List Text) (are : words ≡ name ∷ rest) (given : Text) (is : name ≡ given) where
  by-says : (c : Command) → SaysBy given rest c → Says words c
  by-says c says = subst (λ (l : List Text). Says l c) (sym are) (is ∙ says.0, says.1)

  says-by : (c : Command) → Says words c → SaysBy given rest c
  says-by c says = let at = subst (λ (l : List Text). Says l c) are says in (sym is ∙ at.0, at.1)

  pub by-only : (r : Result Command WordFault) → IfOk r (SaysBy given rest) → IfOk r (λ c. (d : Command) → Says words d → d ≡ c)
  by-only (Ok c) says = λ d other. one-command words d c other (by-says c says)
  by-only (Err e) says = says

  pub by-bad : ((c : Command) → SaysBy given rest c → ⊥) → (c : Command) → Says words c → ⊥
  by-bad h c says = h c (says-by c says)

-- ---- from what was found to the rest of the command

module _ (ws : List Text) (r : Rest) where
  pub no-self : rest_of [] None ws ≡ r → ((n : ℕ) → SaysSelf r n → ⊥) → (c : Command) → SaysBy (codes "self") ws c → ⊥
  no-self is none = by-self ws (λ c. ⊥) (λ n says. none n (subst (λ (r : Rest). SaysSelf r n) is says))

  pub no-check : rest_of check_options None ws ≡ r → ((w : CheckWords) → SaysCheck r w → ⊥) → ((w : OutputWords) → SaysOutput r w → ⊥) → (c : Command) → SaysBy (codes "check") ws c → ⊥
  no-check is none neither =
      by-check ws (λ c. ⊥) (λ w says. none w (subst (λ (r : Rest). SaysCheck r w) is says)) (λ w says. neither w (subst (λ (r : Rest). SaysOutput r w) is says))

  pub no-flow : rest_of [] None ws ≡ r → ((f : Text) → SaysFile r f → ⊥) → (c : Command) → SaysBy (codes "flow") ws c → ⊥
  no-flow is none = by-flow ws (λ c. ⊥) (λ f says. none f (subst (λ (r : Rest). SaysFile r f) is says))

  pub no-explore : rest_of explore_options None ws ≡ r → ((w : ExploreWords) → SaysExplore r w → ⊥) → (c : Command) → SaysBy (codes "explore") ws c → ⊥
  no-explore is none = by-explore ws (λ c. ⊥) (λ w says. none w (subst (λ (r : Rest). SaysExplore r w) is says))

-- ---- what is judged has its name

ends-or-not : (vs : List Text) (s : Shows) → SaysEnd vs s → (s ≡ shows.Verdict) ⊎ (s ≡ shows.End)
ends-or-not [] s says = inl says
ends-or-not (v ∷ []) s says = inr says
ends-or-not (v ∷ w ∷ vs) s says = absurd says

module _ (ws : List Text) (r : Rest) (w v : CheckWords) (same : v ≡ w) where
  pub check-said : rest_of check_options None ws ≡ r → SaysCheck r w → SaysBy (codes "check") ws (command.Check v)
  check-said is says =
      let own : SaysCheck (rest_of check_options None ws) w = subst (λ (q : Rest). SaysCheck q w) (sym is) says in
      subst (λ (x : CheckWords). SaysBy (codes "check") ws (command.Check x)) (sym same)
      (elim (ends-or-not (r.given (codes "end")) w.shows says.2) [
        | inl verdict ↦ subst (λ (s : Shows). (codes "check" ≡ judge_name s) × SaysJudge s ws w) (sym verdict) (refl, own)
        | inr end ↦ subst (λ (s : Shows). (codes "check" ≡ judge_name s) × SaysJudge s ws w) (sym end) (refl, own)
      ])

module _ (ws : List Text) (r : Rest) (w v : OutputWords) (same : v ≡ w) where
  pub output-said : rest_of check_options None ws ≡ r → SaysOutput r w → SaysBy (codes "check") ws (command.CheckOutput v)
  output-said is says = subst (λ (x : OutputWords). SaysBy (codes "check") ws (command.CheckOutput x)) (sym same) (refl, subst (λ (q : Rest). SaysOutput q w) (sym is) says)
