-- The words of the program that runs on lives say one thing.
use Rattle.std.proofs.Common.{◌≡◌, sym, subst, ◌∙◌, List, [], ◌∷◌, None, ap, arith, codes, length, refl}
use Rattle.abt_machine.specs.Words.{Text}
use Rattle.abt_machine.specs.declared.grammar.Format.TheVariants as format
use Rattle.abt_words.specs.declared.itself.Topic.{Topic}
use Rattle.abt_words.specs.declared.itself.Topic.TheVariants.{Help, Version}
use Rattle.abt_words.specs.declared.lives.LivesWords.{LivesWords}
use Rattle.abt_words.specs.About.{AsksAbout}
use Rattle.abt_words.specs.Lives.{SaysLives, SaysLivesRest, lives_options}
use Rattle.abt_words.specs.Rests.{Rest, rest_of}
use Rattle.abt_words.specs.Steps.{step_limit_of}
use Rattle.abt_words.proofs.OneCommand.{head-of, one-asked, one-flag, tail-of}

module _ (words : List Text) where
  -- what was found says the same
  pub no-lives : (r : Rest) → rest_of lives_options None words ≡ r → ((w : LivesWords) → SaysLivesRest r w → ⊥) → (w : LivesWords) → SaysLives words w → ⊥
  no-lives r is none w says = none w (subst (λ (r : Rest). SaysLivesRest r w) is says)

  -- and only that
  pub one-lives : (w x : LivesWords) → SaysLives words w → SaysLives words x → x ≡ w
  one-lives w x a b =
      let r = rest_of lives_options None words in
      let files : x.workload ∷ x.lives ∷ [] ≡ w.workload ∷ w.lives ∷ [] = sym b.0.0 ∙ a.0.0 in
      let workload : x.workload ≡ w.workload = head-of x.workload w.workload _ _ files in
      let lives : x.lives ≡ w.lives = head-of x.lives w.lives [] [] (tail-of x.workload w.workload _ _ files) in
      let steps : x.steps ≡ w.steps = one-asked (step_limit_of format.Three) (r.given (codes "steps")) x.steps w.steps b.2 a.2 in
      let journal : x.journal ≡ w.journal = one-flag (r.given (codes "journal")) x.journal w.journal b.3 a.3 in
      λ i. record { workload = workload i; lives = lives i; steps = steps i; journal = journal i }

-- words that ask about the program say nothing else
pub about-or-lives : (words : List Text) (a : Topic) (w : LivesWords) → AsksAbout words a → SaysLives words w → ⊥
about-or-lives words Help w is says = one-word w (subst (λ (ws : List Text). SaysLives ws w) is says) where
  one-word : (w : LivesWords) → SaysLives (codes "--help" ∷ []) w → ⊥
  one-word w says = let none : [] ≡ w.workload ∷ w.lives ∷ [] = says.0.0 in cc
about-or-lives words Version w is says = one-word w (subst (λ (ws : List Text). SaysLives ws w) is says) where
  one-word : (w : LivesWords) → SaysLives (codes "--version" ∷ []) w → ⊥
  one-word w says = let none : [] ≡ w.workload ∷ w.lives ∷ [] = says.0.0 in cc

-- and ask one thing
apart : (words : List Text) → words ≡ codes "--help" ∷ [] → words ≡ codes "--version" ∷ [] → ⊥
apart words is other =
    let same : codes "--help" ∷ [] ≡ codes "--version" ∷ [] = sym is ∙ other in
    let one : codes "--help" ≡ codes "--version" = cc in
    absurd (let long : length (codes "--help") ≡ length (codes "--version") = ap length one in omega arith)

pub one-about : (words : List Text) (a b : Topic) → AsksAbout words a → AsksAbout words b → a ≡ b
one-about words Help Help is other = refl
one-about words Version Version is other = refl
one-about words Help Version is other = absurd (apart words is other)
one-about words Version Help is other = absurd (apart words other is)
