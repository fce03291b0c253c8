-- What the seats of a booth asked.
use Rattle.std.specs.Prelude.{◌≡◌, ℕ, suc, ◌^◌, ◌⊎◌, List, [], ◌∷◌, ◌++◌, map}
use mathlib.Core.List.{IsPrefix}
use Rattle.abt_interleave.specs.declared.entries.Entry.{Entry}
use Rattle.abt_interleave.specs.Histories.{calls_of, last_stamp, entry_stamps}

module _ {A R : Type 0} where
  -- the acts of one seat's calls, in order
  abbrev pub acts_of : ℕ → List (Entry A R) → List A
  acts_of number history = map (λ e. e.act) (calls_of number history)

  -- each call of the seat has the next stamp after the call before it; the first call of all comes after s
  abbrev pub Follows : ℕ → ℕ → List (Entry A R) → Type 0
  Follows number s [] = Unit {0}
  Follows number s (e ∷ es) = (e.caller ≡ number → e.stamp ≡ suc s) × Follows number e.stamp es

  -- The seat asked these acts in order, each at 0, and nothing else; or it asked the first of them, and the clock is worn.
  pub record HasAsked (number : ℕ) (acts : List A) (seen : List (Entry A R)) : Type 0 where
    pub follows : Follows number 0 seen
    pub begun : IsPrefix (acts_of number seen) acts
    pub whole : (acts_of number seen ≡ acts) ⊎ (last_stamp (entry_stamps seen) ≡ 2 ^ 62)

  -- whatever the seat had asked, it has asked these acts more
  abbrev pub AsksMore : ℕ → List A → List (Entry A R) → List (Entry A R) → Type 0
  AsksMore number more before after = (acts : List A) → HasAsked number acts before → HasAsked number (acts ++ more) after
