-- What a call does to the lot in the slot.
use Rattle.std.specs.Prelude.{◌≡◌, ℕ, suc, ◌≤◌, ◌^◌, ◌∷◌, [], ◌++◌, max}
use Rattle.abt_booth.specs.declared.booth.Called.{Called}
use Rattle.abt_booth.specs.declared.booth.Called.TheVariants as called
use Rattle.abt_booth.specs.declared.rule.Lot.{Lot}
use Rattle.abt_booth.specs.Rule.{entries_of}

module _ {O A R : Type 0} where
  -- The object answered, and the call was noted with the next stamp.
  pub record IsNoted (does : O → A → R → O → Type 0) (old new : Lot O A R) (at : ℕ) (act : A) (stamp : ℕ) (answer : R) : Type 0 where
    pub done : does old.object act answer new.object
    pub stamped : stamp ≡ suc (max at old.clock)
    pub capped : stamp ≤ 2 ^ 62
    pub clock : new.clock ≡ stamp
    pub noted : (number : ℕ) → entries_of number new.made.value ≡ entries_of number old.made.value ++ record { stamp = stamp; caller = number; act = act; answer = answer } ∷ []

  -- The clock was worn: nothing was done, and the act comes back.
  pub record IsLeft (old new : Lot O A R) (at : ℕ) (act back : A) : Type 0 where
    pub same : new ≡ old
    pub returned : back ≡ act
    pub worn : max at old.clock ≡ 2 ^ 62

  -- what a call made of the lot, by what it answered
  abbrev pub Answers : (O → A → R → O → Type 0) → Lot O A R → Lot O A R → ℕ → A → Called O A R → Type 0
  Answers does old new at act (called.Done stamp answer) = IsNoted does old new at act stamp answer
  Answers does old new at act (called.Worn back) = IsLeft old new at act back
