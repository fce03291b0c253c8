-- What a call answered, and what a booth left when it was closed.
use Rattle.std.specs.Prelude.{◌≡◌, ℕ, suc, ◌<◌, ◌≤◌, ◌^◌, List, [], ◌∷◌, ◌++◌, max}
use Rattle.std.specs.List.{All}
use mathlib.Core.List.{IsPrefix}
use Rattle.abt_interleave.specs.declared.entries.Entry.{Entry}
use Rattle.abt_interleave.specs.Histories.{calls_of, last_stamp, Extends, Legal, entry_stamps}

-- What a seat had seen is a prefix of what it has seen, and to the calls of its number just these were added.
pub record GrowsBy {A R : Type 0} (number : ℕ) (before after added : List (Entry A R)) : Type 0 where
  pub prefix : IsPrefix before after
  pub calls : calls_of number after ≡ calls_of number before ++ added

-- for objects whose meaning is `does`, and the object that the booth was made round
module _ {O A R : Type 0} (does : O → A → R → O → Type 0) (opening : O) where
  -- A call of a seat with this number was answered: the seat met a history, and the call now stands at the end of it.
  pub record IsAnswered (number : ℕ) (before after : List (Entry A R)) (at : ℕ) (act : A) (stamp : ℕ) (answer : R) : Type 0 where
    pub met : List (Entry A R)
    pub left : O
    pub extends : Extends number before met
    pub entered : after ≡ met ++ record { stamp = stamp; caller = number; act = act; answer = answer } ∷ []
    pub legal : Legal does opening after left
    pub stamped : stamp ≡ suc (max at (last_stamp (entry_stamps met)))
    pub capped : stamp ≤ 2 ^ 62

  -- The clock was worn: the act comes back, and the seat has seen the history that it met, with no call added.
  pub record IsWorn (number : ℕ) (before after : List (Entry A R)) (at : ℕ) (act back : A) : Type 0 where
    pub left : O
    pub returned : back ≡ act
    pub extends : Extends number before after
    pub legal : Legal does opening after left
    pub worn : max at (last_stamp (entry_stamps after)) ≡ 2 ^ 62

  -- The booth was closed: one legal history leads to the object, its calls are those of the seats, and each seat,
  -- known by its number and what it had seen, had seen a prefix of it with all its own calls.
  pub record IsClosed (seats : ℕ) (known : List (ℕ × List (Entry A R))) (object : O) (clock : ℕ) : Type 0 where
    pub history : List (Entry A R)
    pub legal : Legal does opening history object
    pub last : clock ≡ last_stamp (entry_stamps history)
    pub capped : clock ≤ 2 ^ 62
    pub of_seats : All (λ e. e.caller < seats) history
    pub seen : All (λ k. Extends k.0 k.1 history) known
