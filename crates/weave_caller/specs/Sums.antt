-- A machine of one sum, to which two streams add.
use Rattle.std.specs.Prelude.{ℕ, ◌≡◌, ◌+◌, ◌%◌, ◌^◌, true, List, [], ◌∷◌, map, Some}
use Rattle.abt_interleave.specs.Machines.{Machine, DeedOf}
use Rattle.abt_interleave.specs.Lines.{WaveLeft}

-- a stream hears the new sum, and keeps it
abbrev pub sums : Machine
sums = record {
  State = Unit {0};
  Part = ℕ;
  Object = ℕ;
  Place = Unit {0};
  Act = ℕ;
  Answer = ℕ;
  What = ℕ;
  streams = 2;
  same = λ x y. true;
  part_of = λ S s. 0;
  object_of = λ S x. 0;
  Steps = λ s old n heard new. heard ≡ Some (tt, n, new);
  Gives = λ old n answer new. (new ≡ (old + n) % 2 ^ 64) × (answer ≡ new);
  May = λ S s n. Unit {0};
  after = λ S s n. S;
  Sound = λ S. Unit {0};
}

-- the one lock
abbrev pub the_lock : Unit {0} → Unit {0}
the_lock x = x

-- stream 0 added 5 and stream 1 added 2, each once: that is a wave, which leaves this total
pub record AreAdded (total : ℕ) : Type 0 where
  pub logs : ℕ → List (DeedOf sums)
  pub heard : ℕ → ℕ
  pub closing : ℕ
  pub first : map (λ d. d.what) (logs 0) ≡ 5 ∷ []
  pub second : map (λ d. d.what) (logs 1) ≡ 2 ∷ []
  pub wave : WaveLeft sums the_lock (λ l. 0) (λ s. 0) (λ s. 0) (λ x. 0) logs heard (λ x. total) (λ l. closing)
