-- Lists by number.
use Rattle.std.specs.Prelude.{ℕ, ◌≡◌, ◌<◌, List, length, Some, slice_get, Result, Ok}

-- item k of the list is that of number k, and there are n of them
pub record AreNumbered {A : Type 0} (n : ℕ) (item : ℕ → A) (xs : List A) : Type 0 where
  pub many : length xs ≡ n
  pub own : (k : ℕ) → k < n → slice_get xs k ≡ Some (item k)

-- item k of the list is what some call made of number k, and there are n of them
pub record AreMade {A E : Type 0} (makes : ℕ → Result A E → Type 0) (n : ℕ) (xs : List A) : Type 0 where
  pub many : length xs ≡ n
  pub own : (k : ℕ) → k < n → (x : A) × (slice_get xs k ≡ Some x) × makes k (Ok x)
