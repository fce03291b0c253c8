-- What words that ask a question say of its numbers.
use Rattle.std.proofs.Common.{◌≡◌, ◌<◌, ◌≤◌, ℕ, List, inl, inr, arith}
use Rattle.abt_machine.specs.Words.{Text}
use Rattle.abt_compute.specs.Questions.{Question, Primes, Queens, Subsequence, Sort, Picture, Turns, Asks, AsksStreams, Begins, IsWithin, streams_limit}

begins-within : (q : Question) (own more : List Text) → Begins own q more → IsWithin q
begins-within (Primes n) own more begins = (begins.number.2, begins.number.3)
begins-within (Queens n) own more begins = (begins.number.2, begins.number.3)
begins-within (Subsequence first second) own more begins = tt
begins-within (Sort file) own more begins = tt
begins-within (Picture width height) own more begins = ((begins.one.2, begins.one.3), (begins.other.2, begins.other.3))
begins-within (Turns nodes turns) own more begins = ((begins.one.2, begins.one.3), (begins.other.2, begins.other.3))

-- they are within their limits
pub within : (words : List Text) (q : Question) (streams : ℕ) → Asks words q streams → IsWithin q
within words q streams asks = begins-within q asks.own asks.more asks.begins

streams-fit : (words : List Text) (streams : ℕ) → AsksStreams words streams → (0 < streams) × (streams ≤ streams_limit)
streams-fit words streams (inl none) = let four : streams ≡ 4 = none.1 in (omega arith, omega arith)
streams-fit words streams (inr says) = (says.number.2, says.number.3)

-- and so is the number of streams
pub streams-within : (words : List Text) (q : Question) (streams : ℕ) → Asks words q streams → (0 < streams) × (streams ≤ streams_limit)
streams-within words q streams asks = streams-fit asks.more streams asks.streams_asked
