-- What the program is asked to compute, and which words ask for it.
use Rattle.std.specs.Prelude.{◌≡◌, ◌≤◌, ◌<◌, ◌⊎◌, ℕ, List, [], ◌∷◌, codes, ⊤}
use Rattle.abt_machine.specs.Spelling.{SaysNumber}
use Rattle.abt_machine.specs.Words.{Text}
use Rattle.abt_compute.specs.declared.words.Asked.{Asked}
use Rattle.abt_compute.specs.declared.words.Asked.TheVariants as asked
use Rattle.abt_compute.specs.declared.words.Kernel.{Kernel}
use Rattle.abt_compute.specs.declared.words.Kernel.TheVariants as kernel

-- a computation and its data
pub data Question : Type 0 where
  -- how many primes are below a number
  Primes : ℕ → Question
  -- in how many ways so many queens stand on a board
  Queens : ℕ → Question
  -- how long the longest common subsequence of the bytes of two files is
  Subsequence : Text → Text → Question
  -- the numbers of a file, in order
  Sort : Text → Question
  -- a picture of this width and height
  Picture : ℕ → ℕ → Question
  -- the sum of what so many turns make of the numbers below a number
  Turns : ℕ → ℕ → Question

-- the question of what was asked
abbrev pub question_of : Asked → Question
question_of (asked.Primes n) = Primes n
question_of (asked.Queens n) = Queens n
question_of (asked.Subsequence first second) = Subsequence first.now second.now
question_of (asked.Sort file) = Sort file.now
question_of (asked.Picture width height) = Picture width height
question_of (asked.Turns nodes turns) = Turns nodes turns

-- which computation it is
abbrev pub kernel_of : Question → Kernel
kernel_of (Primes n) = kernel.Primes
kernel_of (Queens n) = kernel.Queens
kernel_of (Subsequence first second) = kernel.Subsequence
kernel_of (Sort file) = kernel.Sort
kernel_of (Picture width height) = kernel.Picture
kernel_of (Turns nodes turns) = kernel.Turns

-- it reads the file of this name
abbrev pub Names : Question → Text → Type 0
Names (Primes n) name = ⊥
Names (Queens n) name = ⊥
Names (Subsequence first second) name = (name ≡ first) ⊎ (name ≡ second)
Names (Sort file) name = name ≡ file
Names (Picture width height) name = ⊥
Names (Turns nodes turns) name = ⊥

-- the name of a computation
abbrev pub kernel_word : Kernel → Text
kernel_word kernel.Primes = codes "primes"
kernel_word kernel.Queens = codes "queens"
kernel_word kernel.Subsequence = codes "lcs"
kernel_word kernel.Sort = codes "mergesort"
kernel_word kernel.Picture = codes "mandelbrot"
kernel_word kernel.Turns = codes "turns"

-- the word is no such name
abbrev pub IsNoKernel : Text → Type 0
IsNoKernel word = (k : Kernel) → kernel_word k ≡ word → ⊥

-- Numbers in words have at most these values.

abbrev pub prime_limit : ℕ
prime_limit = 10000000

abbrev pub queen_limit : ℕ
queen_limit = 12

abbrev pub side_limit : ℕ
side_limit = 4096

abbrev pub turn_limit : ℕ
turn_limit = 65536

abbrev pub streams_limit : ℕ
streams_limit = 64

-- the words begin with digits of a number from 1 to `most`, and more follow
pub record SaysOne (most : ℕ) (words : List Text) (n : ℕ) (more : List Text) : Type 0 where
  pub digits : Text
  pub are : words ≡ digits ∷ more
  pub number : SaysNumber most digits n

-- they begin with digits of two such numbers
pub record SaysTwo (most : ℕ) (words : List Text) (n m : ℕ) (more : List Text) : Type 0 where
  pub first : Text
  pub second : Text
  pub are : words ≡ first ∷ second ∷ more
  pub one : SaysNumber most first n
  pub other : SaysNumber most second m

-- they begin with the names of two files, and not both are the standard input
pub record SaysFiles (words : List Text) (first second : Text) (more : List Text) : Type 0 where
  pub are : words ≡ first ∷ second ∷ more
  pub one_input : first ≡ codes "-" → second ≡ codes "-" → ⊥

-- the words after a name begin with the data of its computation, and more follow
abbrev pub Begins : List Text → Question → List Text → Type 0
Begins words (Primes n) more = SaysOne prime_limit words n more
Begins words (Queens n) more = SaysOne queen_limit words n more
Begins words (Subsequence first second) more = SaysFiles words first second more
Begins words (Sort file) more = words ≡ file ∷ more
Begins words (Picture width height) more = SaysTwo side_limit words width height more
Begins words (Turns nodes turns) more = SaysTwo turn_limit words nodes turns more

-- the words do not begin with the data of this computation
abbrev pub Lacks : Kernel → List Text → Type 0
Lacks k words = (q : Question) (more : List Text) → kernel_of q ≡ k → Begins words q more → ⊥

-- the words are the option for so many streams
pub record SaysStreams (words : List Text) (streams : ℕ) : Type 0 where
  pub digits : Text
  pub are : words ≡ codes "--streams" ∷ digits ∷ []
  pub number : SaysNumber streams_limit digits streams

-- the words are that option, or there are none, which asks for 4 streams
abbrev pub AsksStreams : List Text → ℕ → Type 0
AsksStreams words streams = ((words ≡ []) × (streams ≡ 4)) ⊎ SaysStreams words streams

-- the words are a name, the data of its computation, and perhaps the option for streams
pub record Asks (words : List Text) (q : Question) (streams : ℕ) : Type 0 where
  pub own : List Text
  pub more : List Text
  pub name : words ≡ kernel_word (kernel_of q) ∷ own
  pub begins : Begins own q more
  pub streams_asked : AsksStreams more streams

-- they ask for nothing
abbrev pub AsksNothing : List Text → Type 0
AsksNothing words = (q : Question) (streams : ℕ) → Asks words q streams → ⊥

-- the numbers of a question are as words can ask for them
abbrev pub IsWithin : Question → Type 0
IsWithin (Primes n) = (0 < n) × (n ≤ prime_limit)
IsWithin (Queens n) = (0 < n) × (n ≤ queen_limit)
IsWithin (Subsequence first second) = ⊤
IsWithin (Sort file) = ⊤
IsWithin (Picture width height) = ((0 < width) × (width ≤ side_limit)) × ((0 < height) × (height ≤ side_limit))
IsWithin (Turns nodes turns) = ((0 < nodes) × (nodes ≤ turn_limit)) × ((0 < turns) × (turns ≤ turn_limit))
