-- What is printed for a question, and what keeps it from being answered.
use Rattle.std.specs.Prelude.{◌≡◌, ◌≤◌, ℕ, List, ◌++◌, codes, decimal, length, map, Option, Some, ⊤}
use Rattle.std.specs.List.{range_with_len}
use Rattle.abt_functions.specs.Primes.{primes_below}
use Rattle.abt_kernels.specs.Mandelbrot.{mandelbrot_row}
use Rattle.abt_kernels.specs.Pictures.{pgm_text}
use Rattle.abt_kernels.specs.Queens.{queens}
use Rattle.abt_kernels.specs.Sorting.{in_order}
use Rattle.abt_kernels.specs.Subsequences.{common_length}
use Rattle.abt_kernels.specs.Turns.{turned_sum}
use Rattle.abt_machine.specs.Words.{Text, ended}
use Rattle.abt_shell.specs.declared.status.Stop.{Stop}
use Rattle.abt_shell.specs.declared.status.Wrong.{Wrong}
use Rattle.abt_shell.specs.Fetched.{StopsFor}
use Rattle.abt_compute.specs.Files.{AreBadTexts, Has, HasNumbers, IsBadList, list_limit, text_limit}
use Rattle.abt_compute.specs.Numbers.{Lists, number_lines}
use Rattle.abt_compute.specs.Questions.{Question, Primes, Queens, Subsequence, Sort, Picture, Turns, Names}

-- What is printed.

-- the line of a count
abbrev pub count_line : Text → ℕ → Text
count_line name n = ended (name ++ (codes " " ++ decimal n))

-- the line of the length of the longest common subsequence of two texts
abbrev pub common_line : Text → Text → Text
common_line a b = count_line (codes "lcs") (common_length a b (length a) (length b))

-- the picture of this width and height
abbrev pub picture_text : ℕ → ℕ → Text
picture_text width height = pgm_text width height (map (mandelbrot_row width height) (range_with_len 0 height))

-- the text is that line for the bytes of two files
pub record IsCommon (first second : Option Text) (text : Text) : Type 0 where
  pub a : Text
  pub b : Text
  pub one : Has first text_limit a
  pub other : Has second text_limit b
  pub line : text ≡ common_line a b

-- the text is the lines of the numbers that a file lists, in order
pub record IsSorted (told : Option Text) (text : Text) : Type 0 where
  pub numbers : List ℕ
  pub has : HasNumbers told numbers
  pub lines : text ≡ number_lines (in_order numbers)

-- the text is printed for a question; file_of has the bytes of each file, if they are observable
abbrev pub Answers : (Text → Option Text) → Question → Text → Type 0
Answers file_of (Primes n) text = text ≡ count_line (codes "primes") (primes_below n)
Answers file_of (Queens n) text = text ≡ count_line (codes "queens") (queens n)
Answers file_of (Subsequence first second) text = IsCommon (file_of first) (file_of second) text
Answers file_of (Sort file) text = IsSorted (file_of file) text
Answers file_of (Picture width height) text = text ≡ picture_text width height
Answers file_of (Turns nodes turns) text = text ≡ count_line (codes "turns") (turned_sum nodes turns)

-- What keeps a question from being answered.

-- a line of a file that it reads has this wrong
abbrev pub HasBadLine : (Text → Option Text) → Question → ℕ → Wrong → Type 0
HasBadLine file_of (Primes n) line w = ⊥
HasBadLine file_of (Queens n) line w = ⊥
HasBadLine file_of (Subsequence first second) line w = AreBadTexts (file_of first) (file_of second) line w
HasBadLine file_of (Sort file) line w = IsBadList (file_of file) line w
HasBadLine file_of (Picture width height) line w = ⊥
HasBadLine file_of (Turns nodes turns) line w = ⊥

-- it reads a file
pub record ReadsFile (q : Question) : Type 0 where
  pub name : Text
  pub named : Names q name

-- why it is not answered; faults are the counts of faults of reading before and afterwards
abbrev pub Prevents : (Text → Option Text) → Question → ℕ × ℕ → Stop → Type 0
Prevents file_of q = StopsFor ⊥ (ReadsFile q) (HasBadLine file_of q)

-- When a question is answered.

-- the bytes of a file are observable, and this holds of them
pub record Shows (told : Option Text) (Is : Text → Type 0) : Type 0 where
  pub bytes : Text
  pub there : told ≡ Some bytes
  pub is : Is bytes

-- at most so many bytes
abbrev pub IsShort : ℕ → Text → Type 0
IsShort most text = length text ≤ most

-- at most as many bytes as a list may have, and each line is a number
pub record IsList (text : Text) : Type 0 where
  pub short : IsShort list_limit text
  pub numbers : List ℕ
  pub lists : Lists text numbers

-- the bytes of the files that a question reads are observable
abbrev pub IsKnown : (Text → Option Text) → Question → Type 0
IsKnown file_of q = (name : Text) → Names q name → Shows (file_of name) (λ text. ⊤)

-- and they are as they should be
abbrev pub IsFit : (Text → Option Text) → Question → Type 0
IsFit file_of (Primes n) = ⊤
IsFit file_of (Queens n) = ⊤
IsFit file_of (Subsequence first second) = Shows (file_of first) (IsShort text_limit) × Shows (file_of second) (IsShort text_limit)
IsFit file_of (Sort file) = Shows (file_of file) IsList
IsFit file_of (Picture width height) = ⊤
IsFit file_of (Turns nodes turns) = ⊤
