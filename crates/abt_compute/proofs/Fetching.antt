-- From what was read of files to what they have.
use Rattle.std.proofs.Common.{◌≡◌, ◌⊎◌, ◌≤◌, ◌<◌, ◌+◌, ℕ, [], Option, length, take, inl, inr, refl}
use Rattle.std.specs.Prelude.{IfSome, ⊤}
use Rattle.abt_machine.specs.declared.program.Fault.TheVariants as fault
use Rattle.abt_machine.specs.Words.{Text}
use Rattle.abt_shell.specs.declared.status.Stop.{Stop}
use Rattle.abt_shell.specs.declared.status.Wrong.{Wrong}
use Rattle.abt_shell.specs.Fetched.{HasNot}
use Rattle.abt_shell.proofs.Fetched.{of-long, of-whole, stops-file, stops-more}
use Rattle.abt_compute.specs.Answers.{HasBadLine, Prevents, ReadsFile}
use Rattle.abt_compute.specs.Files.{AreBadTexts, Has, IsBadList, IsTooLong, IsWrong, IsWrongLine, list_limit}
use Rattle.abt_compute.specs.Questions.{Subsequence, Sort}

module _ (most : ℕ) (told : Option Text) (prefix : Text) (read : IfSome told (λ xs. prefix ≡ take (most + 1) xs)) where
  -- a file has what was read of it, if that is not more than was asked for
  pub has-whole : length prefix ≤ most → Has told most prefix
  has-whole short = record { are = of-whole most (λ xs. prefix ≡ xs) told prefix read short refl; few = short }

  -- and is too long, if it is more
  pub is-long : most < length prefix → (w : Wrong) → IsWrong fault.Limit [] w → IfSome told (λ text. IsTooLong most text 0 w)
  is-long long w is = of-long most (λ text. IsTooLong most text 0 w) told prefix read long (λ xs many. record { many = many; line_is = refl; wrong_is = is })

-- a line that is no number is a bad line of the file
pub wrong-line-stops : (told : Option Text) (prefix : Text) → IfSome told (λ xs. prefix ≡ take (list_limit + 1) xs) → length prefix ≤ list_limit → (s : Stop) (faults : ℕ × ℕ) → HasNot (IsWrongLine prefix) faults s → HasNot (IsBadList told) faults s
wrong-line-stops told prefix read short s faults =
    stops-more ⊥ ⊥ ⊤ ⊤ (IsWrongLine prefix) (IsBadList told) faults faults (λ no. no) (λ known. known)
    (λ line w wrong. of-whole list_limit (λ text. IsTooLong list_limit text line w ⊎ IsWrongLine text line w) told prefix read short (inr wrong)) (λ grew. grew) s

-- what keeps two texts from being read prevents their question
pub texts-prevent : (file_of : Text → Option Text) (first second : Text) (s : Stop) (faults : ℕ × ℕ) → HasNot (AreBadTexts (file_of first) (file_of second)) faults s → Prevents file_of (Subsequence first second) faults s
texts-prevent file_of first second s faults =
    stops-file ⊥ (ReadsFile (Subsequence first second)) (AreBadTexts (file_of first) (file_of second)) (HasBadLine file_of (Subsequence first second)) faults faults
    (record { name = first; named = inl refl }) (λ line w bad. bad) (λ grew. grew) s

-- and what keeps a list from being read
pub list-prevents : (file_of : Text → Option Text) (file : Text) (s : Stop) (faults : ℕ × ℕ) → HasNot (IsBadList (file_of file)) faults s → Prevents file_of (Sort file) faults s
list-prevents file_of file s faults =
    stops-file ⊥ (ReadsFile (Sort file)) (IsBadList (file_of file)) (HasBadLine file_of (Sort file)) faults faults (record { name = file; named = refl }) (λ line w bad. bad) (λ grew. grew) s

-- a list that is too long is a bad one
pub list-too-long : (told : Option Text) (prefix : Text) → IfSome told (λ xs. prefix ≡ take (list_limit + 1) xs) → list_limit < length prefix → (w : Wrong) → IsWrong fault.Limit [] w → IsBadList told 0 w
list-too-long told prefix read long w is =
    of-long list_limit (λ text. IsTooLong list_limit text 0 w ⊎ IsWrongLine text 0 w) told prefix read long (λ xs many. inl (record { many = many; line_is = refl; wrong_is = is }))
