-- One write or read after another.
use Rattle.std.proofs.Common.{◌≡◌, ◌≤◌, ◌+◌, ◌-◌, ℕ, List, ◌++◌, length, take, drop, Option, Some, None}
use Rattle.std.proofs.Common.{refl, ap, subst, sym, ◌∙◌, append_assoc, append-nil, length-drop, arith}
use Rattle.std.proofs.lemmas.List.{take_all}
use Rattle.std.specs.Prelude.{IfSome}
use Rattle.std.proofs.Math.Seq.{take-add, take-append_seam}
use Rattle.abt_source.specs.Source.{Took, NothingLeft, LeavesAnEnd, GivesNext}

-- What was read so far and what is left are the file, if it is observable.
abbrev pub IsSplit : Option (List ℕ) → List ℕ → Option (List ℕ) → Type 0
IsSplit None read left = left ≡ None
IsSplit (Some xs) read left = (rest : List ℕ) × (left ≡ Some rest) × (xs ≡ read ++ rest)

-- As many bytes as there are from a place on are all of these.
take-rest : (at : ℕ) (bytes : List ℕ) → take (length bytes - at) (drop at bytes) ≡ drop at bytes
take-rest at bytes =
    let le : length (drop at bytes) ≤ length bytes - at = simp length-drop (omega arith) in take_all _ _ le

-- What was taken up to a place grows by the bytes from there on.
took-rest : (a b c : Option (List ℕ)) (at n : ℕ) (bytes : List ℕ)
    → Took a b (take at bytes) → Took b c (take n (drop at bytes)) → Took a c (take (at + n) bytes)
took-rest None b c at n bytes e f = rw (f, e) refl
took-rest (Some xs) b c at n bytes e f =
    rw (f, e, take-add) (ap Some (append_assoc xs (take at bytes) (take n (drop at bytes))))

-- What was taken up to a place grows by the next write's bytes.
pub took-more : (a b c : Option (List ℕ)) (at n : ℕ) (bytes : List ℕ)
    → Took a b (take at bytes) → Took b c (take n (take (length bytes - at) (drop at bytes)))
    → Took a c (take (at + n) bytes)
took-more a b c at n bytes e f = took-rest a b c at n bytes e (rw take-rest at f)

-- No bytes are an end of any file.
pub nothing-is-an-end : (file left : Option (List ℕ)) → NothingLeft left → LeavesAnEnd file left
nothing-is-an-end None left e = tt
nothing-is-an-end (Some xs) None e = tt
nothing-is-an-end (Some xs) (Some rest) e = (xs, rw (e, append-nil) refl)

-- As many bytes as are asked for are the first of the file.
pub split-take : (file left : Option (List ℕ)) (read : List ℕ) (most : ℕ) → IsSplit file read left → length read ≡ most + 1 → IfSome file (λ xs. read ≡ take (most + 1) xs)
split-take None left read most split long = tt
split-take (Some xs) left read most (rest, there, split) long =
    subst (λ (n : ℕ). read ≡ take n xs) long (subst (λ (ys : List ℕ). read ≡ take (length read) ys) (sym split) (sym (take-append_seam read rest)))

-- All of them are, if no more come.
pub split-end : (file left now : Option (List ℕ)) (read into : List ℕ) (n most : ℕ) → IsSplit file read left → GivesNext left now n into → n ≡ 0 → length read ≤ most
    → IfSome file (λ xs. read ≡ take (most + 1) xs)
split-end None left now read into n most split gives none short = tt
split-end (Some xs) left now read into n most (rest, there, split) gives none short =
    let known : GivesNext (Some rest) now n into = subst (λ (o : Option (List ℕ)). GivesNext o now n into) there gives in
    let same : xs ≡ read = split ∙ ap (λ (ys : List ℕ). read ++ ys) (known.2 none) ∙ append-nil read in
    sym (subst (λ (ys : List ℕ). take (most + 1) ys ≡ read) (sym same) (take_all (most + 1) read (omega arith)))
