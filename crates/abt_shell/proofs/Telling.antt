-- Two texts that are written one after the other.
use Rattle.std.proofs.Common.{◌≡◌, ◌<◌, ◌+◌, ◌++◌, ℕ, length, length-append, take, Option, Some, None, inl, inr, refl, sym, ap, subst, append_assoc, arith}
use Rattle.std.proofs.Math.Seq.{take-append-add}
use Rattle.std.proofs.lemmas.List.{take-append-le}
use Rattle.abt_machine.specs.Words.{Text}
use Rattle.abt_source.specs.Source.{Rose, Took, TookPrefix}
use Rattle.abt_shell.specs.Told.{IsTold}

-- both texts
took-both : (a b c : Option Text) (first second : Text) → Took a b first → Took b c second → Took a c (first ++ second)
took-both None b c first second e f = rw (f, e) refl
took-both (Some xs) b c first second e f = rw (f, e) (ap Some (append_assoc xs first second))

-- a prefix of the first
prefix-first : (a b : Option Text) (first second : Text) → TookPrefix a b first → TookPrefix a b (first ++ second)
prefix-first a b first second took =
    let n = took.0 in
    let lt : n < length first = took.1 in
    let long = length-append first second in (
      n,
      omega (arith, lt, long),
      subst (Took a b) (sym (take-append-le n first second (omega (arith, lt)))) took.2,
    )

-- the first, and a prefix of the second
prefix-second : (a b c : Option Text) (first second : Text) → Took a b first → TookPrefix b c second → TookPrefix a c (first ++ second)
prefix-second a b c first second e took =
    let n = took.0 in
    let lt : n < length second = took.1 in
    let long = length-append first second in (
      length first + n,
      omega (arith, lt, long),
      subst (Took a c) (sym (take-append-add first second n)) (took-both a b c first (take n second) e took.2),
    )

-- the first was written, and so is told what the second tells
pub told-second : (a b c : Option Text) (before mid after : ℕ) (first second : Text) → Took a b first → mid ≡ before → IsTold (b, c) (mid, after) second → IsTold (a, c) (before, after) (first ++ second)
told-second a b c before mid after first second e still told = elim told [
  | inl all ↦ inl (took-both a b c first second e all)
  | inr part ↦ inr (prefix-second a b c first second e part.0, subst (λ n. Rose n after) still part.1)
]

-- a prefix of the first was written
pub told-first : (a b : Option Text) (before after : ℕ) (first second : Text) → TookPrefix a b first → Rose before after → IsTold (a, b) (before, after) (first ++ second)
told-first a b before after first second took rose = inr (prefix-first a b first second took, rose)
