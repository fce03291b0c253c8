-- Lists of units by their ends: the first or the last unit of a list, and the others, by number and with what they carry.
use Rattle.std.proofs.Common.{◌≡◌, ℕ, List, [], ◌∷◌, ◌++◌, map, Some, refl, ◌∙◌, ap, ap₂, subst}
use Rattle.abt_machine.specs.Queues.{last}
use Rattle.abt_machine.specs.State.{State}
use Rattle.abt_machine.specs.Values.{Owned, owned_at}
use Rattle.abt_simulation.proofs.OwnedLines.{nobody-owned}

-- the last of a list with x at its end
pub last-append : {A : Type 0} (xs : List A) (x : A) → last (xs ++ x ∷ []) ≡ Some x
last-append [] x = refl
last-append (a ∷ []) x = refl
last-append (a ∷ b ∷ xs) x = last-append (b ∷ xs) x

-- the numbers of a list of units, by its ends

-- unit o is the first, and these are the others
pub record AtFront (S : State) (us : List ℕ) (o : Owned) (os : List Owned) : Type 0 where
  pub rest : List ℕ
  pub is : us ≡ o.number ∷ rest
  pub owns : owned_at S o.number ≡ o
  pub others : map (owned_at S) rest ≡ os

-- the first of the units is the first of the numbers
pub at-front : (S : State) (us : List ℕ) (o : Owned) (os : List Owned) → map (owned_at S) us ≡ o ∷ os → AtFront S us o os
at-front S [] o os e = absurd cc
at-front S (u ∷ us) o os e =
    let same : owned_at S u ≡ o = cc in
    let rest : map (owned_at S) us ≡ os = cc in
    subst (λ p. AtFront S (u ∷ us) p os) same (record { rest = us; is = refl; owns = refl; others = rest })

-- unit o is the last, and these are the others
pub record AtBack (S : State) (us : List ℕ) (o : Owned) (os : List Owned) : Type 0 where
  pub before : List ℕ
  pub is : us ≡ before ++ o.number ∷ []
  pub owns : owned_at S o.number ≡ o
  pub others : map (owned_at S) before ≡ os

-- the last of the units is the last of the numbers
pub at-back : (S : State) (us : List ℕ) (o : Owned) (os : List Owned) → map (owned_at S) us ≡ os ++ o ∷ [] → AtBack S us o os
at-back S us o [] e =
    let f : AtFront S us o [] = at-front S us o [] e in
    record { before = []; is = f.is ∙ ap (λ vs. o.number ∷ vs) (nobody-owned S f.rest f.others); owns = f.owns; others = refl }
at-back S us o (p ∷ os) e =
    let f : AtFront S us p (os ++ o ∷ []) = at-front S us p (os ++ o ∷ []) e in
    let b : AtBack S f.rest o os = at-back S f.rest o os f.others in
    record { before = p.number ∷ b.before; is = f.is ∙ ap (λ vs. p.number ∷ vs) b.is; owns = b.owns; others = ap₂ (λ (q : Owned) (qs : List Owned). q ∷ qs) f.owns b.others }
