-- Each text has one answer.
use Rattle.std.proofs.Common.{◌≡◌, ◌<◌, ◌≤◌, ◌+◌, ◌∙◌, ℕ, zero, suc, Option, Some, None, arith, inl, inr, ◌⊎◌, length, refl, sym}
use Rattle.std.proofs.lemmas.Bool.{cases_order}
use Rattle.abt_machine.specs.declared.program.Fault.{Fault}
use Rattle.abt_machine.specs.Declaring.{parts_of}
use Rattle.abt_machine.specs.Grammar.{Refuses, declared_by, fault_at}
use Rattle.abt_machine.specs.Spelling.{lines_of}
use Rattle.abt_machine.specs.Words.{Text}
use Rattle.abt_workload.specs.Laws.{IsNotBoth, IsReadOrRefused, ReadsOnce, RefusesOnce}
use Rattle.abt_workload.proofs.Seen.{fault-past}

pub not-both : (text : Text) → IsNotBoth text
not-both text W line f reads refuses = let none = reads.faultless line in let some = refuses.first in cc

pub reads-once : (text : Text) → ReadsOnce text
reads-once text V W r s = r.parts ∙ sym s.parts

pub refuses-once : (text : Text) → RefusesOnce text
refuses-once text k l f g r s = by (cases_order k l)
  where
    same-fault : k ≡ l → f ≡ g
    same-fault e = let a = r.first in let b = s.first in cc

    by : (k ≡ l) ⊎ ((k < l) ⊎ (l < k)) → (k ≡ l) × (f ≡ g)
    by (inl e) = (e, same-fault e)
    by (inr (inl lt)) = let none = s.least k lt in let some = r.first in cc
    by (inr (inr lt)) = let none = r.least l lt in let some = s.first in cc

-- the lines below n have no fault, or one of them is the least that has
abbrev Searched : Text → ℕ → Type 0
Searched text n = ((m : ℕ) → m < n → fault_at text m ≡ None) ⊎ ((line : ℕ) × (f : Fault) × Refuses text line f)

search-lines : (text : Text) (n : ℕ) → Searched text n
search-lines text zero = inl (λ m lt. absurd (omega arith))
search-lines text (suc n) = by (search-lines text n) (fault_at text n) refl
  where
    below : ((m : ℕ) → m < n → fault_at text m ≡ None) → fault_at text n ≡ None → (m : ℕ) → m < suc n → fault_at text m ≡ None
    below h e m lt = on (cases_order m n)
      where
        on : (m ≡ n) ⊎ ((m < n) ⊎ (n < m)) → fault_at text m ≡ None
        on (inl same) = cc
        on (inr (inl less)) = h m less
        on (inr (inr more)) = absurd (omega arith)

    by : Searched text n → (o : Option Fault) → fault_at text n ≡ o → Searched text (suc n)
    by (inr found) o e = inr found
    by (inl h) None e = inl (below h e)
    by (inl h) (Some f) e = inr (n, f, record { least = h; first = e })

pub read-or-refused : (text : Text) → IsReadOrRefused text
read-or-refused text = by (search-lines text (length (lines_of text) + 2))
  where
    past : (k : ℕ) → length (lines_of text) + 2 ≤ k → fault_at text k ≡ None
    past zero le = absurd (omega arith)
    past (suc i) le = fault-past (lines_of text) i (omega arith)

    all : ((m : ℕ) → m < length (lines_of text) + 2 → fault_at text m ≡ None) → (k : ℕ) → fault_at text k ≡ None
    all h k = on (cases_order k (length (lines_of text) + 2))
      where
        on : (k ≡ length (lines_of text) + 2) ⊎ ((k < length (lines_of text) + 2) ⊎ (length (lines_of text) + 2 < k)) → fault_at text k ≡ None
        on (inl e) = past k (omega arith)
        on (inr (inl lt)) = h k lt
        on (inr (inr gt)) = past k (omega arith)

    by : Searched text (length (lines_of text) + 2) → IsReadOrRefused text
    by (inl h) = inl (parts_of (declared_by (lines_of text)), record { faultless = all h; parts = refl })
    by (inr found) = inr found
