-- What a counter holds after a history.
use Rattle.std.proofs.Common.{◌≡◌, ℕ, ◌+◌, ◌%◌, ◌^◌, ◌<◌, ◌*◌, List, [], ◌∷◌, inl, inr, ⊎_elim, length, replicate, refl, sym, ap, ◌∙◌, subst, arith, zero-add}
use Rattle.std.specs.List.{All, sum_by}
use Rattle.std.proofs.lemmas.List.{length-replicate}
use Rattle.std.proofs.lemmas.List.Elements.{All-replicate}
use Rattle.std.proofs.lemmas.List.Sums.{sum_by-cons}
use Rattle.abt_interleave.specs.declared.entries.Entry.{Entry}
use Rattle.abt_interleave.specs.Histories.{calls_of, Leads}
use Rattle.abt_booth.specs.Calls.{IsClosed}
use Rattle.booth_caller.specs.declared.counter.Counter.{Counter}
use Rattle.booth_caller.specs.Calling.{acts_of, HasAsked}
use Rattle.booth_caller.specs.Counters.{Adds}
use Rattle.booth_caller.specs.Counts.{IsCounted}
use Rattle.booth_caller.proofs.Calling.{acts-hold, all-of-classes, calls-count, same-sums, stamps-count, sum-below-same, whole-or-worn}

-- two sums modulo 2^64 in a row are one
added : (a b c : ℕ) → ((a + b) % 2 ^ 64 + c) % 2 ^ 64 ≡ (a + (b + c)) % 2 ^ 64
added a b c = omega arith

-- the sum is that of the opening counter and all acts
pub total : (opening closed : Counter) (history : List (Entry ℕ ℕ)) → opening.sum < 2 ^ 64 → Leads Adds opening history closed → closed.sum ≡ (opening.sum + sum_by (λ e. e.act) history) % 2 ^ 64
total opening closed [] small leads = let same = ap (λ (c : Counter). c.sum) leads in omega arith
total opening closed (e ∷ es) small leads =
    let now = leads.1.0 in
    let rest = total leads.0 closed es (omega arith) leads.2 in
    let parts = sum_by-cons (λ (e : Entry ℕ ℕ). e.act) e es in
    rest ∙ (ap (λ (n : ℕ). (n + sum_by (λ e. e.act) es) % 2 ^ 64) now ∙ (added opening.sum e.act (sum_by (λ e. e.act) es) ∙ ap (λ (n : ℕ). (opening.sum + n) % 2 ^ 64) (sym parts)))

-- what a closed booth round a new counter has counted, if each of its seats was to add 1 `times` times
pub counted : (threads times clock : ℕ) (opening object : Counter) (known : List (ℕ × List (Entry ℕ ℕ))) → opening.sum ≡ 0
    → (closed : IsClosed Adds opening threads known object clock) → ((k : ℕ) → k < threads → HasAsked k (replicate times 1) closed.history) → IsCounted threads times object.sum clock
counted threads times clock opening object known zero closed asked =
    let h = closed.history in
    let acts : ℕ → List ℕ = λ k. replicate times 1 in
    let IsOne : ℕ → Type 0 = λ a. a ≡ 1 in
    let sum = total opening object h (omega arith) closed.legal.1 in
    let ones : All (λ (e : Entry ℕ ℕ). e.act ≡ 1) h = all-of-classes (λ (e : Entry ℕ ℕ). e.caller) (λ e. IsOne e.act) threads h closed.of_seats
    (λ k lt. let b = (asked k lt).begun in acts-hold IsOne (calls_of k h) b.0 (subst (All IsOne) (sym b.1) (All-replicate IsOne times 1 refl))) in
    let all_made : ((k : ℕ) → k < threads → acts_of k h ≡ acts k) → length h ≡ threads * times = λ all.
    calls-count threads acts h closed.of_seats asked all ∙ (same-sums (λ k. length (acts k)) (λ k. times) threads (λ k lt. length-replicate times 1) ∙ sum-below-same times threads) in record {
      history = h;
      rises = closed.legal.0;
      last = closed.last;
      of_threads = closed.of_seats;
      ones = ones;
      total = sum ∙ ap (λ (n : ℕ). (n + sum_by (λ (e : Entry ℕ ℕ). e.act) h) % 2 ^ 64) zero ∙ ap (λ (n : ℕ). n % 2 ^ 64) (zero-add (sum_by (λ (e : Entry ℕ ℕ). e.act) h));
      stamped = closed.last ∙ stamps-count threads acts h closed.of_seats asked;
      many = ⊎_elim (λ all. inl (all_made all)) (λ worn. inr (closed.last ∙ worn)) (whole-or-worn threads acts h closed.of_seats asked);
    }
