-- Two calls of a booth, and its closing, are a wave.
use Rattle.std.proofs.Common.{◌≡◌, ℕ, zero, suc, ◌<◌, ◌≤◌, List, [], ◌∷◌, Some, refl, ◌∙◌, subst, arith, inl, inr}
use Rattle.std.specs.Prelude.{Contains}
use Rattle.abt_interleave.specs.declared.entries.Entry.{Entry}
use Rattle.abt_booth.specs.Calls.{IsAnswered, IsClosed}
use Rattle.booth_caller.specs.declared.counter.Counter.{Counter}
use Rattle.booth_caller.specs.Counters.{Adds}
use Rattle.abt_interleave.specs.Machines.{DeedOf, TellsPlaces}
use Rattle.abt_interleave.specs.Lines.{CallOf, Gone, LockLeft}
use Rattle.abt_interleave.specs.Weaving.{TellsLocks}
use Rattle.abt_interleave.proofs.Members.{from-among}
use Rattle.abt_interleave.proofs.Prefixes.{gone-nowhere, gone-further}
use Rattle.abt_interleave.proofs.Weaves.{waves-weave}
use Rattle.abt_weave.specs.Seen.{line_seen}
use Rattle.abt_weave.proofs.Booths.{answers-show, one-is-left}
use Rattle.weave_caller.specs.Sums.{sums, the_lock, AreAdded}

places : TellsPlaces sums
places x y = (λ e. refl, λ e. refl)

locks : TellsLocks (Unit {0})
locks k l = inl refl

-- an act is of the one place
abbrev asks : ℕ → Unit {0} × ℕ
asks n = (tt, n)

abbrev tells : ℕ → ℕ
tells n = n

module _ (opening object : Counter) (stamp stamp' clock sum sum' : ℕ) (first second : List (Entry ℕ ℕ)) (empty : opening.sum ≡ 0)
    (one : IsAnswered Adds opening 0 [] first 0 5 stamp sum) (two : IsAnswered Adds opening 1 [] second 0 2 stamp' sum')
    (closed : IsClosed Adds opening 2 ((0, first) ∷ (1, second) ∷ []) object clock) where
  abbrev deed : DeedOf sums
  deed = record { stamp = stamp; stream = 0; what = 5; heard = Some (tt, 5, sum) }

  abbrev deed' : DeedOf sums
  deed' = record { stamp = stamp'; stream = 1; what = 2; heard = Some (tt, 2, sum') }

  abbrev logs : ℕ → List (DeedOf sums)
  logs zero = deed ∷ []
  logs (suc zero) = deed' ∷ []
  logs (suc (suc s)) = []

  abbrev heard : ℕ → ℕ
  heard zero = sum
  heard (suc zero) = sum'
  heard (suc (suc s)) = 0

  abbrev knew : ℕ → List (Entry ℕ ℕ)
  knew zero = first
  knew (suc zero) = second
  knew (suc (suc s)) = []

  abbrev seen : ℕ → Unit {0} → List (CallOf sums)
  seen s l = line_seen sums asks tells (knew s)

  gone : (s : ℕ) → s < 2 → Gone sums the_lock (λ l. 0) s 0 0 (logs s) (heard s) (seen s)
  gone zero lt = gone-further sums (Unit {0}) the_lock (λ l. 0) 0 0 0 0 sum [] (λ l. []) (seen 0) deed (gone-nowhere sums (Unit {0}) the_lock (λ l. 0) 0 0 0) refl refl
      (answers-show sums Adds (Unit {0}) asks tells opening the_lock (λ l. 0) (λ l. []) (seen 0) 0 0 0 [] first 5 stamp sum deed
      (record { old_here = refl; new_here = refl; elsewhere = λ k ne. absurd (ne refl) }) refl one refl refl)
  gone (suc zero) lt = gone-further sums (Unit {0}) the_lock (λ l. 0) 1 0 0 0 sum' [] (λ l. []) (seen 1) deed' (gone-nowhere sums (Unit {0}) the_lock (λ l. 0) 1 0 0) refl refl
      (answers-show sums Adds (Unit {0}) asks tells opening the_lock (λ l. 0) (λ l. []) (seen 1) 1 0 0 [] second 2 stamp' sum' deed'
      (record { old_here = refl; new_here = refl; elsewhere = λ k ne. absurd (ne refl) }) refl two refl refl)
  gone (suc (suc s)) lt = absurd (omega arith)

  undeclared : (s : ℕ) → 2 ≤ s → logs s ≡ []
  undeclared zero le = absurd (omega arith)
  undeclared (suc zero) le = absurd (omega arith)
  undeclared (suc (suc s)) le = refl

  abbrev known : List (ℕ × List (Entry ℕ ℕ))
  known = (0, first) ∷ (1, second) ∷ []

  there : (s : ℕ) → s < 2 → Contains known (s, knew s)
  there zero lt = from-among known (0, first) (inl refl)
  there (suc zero) lt = from-among known (1, second) (inr (inl refl))
  there (suc (suc s)) lt = absurd (omega arith)

  left : (l : Unit {0}) → LockLeft sums the_lock l 2 (λ s. seen s l) (λ x. 0) (λ x. object.sum) clock
  left l = one-is-left sums Adds (Unit {0}) places the_lock tt (λ y e. refl) (λ c. c.sum) asks tells (λ n. refl) (λ o n r p d. d) opening object 2 known clock knew (λ x. 0) (λ x. object.sum) closed there empty refl

  added : AreAdded object.sum
  added = record {
    logs = logs;
    heard = heard;
    closing = clock;
    first = refl;
    second = refl;
    wave = waves-weave sums (Unit {0}) places locks the_lock (λ l. 0) (λ l. clock) (λ s. 0) (λ s. 0) heard (λ x. 0) (λ x. object.sum) logs seen gone undeclared left;
  }

-- with the numbers and lists that the seats had
pub two-added : (opening object : Counter) (seats n m n' m' stamp stamp' clock sum sum' : ℕ) (before after before' after' : List (Entry ℕ ℕ)) (known : List (ℕ × List (Entry ℕ ℕ))) →
    opening.sum ≡ 0 → seats ≡ 2 → n ≡ 0 → m ≡ 1 → n' ≡ n → m' ≡ m → before ≡ [] → before' ≡ [] →
    IsAnswered Adds opening n before after 0 5 stamp sum → IsAnswered Adds opening m before' after' 0 2 stamp' sum' →
    known ≡ (n', after) ∷ (m', after') ∷ [] → IsClosed Adds opening seats known object clock → AreAdded object.sum
two-added opening object seats n m n' m' stamp stamp' clock sum sum' before after before' after' known empty count first second same same' fresh fresh' one two is closed =
    added opening object stamp stamp' clock sum sum' after after' empty
    (subst (λ k. IsAnswered Adds opening k [] after 0 5 stamp sum) first (subst (λ l. IsAnswered Adds opening n l after 0 5 stamp sum) fresh one))
    (subst (λ k. IsAnswered Adds opening k [] after' 0 2 stamp' sum') second (subst (λ l. IsAnswered Adds opening m l after' 0 2 stamp' sum') fresh' two))
    (subst (λ k. IsClosed Adds opening 2 k object clock) (is ∙ (λ i. ((same ∙ first) i, after) ∷ ((same' ∙ second) i, after') ∷ [])) (subst (λ k. IsClosed Adds opening k known object clock) count closed))
