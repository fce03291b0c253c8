-- What streams leave together: their logs have one journal, which is kept or not.
use Rattle.std.proofs.Common.{◌≡◌, ℕ, zero, suc, ◌+◌, ◌≤◌, Bool, true, false, cond, List, [], ◌∷◌, ◌++◌, length, slice_get, Option, Some, None, refl, sym, ◌∙◌, ap, subst, arith}
use Rattle.std.specs.List.{sum_by}
use Rattle.std.proofs.lemmas.List.{get_or_past, map-append}
use Rattle.std.proofs.lemmas.List.Sums.{sum_by-cons}
use Rattle.abt_machine.specs.declared.events.Event.{Event}
use Rattle.abt_machine.specs.Outcomes.{is_step, steps_in}
use Rattle.abt_interleave.specs.Merges.{sum_below}
use Rattle.abt_interleave.proofs.OneList.{merges-exist}
use Rattle.abt_interleave.proofs.Tallies.{merges-sum}
use Rattle.abt_merge.specs.Logs.{AreLogs, MergesIf, log_of}
use Rattle.abt_record.specs.Records.{IsKept}
use Rattle.abt_simulation.specs.Journals.{MergesTo}
use Rattle.abt_stream.specs.Streams.{StreamValue}
use Rattle.abt_stream.specs.declared.stream.StreamParts.{StreamParts}
use Rattle.abt_drain.specs.Crews.{AllKeep}
use Rattle.abt_drain.specs.Ends.{HaveLeft, log_in, logs_in, logs_kept, steps_in_all, steps_left}
use Rattle.abt_drain.proofs.Taking.{differ}

-- All logs.

pub logs-push : (keeps : Bool) (streams : List StreamValue) (stream : StreamValue) → logs_kept keeps (logs_in streams) ++ logs_kept keeps (stream.log ∷ []) ≡ logs_kept keeps (logs_in (streams ++ stream ∷ []))
logs-push true streams stream = sym (map-append log_in streams (stream ∷ []))
logs-push false streams stream = refl

-- an element in the middle
pub get-middle : (done : List StreamValue) (stream : StreamValue) (left : List StreamValue) → slice_get (done ++ stream ∷ left) (length done) ≡ Some stream
get-middle [] stream left = refl
get-middle (s ∷ done) stream left = get-middle done stream left

pub keeps-middle : (keeps : Bool) (streams done : List StreamValue) (stream : StreamValue) (left : List StreamValue) → done ++ stream ∷ left ≡ streams → AllKeep keeps streams → stream.keeps ≡ keeps
keeps-middle keeps streams done stream left all keep = keep (length done) stream (subst (λ (xs : List StreamValue). slice_get xs (length done) ≡ Some stream) all (get-middle done stream left))

-- Steps.

pub steps-of-left : (streams : List StreamValue) (rest : List StreamParts) → HaveLeft streams rest → steps_left rest ≡ steps_in_all streams
steps-of-left [] [] all = refl
steps-of-left [] (p ∷ rest) all = absurd all
steps-of-left (s ∷ streams) [] all = absurd all
steps-of-left (s ∷ streams) (p ∷ rest) all =
    sum_by-cons (λ (parts : StreamParts). parts.steps) p rest ∙ ((λ i. all.0.1 i + steps-of-left streams rest all.1 i) ∙ sym (sum_by-cons steps_in s.log (logs_in streams)))

-- the first of the numbers apart
sum-first : (n : ℕ) (f : ℕ → ℕ) → sum_below (suc n) f ≡ f 0 + sum_below n (λ s. f (suc s))
sum-first zero f = omega arith
sum-first (suc n) f = let before = sum-first n f in omega arith

sum-logs : (logs : List (List Event)) → sum_below (length logs) (λ s. steps_in (log_of logs s)) ≡ sum_by steps_in logs
sum-logs [] = refl
sum-logs (log ∷ logs) = sum-first (length logs) (λ s. steps_in (log_of (log ∷ logs) s)) ∙ (ap (λ k. steps_in log + k) (sum-logs logs) ∙ sym (sum_by-cons steps_in log logs))

none-past : (logs : List (List Event)) (s : ℕ) → length logs ≤ s → log_of logs s ≡ []
none-past logs s past = get_or_past logs s [] past

pub steps-merged : (streams : List StreamValue) (J : List Event) → MergesTo (log_of (logs_in streams)) J → steps_in J ≡ steps_in_all streams
steps-merged streams J merged =
    merges-sum Event (λ e. e.stamp) (λ e. e.stream.0) (length (logs_in streams)) (log_of (logs_in streams)) J merged (none-past (logs_in streams)) (λ e. cond (is_step e.what) 1 0) ∙ sum-logs (logs_in streams)

-- The journal.

module _ (streams : List StreamValue) (rest : List StreamParts) (steps : ℕ) (are : AreLogs (logs_in streams)) (left : HaveLeft streams rest) (counted : steps ≡ steps_left rest) where
  -- the journal of all logs, which is kept or not
  pub record HasJournal (keeps : Bool) (journal : Option (List Event)) : Type 0 where
    pub events : List Event
    pub merges : MergesTo (log_of (logs_in streams)) events
    pub kept : IsKept keeps events journal
    pub steps_are : steps ≡ steps_in events

  has : (keeps : Bool) (journal : Option (List Event)) (J : List Event) → MergesTo (log_of (logs_in streams)) J → IsKept keeps J journal → HasJournal keeps journal
  has keeps journal J merged kept = record { events = J; merges = merged; kept = kept; steps_are = counted ∙ (steps-of-left streams rest left ∙ sym (steps-merged streams J merged)) }

  pub has-journal : (keeps : Bool) (logs : List (List Event)) (journal : Option (List Event)) → logs ≡ logs_kept keeps (logs_in streams) → MergesIf keeps logs journal → HasJournal keeps journal
  has-journal true logs (Some J) all merged = has true (Some J) J (subst (λ (l : List (List Event)). MergesTo (log_of l) J) all merged) refl
  has-journal true logs None all merged = absurd merged
  has-journal false logs (Some J) all merged = absurd merged
  has-journal false logs None all merged =
      let J = merges-exist Event (λ e. e.stamp) (λ e. e.stream.0) (length (logs_in streams)) (log_of (logs_in streams)) are (none-past (logs_in streams)) in
      has false None J.0 J.1 tt

-- logs that are merged are logs
pub kept-logs : (keeps : Bool) (streams : List StreamValue) (logs : List (List Event)) → AreLogs (logs_in streams) → logs ≡ logs_kept keeps (logs_in streams) → keeps ≡ true → AreLogs logs
kept-logs true streams logs are all e = subst AreLogs (sym all) are
kept-logs false streams logs are all e = absurd (differ (sym e))
