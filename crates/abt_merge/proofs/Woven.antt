-- The loop that takes run after run.
use Rattle.std.proofs.Common.{◌≡◌, ℕ, ◌+◌, ◌<◌, ◌≤◌, List, [], ◌++◌, Bor, Option, Some, map, length, get_or, set, sym, ◌∙◌, ap, subst, arith}
use Rattle.std.proofs.lemmas.List.{get_or-map, length-append, length-map, map-set, set-get_or}
use Rattle.std.proofs.lemmas.List.Elements.{All-weaker}
use Rattle.abt_machine.specs.declared.events.Event.{Event}
use Rattle.abt_merge.specs.Heads.{IsAhead, IsFirst, FirstBut}
use Rattle.abt_merge.specs.Logs.{AreLogs, count_events, log_of}
use Rattle.abt_merge.specs.Runs.{IsLast, IsRun}
use Rattle.abt_merge.proofs.Taken.{Merging, run-goes-on, bound-first, counts, takes-some}

-- what is left of each log comes behind the journal so far, and this is the event of all that comes first
pub record IsWoven (logs rests : List (List Event)) (J : List Event) (next : Option (ℕ × ℕ)) : Type 0 where
  pub merging : Merging logs rests J
  pub first : FirstBut rests (length rests) next

-- a run is taken
pub turn : (logs rests : List (List Event)) (J run left : List Event) (first : ℕ × ℕ) (bound : Option (ℕ × ℕ)) (last : ℕ) → AreLogs logs → IsWoven logs rests J (Some first) →
    FirstBut rests first.1 bound → IsLast first bound last → IsRun last (log_of rests first.1) run left → IsWoven logs (set rests first.1 left) (J ++ run) bound
turn logs rests J run left first bound last are w others k r =
    let f : IsFirst rests (length rests) (length rests) first = w.first in
    let same : rests ≡ set rests first.1 (run ++ left) = sym (set-get_or rests first.1 []) ∙ ap (set rests first.1) r.whole in
    record {
      merging = run-goes-on logs rests are first.1 f.within bound others run left J
          (All-weaker (λ e. e.stamp ≤ last) (λ e. IsAhead (e.stamp, first.1) bound) (λ e l. k.ahead e.stamp l) run r.within)
          (subst (λ logs'. Merging logs logs' J) same w.merging);
      first = bound-first rests first bound last left f.within others k r.beyond;
    }

-- The slices that hold what is left are changed by one turn.
pub record Turned (logs : List (List Event)) (old new : List (Bor (List Event))) (J K : List Event) (next : Option (ℕ × ℕ)) : Type 0 where
  pub woven : IsWoven logs (map (λ rest. rest.now) new) K next
  pub fewer : count_events (map (λ rest. rest.now) new) < count_events (map (λ rest. rest.now) old)
  pub as_many : length K + count_events (map (λ rest. rest.now) new) ≡ length J + count_events (map (λ rest. rest.now) old)

module _ (logs : List (List Event)) (are : AreLogs logs) (slices seen : List (Bor (List Event))) (as-seen : seen ≡ slices) (J : List Event) (next bound : Option (ℕ × ℕ)) (first : ℕ × ℕ)
    (is : next ≡ Some first) (woven : IsWoven logs (map (λ rest. rest.now) slices) J next) (others : FirstBut (map (λ rest. rest.now) seen) first.1 bound)
    (last : ℕ) (up-to : IsLast first bound last) (slice left : Bor (List Event)) (read : slice ≡ get_or slices first.1 slice) (run : List Event) (taken : IsRun last slice.now run left.now) where
  -- what is left of the logs
  abbrev rests : List (List Event)
  rests = map (λ rest. rest.now) slices

  -- the event that comes first
  here : IsWoven logs rests J (Some first)
  here = subst (IsWoven logs rests J) is woven

  head : IsFirst rests (length rests) (length rests) first
  head = here.first

  in-slices : first.1 < length slices
  in-slices = let l : first.1 < length rests = head.within in omega (arith, length-map slices (λ rest. rest.now))

  -- the slice is what is left of the log
  run-of : IsRun last (log_of rests first.1) run left.now
  run-of = subst (λ log. IsRun last log run left.now) (ap (λ rest. rest.now) read ∙ sym (get_or-map (λ rest. rest.now) slices first.1 slice [] in-slices)) taken

  -- the slice that is left takes its place
  stored : map (λ rest. rest.now) (set slices first.1 left) ≡ set rests first.1 left.now
  stored = map-set (λ rest. rest.now) slices first.1 left

  -- the events of the run are not left
  counted : count_events (map (λ rest. rest.now) (set slices first.1 left)) + length run ≡ count_events rests
  counted = ap (λ ls. count_events ls + length run) stored ∙ counts rests first.1 last run left.now head.within run-of

  pub turned : (K : List Event) → K ≡ J ++ run → Turned logs slices (set slices first.1 left) J K bound
  turned K q = record {
    woven = subst (λ ls. IsWoven logs ls K bound) (sym stored) (subst (λ es. IsWoven logs (set rests first.1 left.now) es bound) (sym q)
        (turn logs rests J run left.now first bound last are here (subst (λ ls. FirstBut (map (λ rest. rest.now) ls) first.1 bound) as-seen others) up-to run-of));
    fewer = omega (arith, counted, takes-some first last (log_of rests first.1) run left.now run-of head.head up-to.this);
    as_many = omega (arith, counted, ap length q ∙ length-append J run);
  }
