-- One log is its own journal.
use Rattle.std.proofs.Common.{◌≡◌, ◌≢◌, ℕ, zero, suc, List, length, get_or, [], ◌∷◌, map, refl, sym, ◌∙◌, ap, subst, inl, arith}
use Rattle.std.specs.List.{All}
use Rattle.std.proofs.lemmas.List.Elements.{All-head, All-tail}
use Rattle.abt_machine.specs.declared.events.Event.{Event}
use Rattle.abt_interleave.specs.Logs.{IsSooner, InOrder}
use Rattle.abt_interleave.specs.Merges.{Rises, of_stream}
use Rattle.abt_interleave.proofs.OneList.{above-rises, of-own, of-other}
use Rattle.abt_interleave.proofs.Orders.{earlier-first, rises-earlier}
use Rattle.abt_simulation.specs.Journals.{MergesTo}
use Rattle.abt_merge.specs.Logs.{log_of, AreLogs}

abbrev IsBefore : Event → Event → Type 0
IsBefore e f = IsSooner e.stamp e.stream.0 f.stamp f.stream.0

-- stamps that rise are in order
in-order : (log : List Event) → Rises (map (λ e. e.stamp) log) → InOrder IsBefore log
in-order [] r = tt
in-order (e ∷ es) r = (earlier-first (λ d. d.stamp) IsBefore (λ a b l. inl l) e es (rises-earlier (λ d. d.stamp) e e.stamp es (omega arith) r), in-order es (above-rises e.stamp (map (λ d. d.stamp) es) r))

-- all events are of their stream
own : (s : ℕ) (log : List Event) → All (λ e. e.stream.0 ≡ s) log → of_stream (λ e. e.stream.0) s log ≡ log
own s [] h = refl
own s (e ∷ es) h = of-own (λ d. d.stamp) (λ d. d.stream.0) s e es (All-head (λ d. d.stream.0 ≡ s) e es h) ∙ ap (λ ds. e ∷ ds) (own s es (All-tail (λ d. d.stream.0 ≡ s) e es h))

-- and none of another
none : (s r : ℕ) (log : List Event) → All (λ e. e.stream.0 ≡ s) log → s ≢ r → of_stream (λ e. e.stream.0) r log ≡ []
none s r [] h ne = refl
none s r (e ∷ es) h ne =
    of-other (λ d. d.stamp) (λ d. d.stream.0) r e es (λ q. ne (sym (All-head (λ d. d.stream.0 ≡ s) e es h) ∙ q)) ∙ none s r es (All-tail (λ d. d.stream.0 ≡ s) e es h) ne

pub single : (log : List Event) → AreLogs (log ∷ []) → MergesTo (log_of (log ∷ [])) log
single log are = record { in_order = in-order log (are 0).0; each = each }
  where
    each : (s : ℕ) → of_stream (λ e. e.stream.0) s log ≡ log_of (log ∷ []) s
    each zero = own 0 log (are 0).1
    each (suc s) = none 0 (suc s) log (are 0).1 (λ q. cc)

-- a list of one log, and its first
pub alone : (logs : List (List Event)) (log : List Event) → length logs ≡ 1 → log ≡ get_or logs 0 log → AreLogs logs → MergesTo (log_of logs) log
alone [] log l q are = cc
alone (a ∷ []) log l q are = subst (MergesTo (log_of (a ∷ []))) (sym q) (single a are)
alone (a ∷ b ∷ logs) log l q are = absurd (omega arith)
