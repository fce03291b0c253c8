-- A crew at the start.
use Rattle.std.proofs.Common.{◌≡◌, ℕ, Bool, zero, suc, ◌+◌, ◌⊎◌, inl, inr, List, [], ◌∷◌, ◌++◌, length, Option, Some, None, slice_get, refl, sym, ◌∙◌, ap, subst}
use Rattle.std.proofs.lemmas.List.{length-append}
use Rattle.abt_machine.specs.declared.numbers.StreamNo.{StreamNo}
use Rattle.abt_machine.specs.Stored.{Stored}
use Rattle.abt_machine.specs.declared.workload.Parts.{Parts}
use Rattle.abt_machine.specs.Rounds.{OrdersStored}
use Rattle.abt_machine.specs.Valid.{IsValid}
use Rattle.abt_calls.specs.Starts.{start_part}
use Rattle.abt_calls.proofs.Started.{parts-start}
use Rattle.abt_commons.specs.Held.{ObjectsValue}
use Rattle.abt_commons.specs.Placing.{ArePlaced}
use Rattle.abt_stream.specs.Streams.{StreamValue}
use Rattle.abt_laws.proofs.Options.{some-injective}
use Rattle.abt_drain.specs.Crews.{AllKeep, AreStarted, IsCrew, IsStarted, stream_clock, log_from, moment_of}
use Rattle.abt_drain.specs.Looks.{AreStreams, held_from}
use Rattle.abt_drain.specs.Moments.{IsStart}
use Rattle.abt_drain.proofs.Starting.{start-going, start-reached}

-- an element of a list with one more is one of the list, or the last one
pub get-push : {A : Type 0} (xs : List A) (x y : A) (i : ℕ) → slice_get (xs ++ x ∷ []) i ≡ Some y → (slice_get xs i ≡ Some y) ⊎ ((i ≡ length xs) × (x ≡ y))
get-push [] x y zero e = inr (refl, some-injective e)
get-push [] x y (suc i) e = cc
get-push (z ∷ xs) x y zero e = inl e
get-push (z ∷ xs) x y (suc i) e = elim (get-push xs x y i e) [ inl a ↦ inl a | inr b ↦ inr (ap suc b.0, b.1) ]

module _ (W : Parts) (n : ℕ) where
  -- one stream more
  pub started-push : (k : ℕ) (streams : List StreamValue) (stream : StreamValue) → AreStarted W n k streams → IsStarted W n k stream → AreStarted W n (k + 1) (streams ++ stream ∷ [])
  started-push k streams stream all next = record {
    many = length-append streams (stream ∷ []) ∙ ap (λ m. m + 1) all.many;
    own = λ s other e. elim (get-push streams stream other s e) [
      | inl a ↦ all.own s other a
      | inr b ↦ subst (λ r. IsStarted W n r other) (sym (b.0 ∙ all.many)) (subst (IsStarted W n k) b.1 next)
    ];
  }

  -- which keeps as the others do
  pub keep-push : (keeps : Bool) (streams : List StreamValue) (stream : StreamValue) → AllKeep keeps streams → stream.keeps ≡ keeps → AllKeep keeps (streams ++ stream ∷ [])
  keep-push keeps streams stream all next s other e = elim (get-push streams stream other s e) [
    | inl a ↦ all s other a
    | inr b ↦ subst (λ (v : StreamValue). v.keeps ≡ keeps) b.1 next
  ]

  module _ (streams : List StreamValue) (objects : ObjectsValue) (all : AreStarted W n W.streams streams) (placed : ArePlaced W objects) where
    by-part : (s : ℕ) (o : Option StreamValue) → slice_get streams s ≡ o → start_part W s ≡ held_from (start_part W s) o
    by-part s None e = refl
    by-part s (Some stream) e = sym (all.own s stream e).held

    by-log : (s : ℕ) (o : Option StreamValue) → slice_get streams s ≡ o → log_from o ≡ []
    by-log s None e = refl
    by-log s (Some stream) e = (all.own s stream e).log

    by-clock : (s : ℕ) (o : Option StreamValue) → slice_get streams s ≡ o → stream_clock o ≡ 0
    by-clock s None e = refl
    by-clock s (Some stream) e = (all.own s stream e).clock

    pub is-start : IsStart W (moment_of W streams objects)
    is-start = record {
      parts = λ s lt. parts-start W s ∙ by-part s (slice_get streams s) refl;
      logs = λ s. by-log s (slice_get streams s) refl;
      clocks = λ s. by-clock s (slice_get streams s) refl;
      objects = λ x. sym (placed.objects x);
      times = λ x. placed.clocks x;
    }

    pub are-streams : AreStreams W n streams
    are-streams = record {
      many = all.many;
      own = λ s stream e. record { number = ap (λ (k : StreamNo). k.0) (all.own s stream e).number; fits = (all.own s stream e).fits; budget = (all.own s stream e).budget };
    }

    pub crew-started : (Z : Stored) (keeps : Bool) → IsValid W → OrdersStored W Z.orders → AllKeep keeps streams → IsCrew W Z n (record { workload = W; steps = n; keeps = keeps; objects = objects; streams = streams })
    crew-started Z keeps valid stored kept = record {
      valid = valid;
      stored = stored;
      workload = refl;
      steps = refl;
      objects = placed.workload;
      kept = kept;
      streams = are-streams;
      shapes = λ s stream e held. absurd (held (all.own s stream e).order);
      reached = start-reached W (moment_of W streams objects) is-start Z n;
      going = start-going W (moment_of W streams objects) is-start n;
    }
