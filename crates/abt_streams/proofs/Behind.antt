-- What the logs have of a wave.
use Rattle.std.proofs.Common.{◌≡◌, ℕ, zero, suc, ◌<◌, ◌∙◌, Bool, List, [], ◌∷◌, ◌++◌, length, map, drop, take, get_or, slice_get, refl, sym, ap, subst, arith}
use Rattle.std.proofs.lemmas.List.{length-map}
use Rattle.std.proofs.lemmas.List.Elements.{All-map}
use Rattle.std.proofs.Math.Seq.{drop-append_seam}
use Rattle.abt_machine.specs.declared.events.Event.{Event}
use Rattle.abt_machine.specs.Stored.{Stored}
use Rattle.abt_machine.specs.declared.workload.Parts.{Parts}
use Rattle.abt_interleave.specs.Deeds.{deed_stamps}
use Rattle.abt_interleave.specs.Merges.{IsLogOf, Rises}
use Rattle.abt_interleave.proofs.Lows.{own-log}
use Rattle.abt_interleave.proofs.Members.{all-from-among}
use Rattle.abt_interleave.proofs.OneList.{above-rises}
use Rattle.abt_merge.specs.Logs.{AreLogs, log_of}
use Rattle.abt_simulation.specs.Journals.{events_of}
use Rattle.abt_simulation.specs.Merging.{StreamDeed, event_of, machine_of}
use Rattle.abt_commons.specs.Held.{ObjectsValue}
use Rattle.abt_stream.specs.Streams.{StreamValue}
use Rattle.abt_drain.specs.Crews.{log_from, moment_of}
use Rattle.abt_waves.specs.Fleets.{IsWave}
use Rattle.abt_streams.specs.Cutting.{behind, log_lengths}

-- what is behind in the log of stream s
behind-at : (streams : List StreamValue) (ns : List ℕ) (s : ℕ) → length ns ≡ length streams → log_of (behind streams ns) s ≡ drop (get_or ns s 0) (log_from (slice_get streams s))
behind-at [] [] s many = refl
behind-at [] (n ∷ ns) s many = absurd (omega (arith, many))
behind-at (stream ∷ streams) [] s many = absurd (omega (arith, many))
behind-at (stream ∷ streams) (n ∷ ns) zero many = refl
behind-at (stream ∷ streams) (n ∷ ns) (suc s) many = behind-at streams ns s (omega (arith, many))

-- how many events the log of stream s has
lengths-at : (streams : List StreamValue) (s : ℕ) → get_or (log_lengths streams) s 0 ≡ length (log_from (slice_get streams s))
lengths-at [] s = refl
lengths-at (stream ∷ streams) zero = refl
lengths-at (stream ∷ streams) (suc s) = lengths-at streams s

-- what is behind in the logs of the first streams, with one more
pub behind-more : (streams : List StreamValue) (ns : List ℕ) (s k : ℕ) (stream : StreamValue) → k ≡ suc s → s < length streams → length ns ≡ length streams → stream ≡ get_or streams s stream →
    behind (take k streams) (take k ns) ≡ behind (take s streams) (take s ns) ++ drop (get_or ns s 0) stream.log ∷ []
behind-more streams ns s k stream next lt many is = subst (λ j. behind (take j streams) (take j ns) ≡ behind (take s streams) (take s ns) ++ drop (get_or ns s 0) stream.log ∷ []) (sym next) (one streams ns s stream lt many is)
  where
    one : (streams : List StreamValue) (ns : List ℕ) (s : ℕ) (stream : StreamValue) → s < length streams → length ns ≡ length streams → stream ≡ get_or streams s stream →
        behind (take (suc s) streams) (take (suc s) ns) ≡ behind (take s streams) (take s ns) ++ drop (get_or ns s 0) stream.log ∷ []
    one [] ns s stream lt many is = absurd (omega (arith, lt))
    one (x ∷ xs) [] s stream lt many is = absurd (omega (arith, many))
    one (x ∷ xs) (n ∷ ns) zero stream lt many is = ap (λ (y : StreamValue). drop n y.log ∷ []) (sym is)
    one (x ∷ xs) (n ∷ ns) (suc s) stream lt many is = ap (λ (logs : List (List Event)). drop n x.log ∷ logs) (one xs ns s stream (omega (arith, lt)) (omega (arith, many)) is)

map-of-map : {A B C : Type 0} (f : A → B) (g : B → C) (xs : List A) → map g (map f xs) ≡ map (λ x. g (f x)) xs
map-of-map f g [] = refl
map-of-map f g (x ∷ xs) = ap (λ ys. g (f x) ∷ ys) (map-of-map f g xs)

module _ (W : Parts) (Z : Stored) (objects left : ObjectsValue) (streams after : List StreamValue) (live : List Bool) (wave : IsWave W Z live (moment_of W streams objects) (moment_of W after left)) (many : length after ≡ length streams) where
  -- as many lengths as logs
  pub same-many : length (log_lengths streams) ≡ length after
  same-many = length-map streams (λ (stream : StreamValue). length stream.log) ∙ sym many

  -- the events of the wave
  pub behind-is : (s : ℕ) → log_of (behind after (log_lengths streams)) s ≡ events_of wave.deeds s
  behind-is s = behind-at after (log_lengths streams) s same-many
      ∙ (ap (λ n. drop n (log_from (slice_get after s))) (lengths-at streams s) ∙ (ap (drop (length (log_from (slice_get streams s)))) (wave.logs s) ∙ drop-append_seam (log_from (slice_get streams s)) (events_of wave.deeds s)))

  -- stand behind those before it
  pub behind-cut : (s : ℕ) → log_from (slice_get streams s) ++ log_of (behind after (log_lengths streams)) s ≡ log_from (slice_get after s)
  behind-cut s = ap (λ (es : List Event). log_from (slice_get streams s) ++ es) (behind-is s) ∙ sym (wave.logs s)

  -- each is a log
  pub behind-logs : AreLogs (behind after (log_lengths streams))
  behind-logs s = subst (IsLogOf (λ (e : Event). e.stamp) (λ (e : Event). e.stream.0) s) (sym (behind-is s)) (
    subst Rises (sym (map-of-map event_of (λ (e : Event). e.stamp) (wave.deeds s))) (above-rises ((moment_of W streams objects).clocks s) (deed_stamps (wave.deeds s)) (wave.climb s)),
    All-map (λ (e : Event). e.stream.0 ≡ s) event_of (wave.deeds s) (all-from-among (λ (d : StreamDeed). d.stream ≡ s) (wave.deeds s)
        (λ d a. own-log (machine_of W Z) (moment_of W streams objects).parts (moment_of W streams objects).objects wave.deeds wave.histories (moment_of W after left).parts (moment_of W after left).objects wave.gathered s d a)),
  )
