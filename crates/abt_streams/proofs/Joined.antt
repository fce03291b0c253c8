-- Waves, one behind the other.
use Rattle.std.proofs.Common.{◌≡◌, ◌≢◌, ℕ, ◌+◌, ◌∙◌, List, [], ◌∷◌, ◌++◌, length, refl, sym, ap, subst, arith, append_assoc, length-append}
use Rattle.std.proofs.lemmas.List.{append-nil}
use Rattle.abt_machine.specs.declared.events.Event.{Event}
use Rattle.abt_machine.specs.declared.workload.Parts.{Parts}
use Rattle.abt_machine.specs.Runs.{state_after}
use Rattle.abt_machine.specs.State.{State}
use Rattle.abt_laws.proofs.RunParts.{state_after-append}
use Rattle.abt_streams.specs.declared.life.Life.{Life}
use Rattle.abt_streams.specs.declared.wave.Wave.{Wave}
use Rattle.abt_streams.specs.Waves.{AreWaves, IsWaveOf}

-- one wave more
pub waves-push : (W : Parts) (lives : List Life) (S : State) (n : ℕ) (waves : List Wave) (J : List Event) (wave : Wave) (es : List Event) → AreWaves W lives S n waves J →
    IsWaveOf W lives (state_after W S J) (n + length J) wave es → AreWaves W lives S n (waves ++ wave ∷ []) (J ++ es)
waves-push W lives S n [] J wave es are is =
    let here : IsWaveOf W lives S (n + length {A = Event} []) wave es = subst (λ (K : List Event). IsWaveOf W lives (state_after W S K) (n + length K) wave es) are is in
    let none : n + length {A = Event} [] ≡ n = omega arith in
    (es, [], ap (λ (K : List Event). K ++ es) are ∙ sym (append-nil es), subst (λ k. IsWaveOf W lives S k wave es) none here, refl)
waves-push W lives S n (v ∷ vs) J wave es are is =
    let front = are.0 in
    let rest = are.1 in
    let whole : J ≡ front ++ rest = are.2 in
    let state : state_after W S J ≡ state_after W (state_after W S front) rest = ap (state_after W S) whole ∙ state_after-append W S front rest in
    let count : n + length J ≡ (n + length front) + length rest = omega (arith, ap length whole, length-append front rest) in
    let there : IsWaveOf W lives (state_after W (state_after W S front) rest) ((n + length front) + length rest) wave es =
    subst (λ (T : State). IsWaveOf W lives T ((n + length front) + length rest) wave es) state (subst (λ k. IsWaveOf W lives (state_after W S J) k wave es) count is) in
    (front, rest ++ es, ap (λ (K : List Event). K ++ es) whole ∙ append_assoc front rest es, are.3, waves-push W lives (state_after W S front) (n + length front) vs rest wave es are.4 there)

-- there is one, then
pub some-wave : (waves : List Wave) (wave : Wave) → waves ++ wave ∷ [] ≢ []
some-wave [] wave e = cc
some-wave (v ∷ vs) wave e = cc
