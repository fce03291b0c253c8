-- The lines of waves, one more at a time.
use Rattle.std.proofs.Common.{◌≡◌, ◌+◌, ◌<◌, ◌∙◌, ℕ, List, [], ◌∷◌, ◌++◌, length, take, get_or, refl, sym, ap, append_assoc, zero-add, arith}
use Rattle.std.specs.List.{enumerate_from}
use Rattle.std.proofs.lemmas.Grind.{flat_map-append}
use Rattle.std.proofs.lemmas.List.{append-nil, length-take-le, map_push, take_more}
use Rattle.abt_machine.specs.Words.{Text, ended, line_of, numbered}
use Rattle.abt_machine.proofs.Weighing.{enumerate-behind}
use Rattle.abt_streams.specs.declared.wave.Wave.{Wave}
use Rattle.abt_lives.specs.Lives.{wave_words, waves_text}

-- the words of each wave, with one behind
words-behind : (waves : List Wave) (wave : Wave) → numbered wave_words (waves ++ wave ∷ []) ≡ numbered wave_words waves ++ wave_words (length waves) wave ∷ []
words-behind waves wave = rw (enumerate-behind 0 waves wave, zero-add (length waves)) (map_push (λ p. wave_words p.0 p.1) (enumerate_from 0 waves) (length waves, wave))

-- their lines
waves-more : (waves : List Wave) (i : ℕ) (wave : Wave) → i < length waves → wave ≡ get_or waves i wave → waves_text (take (i + 1) waves) ≡ waves_text (take i waves) ++ ended (line_of (wave_words i wave))
waves-more waves i wave lt is =
    let next : take (i + 1) waves ≡ take i waves ++ wave ∷ [] = take_more waves i wave lt ∙ ap (λ (w : Wave). take i waves ++ w ∷ []) (sym is) in
    let long : length (take i waves) ≡ i = length-take-le i waves (omega (arith, lt)) in
    let words : numbered wave_words (take i waves ++ wave ∷ []) ≡ numbered wave_words (take i waves) ++ wave_words i wave ∷ [] =
    words-behind (take i waves) wave ∙ ap (λ k. numbered wave_words (take i waves) ++ wave_words k wave ∷ []) long in
    rw (next, words, flat_map-append (λ (ws : List Text). ended (line_of ws)) (numbered wave_words (take i waves)) (wave_words i wave ∷ []), append-nil (ended (line_of (wave_words i wave)))) refl

-- behind what stands there
pub one-more : (waves : List Wave) (i : ℕ) (wave : Wave) (out old new : Text) → i < length waves → wave ≡ get_or waves i wave → old ≡ out ++ waves_text (take i waves) → new ≡ old ++ ended (line_of (wave_words i wave)) →
    new ≡ out ++ waves_text (take (i + 1) waves)
one-more waves i wave out old new lt is before behind =
    behind ∙ (ap (λ (text : Text). text ++ ended (line_of (wave_words i wave))) before
    ∙ (append_assoc out (waves_text (take i waves)) (ended (line_of (wave_words i wave))) ∙ ap (λ (text : Text). out ++ text) (sym (waves-more waves i wave lt is))))
