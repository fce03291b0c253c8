use Rattle.std.proofs.Common.{ℕ, ◌≡◌, ◌∙◌, ◌==◌, ◌<◌, ◌≤◌, ◌+◌, ◌-◌, ◌++◌, true, false, arith, ap, drop, get_or, length, map, refl, sym, take}
use Rattle.abt_machine.specs.Spelling.{is_separator, words_of}
use Rattle.abt_workload.specs.Bytes.{ends_word}
use Rattle.abt_workload.proofs.Places.{or-left}
use Rattle.abt_workload.proofs.OnePass.{all-words, and-bytes, and-word, both-other, bytes-clean, is_fine, rest-at, rest-first, rest-length, printable-fine, separator-fine, separator-other, skip-words, word-at}
use Rattle.abt_workload.proofs.text.cut_line.Goals as goal
use Rattle.abt_workload.proofs.text.cut_line.Goals.{then-is_clean, else-is_clean}

pub loop-length-init : goal.loop-length-init
loop-length-init c =
    let s = c.word_start-at.ensures in
    record {
      within = s.bound;
      start = s.at;
      before = λ j h. separator-other _ (s.before j h);
      clean = λ _ j h. separator-fine (get_or c.args.text.now j 0) (s.before j h);
      words = rw c.clear.ensures.items (sym (skip-words c.args.text.now c.word_start-at.result s.bound s.before));
    }

pub loop-length-preserved : goal.loop-length-preserved
loop-length-preserved c =
    let i = c.loop-length.invariant in
    let text = c.args.text.now in
    let at = c.loop-length.at in
    let n = c.word_length-length.result.0 in
    let k = c.word_start.result in
    let here = c.line_goes_on.ensures.goes_on c.loop-length-test.true in
    let w = c.word_length-length.ensures in
    let s = c.word_start.ensures in
    let within-r : n ≤ length text - at = rw (← rest-length text at) w.bound in
    let within-s : k ≤ length text - (at + n) = rw (← rest-length text (at + n)) s.bound in
    let rest = take (length text - at) (drop at text) in
    let more = take (length text - (at + n)) (drop (at + n) text) in
    let some : 0 < length rest = rw (rest-length text at) (omega (arith, here.0)) in
    let start : ends_word (get_or rest 0 0) ≡ false = rest-first (λ b. ends_word b ≡ false) text at (both-other _ here.1 (i.start here.0)) in
    record {
      within = omega (arith, i.within, within-r, within-s);
      start = λ lt. rest-at (λ b. is_separator b ≡ false) text (at + n) k (s.at (rw (rest-length text (at + n)) (omega (arith, lt))));
      before = and-bytes (λ b. (b == 10) ≡ false) text _ _ at n k refl refl i.before (λ j h. or-left _ _ (w.before j h)) (λ j h. separator-other _ (s.before j h));
      clean = λ e.
          let both : (c.loop-length.is_clean ≡ true) × (c.word_length-length.result.1 ≡ true) = elim c.if-is_clean.branch [
            | then-is_clean b ↦ (b.if-is_clean.true, sym b.is_clean-is ∙ e)
            | else-is_clean b ↦ absurd (let bad = sym b.is_clean-is ∙ e in cc)
          ] in
          let word : (j : ℕ) → j < n → is_fine (get_or rest j 0) ≡ true = λ j h. printable-fine (get_or rest j 0) (w.printable both.1 j h) in
          let behind : (j : ℕ) → j < k → is_fine (get_or more j 0) ≡ true = λ j h. separator-fine (get_or more j 0) (s.before j h) in
          and-bytes (λ b. is_fine b ≡ true) text _ _ at n k refl refl (i.clean both.0) word behind;
      words =
          let word = word-at text _ _ at n k refl refl some start w.bound w.at w.before s.bound s.before in
          and-word _ _ _ _ _ c.in_ok-push.ensures.items (ap (λ ws. map (λ w. w.now) c.loop-length.words.items ++ ws) (sym word) ∙ i.words);
    }

pub returns-clause-words : goal.returns-clause-words
returns-clause-words c =
    let i = c.loop-length.invariant in
    let end = c.line_goes_on.ensures.ends c.loop-length-test.false in
    all-words c.args.text.now c.loop-length.at _ i.within end i.before i.words ∙ ap words_of (sym c.cut_at.ensures.cut)

pub returns-clause-clean : goal.returns-clause-clean
returns-clause-clean c = λ e.
    let i = c.loop-length.invariant in
    rw c.cut_at.ensures.cut (bytes-clean c.args.text.now c.loop-length.at i.within (i.clean e))
