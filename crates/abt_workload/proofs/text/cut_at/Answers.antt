use Rattle.std.proofs.Common.{◌≡◌, ◌<◌, ◌≤◌, ◌==◌, ℕ, true, false, length, get_or, add-one, take, drop, arith, ◌∷◌, ◌+◌, ◌-◌, List, length-drop}
use Rattle.std.proofs.lemmas.List.{take_all}
use Rattle.abt_machine.specs.Spelling.{lines_of}
use Rattle.abt_workload.proofs.LineEnds.{lines-at, lines-whole, lines-nil}
use Rattle.abt_workload.proofs.text.cut_at.Goals as goal

rest-whole : (at : ℕ) (bytes : List ℕ) → take (length bytes - at) (drop at bytes) ≡ drop at bytes
rest-whole at bytes = let le : length (drop at bytes) ≤ length bytes - at = simp length-drop (omega arith) in take_all _ _ le

cut : (text : List ℕ) (k : ℕ) → k < length text → (get_or text k 0 == 10) ≡ true → ((j : ℕ) → j < k → (get_or text j 0 == 10) ≡ false) → lines_of text ≡ take k text ∷ lines_of (take (length text - (k + 1)) (drop (k + 1) text))
cut text k lt at before = rw (rest-whole, add-one) (lines-at text k lt at before)

pub returns-then-end-text-clause-line : goal.returns-then-end-text-clause-line
returns-then-end-text-clause-line c = cut c.args.text.now c.args.end c.if-end-text.true (c.requires.at c.if-end-text.true) c.requires.before

pub returns-else-end-text-clause-line : goal.returns-else-end-text-clause-line
returns-else-end-text-clause-line c =
    let le : length c.args.text.now ≤ c.args.end = omega arith in
    rw lines-nil (lines-whole c.args.text.now c.requires.some (λ j h. c.requires.before j (omega arith)))
