use Rattle.std.proofs.Common.{◌≡◌, ◌∙◌, ◌-◌, ◌≤◌, ℕ, Bor, List, ap, arith, drop, length, length-drop, map, sym, take}
use Rattle.std.proofs.lemmas.List.{drop-map, take_all}
use Rattle.abt_workload.proofs.text.words_after.Goals as goal

cut : (k : ℕ) (words : List (Bor (List ℕ))) → map (λ w. w.now) (take (length words - k) (drop k words)) ≡ drop k (map (λ w. w.now) words)
cut k words =
    let le : length (drop k words) ≤ length words - k = simp length-drop (omega arith) in
    ap (map (λ w. w.now)) (take_all _ _ le) ∙ sym (drop-map (λ w. w.now) k words)

pub returns-then-k-words : goal.returns-then-k-words
returns-then-k-words c = cut c.args.k c.args.words.now
