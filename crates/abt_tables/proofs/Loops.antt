-- Lists that loops build, one element more at a time.
use Rattle.std.proofs.Common.{◌≡◌, ◌∙◌, ◌+◌, ℕ, List, [], ◌∷◌, ◌++◌, map, sym, ap, zero-add}
use Rattle.std.specs.List.{range_with_len}
use Rattle.std.proofs.lemmas.List.{map_push}
use Rattle.std.proofs.lemmas.List.FromFn.{map-range_with_len_more}

-- one number of a range more, of which a list has what something is made of
pub made-more : {A B : Type 0} (now next : List A) (y : A) (g : A → B) (f : ℕ → B) (k : ℕ) → map g now ≡ map f (range_with_len 0 k) → next ≡ now ++ y ∷ [] → g y ≡ f k → map g next ≡ map f (range_with_len 0 (k + 1))
made-more now next y g f k before push made =
    ap (map g) push ∙ (map_push g now y ∙ (ap (λ zs. zs ++ g y ∷ []) before ∙ (ap (λ z. map f (range_with_len 0 k) ++ z ∷ []) made ∙ sym (map-range_with_len_more f 0 k k (zero-add k)))))
