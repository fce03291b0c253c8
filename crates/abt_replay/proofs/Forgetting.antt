-- Frames once the numbers of their rounds are forgotten.
use Rattle.std.proofs.Common.{◌≡◌, ◌∙◌, ◌++◌, List, [], ◌∷◌, map, reverse, refl, ap, sym}
use Rattle.std.proofs.lemmas.List.{length-map, map-append, reverse-append}

-- a list that is made element by element from another, backwards
pub map-reverse : {X Y : Type 0} (f : X → Y) (xs : List X) → reverse (map f xs) ≡ map f (reverse xs)
map-reverse f [] = refl
map-reverse f (x ∷ xs) =
    reverse-append (f x ∷ []) (map f xs)
    ∙ (ap (λ ys. ys ++ f x ∷ []) (map-reverse f xs) ∙ (sym (map-append f (reverse xs) (x ∷ [])) ∙ ap (map f) (sym (reverse-append (x ∷ []) xs))))

pub ruleset forgetting = (map-reverse, length-map)
