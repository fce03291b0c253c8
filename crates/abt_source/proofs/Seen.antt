-- Files that agree with what was seen of them.
use Rattle.std.proofs.Common.{◌≡◌, ◌∙◌, ◌<◌, ◌≤◌, ◌+◌, ℕ, List, [], ◌∷◌, ◌++◌, All, Bool, true, false, length, take, Option, Some, None, ap, refl, sym, subst, append_assoc, arith}
use Rattle.std.specs.Prelude.{IfSome}
use Rattle.std.proofs.Math.Seq.{drop-append_seam, take-append_seam}
use Rattle.std.proofs.lemmas.List.{take_all}
use Rattle.std.proofs.lemmas.List.Elements.{All-drop, All-head, All-take}
use Rattle.abt_source.specs.Seen.{Reading, Seen, Holds, Gave, Agree, Gives, Grows, IsOf, closed, gave, gave_on, held, reading, readings_in}

-- Bytes that come are read after those that came.
pub gave-more : (name read bytes : List ℕ) (seen : Seen) → 0 < length bytes → gave_on bytes (gave (reading name read false) seen) ≡ gave (reading name (read ++ bytes) false) seen
gave-more name read bytes (Holds known) some = refl
gave-more name read [] (Gave begun readings) some = absurd (omega arith)
gave-more name read (b ∷ bytes) (Gave begun readings) some = refl

-- None come at the end.
pub gave-none : (name read : List ℕ) (seen : Seen) → gave_on [] (gave (reading name read false) seen) ≡ gave (reading name read true) seen
gave-none name read (Holds known) = refl
gave-none name read (Gave begun readings) = refl

-- What was seen grows by a reading.
pub grows-gave : (r : Reading) (seen now : Seen) → now ≡ gave r seen → Grows seen now
grows-gave r (Holds known) now e = e
grows-gave r (Gave begun readings) now e = (true, r ∷ [], e)

-- Nothing is lost if none goes on.
pub grows-closed : (seen now : Seen) → now ≡ closed seen → Grows seen now
grows-closed (Holds known) now e = e
grows-closed (Gave begun readings) now e = (false, [], e)

-- the older ones of readings that are all of these files
all-older : (P : Reading → Type 0) (xs ys : List Reading) → All P (xs ++ ys) → All P ys
all-older P xs ys h = subst (All P) (drop-append_seam xs ys) (All-drop P (length xs) (xs ++ ys) h)

-- and the newer ones
all-newer : (P : Reading → Type 0) (xs ys : List Reading) → All P (xs ++ ys) → All P xs
all-newer P xs ys h = subst (All P) (take-append_seam xs ys) (All-take P (length xs) (xs ++ ys) h)

-- the readings of two calls
joined : (rs ss ts older newer : List Reading) → ss ≡ older ++ rs → ts ≡ newer ++ ss → ts ≡ (newer ++ older) ++ rs
joined rs ss ts older newer e f = f ∙ ap (λ (xs : List Reading). newer ++ xs) e ∙ sym (append_assoc newer older rs)

-- Files that agree with what was seen in two calls agree with what was seen in the first,
pub agree-first : (a b c : Seen) (file : List ℕ → Option (List ℕ)) → Grows a b → Grows b c → Agree a c file → Agree a b file
agree-first (Holds known) b c file one two h = h
agree-first (Gave o rs) (Holds known) c file one two h = let no = one.2 in cc
agree-first (Gave o rs) (Gave p ss) c file one two h = λ older e.
    all-older (IsOf file) two.1 older (h (two.1 ++ older) (joined rs ss (readings_in c) older two.1 e (ap readings_in two.2)))

-- and in the second.
pub agree-then : (a b c : Seen) (file : List ℕ → Option (List ℕ)) → Grows a b → Grows b c → Agree a c file → Agree b c file
agree-then (Holds known) b c file one two h = subst (λ (s : Seen). Agree s c file) (sym one) h
agree-then (Gave o rs) (Holds known) c file one two h = let no = one.2 in cc
agree-then (Gave o rs) (Gave p ss) c file one two h = λ newer e.
    all-newer (IsOf file) newer one.1 (h (newer ++ one.1) (joined rs ss (readings_in c) one.1 newer (ap readings_in one.2) e))

-- What was seen in two calls grows.
pub grows-on : (a b c : Seen) → Grows a b → Grows b c → Grows a c
grows-on (Holds known) b c one two = let same : Grows (Holds known) c = subst (λ (s : Seen). Grows s c) one two in same
grows-on (Gave o rs) (Holds known) c one two = let no = one.2 in cc
grows-on (Gave o rs) (Gave p ss) c one two = let now = one.2 in let then = two.2 in let joined = append_assoc two.1 one.1 rs in (two.0, two.1 ++ one.1, cc)

-- the bytes of a file begin with those that were read
gives-take : (most : ℕ) (bytes read : List ℕ) (whole : Bool) → Gives bytes read whole → length read ≤ most + 1 → (whole ≡ false → length read ≡ most + 1) → read ≡ take (most + 1) bytes
gives-take most bytes read true is bound long = sym (subst (λ (xs : List ℕ). take (most + 1) xs ≡ read) (sym is) (take_all (most + 1) read bound))
gives-take most bytes read false is bound long =
    subst (λ (n : ℕ). read ≡ take n bytes) (long refl) (subst (λ (xs : List ℕ). read ≡ take (length read) xs) (sym is.1) (sym (take-append_seam read is.0)))

-- What one reading gave is what a file has that agrees with it.
pub agree-reads : (most : ℕ) (name read : List ℕ) (whole : Bool) (old now : Seen) (file : List ℕ → Option (List ℕ)) → now ≡ gave (reading name read whole) old
    → IfSome (held old name) (λ xs. read ≡ take (most + 1) xs) → length read ≤ most + 1 → (whole ≡ false → length read ≡ most + 1) → Agree old now file → IfSome (file name) (λ xs. read ≡ take
    (most + 1) xs)
agree-reads most name read whole (Holds known) now file e split bound long agree = by (file name) (agree name)
  where
    by : (o : Option (List ℕ)) → IfSome o (λ bytes. known name ≡ Some bytes) → IfSome o (λ xs. read ≡ take (most + 1) xs)
    by None h = tt
    by (Some xs) h = subst (λ (k : Option (List ℕ)). IfSome k (λ xs. read ≡ take (most + 1) xs)) h split
agree-reads most name read whole (Gave begun rs) now file e split bound long agree = by (file name) (All-head (IsOf file) (reading name read whole) [] first)
  where
    first : All (IsOf file) (reading name read whole ∷ [])
    first = agree (reading name read whole ∷ []) (ap readings_in e)

    by : (o : Option (List ℕ)) → IfSome o (λ bytes. Gives bytes read whole) → IfSome o (λ xs. read ≡ take (most + 1) xs)
    by None h = tt
    by (Some xs) h = gives-take most xs read whole h bound long

-- Nothing is taken if none is.
pub nothing-taken : (n : ℕ) (xs : List ℕ) → n ≡ 0 → take n xs ≡ []
nothing-taken n xs none = ap (λ (k : ℕ). take k xs) none

-- A read that gave no bytes met the end of the newest reading,
pub ends : (name read got : List ℕ) (old then now : Seen) → then ≡ gave (reading name read false) old → now ≡ gave_on got then → got ≡ [] → now ≡ gave (reading name read true) old
ends name read got old then now e f none =
    f ∙ ap (λ (bytes : List ℕ). gave_on bytes then) none ∙ ap (gave_on []) e ∙ gave-none name read old

-- and one that gave bytes goes on with it.
pub goes-on : (name read got : List ℕ) (old then now : Seen) → then ≡ gave (reading name read false) old → now ≡ gave_on got then → 0 < length got
    → now ≡ gave (reading name (read ++ got) false) old
goes-on name read got old then now e f some = f ∙ ap (gave_on got) e ∙ gave-more name read got old some

-- What was seen grew by the newest reading, whatever a read gave.
pub grows-by : (name read got : List ℕ) (old then now : Seen) → then ≡ gave (reading name read false) old → now ≡ gave_on got then → Grows old now
grows-by name read [] old then now e f = grows-gave _ old now (ends name read [] old then now e f refl)
grows-by name read (b ∷ got) old then now e f = grows-gave _ old now (goes-on name read (b ∷ got) old then now e f (omega arith))
