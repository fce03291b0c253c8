-- Keys that tell their values, made of smaller ones.
use Rattle.std.proofs.Common.{ℕ, ◌≡◌, ◌^◌, ◌∙◌, ◌++◌, nat_lt, List, [], ◌∷◌, length, take, drop, refl, ap, sym, subst, append_assoc, arith}
use Rattle.std.specs.Prelude.{if◌then◌else◌}
use Rattle.std.specs.Int.{from_le_bytes, to_le_bytes, w64}
use Rattle.std.specs.List.{flat_map}
use Rattle.std.proofs.lemmas.Bool.{cond_both, ltb-true}
use Rattle.std.proofs.lemmas.Nat.{from_le_bytes-to_le_bytes_8}
use Rattle.abt_replay.specs.Keys.{IsPrefixCode, number_key, long_key, list_key, tag_key}

-- Texts, cut after their first number.

abbrev head_of : List ℕ → ℕ
head_of [] = 0
head_of (n ∷ ns) = n

abbrev tail_of : List ℕ → List ℕ
tail_of [] = []
tail_of (n ∷ ns) = ns

-- two values with one key are the same
pub injective : {A : Type 0} {key : A → List ℕ} → IsPrefixCode key → (a b : A) → key a ≡ key b → a ≡ b
injective told a b e = (told.tells a b [] [] (ap (λ k. k ++ []) e)).0

-- Keys made of keys.

-- a value by the key of its parts
pub along : {A B : Type 0} {key : A → List ℕ} (parts : B → A) (whole : A → B) → ((b : B) → whole (parts b) ≡ b) → IsPrefixCode key → IsPrefixCode (λ (b : B). key (parts b))
along parts whole is told = record {
  tells = λ a b xs ys e.
      let these = told.tells (parts a) (parts b) xs ys e in
      (sym (is a) ∙ (ap whole these.0 ∙ is b), these.1);
}

-- a number that stands as it is
pub byte : IsPrefixCode (λ (n : ℕ). n ∷ [])
byte = record { tells = λ a b xs ys e. (ap head_of e, ap tail_of e) }

-- a choice among forms without parts
pub tagged : {A : Type 0} (tag : A → ℕ) (whole : ℕ → A) → ((a : A) → whole (tag a) ≡ a) → IsPrefixCode (tag_key tag)
tagged tag whole is = along tag whole is byte

-- one value after another
pub pair : {A B : Type 0} {f : A → List ℕ} {g : B → List ℕ} → IsPrefixCode f → IsPrefixCode g → IsPrefixCode (λ (p : A × B). f p.0 ++ g p.1)
pair {f = f} {g = g} first second = record {
  tells = λ a b xs ys e.
      let these = first.tells a.0 b.0 (g a.1 ++ xs) (g b.1 ++ ys) (sym (append_assoc (f a.0) (g a.1) xs) ∙ (e ∙ append_assoc (f b.0) (g b.1) ys)) in
      let others = second.tells a.1 b.1 xs ys these.1 in
      (ap (λ x. (x, a.1)) these.0 ∙ ap (λ y. (b.0, y)) others.0, others.1);
}

-- the parts of two values of one form
same-form : {B : Type 0} {P : ℕ → Type 0} (key : (n : ℕ) → P n → List ℕ) (whole : (n : ℕ) → P n → B) → ((n : ℕ) → IsPrefixCode (key n)) →
    (xs ys : List ℕ) (n m : ℕ) (p : P n) (q : P m) → n ≡ m → key n p ++ xs ≡ key m q ++ ys → (whole n p ≡ whole m q) × (xs ≡ ys)
same-form {P = P} key whole told xs ys n m p q is =
    subst (λ m. (q : P m) → key n p ++ xs ≡ key m q ++ ys → (whole n p ≡ whole m q) × (xs ≡ ys)) is
    (λ q e. let these = (told n).tells p q xs ys e in (ap (whole n) these.0, these.1)) q

-- a choice among forms, each with its parts
pub choice : {B : Type 0} {P : ℕ → Type 0} {of_all : B → List ℕ} (key : (n : ℕ) → P n → List ℕ) (tag : B → ℕ) (parts : (b : B) → P (tag b)) (whole : (n : ℕ) → P n → B) →
    ((b : B) → whole (tag b) (parts b) ≡ b) → ((b : B) → of_all b ≡ tag b ∷ key (tag b) (parts b)) → ((n : ℕ) → IsPrefixCode (key n)) → IsPrefixCode of_all
choice key tag parts whole is keys told = record {
  tells = λ a b xs ys e.
      let bytes = ap (λ k. k ++ xs) (sym (keys a)) ∙ (e ∙ ap (λ k. k ++ ys) (keys b)) in
      let these = same-form key whole told xs ys (tag a) (tag b) (parts a) (parts b) (ap head_of bytes) (ap tail_of bytes) in
      (sym (is a) ∙ (these.0 ∙ is b), these.1);
}

-- Numbers.

-- the number that a text begins with, and what follows, where it is not one byte
abbrev long_read : ℕ → List ℕ → ℕ × List ℕ
long_read n ns = if nat_lt n 255 then (from_le_bytes w64 (take 8 ns), drop 8 ns) else (head_of ns, tail_of ns)

-- the number that a text begins with, and what follows
abbrev number_read : List ℕ → ℕ × List ℕ
number_read [] = (0, [])
number_read (n ∷ ns) = if nat_lt n 254 then (n, ns) else long_read n ns

-- a number is read as it was written
number-read : (n : ℕ) (xs : List ℕ) → number_read (number_key n ++ xs) ≡ (n, xs)
unfolding number_key
number-read n xs =
    cond_both (nat_lt n 254) (n ∷ []) (long_key n) (λ key. ◌≡◌ {A = ℕ × List ℕ} (number_read (key ++ xs)) (n, xs))
    (λ is. ap (λ t. if t then (n, xs) else long_read n xs) is)
    (λ _. cond_both (nat_lt n (2 ^ 64)) (254 ∷ to_le_bytes w64 n) (255 ∷ n ∷ []) (λ key. ◌≡◌ {A = ℕ × List ℕ} (number_read (key ++ xs)) (n, xs))
    (λ is. ap (λ m. (m, xs)) (from_le_bytes-to_le_bytes_8 n (ltb-true n (2 ^ 64) is)))
    (λ _. refl))

-- so its key tells it
pub number : IsPrefixCode number_key
number = record {
  tells = λ a b xs ys e.
      let these = sym (number-read a xs) ∙ (ap number_read e ∙ number-read b ys) in
      (ap (λ r. r.0) these, ap (λ r. r.1) these);
}

-- Lists.

-- the elements of two lists of one length
each : {A : Type 0} {key : A → List ℕ} → IsPrefixCode key →
    (cs ds : List A) (xs ys : List ℕ) → length cs ≡ length ds → flat_map key cs ++ xs ≡ flat_map key ds ++ ys → (cs ≡ ds) × (xs ≡ ys)
each told [] [] xs ys long e = (refl, e)
each told [] (d ∷ ds) xs ys long e = let none : ⊥ = omega arith in elim none [ ]
each told (c ∷ cs) [] xs ys long e = let none : ⊥ = omega arith in elim none [ ]
each {key = key} told (c ∷ cs) (d ∷ ds) xs ys long e =
    let these =
    told.tells c d (flat_map key cs ++ xs) (flat_map key ds ++ ys)
    (sym (append_assoc (key c) (flat_map key cs) xs) ∙ (e ∙ append_assoc (key d) (flat_map key ds) ys)) in
    let shorter : length cs ≡ length ds = omega arith in
    let others = each told cs ds xs ys shorter these.1 in
    (ap (λ x. x ∷ cs) these.0 ∙ ap (λ zs. d ∷ zs) others.0, others.1)

-- a list whose elements are told
pub list : {A : Type 0} {key : A → List ℕ} → IsPrefixCode key → IsPrefixCode (list_key key)
unfolding list_key
list {key = key} told = record {
  tells = λ cs ds xs ys e.
      let lengths =
      number.tells (length cs) (length ds) (flat_map key cs ++ xs) (flat_map key ds ++ ys)
      (sym (append_assoc (number_key (length cs)) (flat_map key cs) xs) ∙ (e ∙ append_assoc (number_key (length ds)) (flat_map key ds) ys)) in
      each told cs ds xs ys lengths.0 lengths.1;
}
