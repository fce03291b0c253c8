-- The form of a line, found among the forms of its first word.
use Rattle.std.proofs.Common.{◌<◌, arith, ◌≡◌, ◌∙◌, ◌&&◌, Bool, true, false, List, [], ◌∷◌, Some, Bor, ap, All, if◌then◌else◌, bytes_eq, drop, find, length, map, nat_le, refl, subst, sym, take, ◌-◌}
use Rattle.std.specs.List.{filter, list_all}
use Rattle.std.proofs.lemmas.Bool.{leb-true}
use Rattle.std.proofs.lemmas.List.Elements.{All-cons}
use Rattle.std.proofs.lemmas.Slice.Eq.{bytes_eq-Decides}
use Rattle.abt_machine.specs.declared.grammar.Form.{Form}
use Rattle.abt_machine.specs.declared.grammar.Format.{Format}
use Rattle.abt_machine.specs.declared.grammar.Form.TheVariants as form
use Rattle.abt_machine.specs.Forms.{AnyWord, CombineWord, Fixed, KindWord, Numeral, PoolList, Slot, begins_with, fits, form_of, forms, is_in, numerals, slots}
use Rattle.abt_machine.specs.Words.{Text}
use Rattle.abt_workload.specs.Slots.{IsHead, forms_of, has_rest, is_headed}
use Rattle.abt_workload.specs.declared.forms.Head.{Head}
use Rattle.abt_workload.proofs.Places.{and-left, and-right}
use Rattle.abt_workload.proofs.Proper.{none-of}
use Rattle.abt_workload.proofs.Verdicts.{fitting-begins, slots-some}
use Rattle.abt_workload.proofs.WritingLines.{headed}

-- what a test finds stands among all elements that it may be true of
find-filter : {X : Type 0} (p q : X → Bool) → ((x : X) → p x ≡ true → q x ≡ true) → (xs : List X) → find p (filter q xs) ≡ find p xs
find-filter p q h [] = refl
find-filter p q h (x ∷ xs) = by (p x) (q x) refl refl (find-filter p q h xs)
  where
    by : (b c : Bool) → p x ≡ b → q x ≡ c → find p (filter q xs) ≡ find p xs → find p (filter q (x ∷ xs)) ≡ find p (x ∷ xs)
    by true true e d rest = simp (d, e)
    by true false e d rest = let yes : q x ≡ true = h x e in cc
    by false true e d rest = simp (d, e) rest
    by false false e d rest = simp (d, e) rest

-- the words after the first say nothing of how a line begins
begins-first : (places : List Slot) (word : Text) (words : List Text) → begins_with places (word ∷ words) ≡ begins_with places (word ∷ [])
begins-first [] word words = refl
begins-first (slot ∷ places) word words = refl

slots-headed : (f : Form) → is_headed (slots f) ≡ true
slots-headed (form.Repeat o) = refl
slots-headed f = headed f

module _ (F : Format) where
  abbrev has : List Text → Form → Bool
  has words f = is_in F f && fits (slots f) words

  may-begin : (word : Text) (words : List Text) (f : Form) → has (word ∷ words) f ≡ true → begins_with (slots f) (word ∷ []) ≡ true
  may-begin word words f e = sym (begins-first (slots f) word words) ∙ fitting-begins (slots f) (word ∷ words) (slots-some f) (and-right (is_in F f) _ e)

  -- the first place is filled by the word that the line begins with
  behind : (places : List Slot) (word : Text) (rest : List Text) → is_headed places ≡ true → begins_with places (word ∷ []) ≡ true → fits places (word ∷ rest) ≡ fits (drop 1 places) rest
  behind [] word rest headed e = cc
  behind (Fixed text ∷ places) word rest headed e = rw e refl
  behind (KindWord ∷ places) word rest headed e = cc
  behind (CombineWord ∷ places) word rest headed e = cc
  behind (AnyWord ∷ places) word rest headed e = cc
  behind (Numeral n ∷ places) word rest headed e = cc
  behind (PoolList ∷ places) word rest headed e = cc

  same-found : (p r q : Form → Bool) → ((f : Form) → q f ≡ true → p f ≡ r f) → (fs : List Form) → find p (filter q fs) ≡ find r (filter q fs)
  same-found p r q h [] = refl
  same-found p r q h (f ∷ fs) = by (q f) refl (same-found p r q h fs)
    where
      by : (b : Bool) → q f ≡ b → find p (filter q fs) ≡ find r (filter q fs) → find p (filter q (f ∷ fs)) ≡ find r (filter q (f ∷ fs))
      by true e rest = rw (e, h f e) (step (r f))
        where
          step : (b : Bool) → (if b then Some f else find p (filter q fs)) ≡ (if b then Some f else find r (filter q fs))
          step true = refl
          step false = rest
      by false e rest = rw e rest

  -- a line's form is the first that it has among the forms of its first word
  pub form-behind : (word : Text) (rest : List Text) (group : List Form) → group ≡ forms_of word → find (has_rest F rest) group ≡ form_of F (word ∷ rest)
  form-behind word rest group e = ap (find (has_rest F rest)) e
      ∙ sym (same-found (has (word ∷ rest)) (has_rest F rest) (λ f. begins_with (slots f) (word ∷ [])) same forms)
      ∙ find-filter (has (word ∷ rest)) (λ f. begins_with (slots f) (word ∷ [])) (may-begin word rest) forms
    where
      same : (f : Form) → begins_with (slots f) (word ∷ []) ≡ true → has (word ∷ rest) f ≡ has_rest F rest f
      same f is = ap (λ (b : Bool). is_in F f && b) (behind (slots f) word rest (slots-headed f) is)

pub form-of-words : (F : Format) (words : List (Bor Text)) (word : Bor Text) (rest : List (Bor Text)) (group : List Form) → words ≡ word ∷ rest → group ≡ forms_of word.now
    → find (has_rest F (map (λ w. w.now) rest)) group ≡ form_of F (map (λ w. w.now) words)
form-of-words F words word rest group e h = form-behind F word.now (map (λ w. w.now) rest) group h ∙ ap (λ (ws : List (Bor Text)). form_of F (map (λ w. w.now) ws)) (sym e)

-- the forms of a word that is a head's
pub forms-headed : (word : Text) (head : Head) (all : List Form) → all ≡ forms → bytes_eq word head.word.now ≡ true → IsHead head → take (head.to - head.from) (drop head.from all) ≡ forms_of word
forms-headed word head all e is h = ap (λ (fs : List Form). take (head.to - head.from) (drop head.from fs)) e ∙ h.group ∙ ap forms_of (sym ((bytes_eq-Decides word head.word.now).0 is))

-- a table of heads, tested as a whole

abbrev is_ordered : Head → Bool
is_ordered head = nat_le head.from head.to && nat_le head.to (length forms)

abbrev cut : Head → List Form
cut head = take (head.to - head.from) (drop head.from forms)

abbrev named : Head → List Form
named head = forms_of head.word.now

heads-are : (heads : List Head) → list_all is_ordered heads ≡ true → map cut heads ≡ map named heads → All IsHead heads
heads-are [] e f = none-of _
heads-are (head ∷ heads) e f =
    let here = and-left (is_ordered head) _ e in
    let is : IsHead head = record { ordered = leb-true _ _ (and-left _ _ here); within = leb-true _ _ (and-right (nat_le head.from head.to) _ here); group = first f } in
    All-cons IsHead head heads is (heads-are heads (and-right (is_ordered head) _ e) (rest f))
  where
    first : cut head ∷ map cut heads ≡ named head ∷ map named heads → cut head ≡ named head
    first e = cc

    rest : cut head ∷ map cut heads ≡ named head ∷ map named heads → map cut heads ≡ map named heads
    rest e = cc

pub table-heads : (heads table : List Head) → heads ≡ table → list_all is_ordered table ≡ true → map cut table ≡ map named table → All IsHead heads
table-heads heads table is e f = subst (λ (hs : List Head). All IsHead hs) (sym is) (heads-are table e f)

-- a line of one word has no number

none-left : (places : List Slot) → numerals places [] ≡ []
none-left [] = refl
none-left (Fixed text ∷ places) = refl
none-left (KindWord ∷ places) = refl
none-left (CombineWord ∷ places) = refl
none-left (AnyWord ∷ places) = refl
none-left (Numeral n ∷ places) = refl
none-left (PoolList ∷ places) = refl

none-first : (places : List Slot) (word : Text) → is_headed places ≡ true → numerals places (word ∷ []) ≡ []
none-first [] word e = cc
none-first (Fixed text ∷ places) word e = none-left places
none-first (KindWord ∷ places) word e = cc
none-first (CombineWord ∷ places) word e = cc
none-first (AnyWord ∷ places) word e = cc
none-first (Numeral n ∷ places) word e = cc
none-first (PoolList ∷ places) word e = cc

pub no-numerals : (f : Form) (words : List (Bor Text)) → length words < 2 → numerals (slots f) (map (λ w. w.now) words) ≡ []
no-numerals f [] few = none-left (slots f)
no-numerals f (word ∷ []) few = none-first (slots f) word.now (slots-headed f)
no-numerals f (v ∷ w ∷ words) few = absurd (omega arith)
