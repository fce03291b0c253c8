-- A ring that ends, key by key.
use Rattle.std.proofs.Common.{◌≡◌, ℕ, ◌+◌, ◌<◌, List, [], ◌∷◌, ◌++◌, length, get_or, take, Option, Some, None, refl, subst, sym}
use Rattle.std.proofs.lemmas.List.{take_more}
use Rattle.abt_callbacks.specs.Ending.{AnswersAgree}

module _ {E : Type 0} (May : E → ℕ → ℕ → Type 0) where
  -- one more key that is not set
  pub none-more : (ends : List E) (values : List (Option ℕ)) (answers : List ℕ) (end : E) → AnswersAgree May ends values answers → AnswersAgree May (ends ++ end ∷ []) (values ++ None ∷ []) answers
  none-more [] [] answers end is = is
  none-more [] (value ∷ values) answers end is = absurd is
  none-more (e ∷ ends) [] answers end is = absurd is
  none-more (e ∷ ends) (None ∷ values) answers end is = none-more ends values answers end is
  none-more (e ∷ ends) (Some v ∷ values) [] end is = absurd is
  none-more (e ∷ ends) (Some v ∷ values) (a ∷ answers) end is = (is.0, none-more ends values answers end is.1)

  -- one more key that is set, and the answer of its function
  pub some-more : (ends : List E) (values : List (Option ℕ)) (answers : List ℕ) (end : E) (value answer : ℕ) → AnswersAgree May ends values answers → May end value answer
      → AnswersAgree May (ends ++ end ∷ []) (values ++ Some value ∷ []) (answers ++ answer ∷ [])
  some-more [] [] answers end value answer is may = subst (λ l. AnswersAgree May (end ∷ []) (Some value ∷ []) (l ++ answer ∷ [])) (sym is) (may, refl)
  some-more [] (v ∷ values) answers end value answer is may = absurd is
  some-more (e ∷ ends) [] answers end value answer is may = absurd is
  some-more (e ∷ ends) (None ∷ values) answers end value answer is may = some-more ends values answers end value answer is may
  some-more (e ∷ ends) (Some v ∷ values) [] end value answer is may = absurd is
  some-more (e ∷ ends) (Some v ∷ values) (a ∷ answers) end value answer is may = (is.0, some-more ends values answers end value answer is.1 may)

  module _ (ends : List E) (values : List (Option ℕ)) (answers : List ℕ) (key : ℕ) (in_range : key < length ends) (many : key < length values) (so_far : AnswersAgree May (take key ends) (take key values) answers)
      (end : E) (there : get_or ends key end ≡ end) where
    both-more : (value : Option ℕ) (more : List ℕ) → get_or values key None ≡ value → AnswersAgree May (take key ends ++ end ∷ []) (take key values ++ value ∷ []) more → AnswersAgree May (take (key + 1) ends) (take (key + 1) values) more
    both-more value more is agree =
        subst (λ l. AnswersAgree May l (take (key + 1) values) more) (sym (take_more ends key end in_range))
        (subst (λ e. AnswersAgree May (take key ends ++ e ∷ []) (take (key + 1) values) more) (sym there)
        (subst (λ l. AnswersAgree May (take key ends ++ end ∷ []) l more) (sym (take_more values key None many))
        (subst (λ v. AnswersAgree May (take key ends ++ end ∷ []) (take key values ++ v ∷ []) more) (sym is) agree)))

    -- the next key is not set
    pub next-none : get_or values key None ≡ None → AnswersAgree May (take (key + 1) ends) (take (key + 1) values) answers
    next-none is = both-more None answers is (none-more (take key ends) (take key values) answers end so_far)

    -- the next key is set
    pub next-some : (value answer : ℕ) → get_or values key None ≡ Some value → May end value answer → AnswersAgree May (take (key + 1) ends) (take (key + 1) values) (answers ++ answer ∷ [])
    next-some value answer is may = both-more (Some value) (answers ++ answer ∷ []) is (some-more (take key ends) (take key values) answers end value answer so_far may)
