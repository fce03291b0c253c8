-- What a ring of keys answers when it ends.
use Rattle.std.specs.Prelude.{◌≡◌, ℕ, List, [], ◌∷◌, Option, Some, None}

-- One answer for each key that is set, in order of key: one that its function may return for its value. The keys are given by their functions,
-- of which `May` says what they may return, and by their values.
abbrev pub AnswersAgree : {E : Type 0} → (E → ℕ → ℕ → Type 0) → List E → List (Option ℕ) → List ℕ → Type 0
AnswersAgree May [] [] answers = answers ≡ []
AnswersAgree May [] (value ∷ values) answers = ⊥
AnswersAgree May (end ∷ ends) [] answers = ⊥
AnswersAgree May (end ∷ ends) (None ∷ values) answers = AnswersAgree May ends values answers
AnswersAgree May (end ∷ ends) (Some value ∷ values) [] = ⊥
AnswersAgree May (end ∷ ends) (Some value ∷ values) (answer ∷ answers) = May end value answer × AnswersAgree May ends values answers
