-- A command gets one option after the other.
use Rattle.std.proofs.Common.{◌≡◌, ◌+◌, ◌<◌, ◌∙◌, ℕ, List, [], ◌∷◌, ◌++◌, get_or, length, map, refl, sym, ap, take}
use Rattle.std.proofs.lemmas.List.{take_more}
use Rattle.clap.specs.Words.{Rule, with_rule}
use Rattle.abt_words.specs.Apps.{app_with, option_rule, words_rule}
use Rattle.abt_words.specs.Asked.{options_of}
use Rattle.abt_words.specs.declared.options.OptionForm.{OptionForm}

abbrev rules_of : List OptionForm → List Rule
rules_of forms = map (λ o. option_rule o.0 o.1) (options_of forms)

one-rule : (forms : List OptionForm) (form : OptionForm) → rules_of forms ++ option_rule form.name.now form.takes_value ∷ [] ≡ rules_of (forms ++ form ∷ [])
one-rule [] form = refl
one-rule (f ∷ forms) form = ap (λ (rules : List Rule). option_rule f.name.now f.takes_value ∷ rules) (one-rule forms form)

one-option : (forms : List OptionForm) (form : OptionForm)
    → with_rule (app_with (options_of forms)) (option_rule form.name.now form.takes_value) ≡ app_with (options_of (forms ++ form ∷ []))
one-option forms form = let a = app_with [] in
    ap (λ (rules : List Rule). record a { top = record a.top { rules = words_rule ∷ rules } }) (one-rule forms form)

pub one-more : (forms : List OptionForm) (i : ℕ) (d : OptionForm) → i < length forms
    → with_rule (app_with (options_of (take i forms))) (option_rule (get_or forms i d).name.now (get_or forms i d).takes_value) ≡ app_with (options_of (take (i + 1) forms))
one-more forms i d lt = one-option (take i forms) (get_or forms i d) ∙ ap (λ (fs : List OptionForm). app_with (options_of fs)) (sym (take_more forms i d lt))
