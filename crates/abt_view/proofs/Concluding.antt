-- What a call prints by its conclusion.
use Rattle.std.proofs.Common.{◌≡◌, ◌≢◌, ◌∙◌, Bool, true, false, List, [], ◌∷◌, Option, Some, ap, arith, subst, sym}
use Rattle.std.specs.Prelude.{if◌then◌else◌}
use Rattle.abt_machine.specs.declared.events.Event.{Event}
use Rattle.abt_machine.specs.Words.{Text}
use Rattle.abt_report.specs.Journals.{IsTextOf}
use Rattle.abt_run.proofs.Texts.{one-journal}
use Rattle.abt_view.specs.declared.about.Topic.{Topic}
use Rattle.abt_view.specs.declared.views.Conclusion.{Conclusion}
use Rattle.abt_view.specs.declared.views.Conclusion.TheVariants.{Shown, TooLarge, Told}
use Rattle.abt_view.specs.declared.views.View.{View}
use Rattle.abt_view.specs.declared.views.View.TheVariants as view
use Rattle.abt_view.specs.Call.{IsViewOf, Prints}
use Rattle.abt_view.specs.Picture.{is_small}
use Rattle.abt_view.specs.Views.{Asks, AsksNothing, Request, conclusion_of, number_of_conclusion, topic_text, topic_word}
use Rattle.abt_view.proofs.Requests.{asks-none, of-journal, one-view}

-- a view comes to one of two conclusions
drawn-or-not : (b : Bool) → Told ≡ (if b then Shown else TooLarge) → ⊥
drawn-or-not true is = cc
drawn-or-not false is = cc

never-told : (v : View) (J : List Event) → Told ≡ conclusion_of v J → ⊥
never-told view.Svg J is = drawn-or-not (is_small J) is
never-told view.Trace J is = cc

-- so a view that is prepared is what its conclusion prints
pub viewed : (words : List Text) (file_of : Text → Option Text) (k : Conclusion) (text : Text) → IsViewOf words file_of k text → Prints words file_of k text
viewed words file_of Shown text view = view
viewed words file_of TooLarge text view = view
viewed words file_of Told text view = absurd (never-told view.request.view view.shown.journal view.shown.concludes)

-- and what is no view is not printed, if the words ask for a view
pub not-printed : (words : List Text) (file_of : Text → Option Text) (q : Request) → Asks words q → ((k : Conclusion) (text : Text) → IsViewOf words file_of k text → ⊥)
    → (k : Conclusion) (text : Text) → Prints words file_of k text → ⊥
not-printed words file_of q asks none Shown text view = none Shown text view
not-printed words file_of q asks none TooLarge text view = none TooLarge text view
not-printed words file_of q asks none Told text about = asks-none words about.0 q about.1 asks

-- nothing is printed if the words ask for nothing
pub none-asked : (words : List Text) (file_of : Text → Option Text) → AsksNothing words → (k : Conclusion) (text : Text) → Prints words file_of k text → ⊥
none-asked words file_of none Shown text view = none.0 view.request view.asks
none-asked words file_of none TooLarge text view = none.0 view.request view.asks
none-asked words file_of none Told text about = none.1 about.0 about.1

-- the conclusion of a view is that of the journal whose text is known
pub concludes-so : (words : List Text) (file_of : Text → Option Text) (k : Conclusion) (text : Text) (q : Request) (bytes : Text) (J : List Event) → IsViewOf words file_of k text → Asks words q
    → file_of q.journal ≡ Some bytes → IsTextOf J bytes → k ≡ conclusion_of q.view J
concludes-so words file_of k text q bytes J view asks at is =
    let same = one-view words view.request q view.asks asks in
    let equal = one-journal bytes view.shown.journal J (of-journal (IsTextOf view.shown.journal) words view.request q bytes file_of view.asks asks at view.shown.reads) is in
    view.shown.concludes ∙ (ap (λ (v : View). conclusion_of v view.shown.journal) same ∙ ap (conclusion_of q.view) equal)

-- no conclusion has the status of a fault
pub reads-so : (k : Conclusion) → number_of_conclusion k ≢ 5
reads-so Shown = λ e. absurd (omega arith)
reads-so TooLarge = λ e. absurd (omega arith)
reads-so Told = λ e. absurd (omega arith)

pub writes-so : (k : Conclusion) → number_of_conclusion k ≢ 6
writes-so Shown = λ e. absurd (omega arith)
writes-so TooLarge = λ e. absurd (omega arith)
writes-so Told = λ e. absurd (omega arith)

-- what the program says of itself is printed if the words ask for it
pub about-prints : (words : List Text) (file_of : Text → Option Text) (k : Conclusion) (text : Text) (t : Topic) → words ≡ topic_word t ∷ [] → text ≡ topic_text t → k ≡ Told → Prints words file_of k text
about-prints words file_of k text t asks same is = subst (λ j. Prints words file_of j text) (sym is) (t, asks, same)
