-- What the words of the program ask for, what it writes, and to what it comes.
use Rattle.std.specs.Prelude.{◌≡◌, ◌≢◌, ℕ, if◌then◌else◌, List, [], ◌∷◌, Option, Some, None, codes}
use Rattle.abt_machine.specs.declared.events.Event.{Event}
use Rattle.abt_machine.specs.declared.events.Piece.{Piece}
use Rattle.abt_machine.specs.declared.workload.Parts.{Parts}
use Rattle.abt_machine.specs.Words.{Text}
use Rattle.abt_view.specs.declared.about.TheConstants.{HELP}
use Rattle.abt_view.specs.declared.about.Topic.{Topic}
use Rattle.abt_view.specs.declared.about.Topic.TheVariants as topic
use Rattle.abt_view.specs.declared.views.Conclusion.{Conclusion}
use Rattle.abt_view.specs.declared.views.Conclusion.TheVariants.{Shown, TooLarge, Told}
use Rattle.abt_view.specs.declared.views.View.{View}
use Rattle.abt_view.specs.declared.views.View.TheVariants as view
use Rattle.abt_words.specs.declared.versions.Program.TheVariants as program
use Rattle.abt_words.specs.Versions.{version_text}
use Rattle.abt_view.specs.Picture.{is_small, svg_text}
use Rattle.abt_view.specs.Trace.{trace_text}

-- Words.

-- the word for a view
abbrev pub view_word : View → Text
view_word view.Svg = codes "svg"
view_word view.Trace = codes "trace"

-- what the words ask for: a view, the name of the journal's file, and that of the workload's, if they name one
pub record Request : Type 0 where
  pub view : View
  pub journal : Text
  pub workload : Option Text

abbrev pub request : View → Text → Option Text → Request
request v journal workload = record { view = v; journal = journal; workload = workload }

-- the words are that of a view and the name of a journal's file, and that of a workload's, of at least one byte, if there is a third; not
-- both names are `-`
abbrev pub AsksFor : List Text → View → Text → Option Text → Type 0
AsksFor words v journal None = words ≡ view_word v ∷ journal ∷ []
AsksFor words v journal (Some workload) =
    (words ≡ view_word v ∷ journal ∷ workload ∷ []) × (workload ≢ []) × (journal ≡ codes "-" → workload ≡ codes "-" → ⊥)

abbrev pub Asks : List Text → Request → Type 0
Asks words q = AsksFor words q.view q.journal q.workload

-- the word is not that of a view
abbrev pub IsNoView : Text → Type 0
IsNoView word = (v : View) → view_word v ≡ word → ⊥

-- the word for what the program says of itself, and what it says
abbrev pub topic_word : Topic → Text
topic_word topic.Help = codes "--help"
topic_word topic.Version = codes "--version"

abbrev pub topic_text : Topic → Text
topic_text topic.Help = HELP.now
topic_text topic.Version = version_text program.View

abbrev pub IsNoTopic : Text → Type 0
IsNoTopic word = (t : Topic) → topic_word t ≡ word → ⊥

-- the one word asks for what the program says of itself, and this is what it says
abbrev pub IsAbout : List Text → Text → Type 0
IsAbout words text = (t : Topic) × (words ≡ topic_word t ∷ []) × (text ≡ topic_text t)

-- the words do not ask for a view
abbrev pub AsksNoView : List Text → Type 0
AsksNoView words = (q : Request) → Asks words q → ⊥

-- nor for what the program says of itself
abbrev pub AsksNoTopic : List Text → Type 0
AsksNoTopic words = (t : Topic) → words ≡ topic_word t ∷ [] → ⊥

abbrev pub AsksNothing : List Text → Type 0
AsksNothing words = AsksNoView words × AsksNoTopic words

-- Views.

-- the view of a journal, with the operations that its events name, and what its first events put out, if there is a workload
abbrev pub view_text : View → Option Parts → List (Option Piece) → List Event → Text
view_text view.Svg names pieces J = svg_text names pieces J
view_text view.Trace names pieces J = trace_text names pieces J

-- a trace shows every journal, and a picture those that are not too large
abbrev pub conclusion_of : View → List Event → Conclusion
conclusion_of view.Svg J = if is_small J then Shown else TooLarge
conclusion_of view.Trace J = Shown

-- the exit status, if all was written
abbrev pub number_of_conclusion : Conclusion → ℕ
number_of_conclusion Shown = 0
number_of_conclusion TooLarge = 8
number_of_conclusion Told = 0
