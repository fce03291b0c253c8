-- What is printed of the ends of a workload.
use Rattle.std.proofs.Common.{◌≡◌, ◌∙◌, ℕ, ◌==◌, Bool, true, false, List, [], ◌∷◌, length, get_or, Option, None, Some, inl, inr, ap, refl, subst, sym}
use Rattle.std.specs.List.{All, Contains, list_any}
use Rattle.std.proofs.lemmas.List.Elements.{Contains-get_or}
use Rattle.abt_machine.specs.declared.events.Event.{Event}
use Rattle.abt_machine.specs.declared.workload.Parts.{Parts}
use Rattle.abt_machine.specs.Stored.{Stored}
use Rattle.abt_machine.specs.Words.{Text}
use Rattle.abt_explore.specs.declared.exploration.End.{End}
use Rattle.abt_explore.specs.declared.exploration.Exploration.{Exploration}
use Rattle.abt_explore.specs.declared.exploration.Exploration.TheVariants as found
use Rattle.abt_explore.specs.Explored.{IsExplored, IsRealEnd}
use Rattle.abt_explore.specs.Orders.{MayChange}
use Rattle.abt_explore.specs.Texts.{SaysWords}
use Rattle.abt_words.specs.declared.commands.Command.TheVariants as command
use Rattle.abt_words.specs.declared.commands.ExploreWords.{ExploreWords}
use Rattle.abt_words.specs.Commands.{Says}
use Rattle.abt_run.specs.Ends.{FoundSays, ShowsEnds, changing_text, concluded, conclusion_on, end_at, is_stuck, one_shown, shown_of, states_searched}
use Rattle.abt_run.specs.Given.{Given, IsReadFrom}
use Rattle.abt_run.specs.Printed.{Prints}
use Rattle.abt_run.specs.declared.keeping.Keep.{Keep}
use Rattle.abt_run.specs.declared.status.Conclusion.{Conclusion}
use Rattle.abt_run.specs.declared.status.Conclusion.TheVariants.{Ended, Judged, Ends, Followed, Strays, Belongs, Differs, Flows, NotConfluent, Undefined, Finishes, Sticks, GoesOn, Unexplored, Helps, NamesVersion}

-- Conclusions.

-- it is one on ends
abbrev IsOnEnds : Conclusion → Type 0
IsOnEnds (Ended o) = ⊥
IsOnEnds (Judged v) = ⊥
IsOnEnds (Ends o) = ⊥
IsOnEnds (Followed o) = ⊥
IsOnEnds (Strays at) = ⊥
IsOnEnds (Belongs o) = ⊥
IsOnEnds Differs = ⊥
IsOnEnds Flows = ⊥
IsOnEnds NotConfluent = ⊥
IsOnEnds Undefined = ⊥
IsOnEnds Finishes = Unit {0}
IsOnEnds Sticks = Unit {0}
IsOnEnds GoesOn = Unit {0}
IsOnEnds Unexplored = Unit {0}
IsOnEnds Helps = ⊥
IsOnEnds NamesVersion = ⊥

concluded-on : (b : Bool) → IsOnEnds (concluded b)
concluded-on true = tt
concluded-on false = tt

ends-on : (ends : List End) → IsOnEnds (conclusion_on ends)
ends-on [] = tt
ends-on (end ∷ ends) = concluded-on (list_any (λ (e : End). is_stuck e.outcome) (end ∷ ends))

one-on : (W : Parts) (journal : Bool) (n : ℕ) (o : Option End) → IsOnEnds (one_shown W journal n o).0
one-on W journal n None = tt
one-on W journal n (Some end) = concluded-on (is_stuck end.outcome)

shown-on : (W : Parts) (asked : Option ℕ) (journal : Bool) (e : Exploration) → IsOnEnds (shown_of W asked journal e).0
shown-on W None journal (found.Whole states ends) = ends-on ends.items
shown-on W (Some k) journal (found.Whole states ends) = one-on W journal _ (end_at ends.items k)
shown-on W None journal found.TooMany = tt
shown-on W (Some k) journal found.TooMany = tt
shown-on W None journal (found.AnyWord f) = tt
shown-on W (Some k) journal (found.AnyWord f) = tt

-- a list that is not empty
pub some-ends : (ends : List End) → (length ends == 0) ≡ false → concluded (list_any (λ (e : End). is_stuck e.outcome) ends) ≡ conclusion_on ends
some-ends [] e = cc
some-ends (end ∷ ends) e = refl

-- Calls.

module _ (g : Given) (keep : Keep) (J : Option (List Event)) (none : J ≡ None) where
  prints-ends : (c : Conclusion) (text : Text) → IsOnEnds c → ShowsEnds g c text → Prints g keep c J text
  prints-ends (Ended o) text on shows = absurd on
  prints-ends (Judged v) text on shows = absurd on
  prints-ends (Ends o) text on shows = absurd on
  prints-ends (Followed o) text on shows = absurd on
  prints-ends (Strays at) text on shows = absurd on
  prints-ends (Belongs o) text on shows = absurd on
  prints-ends Differs text on shows = absurd on
  prints-ends Flows text on shows = absurd on
  prints-ends NotConfluent text on shows = absurd on
  prints-ends Undefined text on shows = absurd on
  prints-ends Finishes text on shows = (shows, none)
  prints-ends Sticks text on shows = (shows, none)
  prints-ends GoesOn text on shows = (shows, none)
  prints-ends Unexplored text on shows = (shows, none)
  prints-ends Helps text on shows = absurd on
  prints-ends NamesVersion text on shows = absurd on

  module _ (W : Parts) (asked : ExploreWords) (says : Says g.words (command.Explore asked)) (reads : IsReadFrom g asked.file W) where
    -- what was found is printed
    pub searched : (e : Exploration) (c d : Conclusion) (text printed : Text) → IsExplored W g.stored (states_searched asked.states) e → ◌≡◌ {A = Conclusion × Text} (c, text) (shown_of W asked.end asked.journal e)
        → d ≡ c → printed ≡ text → Prints g keep d J printed
    searched e c d text printed explored shown concludes prints =
        let same : ◌≡◌ {A = Conclusion × Text} (d, printed) (shown_of W asked.end asked.journal e) = (λ i. (concludes i, prints i)) ∙ shown in
        prints-ends d printed (subst IsOnEnds (sym (ap (λ (p : Conclusion × Text). p.0) same)) (shown-on W asked.end asked.journal e))
        (record { workload = W; asked = asked; asks = record { says = says; reads = reads }; shows = inl (record { found = e; explored = explored; shown = same }) })

    -- or which scheduler may change its order
    pub not-searched : (s : ℕ) (d : Conclusion) (text printed : Text) → MayChange W g.stored.orders s → text ≡ changing_text s → d ≡ Unexplored → printed ≡ text → Prints g keep d J printed
    not-searched s d text printed changes is concludes prints =
        let same : ◌≡◌ {A = Conclusion × Text} (d, printed) (Unexplored, changing_text s) = λ i. (concludes i, (prints ∙ is) i) in
        prints-ends d printed (subst IsOnEnds (sym concludes) tt)
        (record { workload = W; asked = asked; asks = record { says = says; reads = reads }; shows = inr (record { scheduler = s; changes = changes; shown = same }) })

-- the words of what was found are the workload's
real-says : (W : Parts) (Z : Stored) (ends : List End) → ((end : End) → Contains ends end → IsRealEnd W Z end) → All (SaysWords W) ends
real-says W Z ends real = λ k d within. (real (get_or ends k d) (Contains-get_or ends k d within)).end_of.picture.words

pub found-says : (W : Parts) (Z : Stored) (most : ℕ) (e : Exploration) → IsExplored W Z most e → FoundSays W e
found-says W Z most (found.Whole states ends) explored = real-says W Z ends.items explored.0.real
found-says W Z most found.TooMany explored = tt
found-says W Z most (found.AnyWord f) explored = tt
