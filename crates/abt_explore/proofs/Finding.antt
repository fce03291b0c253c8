-- The ends that a search notes, and what it knows when it is over.
use Rattle.std.proofs.Common.{◌≡◌, ◌∙◌, ℕ, suc, ◌<◌, ◌≤◌, ◌+◌, ◌⊎◌, List, [], ◌∷◌, ◌++◌, Option, None, Some, IfNone, IfSome, MatchOption, IsTrue, Contains, All, ap, arith, inl, inr, length, refl, subst, sym}
use Rattle.std.proofs.lemmas.List.Elements.{Contains-push, Contains-push_cases}
use Rattle.abt_machine.specs.declared.events.Event.{Event}
use Rattle.abt_machine.specs.declared.events.Outcome.{Outcome}
use Rattle.abt_machine.specs.declared.events.Outcome.TheVariants as outcome
use Rattle.abt_machine.specs.Stored.{Stored}
use Rattle.abt_machine.specs.declared.workload.Parts.{Parts}
use Rattle.abt_machine.specs.Outcomes.{EndsAs, Quiet}
use Rattle.abt_machine.specs.Rounds.{OrdersStored}
use Rattle.abt_machine.specs.Runs.{last_state}
use Rattle.abt_machine.specs.Sound.{Sound}
use Rattle.abt_machine.specs.State.{State}
use Rattle.abt_machine.specs.Valid.{IsValid}
use Rattle.abt_report.specs.Pictures.{SaysWordsOf, units_in_rows}
use Rattle.abt_model.specs.Keys.{model_key}
use Rattle.abt_model.specs.Models.{IsAfter, ModelValue, StandsFor}
use Rattle.abt_model.proofs.Saying.{runs-say-own-words}
use Rattle.abt_explore.specs.declared.exploration.End.{End}
use Rattle.abt_explore.specs.declared.exploration.Exploration.{Exploration}
use Rattle.abt_explore.specs.declared.exploration.Exploration.TheVariants as exploration
use Rattle.abt_explore.specs.declared.search.Found.{Found}
use Rattle.abt_explore.specs.declared.search.Search.{Search}
use Rattle.abt_explore.specs.declared.seen.Seen.{Seen}
use Rattle.abt_explore.specs.Explored.{AreAllEnds, AreDistinctEnds, AreEnds, HasTooMany, IsEndOf, IsExplored, IsRealEnd, key_bytes, most_bytes}
use Rattle.abt_explore.specs.Alone.{AreAllTried, AreClosedToEnds, IsOneTried}
use Rattle.abt_explore.specs.Laws.{IsReachedBy}
use Rattle.abt_explore.specs.Orders.{KeepsOrder}
use Rattle.abt_explore.specs.Same.{ListsSame}
use Rattle.abt_explore.specs.Searches.{AreFound, Grows, HasNoted, HasOutcome, IsEndIn, IsExpanded, IsFinished, IsMet, IsSearching, ListsEnd, Notes, NotesIfQuiet, SeesAll, SeesOne, SeesStart, Waits, journal_to, sees}
use Rattle.abt_explore.specs.Seen.{has}
use Rattle.abt_explore.specs.Unnumbered.{unnumbered_state}
use Rattle.abt_explore.proofs.Counting.{counted-stamped}
use Rattle.abt_explore.proofs.Growing.{push-cases}
use Rattle.abt_explore.proofs.Meeting.{met-along}
use Rattle.abt_explore.proofs.Reaching.{reached-after}
use Rattle.abt_explore.proofs.SameSound.{sound-forgotten}
use Rattle.abt_explore.proofs.SameValues.{quiet-same}
use Rattle.abt_explore.proofs.Searching.{contains-at, contains-more, contains-none, contains-rest, expanded-grown, expanded-kept, grows-same}
use Rattle.abt_laws.proofs.RunParts.{last_state-sound}
use Rattle.abt_laws.proofs.SoundRuns.{runs-are-sound}

-- a journal after which nothing is left to do ends as its last state says
ends-as : (W : Parts) (n : ℕ) (J : List Event) (o : Outcome) → Quiet W (last_state W J) → HasOutcome (unnumbered_state (last_state W J)) o → EndsAs W n J o
ends-as W n J outcome.Finished quiet has = (quiet, has)
ends-as W n J outcome.Stuck quiet has = (quiet, has)
ends-as W n J (outcome.Budget s) quiet has = absurd has

-- an end of the last state without numbers is one of the journal
end-of : (W : Parts) (J : List Event) (end : End) → Quiet W (last_state W J) → All (SaysWordsOf W) end.picture → IsEndIn W (unnumbered_state (last_state W J)) end → IsEndOf W J end
end-of W J end quiet words is = record { outcome = λ n. ends-as W n J end.outcome quiet is.outcome; picture = record { shown = is.shown; words = words } }

-- What was found stays so if no journal and no model is more.
found-same : (W : Parts) (Z : Stored) (old new : Search) (models : List ModelValue) → new.seen ≡ old.seen → new.paths ≡ old.paths → AreFound W Z old models → AreFound W Z new models
found-same W Z old new models seen paths found = record {
  apart = found.apart;
  many = found.many ∙ ap (λ (js : List (List Event)). length js) (sym paths);
  seen = λ m here. subst (λ (s : Seen). IsTrue (has s (model_key m))) (sym seen) (found.seen m here);
  bytes = subst (λ (s : Seen). s.bytes ≤ key_bytes models) (sym seen) found.bytes;
}

-- One end more.

-- an end that was not listed is distinct from those before
distinct-more : (ends : List End) (end : End) → (ListsSame ends end.outcome end.picture → ⊥) → AreDistinctEnds ends → AreDistinctEnds (ends ++ end ∷ [])
distinct-more ends end new distinct i j one two at_one at_two outcomes units = elim (push-cases ends end one i at_one) [
  | inl before ↦ elim (push-cases ends end two j at_two) [
    | inl also ↦ distinct i j one two before also outcomes units
    | inr last ↦ absurd (new (one, contains-at ends i one before, (outcomes ∙ ap (λ (e : End). e.outcome) (sym last.0), units ∙ ap (λ (e : End). units_in_rows e.picture) (sym last.0))))
  ]
  | inr last ↦ elim (push-cases ends end two j at_two) [
    | inl before ↦ absurd (new (two, contains-at ends j two before, (sym outcomes ∙ ap (λ (e : End). e.outcome) (sym last.0), sym units ∙ ap (λ (e : End). units_in_rows e.picture) (sym last.0))))
    | inr also ↦ last.1 ∙ sym also.1
  ]
]

module _ (W : Parts) (Z : Stored) (valid : IsValid W) (stored : OrdersStored W Z.orders) (keeps : KeepsOrder W Z.orders) where
  -- the state of a reached model is one to which events can lead
  pub met-after : (journals : List (List Event)) (found : Found) → IsMet W Z journals found → IsAfter W Z 0 (unnumbered_state (last_state W (journal_to journals found)))
  met-after journals found met = reached-after W Z keeps (journal_to journals found) found.model met.reached valid stored

  module _ (old : Search) (found : Found) (new : Search) (met : IsMet W Z old.paths found) (notes : Notes W old found new) where
    -- the ends that were noted before are noted
    ends-grown : (end : End) → HasNoted W old found end new → (e : End) → Contains old.ends.items e → Contains new.ends.items e
    ends-grown end (inl h) e here = subst (λ (es : List End). Contains es e) (sym h.1) here
    ends-grown end (inr h) e here = subst (λ (es : List End). Contains es e) (sym h.3) (contains-more old.ends.items (end ∷ []) e here)

    -- a search grows when it notes an end
    pub grows-noted : Grows old new
    grows-noted = record {
      seen = λ m h. subst (λ s. IsTrue (sees (record new { seen = s }) m)) (sym notes.seen) h;
      met = λ V Y f h. subst (λ (js : List (List Event)). IsMet V Y js f) (sym notes.paths) h;
      ends = ends-grown notes.noted.0 notes.noted.2;
      count = ap (λ (js : List (List Event)). length js + length old.waiting.items) notes.paths ∙ ap (λ q. length old.paths + length q.items) (sym notes.waiting);
    }

    -- the end is noted
    end-there : (end : End) → HasNoted W old found end new → Contains new.ends.items end
    end-there end (inl h) = subst (λ (es : List End). Contains es end) (sym h.1) h.0
    end-there end (inr h) = subst (λ (es : List End). Contains es end) (sym h.3) (Contains-push old.ends.items end)

    -- the end is listed
    pub listed-noted : ListsEnd W Z new.ends.items found.model
    listed-noted S sound stands quiet = (notes.noted.0, end-there notes.noted.0 notes.noted.2, notes.noted.1 Z S sound stands)

    module _ (hand : Option ModelValue) (quiet : (S : State) → Sound W Z S → StandsFor W S found.model → Quiet W S) (searching : IsSearching W Z hand old) where
      -- the state that was found, without the numbers of rounds
      abbrev bare : State
      bare = unnumbered_state (last_state W (journal_to old.paths found))

      -- it is sound
      bare-sound : Sound W Z bare
      bare-sound = (met-after old.paths found met).sound

      -- the end is real
      end-real : (end : End) → HasNoted W old found end new → IsEndIn W bare end → IsRealEnd W Z end
      end-real end (inl h) is = searching.real end h.0
      end-real end (inr h) is =
          let J : List Event = journal_to old.paths found in
          let here : IsReachedBy W Z J found.model = met.reached in
          let last : Quiet W (last_state W J) = (quiet-same W (last_state W J)).1 (quiet bare bare-sound here.shows) in
          subst (λ (e : End). IsRealEnd W Z e) (let e : record end { journal = J } ≡ end = ap (λ (K : List Event). record end { journal = K }) (sym h.2) in e) (record {
            run = here.run;
            stamped = counted-stamped W J here.counted;
            end_of = end-of W J (record end { journal = J }) last (h.1 bare here.shows (runs-say-own-words W Z valid J here.run)) (record { outcome = is.outcome; shown = is.shown });
          })

      -- so are all ends
      all-real : (end : End) → HasNoted W old found end new → IsEndIn W bare end → (e : End) → Contains new.ends.items e → IsRealEnd W Z e
      all-real end (inl h) is e here = searching.real e (subst (λ (es : List End). Contains es e) h.1 here)
      all-real end (inr h) is e here = elim (Contains-push_cases old.ends.items end e (subst (λ (es : List End). Contains es e) h.3 here)) [
        | inl before ↦ searching.real e before
        | inr last ↦ subst (λ (x : End). IsRealEnd W Z x) last (end-real end (inr h) is)
      ]

      -- no two ends show the same
      all-distinct : (end : End) → HasNoted W old found end new → AreDistinctEnds new.ends.items
      all-distinct end (inl h) = subst AreDistinctEnds (sym h.1) searching.distinct
      all-distinct end (inr h) = subst AreDistinctEnds (sym h.3) (distinct-more old.ends.items end h.0 searching.distinct)

      -- what was seen before
      still-seen : (m : ModelValue) → Waits old m ⊎ ((hand ≡ Some m) ⊎ IsExpanded W Z old m) → Waits new m ⊎ ((hand ≡ Some m) ⊎ IsExpanded W Z new m)
      still-seen m (inl waits) = inl (waits.0, subst (λ q. Contains q.items waits.0) (sym notes.waiting) waits.1, waits.2)
      still-seen m (inr (inl in_hand)) = inr (inl in_hand)
      still-seen m (inr (inr expanded)) = inr (inr (expanded-grown W Z old new m grows-noted expanded))

      -- the search goes on
      pub searching-noted : IsSearching W Z hand new
      searching-noted = record {
        seen = λ m h. still-seen m (searching.seen m (subst (λ s. IsTrue (sees (record old { seen = s }) m)) notes.seen h));
        waiting = λ f here. subst (λ (js : List (List Event)). IsMet W Z js f) (sym notes.paths) (searching.waiting f (subst (λ q. Contains q.items f) notes.waiting here));
        real = all-real notes.noted.0 notes.noted.2 (notes.noted.1 Z bare bare-sound met.reached.shows);
        distinct = all-distinct notes.noted.0 notes.noted.2;
        found = (searching.found.0, found-same W Z old new searching.found.0 notes.seen notes.paths searching.found.1);
      }

  -- what is known once the end was noted if there is one
  pub record HasLooked (hand : Option ModelValue) (old : Search) (found : Found) (new : Search) : Type 0 where
    pub grows : Grows old new
    pub searching : IsSearching W Z hand new
    pub listed : ListsEnd W Z new.ends.items found.model

  pub looked : (hand : Option ModelValue) (old : Search) (found : Found) (new : Search) → IsMet W Z old.paths found → IsSearching W Z hand old →
      NotesIfQuiet W Z old found new → HasLooked hand old found new
  looked hand old found new met searching (inl h) = record {
    grows = subst (Grows old) (sym h.0) (grows-same old);
    searching = subst (IsSearching W Z hand) (sym h.0) searching;
    listed = λ S sound stands quiet. absurd (h.1 S sound stands quiet);
  }
  looked hand old found new met searching (inr h) = record {
    grows = grows-noted old found new met h.0;
    searching = searching-noted old found new met h.0 hand h.1 searching;
    listed = listed-noted old found new met h.0;
  }

  -- Hands.

  -- the model in hand is expanded
  pub searching-expanded : (search : Search) (model : ModelValue) → IsSearching W Z (Some model) search → IsExpanded W Z search model → IsSearching W Z None search
  searching-expanded search model searching expanded = record {
    seen = λ m h. elim (searching.seen m h) [
      | inl waits ↦ inl waits
      | inr rest ↦ elim rest [
        | inl in_hand ↦ inr (inr (subst (IsExpanded W Z search) (let same : model ≡ m = cc in same) expanded))
        | inr done ↦ inr (inr done)
      ]
    ];
    waiting = searching.waiting;
    real = searching.real;
    distinct = searching.distinct;
    found = searching.found;
  }

  module _ (old : Search) (found : Found) (rest : List Found) (taken : Search) (before : old.waiting.items ≡ found ∷ rest) (waiting : taken.waiting.items ≡ rest)
      (paths : taken.paths ≡ old.paths) (seen : taken.seen ≡ old.seen)
      (ends : taken.ends ≡ old.ends) where
    -- what is expanded stays so when a model is taken
    expanded-taken : (m : ModelValue) → IsExpanded W Z old m → IsExpanded W Z taken m
    expanded-taken m expanded = expanded-kept W Z old taken m (λ x h. subst (λ s. IsTrue (sees (record taken { seen = s }) x)) (sym seen) h) (λ e h. subst (λ v. Contains v.items e) (sym ends) h) expanded

    module _ (searching : IsSearching W Z None old) where
      -- what was seen before
      taken-seen : (m : ModelValue) → Waits old m ⊎ ((◌≡◌ {A = Option ModelValue} None (Some m)) ⊎ IsExpanded W Z old m) → Waits taken m ⊎ ((Some found.model ≡ Some m) ⊎ IsExpanded W Z taken m)
      taken-seen m (inl waits) =
          let here : Contains (found ∷ rest) waits.0 = subst (λ (fs : List Found). Contains fs waits.0) before waits.1 in
          elim (contains-rest found rest waits.0 here.0 here.1 here.2) [
            | inl first ↦ inr (inl (ap Some (ap (λ (f : Found). f.model) first ∙ waits.2)))
            | inr later ↦ inl (waits.0, subst (λ (fs : List Found). Contains fs waits.0) (sym waiting) later, waits.2)
          ]
      taken-seen m (inr (inl in_hand)) = cc
      taken-seen m (inr (inr expanded)) = inr (inr (expanded-taken m expanded))

      -- what waits waited before
      later-waits : (f : Found) → Contains rest f → Contains old.waiting.items f
      later-waits f here = let within : here.0 < length rest = here.1 in subst (λ (fs : List Found). Contains fs f) (sym before) (suc here.0, omega arith, here.2)

      -- a model that waited is taken into the hand
      pub searching-taken : IsSearching W Z (Some found.model) taken
      searching-taken = record {
        seen = λ m h. taken-seen m (searching.seen m (subst (λ s. IsTrue (sees (record old { seen = s }) m)) seen h));
        waiting = λ f here. subst (λ (js : List (List Event)). IsMet W Z js f) (sym paths) (searching.waiting f (later-waits f (subst (λ (fs : List Found). Contains fs f) waiting here)));
        real = λ e h. searching.real e (subst (λ v. Contains v.items e) ends h);
        distinct = subst (λ v. AreDistinctEnds v.items) (sym ends) searching.distinct;
        found = (searching.found.0, found-same W Z old taken searching.found.0 seen paths searching.found.1);
      }

      -- it was met
      pub met-taken : IsMet W Z taken.paths found
      met-taken = subst (λ (js : List (List Event)). IsMet W Z js found) (sym paths) (searching.waiting found (subst (λ (fs : List Found). Contains fs found) (sym before) (0, omega arith, refl)))

  -- When no model waits.

  module _ (search : Search) (searching : IsSearching W Z None search) (none : search.waiting.items ≡ []) where
    -- each model that was seen is expanded
    all-expanded : (m : ModelValue) → IsTrue (sees search m) → IsExpanded W Z search m
    all-expanded m h = elim (searching.seen m h) [
      | inl waits ↦ absurd (contains-none search.waiting.items waits.0 none waits.1)
      | inr rest ↦ elim rest [ inl in_hand ↦ cc | inr expanded ↦ expanded ]
    ]

    -- all events are tried in what was seen, or one alone
    closed-by : (S : State) (model : ModelValue) → IsAfter W Z 0 S → StandsFor W S model → SeesAll W Z search model ⊎ SeesOne W Z search model
        → AreAllTried W Z (λ m. IsTrue (sees search m)) S ⊎ IsOneTried W Z (λ m. IsTrue (sees search m)) S
    closed-by S model is_after stands (inl all) = inl (λ s w declared may. all s declared S w is_after stands may)
    closed-by S model is_after stands (inr one) = inr (one S is_after stands)

    closed : AreClosedToEnds W Z (λ m. IsTrue (sees search m))
    closed S model is_after stands seen = closed-by S model is_after stands (all-expanded model seen).next

    -- the ends are all ends
    pub all-ends : SeesStart W search → AreAllEnds W Z search.ends.items
    all-ends begins J run quiet =
        let S : State = last_state W J in
        let shows = met-along W Z valid stored keeps (λ m. IsTrue (sees search m)) closed begins J run quiet in
        let sound : Sound W Z S = last_state-sound W Z J (runs-are-sound W Z) valid stored run in
        let end = (all-expanded shows.0 shows.1).listed (unnumbered_state S) (sound-forgotten W Z keeps S sound) shows.2 ((quiet-same W S).0 quiet) in
        (end.0, end.1, end-of W J end.0 quiet (searching.real end.0 end.1).end_of.picture.words end.2)

    -- they are real, and each is listed once
    pub are-ends : SeesStart W search → AreEnds W Z search.ends.items
    are-ends begins = record { all = all-ends begins; real = searching.real; distinct = searching.distinct }

-- Options.

-- what follows if there is none
pub done-if : {A P R : Type 0} (Q : A → Type 0) (any : Option A) → MatchOption any P Q → (P → R) → IfNone any R
done-if Q None holds follows = follows holds
done-if Q (Some x) holds follows = tt

-- what holds of the one
pub any-if : {A : Type 0} (P : Type 0) (Q : A → Type 0) (any : Option A) → MatchOption any P Q → IfSome any Q
any-if P Q None holds = tt
any-if P Q (Some x) holds = holds

-- an end that is listed stays so
pub listed-grown : (W : Parts) (Z : Stored) (old new : Search) (model : ModelValue) → Grows old new → ListsEnd W Z old.ends.items model → ListsEnd W Z new.ends.items model
listed-grown W Z old new model grows listed S sound stands quiet = let end = listed S sound stands quiet in (end.0, grows.ends end.0 end.1, end.2)

-- what was found is right
pub finished-explored : (W : Parts) (Z : Stored) → IsValid W → OrdersStored W Z.orders → KeepsOrder W Z.orders → (over : Search) → IsSearching W Z None over →
    SeesStart W over → (most : ℕ) → length over.paths ≡ most + length over.waiting.items → (e : Exploration) → IsFinished over most e → IsExplored W Z most e
finished-explored W Z valid stored keeps over searching begins most count (exploration.Whole states ends) is = (
  subst (λ v. AreEnds W Z v.items) (sym is.1) (are-ends W Z valid stored keeps over searching is.0 begins),
  omega (arith, is.2),
)
finished-explored W Z valid stored keeps over searching begins most count exploration.TooMany is =
    let found = searching.found in
    let many : length found.0 ≡ length over.paths = found.1.many in
    (found.0, found.1.apart, inl (omega (arith, count, is, many)))
finished-explored W Z valid stored keeps over searching begins most count (exploration.AnyWord f) is = absurd is

-- the keys have too many bytes
pub bytes-explored : (W : Parts) (Z : Stored) (hand : Option ModelValue) (search : Search) (most : ℕ) → IsSearching W Z hand search → most_bytes < search.seen.bytes → HasTooMany W Z most
bytes-explored W Z hand search most searching above =
    let found = searching.found in
    let few : search.seen.bytes ≤ key_bytes found.0 = found.1.bytes in
    (found.0, found.1.apart, inr (omega (arith, above, few)))
