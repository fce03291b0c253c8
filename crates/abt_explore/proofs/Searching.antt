-- Steps of a search.
use Rattle.std.proofs.Common.{◌≡◌, ◌∙◌, ℕ, zero, suc, ◌<◌, ◌≤◌, ◌+◌, ◌⊎◌, false, true, List, [], ◌∷◌, ◌++◌, Option, Some, IsTrue, Contains, ap, arith, get_or, inl, inr, length, length-append, refl, subst, sym}
use Rattle.std.specs.List.{slice_get}
use Rattle.std.proofs.lemmas.List.{get_or_append_left, get_or_push, length_push}
use Rattle.std.proofs.lemmas.List.Elements.{Contains-push, Contains-push_cases}
use Rattle.std.proofs.lemmas.List.Sums.{sum_by_push}
use Rattle.std.proofs.lemmas.Option.{get_or_from_slice_get, slice_get_within}
use Rattle.abt_machine.specs.declared.events.Event.{Event}
use Rattle.abt_machine.specs.declared.events.What.{What}
use Rattle.abt_machine.specs.Stored.{Stored}
use Rattle.abt_machine.specs.declared.workload.Parts.{Parts}
use Rattle.abt_machine.specs.State.{State}
use Rattle.abt_model.specs.Models.{ModelValue}
use Rattle.abt_model.specs.Keys.{model_key}
use Rattle.abt_explore.specs.declared.search.Found.{Found}
use Rattle.abt_explore.specs.declared.search.Search.{Search}
use Rattle.abt_explore.specs.declared.exploration.End.{End}
use Rattle.abt_explore.specs.Explored.{AreApart, AreDistinctEnds, key_bytes}
use Rattle.abt_explore.specs.Laws.{IsReachedBy, next_event}
use Rattle.abt_explore.specs.Searches.{AreFound, Grows, HasMet, IsExpanded, IsMet, IsSearching, Meets, Sees, SeesAll, SeesOne, Waits, event_after, found_after, journal_to, sees}
use Rattle.abt_model.proofs.Telling.{keys-tell-models}
use Rattle.abt_explore.proofs.Growing.{push-cases}

-- Lists.

-- an element stays when others are added
pub contains-more : {A : Type 0} (xs ys : List A) (x : A) → Contains xs x → Contains (xs ++ ys) x
contains-more xs ys x here =
    let within : here.0 < length xs = here.1 in
    (here.0, omega (arith, length-append xs ys), get_or_append_left xs ys x here.0 within ∙ here.2)

-- an element of a list is the first or one of the others
pub contains-rest : {A : Type 0} (y : A) (ys : List A) (x : A) (k : ℕ) → k < length (y ∷ ys) → get_or (y ∷ ys) k x ≡ x → (y ≡ x) ⊎ Contains ys x
contains-rest y ys x zero within is = inl is
contains-rest y ys x (suc k) within is = inr (k, omega arith, is)

-- nothing is in the empty list
pub contains-none : {A : Type 0} (xs : List A) (x : A) → xs ≡ [] → Contains xs x → ⊥
contains-none xs x none here = let within : here.0 < length xs = here.1 in let long : length xs ≡ 0 = ap (λ ys. length ys) none in absurd (omega arith)

-- an element at a place
pub contains-at : {A : Type 0} (xs : List A) (k : ℕ) (x : A) → slice_get xs k ≡ Some x → Contains xs x
contains-at xs k x is = (k, slice_get_within xs k x is, get_or_from_slice_get xs k x x is)

-- Growing.

-- a search that grows has what it had
pub grows-same : (search : Search) → Grows search search
grows-same search = record { seen = λ m h. h; met = λ W Z f h. h; ends = λ e h. h; count = refl }

-- a search that grows twice grows
pub grows-on : (one two three : Search) → Grows one two → Grows two three → Grows one three
grows-on one two three a b = record {
  seen = λ m h. b.seen m (a.seen m h);
  met = λ W Z f h. b.met W Z f (a.met W Z f h);
  ends = λ e h. b.ends e (a.ends e h);
  count =
      let first : length two.paths + length one.waiting.items ≡ length one.paths + length two.waiting.items = a.count in
      let second : length three.paths + length two.waiting.items ≡ length two.paths + length three.waiting.items = b.count in omega arith;
}

module _ (W : Parts) (Z : Stored) where
  -- what is seen stays so
  pub sees-grown : (old new : Search) (S : State) → Grows old new → Sees W old S → Sees W new S
  sees-grown old new S grows here = (here.0, grows.seen here.0 here.1, here.2)

  -- events that were tried stay so
  tried-kept : (old new : Search) (model : ModelValue) → ((m : ModelValue) → IsTrue (sees old m) → IsTrue (sees new m)) → SeesAll W Z old model ⊎ SeesOne W Z old model → SeesAll W Z new model ⊎ SeesOne W Z new model
  tried-kept old new model seen (inl all) = inl (λ s declared S w is_after stands may. let here = all s declared S w is_after stands may in (here.0, seen here.0 here.1, here.2))
  tried-kept old new model seen (inr one) = inr (λ S is_after stands. let here = one S is_after stands in (here.0, here.1, here.2, (here.3.0, seen here.3.0 here.3.1, here.3.2)))

  -- what is expanded stays so
  pub expanded-kept : (old new : Search) (model : ModelValue) → ((m : ModelValue) → IsTrue (sees old m) → IsTrue (sees new m)) → ((end : End) → Contains old.ends.items end → Contains new.ends.items end)
      → IsExpanded W Z old model → IsExpanded W Z new model
  expanded-kept old new model seen ends expanded = record {
    next = tried-kept old new model seen expanded.next;
    listed = λ S sound stands quiet. let end = expanded.listed S sound stands quiet in (end.0, ends end.0 end.1, end.2);
  }

  pub expanded-grown : (old new : Search) (model : ModelValue) → Grows old new → IsExpanded W Z old model → IsExpanded W Z new model
  expanded-grown old new model grows expanded = expanded-kept old new model grows.seen grows.ends expanded

  -- a journal more
  met-more : (journals : List (List Event)) (J : List Event) (found : Found) → IsMet W Z journals found → IsMet W Z (journals ++ J ∷ []) found
  met-more journals J found met =
      let within : found.node < length journals = met.node in
      let long : length (journals ++ J ∷ []) ≡ length journals + 1 = length_push journals J in
      let same : journal_to (journals ++ J ∷ []) found ≡ journal_to journals found = get_or_append_left journals (J ∷ []) [] found.node within in
      record {
        node = omega arith;
        depth = met.depth ∙ ap (λ (K : List Event). length K) (sym same);
        few = met.few;
        reached = subst (λ (K : List Event). IsReachedBy W Z K found.model) (sym same) met.reached;
      }

  -- what was met before a step was met after it
  met-grown : (old : Search) (before : Found) (s : ℕ) (w : What) (model : ModelValue) (new : Search) (found : Found) → HasMet old before s w model new →
      IsMet W Z old.paths found → IsMet W Z new.paths found
  met-grown old before s w model new found (inl h) met = subst (λ (js : List (List Event)). IsMet W Z js found) (sym h.1) met
  met-grown old before s w model new found (inr h) met = subst (λ (js : List (List Event)). IsMet W Z js found) (sym h.0)
      (met-more old.paths (journal_to old.paths before ++ event_after before s w ∷ []) found met)

-- Models that are apart.

-- one model more, which is none of them
apart-more : (W : Parts) (Z : Stored) (models : List ModelValue) (model : ModelValue) → AreApart W Z models → (J : List Event) → IsReachedBy W Z J model → (Contains models model → ⊥) → AreApart W Z (models ++ model ∷ [])
apart-more W Z models model apart J reached other = record {
  reached = λ m here. elim (Contains-push_cases models model m here) [
    | inl earlier ↦ apart.reached m earlier
    | inr last ↦ (J, subst (λ (x : ModelValue). IsReachedBy W Z J x) last reached)
  ];
  distinct = λ i j m at_i at_j. elim (push-cases models model m i at_i) [
    | inl one ↦ elim (push-cases models model m j at_j) [
      | inl two ↦ apart.distinct i j m one two
      | inr last ↦ absurd (other (contains-at models i model (one ∙ ap (λ (x : ModelValue). Some x) (sym last.0))))
    ]
    | inr last ↦ elim (push-cases models model m j at_j) [
      | inl two ↦ absurd (other (contains-at models j model (two ∙ ap (λ (x : ModelValue). Some x) (sym last.0))))
      | inr also ↦ last.1 ∙ sym also.1
    ]
  ];
}

-- Meeting.

module _ (old : Search) (before : Found) (s : ℕ) (w : What) (model : ModelValue) (new : Search) (meets : Meets old before s w model new) where
  -- if a journal is more, a model more waits
  counts-met : HasMet old before s w model new → length new.paths + length old.waiting.items ≡ length old.paths + length new.waiting.items
  counts-met (inl h) =
      let paths : length new.paths ≡ length old.paths = ap (λ (js : List (List Event)). length js) h.1 in
      let waiting : length new.waiting.items ≡ length old.waiting.items = ap (λ (fs : List Found). length fs) h.2 in omega arith
  counts-met (inr h) =
      let paths : length new.paths ≡ length old.paths + 1 = ap (λ (js : List (List Event)). length js) h.0 ∙ length_push old.paths (journal_to old.paths before ++ event_after before s w ∷ []) in
      let waiting : length new.waiting.items ≡ length old.waiting.items + 1 = ap (λ (fs : List Found). length fs) h.1 ∙ length_push old.waiting.items (found_after old before model) in omega arith

  -- a search grows when it meets a model
  pub grows-met : Grows old new
  grows-met = record {
    seen = λ m h. meets.added.kept (model_key m) h;
    met = λ W Z found met. met-grown W Z old before s w model new found meets.met met;
    ends = λ e h. subst (λ v. Contains v.items e) (sym meets.ends) h;
    count = counts-met meets.met;
  }

  -- what waited waits
  waits-met : (m : ModelValue) → HasMet old before s w model new → Waits old m → Waits new m
  waits-met m (inl h) waits = (waits.0, subst (λ (fs : List Found). Contains fs waits.0) (sym h.2) waits.1, waits.2)
  waits-met m (inr h) waits =
      (waits.0, subst (λ (fs : List Found). Contains fs waits.0) (sym h.1) (contains-more old.waiting.items (found_after old before model ∷ []) waits.0 waits.1), waits.2)

  module _ (W : Parts) (Z : Stored) (hand : Option ModelValue) (met : IsMet W Z old.paths before)
      (reached : IsReachedBy W Z (journal_to old.paths before ++ next_event (journal_to old.paths before) s w ∷ []) model) (searching : IsSearching W Z hand old) where
    -- what was seen before
    old-seen : (m : ModelValue) → IsTrue (sees old m) → Waits new m ⊎ ((hand ≡ Some m) ⊎ IsExpanded W Z new m)
    old-seen m h = elim (searching.seen m h) [
      | inl waits ↦ inl (waits-met m meets.met waits)
      | inr rest ↦ elim rest [
        | inl in_hand ↦ inr (inl in_hand)
        | inr expanded ↦ inr (inr (expanded-grown W Z old new m grows-met expanded))
      ]
    ]

    -- the model itself
    new-seen : HasMet old before s w model new → Waits new model ⊎ ((hand ≡ Some model) ⊎ IsExpanded W Z new model)
    new-seen (inl h) = old-seen model h.0
    new-seen (inr h) = inl (
      found_after old before model,
      subst
          (λ (fs : List Found). Contains fs (found_after old before model)) (sym h.1) (Contains-push old.waiting.items (found_after old before model)),
      refl,
    )

    -- it was met
    found-met : (new.paths ≡ old.paths ++ (journal_to old.paths before ++ event_after before s w ∷ []) ∷ []) → IsMet W Z new.paths (found_after old before model)
    found-met is =
        let J : List Event = journal_to old.paths before in
        let K : List Event = J ++ event_after before s w ∷ [] in
        let depth : before.depth ≡ length J = met.depth in
        let few : before.depth ≤ before.node = met.few in
        let within : before.node < length old.paths = met.node in
        let same : next_event J s w ≡ event_after before s w = ap (λ n. record (next_event J s w) { stamp = n }) (let e : suc (length J) ≡ before.depth + 1 = omega arith in e) in
        let long : length (old.paths ++ K ∷ []) ≡ length old.paths + 1 = length_push old.paths K in
        let longer : length K ≡ length J + 1 = length_push J (event_after before s w) in
        let here : get_or (old.paths ++ K ∷ []) (length old.paths) [] ≡ K = get_or_push old.paths K [] (length old.paths) refl in
        subst (λ (js : List (List Event)). IsMet W Z js (found_after old before model)) (sym is) (record {
          node = omega arith;
          depth = (let e : before.depth + 1 ≡ length K = omega arith in e) ∙ ap (λ (L : List Event). length L) (sym here);
          few = omega arith;
          reached = subst (λ (L : List Event). IsReachedBy W Z L model) (sym here) (subst (λ (e : Event). IsReachedBy W Z (J ++ e ∷ []) model) same reached);
        })

    -- what waits was met
    waiting-met : (found : Found) → HasMet old before s w model new → Contains new.waiting.items found → IsMet W Z new.paths found
    waiting-met found (inl h) here = grows-met.met W Z found (searching.waiting found (subst (λ (fs : List Found). Contains fs found) h.2 here))
    waiting-met found (inr h) here = elim (Contains-push_cases old.waiting.items (found_after old before model) found (subst (λ (fs : List Found). Contains fs found) h.1 here)) [
      | inl earlier ↦ grows-met.met W Z found (searching.waiting found earlier)
      | inr last ↦ subst (λ (f : Found). IsMet W Z new.paths f) last (found-met h.0)
    ]

    -- a model that was seen is not found again
    found-again : HasMet old before s w model new → (models : List ModelValue) → AreFound W Z old models → (more : List ModelValue) × AreFound W Z new more
    found-again (inl h) models found = (
      models,
      record {
        apart = found.apart;
        many = found.many ∙ ap (λ (js : List (List Event)). length js) (sym h.1);
        seen = λ m here. grows-met.seen m (found.seen m here);
        bytes = let few : old.seen.bytes ≤ key_bytes models = found.bytes in omega (arith, h.3);
      },
    )
    found-again (inr h) models found = (
      models ++ model ∷ [],
      record {
        apart = apart-more W Z models model (found.apart) (journal_to old.paths before ++ next_event (journal_to old.paths before) s w ∷ []) reached
            (λ here. let seen : sees old model ≡ true = found.seen model here in let other : sees old model ≡ false = h.2 in cc);
        many = length_push models model ∙ (ap (λ n. n + 1) found.many ∙ (sym (length_push old.paths (journal_to old.paths before ++ event_after before s w ∷ [])) ∙ ap (λ (js : List (List Event)). length js) (sym h.0)));
        seen = λ m here. elim (Contains-push_cases models model m here) [
          | inl earlier ↦ grows-met.seen m (found.seen m earlier)
          | inr last ↦ subst (λ (x : ModelValue). IsTrue (sees new x)) last meets.added.added
        ];
        bytes =
            let few : old.seen.bytes ≤ key_bytes models = found.bytes in
            let more : new.seen.bytes ≤ old.seen.bytes + length (model_key model) = h.3 in
            let sum : key_bytes (models ++ model ∷ []) ≡ key_bytes models + length (model_key model) = sum_by_push (λ (m : ModelValue). length (model_key m)) models model in omega arith;
      },
    )

    -- the search goes on
    pub searching-met : IsSearching W Z hand new
    searching-met = record {
      seen = λ m h. elim (meets.added.only (model_key m) h) [
        | inl before ↦ old-seen m before
        | inr same ↦ subst (λ (x : ModelValue). Waits new x ⊎ ((hand ≡ Some x) ⊎ IsExpanded W Z new x)) (sym (keys-tell-models m model same)) (new-seen meets.met)
      ];
      waiting = λ found here. waiting-met found meets.met here;
      real = λ e h. searching.real e (subst (λ v. Contains v.items e) meets.ends h);
      distinct = subst (λ v. AreDistinctEnds v.items) (sym meets.ends) searching.distinct;
      found = found-again meets.met searching.found.0 searching.found.1;
    }
