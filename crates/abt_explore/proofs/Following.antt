-- What a search finds from one model.
use Rattle.std.proofs.Common.{◌≡◌, ◌∙◌, ℕ, zero, suc, ◌<◌, ◌≤◌, List, [], ◌∷◌, Option, None, Some, Result, Ok, Err, OnOk, IfSome, IsTrue, Contains, false, true, ap, arith, inl, inr, length, refl, subst, sym}
use Rattle.std.specs.List.{slice_get}
use Rattle.abt_machine.specs.declared.events.Event.{Event}
use Rattle.abt_machine.specs.declared.events.What.{What}
use Rattle.abt_machine.specs.Stored.{Stored}
use Rattle.abt_machine.specs.declared.workload.Parts.{Parts}
use Rattle.abt_machine.specs.Events.{May, after}
use Rattle.abt_machine.specs.Rounds.{OrdersStored}
use Rattle.abt_machine.specs.Runs.{last_state}
use Rattle.abt_machine.specs.Start.{start}
use Rattle.abt_machine.specs.State.{State}
use Rattle.abt_machine.specs.Valid.{IsValid}
use Rattle.abt_model.specs.Hints.{HasHints, IsMade}
use Rattle.abt_model.specs.Models.{IsAfter, IsDone, ModelValue, StandsFor}
use Rattle.abt_model.specs.Keys.{model_key, unnumbered_model}
use Rattle.abt_laws.proofs.Options.{some-injective}
use Rattle.abt_model.proofs.Telling.{keys-tell-models}
use Rattle.abt_explore.specs.declared.exploration.End.{End}
use Rattle.abt_explore.specs.declared.search.Found.{Found}
use Rattle.abt_explore.specs.declared.search.Search.{Search}
use Rattle.abt_explore.specs.declared.seen.Seen.{Seen}
use Rattle.abt_explore.specs.Laws.{IsReachedBy}
use Rattle.abt_explore.specs.Named.{IsPrivate}
use Rattle.abt_explore.specs.Orders.{KeepsOrder}
use Rattle.abt_explore.specs.Searches.{Grows, IsMet, IsSearching, Meets, SeesAfter, SeesAfterEach, SeesNext, SeesOne, SeesStart, TellsAll, Waits, journal_to, sees}
use Rattle.abt_explore.specs.Seen.{IsAdded, has}
use Rattle.abt_explore.specs.Unnumbered.{unnumbered_state}
use Rattle.abt_explore.proofs.Owning.{private-moves, private-waits}
use Rattle.abt_explore.proofs.Reaching.{done-reached, reached-after}
use Rattle.abt_explore.proofs.SameEvents.{may-forgotten, may-numbered}
use Rattle.abt_explore.proofs.SameValues.{stands-forgotten}
use Rattle.abt_explore.proofs.Searching.{contains-none, contains-rest, searching-met, sees-grown}

-- The start.

-- a list of one has its element at one place
only-place : (model m : ModelValue) (i : ℕ) → slice_get (model ∷ []) i ≡ Some m → i ≡ 0
only-place model m zero is = refl
only-place model m (suc i) is = cc

module _ (W : Parts) (Z : Stored) (model : ModelValue) (begun : Search) (none : Seen) (stands : StandsFor W (start W) model)
    (empty : (key : List ℕ) → has none key ≡ false) (added : IsAdded (model_key model) none begun.seen) (bytes : begun.seen.bytes ≤ length (model_key model))
    (paths : begun.paths ≡ [] ∷ []) (waiting : begun.waiting.items ≡ record { node = 0; depth = 0; model = model } ∷ []) (ends : begun.ends.items ≡ []) where
  -- the start, as it is found
  abbrev first : Found
  first = record { node = 0; depth = 0; model = model }

  -- the start is seen
  pub start-seen : SeesStart W begun
  start-seen = (model, added.added, stands)

  -- it waits
  first-waits : Waits begun model
  first-waits = (first, subst (λ (fs : List Found). Contains fs first) (sym waiting) (0, omega arith, refl), refl)

  -- no event leads to it
  first-met : IsMet W Z begun.paths first
  first-met = subst (λ (js : List (List Event)). IsMet W Z js first) (sym paths)
      (record { node = omega arith; depth = refl; few = omega arith; reached = record { run = tt; counted = tt; shows = stands } })

  -- the search begins
  pub searching-begun : IsSearching W Z None begun
  searching-begun = record {
    seen = λ m h. elim (added.only (model_key m) h) [
      | inl before ↦ absurd (let e : false ≡ true = sym (empty (model_key m)) ∙ before in cc)
      | inr same ↦ inl (subst (Waits begun) (sym (keys-tell-models m model same)) first-waits)
    ];
    waiting = λ f here. elim (let all : Contains (first ∷ []) f = subst (λ (fs : List Found). Contains fs f) waiting here in contains-rest first [] f all.0 all.1 all.2) [
      | inl is ↦ subst (λ (x : Found). IsMet W Z begun.paths x) is first-met
      | inr other ↦ absurd (contains-none [] f refl other)
    ];
    real = λ e h. absurd (contains-none begun.ends.items e ends h);
    found = (
      model ∷ [],
      record {
        apart = record {
          reached = λ m here. elim (contains-rest model [] m here.0 here.1 here.2) [
            | inl is ↦ ([], subst (λ (x : ModelValue). IsReachedBy W Z [] x) is (record { run = tt; counted = tt; shows = stands }))
            | inr other ↦ absurd (contains-none [] m refl other)
          ];
          distinct = λ i j m at_i at_j. only-place model m i at_i ∙ sym (only-place model m j at_j);
        };
        many = ap (λ (js : List (List Event)). length js) (sym paths);
        seen = λ m here. elim (contains-rest model [] m here.0 here.1 here.2) [
          | inl is ↦ subst (λ (x : ModelValue). IsTrue (sees begun x)) is added.added
          | inr other ↦ absurd (contains-none [] m refl other)
        ];
        bytes = omega (arith, bytes);
      },
    );
    distinct = λ i j one two at_one at_two same units. absurd (let none : ◌≡◌ {A = Option End} None (Some one) = subst (λ (es : List End). slice_get es i ≡ Some one) ends at_one in cc);
  }

-- One event.

-- what is seen after events stays so
pub after-grown : (W : Parts) (Z : Stored) (old new : Search) (model : ModelValue) (s : ℕ) (hint : What) → Grows old new → SeesAfter W Z old model s hint → SeesAfter W Z new model s hint
after-grown W Z old new model s hint grows h S w is_after stands may is_hint = sees-grown W Z old new (after W S s w) grows (h S w is_after stands may is_hint)

-- the same of all events of a stream
pub next-grown : (W : Parts) (Z : Stored) (old new : Search) (model : ModelValue) (s : ℕ) → Grows old new → SeesNext W Z old model s → SeesNext W Z new model s
next-grown W Z old new model s grows h S w is_after stands may = sees-grown W Z old new (after W S s w) grows (h S w is_after stands may)

-- the hints tell all events
pub next-seen : (W : Parts) (Z : Stored) (found : Search) (model : ModelValue) (s : ℕ) (hints : List What) →
    ((n : ℕ) (S : State) → IsAfter W Z n S → StandsFor W S model → HasHints W Z S s hints) → SeesAfterEach W Z found model s hints →
    SeesNext W Z found model s
next-seen W Z found model s hints told each S w is_after stands may = let hint = told 0 S is_after stands w may in each hint.0 hint.1 S w is_after stands may hint.2

module _ (W : Parts) (Z : Stored) (keeps : KeepsOrder W Z.orders) (found : Found) (s : ℕ) (hint : What) (made : Option What) (model : ModelValue)
    (makes : (n : ℕ) (S : State) → IsAfter W Z n S → StandsFor W S found.model → IsMade W Z n S s hint made model) where
  -- a hint that tells no event
  pub none-after : (search : Search) → made ≡ None → SeesAfter W Z search found.model s hint
  none-after search none S w is_after stands may is_hint = absurd (let told : made ≡ Some w = (makes 0 S is_after stands).told w may is_hint in cc)

  module _ (w : What) (is : made ≡ Some w) (old new : Search) (meets : Meets old found s w (unnumbered_model model) new) where
    -- what the event leads to is seen
    pub some-after : SeesAfter W Z new found.model s hint
    some-after S v is_after stands may is_hint =
        let makes_here = makes 0 S is_after stands in
        let told : made ≡ Some v = makes_here.told v may is_hint in
        let done : IsDone W Z 0 S s w model = subst (λ (o : Option What). IfSome o (λ x. IsDone W Z 0 S s x model)) is makes_here.done in
        let same : w ≡ v = cc in (
          unnumbered_model model,
          meets.added.added,
          subst (λ (x
              : What). StandsFor W (unnumbered_state (after W S s x)) (unnumbered_model model)) same (stands-forgotten W (after W S s w) model done.stands),
        )

    -- a private event was tried alone, if no other of the stream may come
    pub one-after : IsValid W → s < W.streams → TellsAll W Z found.model s hint → IsPrivate W s w → SeesOne W Z new found.model
    one-after valid declared only private S is_after stands =
        let makes_here = makes 0 S is_after stands in
        let done : IsDone W Z 0 S s w model = subst (λ (o : Option What). IfSome o (λ x. IsDone W Z 0 S s x model)) is makes_here.done in (
          s,
          w,
          (λ T sound same.
              let may : May W Z T s w = may-numbered W Z keeps T s w (subst (λ (R : State). May W Z R s w) (sym same) done.may) in
              record {
                declared = declared;
                only = λ v other. let told : made ≡ Some v = makes_here.told v (subst (λ (R : State). May W Z R s v) same (may-forgotten W Z keeps T s v other))
                    (only S v is_after stands (subst (λ (R : State). May W Z R s v) same (may-forgotten W Z keeps T s v other))) in some-injective (sym told ∙ is);
                no_miss = private-moves W s w private;
                waits = private-waits W valid Z T s declared w private may;
              }),
          (unnumbered_model model, meets.added.added, stands-forgotten W (after W S s w) model done.stands),
        )

    module _ (valid : IsValid W) (stored : OrdersStored W Z.orders) (declared : s < W.streams) (met : IsMet W Z old.paths found) where
      -- the search goes on
      pub searching-after : (hand : Option ModelValue) → IsSearching W Z hand old → IsSearching W Z hand new
      searching-after hand searching =
          let J : List Event = journal_to old.paths found in
          let S : State = unnumbered_state (last_state W J) in
          let makes_here = makes 0 S (reached-after W Z keeps J found.model met.reached valid stored) met.reached.shows in
          let done : IsDone W Z 0 S s w model = subst (λ (o : Option What). IfSome o (λ x. IsDone W Z 0 S s x model)) is makes_here.done in
          searching-met old found s w (unnumbered_model model) new meets W Z hand met (done-reached W Z keeps J found.model met.reached model s w declared done) searching

-- Results.

-- what follows on success
pub on-ok : {A E P Q : Type 0} (result : Result A E) → (P → Q) → OnOk result P → OnOk result Q
on-ok (Ok x) follows holds = follows holds
on-ok (Err e) follows holds = tt
