-- The streams that live, by objects, by states, and by the events of a wave.
use Rattle.std.proofs.Common.{◌≡◌, ℕ, zero, suc, ◌+◌, ◌<◌, ◌≤◌, ◌==◌, ◌&&◌, ◌∙◌, inl, inr, Bool, true, false, cond, not, List, [], ◌∷◌, ◌++◌, length, map, filter, slice_get, Option, Some, None, refl, sym, ap, subst, arith}
use Rattle.std.specs.Prelude.{Contains, is_some}
use Rattle.std.specs.List.{All, range_with_len}
use mathlib.Core.Path.{fun_ext}
use Rattle.std.proofs.lemmas.Bool.{cases_Bool, cases_eq}
use Rattle.std.proofs.lemmas.List.FromFn.{get_or-map-range_with_len, length-map-range_with_len, map-range_with_len_more}
use Rattle.std.proofs.lemmas.Option.{slice_get-get_or}
use Rattle.abt_machine.specs.declared.events.Event.{Event}
use Rattle.abt_machine.specs.declared.events.Site.{Site}
use Rattle.abt_machine.specs.declared.events.Site.TheVariants as site
use Rattle.abt_machine.specs.Stored.{Stored}
use Rattle.abt_machine.specs.declared.workload.Parts.{Parts}
use Rattle.abt_machine.specs.Numbers.{object_no}
use Rattle.abt_machine.specs.Operations.{IsEventual}
use Rattle.abt_machine.specs.State.{State}
use Rattle.abt_machine.specs.Values.{Object, eventual_at, object_of}
use Rattle.abt_laws.proofs.Options.{some-injective}
use Rattle.abt_commons.specs.Reading.{is_ready}
use Rattle.abt_interleave.proofs.Members.{Among, all-from-among, from-among, to-among}
use Rattle.abt_interleave.proofs.Merged.{log-declared}
use Rattle.abt_simulation.specs.Merging.{IsJournalOf, StreamDeed, machine_of}
use Rattle.abt_drain.specs.Moments.{Moment}
use Rattle.abt_waves.specs.Fleets.{IsWave}
use Rattle.abt_streams.specs.declared.life.Life.{Life}
use Rattle.abt_streams.specs.Lives.{AreLives, AreLivesAfter}
use Rattle.abt_streams.specs.Living.{is_live, life_of, lives_by}
use Rattle.abt_streams.specs.Looks.{is_live_with}

-- By objects and by states.

-- a life is between eventuals
life-declared : (W : Parts) (before lives : List Life) (s : ℕ) (life : Life) → AreLivesAfter W before lives → life_of lives s ≡ Some life → IsEventual W life.begins.0 × IsEventual W life.ends.0
life-declared W before [] s life are at = absurd cc
life-declared W before (l ∷ ls) s life are at = by (l.stream.0 == s) (λ later. life-declared W (before ++ l ∷ []) ls s life are.1 later) at where
  by : (b : Bool) → (life_of ls s ≡ Some life → IsEventual W life.begins.0 × IsEventual W life.ends.0) → cond b (Some l) (life_of ls s) ≡ Some life → IsEventual W life.begins.0 × IsEventual W life.ends.0
  by true later e = subst (λ (x : Life). IsEventual W x.begins.0 × IsEventual W x.ends.0) (some-injective e) (are.0.begins, are.0.ends)
  by false later e = later e

-- an eventual is ready if the state has its value
ready-same : (W : Parts) (S : State) (x : ℕ) → IsEventual W x → is_ready (object_of W S (site.Eventual (object_no x))) ≡ is_some (S.eventual x)
ready-same W S x is = ap (λ t. is_ready (eventual_at W S x t)) is

-- a life's stream
pub declared-life : (W : Parts) (lives : List Life) (s : ℕ) (life : Life) → AreLives W lives → life_of lives s ≡ Some life → IsEventual W life.begins.0 × IsEventual W life.ends.0
declared-life W lives s life are at = life-declared W [] lives s life are at

module _ (W : Parts) (lives : List Life) (are : AreLives W lives) (S : State) (objects : Site → Object) (sites : (x : Site) → object_of W S x ≡ objects x) where
  -- a stream lives by the objects if it does by the state
  pub live-same : (s : ℕ) → is_live_with objects lives s ≡ is_live lives S s
  live-same s = by (life_of lives s) refl where
    ready : (x : ℕ) → IsEventual W x → is_ready (objects (site.Eventual (object_no x))) ≡ is_some (S.eventual x)
    ready x is = ap is_ready (sym (sites (site.Eventual (object_no x)))) ∙ ready-same W S x is

    by : (life : Option Life) → life_of lives s ≡ life → lives_by (λ x. is_ready (objects (site.Eventual (object_no x)))) life ≡ lives_by (λ x. is_some (S.eventual x)) life
    by None e = refl
    by (Some life) e =
        let both = declared-life W lives s life are e in
        ap (λ b. b && not (is_ready (objects (site.Eventual (object_no life.ends.0))))) (ready life.begins.0 both.0) ∙ ap (λ b. is_some (S.eventual life.begins.0) && not b) (ready life.ends.0 both.1)

  pub numbers-same : filter (is_live_with objects lives) (range_with_len 0 W.streams) ≡ filter (is_live lives S) (range_with_len 0 W.streams)
  numbers-same = ap (λ f. filter f (range_with_len 0 W.streams)) (fun_ext {f = is_live_with objects lives} {g = is_live lives S} live-same)

-- one number more that passes, or does not
pub filter-more : (f : ℕ → Bool) (a n : ℕ) → filter f (range_with_len a (suc n)) ≡ filter f (range_with_len a n) ++ cond (f (a + n)) ((a + n) ∷ []) []
filter-more f a zero = rw zero-behind (one (f a)) where
  zero-behind : a + 0 ≡ a
  zero-behind = omega arith

  one : (b : Bool) → cond b (a ∷ []) [] ≡ cond b (a ∷ []) []
  one b = refl
filter-more f a (suc n) = by (f a) (filter-more f (a + 1) n) where
  next : (a + 1) + n ≡ a + suc n
  next = omega arith

  by : (b : Bool) → filter f (range_with_len (a + 1) (suc n)) ≡ filter f (range_with_len (a + 1) n) ++ cond (f ((a + 1) + n)) (((a + 1) + n) ∷ []) [] →
      cond b (a ∷ filter f (range_with_len (a + 1) (suc n))) (filter f (range_with_len (a + 1) (suc n))) ≡ cond b (a ∷ filter f (range_with_len (a + 1) n)) (filter f (range_with_len (a + 1) n)) ++ cond (f (a + suc n)) ((a + suc n) ∷ []) []
  by true more = ap (λ (xs : List ℕ). a ∷ xs) (more ∙ ap (λ k. filter f (range_with_len (a + 1) n) ++ cond (f k) (k ∷ []) []) next)
  by false more = more ∙ ap (λ k. filter f (range_with_len (a + 1) n) ++ cond (f k) (k ∷ []) []) next

-- By the events of a wave.

-- a number that passes is among those that do
passing : (f : ℕ → Bool) (a n s : ℕ) → a ≤ s → s < a + n → f s ≡ true → Among s (filter f (range_with_len a n))
passing f a zero s low high passes = absurd (omega (arith, low, high))
passing f a (suc n) s low high passes = elim (cases_eq s a) [ inl same ↦ here (f a) (ap f (sym same) ∙ passes) same | inr other ↦ further (f a) (passing f (a + 1) n s (omega (arith, low, other)) (omega (arith, high)) passes) ] where
  here : (b : Bool) → b ≡ true → s ≡ a → Among s (cond b (a ∷ filter f (range_with_len (a + 1) n)) (filter f (range_with_len (a + 1) n)))
  here true e same = inl same
  here false e same = absurd cc

  further : (b : Bool) → Among s (filter f (range_with_len (a + 1) n)) → Among s (cond b (a ∷ filter f (range_with_len (a + 1) n)) (filter f (range_with_len (a + 1) n)))
  further true m = inr m
  further false m = m

module _ (W : Parts) (Z : Stored) (old new : Moment) (live : List Bool) (wave : IsWave W Z live old new) (es : List Event) (journal : IsJournalOf wave.deeds es) (f : ℕ → Bool) (flags : live ≡ map f (range_with_len 0 W.streams)) where
  flag-at : (s : ℕ) → s < W.streams → slice_get live s ≡ Some (f s)
  flag-at s lt =
      let long : length (map f (range_with_len 0 W.streams)) ≡ W.streams = length-map-range_with_len f 0 W.streams in
      ap (λ (xs : List Bool). slice_get xs s) flags ∙ (slice_get-get_or (map f (range_with_len 0 W.streams)) s false (omega (arith, long, lt)) ∙ ap Some (get_or-map-range_with_len f 0 W.streams s s false lt (omega arith)))

  -- a stream that did something lives
  did-live : (d : StreamDeed) → Among d (wave.deeds d.stream) → (s : ℕ) → d.stream ≡ s → s < W.streams → f s ≡ true
  did-live d m s same lt = elim (cases_Bool (f s)) [
    | inl lives ↦ lives
    | inr none ↦ absurd (subst (Among d) (ap wave.deeds same ∙ wave.still s (flag-at s lt ∙ ap Some none)) m)
  ]

  -- so each event is of a stream that lives
  pub live-own : All (λ (e : Event). Contains (filter f (range_with_len 0 W.streams)) e.stream.0) es
  live-own = all-from-among (λ (e : Event). Contains (filter f (range_with_len 0 W.streams)) e.stream.0) es (λ e m.
      let found = journal.only e (from-among es e m) in
      let there : Among found.0 (wave.deeds found.0.stream) = to-among (wave.deeds found.0.stream) found.0 found.1 in
      let lt : found.0.stream < W.streams = log-declared (machine_of W Z) old.parts old.objects wave.deeds wave.histories new.parts new.objects wave.gathered found.0.stream found.0 there in
      let is : Contains (filter f (range_with_len 0 W.streams)) found.0.stream = from-among (filter f (range_with_len 0 W.streams)) found.0.stream (passing f 0 W.streams found.0.stream (omega arith) (omega (arith, lt)) (did-live found.0 there found.0.stream refl lt)) in
      subst (λ (g : Event). Contains (filter f (range_with_len 0 W.streams)) g.stream.0) found.2 is)

-- Streams, one by one.

module _ (f : ℕ → Bool) (s : ℕ) where
  -- the flags with one stream more
  pub flags-more : (old new : List Bool) (b : Bool) → old ≡ map f (range_with_len 0 s) → new ≡ old ++ b ∷ [] → b ≡ f s → new ≡ map f (range_with_len 0 (s + 1))
  flags-more old new b before behind is = behind ∙ (ap (λ (xs : List Bool). xs ++ b ∷ []) before ∙ (ap (λ c. map f (range_with_len 0 s) ++ c ∷ []) is ∙ sym (map-range_with_len_more f 0 s s (omega arith))))

  -- and the numbers
  pub numbers-more : (old new : List ℕ) (b : Bool) → old ≡ filter f (range_with_len 0 s) → new ≡ old ++ cond b (s ∷ []) [] → b ≡ f s → new ≡ filter f (range_with_len 0 (s + 1))
  numbers-more old new b before behind is =
      let next : suc s ≡ s + 1 = omega arith in
      let first : 0 + s ≡ s = omega arith in
      let more : filter f (range_with_len 0 (suc s)) ≡ filter f (range_with_len 0 s) ++ cond (f s) (s ∷ []) [] =
      filter-more f 0 s ∙ ap (λ k. filter f (range_with_len 0 s) ++ cond (f k) (k ∷ []) []) first in
      behind ∙ (ap (λ (xs : List ℕ). xs ++ cond b (s ∷ []) []) before ∙ (ap (λ c. filter f (range_with_len 0 s) ++ cond c (s ∷ []) []) is ∙ (sym more ∙ ap (λ k. filter f (range_with_len 0 k)) next)))
