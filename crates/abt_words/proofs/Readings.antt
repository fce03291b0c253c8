-- `clap` takes the words exactly if the command has all their options, and finds what their rest has.
use Rattle.std.proofs.Common.{◌≡◌, ◌≢◌, ◌∙◌, ℕ, Bool, cond, true, false, refl, sym, ap, subst, List, [], ◌∷◌, ◌++◌, append-nil, append_assoc, codes, Option, Some, None}
use Rattle.std.specs.Str.{bytes_eq}
use Rattle.clap.specs.Faults.{check_fault, defaults_fault, settle_fault, turn_fault, walk_fault}
use Rattle.clap.specs.Simple.{Shape}
use Rattle.clap.specs.Kinds.{Kinds, or_else}
use Rattle.clap.specs.Lexer.{name_and_value}
use Rattle.clap.specs.Walk.{Row, Rule, Waiting, Walk, finished, idle, option, positional, settled_rows, walked}
use Rattle.clap.specs.declared.builder.value_parser.Reading.TheVariants.{AsWritten}
use Rattle.clap.specs.declared.error.kind.ErrorKind.{ErrorKind}
use Rattle.clap.specs.declared.error.kind.ErrorKind.TheVariants.{InvalidValue}
use Rattle.clap.specs.declared.parser.matches.ValueSource.TheVariants.{CommandLine}
use Rattle.clap.proofs.FaultLemmas.{past}
use Rattle.abt_machine.specs.Words.{Text}
use Rattle.abt_words.specs.Rests.{Options, Rest, and_option, and_other, and_word, is_option, only, rest_of, takes_value, with_option}
use Rattle.abt_words.proofs.Endings.{AllTexts, ending, fails, goes, last, lasts, no-cons, no-more}
use Rattle.abt_words.proofs.Lists.{values-added, values_in}
use Rattle.abt_words.proofs.Names.{not-same, same-name}
use Rattle.abt_words.proofs.Rules.{Knows, shape_with}
use Rattle.abt_words.proofs.Spellings.{Spelling, ends, long, plain, rest-plain, rest-short, short, spelling}
use Rattle.abt_words.proofs.Turns.{Pending, due-turn, due-walk, ends-turn, flag-turn, flag-value-turn, flag-walk, free, held, later-turn, later-walk, no-value-pending, plain-turn, plain-walk, short-turn, state, taken-turn, taken-walk, unknown-turn, value-pending, value-turn, value-walk, with_value, word-pending}

-- the values of each argument
abbrev pub Values : Type 0
Values = Text → List Text

-- with one more value
abbrev pub add : Text → Text → Values → Values
add name v f id = cond (bytes_eq name id) (f id ++ v ∷ []) (f id)

abbrev pub in_rest : Rest → Values
in_rest r id = cond (bytes_eq (codes "words") id) r.words (r.given id)

and-word : (w : Text) (f : Values) (r : Rest) (id : Text) → add (codes "words") w f id ++ in_rest r id ≡ f id ++ in_rest (and_word w r) id
and-word w f r id = by (bytes_eq (codes "words") id)
  where
    by : (b : Bool) → cond b (f id ++ w ∷ []) (f id) ++ cond b r.words (r.given id) ≡ f id ++ cond b (w ∷ r.words) (r.given id)
    by true = append_assoc (f id) (w ∷ []) r.words
    by false = refl

and-option : (name v : Text) (f : Values) (r : Rest) (id : Text) → bytes_eq name (codes "words") ≡ false
    → add name v f id ++ in_rest r id ≡ f id ++ in_rest (and_option name v r) id
and-option name v f r id apart = by (bytes_eq name id) (bytes_eq (codes "words") id) refl refl
  where
    by : (a b : Bool) → bytes_eq name id ≡ a → bytes_eq (codes "words") id ≡ b
        → cond a (f id ++ v ∷ []) (f id) ++ cond b r.words (r.given id) ≡ f id ++ cond b r.words (cond a (v ∷ r.given id) (r.given id))
    by true true e g = absurd (not-same name (codes "words") apart (same-name name id e ∙ sym (same-name (codes "words") id g)))
    by true false e g = append_assoc (f id) (v ∷ []) (r.given id)
    by false b e g = refl

-- the name of the words is no option's
no-words : (name v : Text) (r : Rest) → bytes_eq name (codes "words") ≡ false → r.given (codes "words") ≡ [] → (and_option name v r).given (codes "words") ≡ []
no-words name v r apart e = ap (λ (b : Bool). cond b (v ∷ r.given (codes "words")) (r.given (codes "words"))) apart ∙ e

module _ (table : Options) (rules : List Rule) (k : Knows table rules) where
  abbrev top : Shape
  top = shape_with rules

  -- the faults of what is pending, and the rows with it
  abbrev pending_fault : List Row → Pending → Kinds
  pending_fault rows q = settle_fault rules false (held rows q)

  abbrev all_rows : List Row → Pending → List Row
  all_rows rows q = settled_rows rules q rows

  -- nothing is wrong so far, and the rows have these values
  record Live (rows : List Row) (q : Pending) (f : Values) : Type 0 where
    clean : pending_fault rows q ≡ []
    shows : (id : Text) → values_in id (all_rows rows q) ≡ f id

  -- `clap` takes the words exactly if there are no others, and then its matches have the values so far and those of the rest
  pub record Outcome (w : Walk) (words : List Text) (f : Values) (r : Rest) : Type 0 where
    pub taken : ending top w words ≡ [] → (r.others ≡ 0) × ((id : Text) → values_in id (last top w words) ≡ f id ++ in_rest r id) × (r.given (codes "words") ≡ [])
    pub takes : r.others ≡ 0 → ending top w words ≡ []

  refuses : (w : Walk) (words : List Text) (f : Values) (r : Rest) → (ending top w words ≢ []) → (r.others ≡ 0 → ⊥) → Outcome w words f r
  refuses w words f r bad none = record {
    taken = λ e. absurd (bad e);
    takes = λ e. absurd (none e);
  }

  moves : (w next : Walk) (x : Text) (words : List Text) (f g : Values) (r rest : Rest) → turn_fault top [] w x ≡ [] → walked rules [] w x ≡ next
      → rest.others ≡ r.others → ((id : Text) → g id ++ in_rest rest id ≡ f id ++ in_rest r id) → (rest.given (codes "words") ≡ [] → r.given (codes "words") ≡ [])
      → Outcome next words g rest → Outcome w (x ∷ words) f r
  moves w next x words f g r rest e step others same given o = record {
    taken = λ h. let got = o.taken (sym (goes top w next x words e step) ∙ h) in
        (sym others ∙ got.0, (λ id. ap (values_in id) (lasts top w next x words step) ∙ got.1 id ∙ same id), given got.2);
    takes = λ none. goes top w next x words e step ∙ o.takes (others ∙ none);
  }

  -- ---- what is live

  added : (name v : Text) (rows : List Row) (f : Values) → ((id : Text) → values_in id rows ≡ f id) → (id : Text) → values_in id (with_value name v rows) ≡ add name v f id
  added name v rows f shows id = values-added id name AsWritten CommandLine (v ∷ []) rows ∙ ap (λ (l : List Text). cond (bytes_eq name id) (l ++ v ∷ []) l) (shows id)

  live-word : (rows : List Row) (q : Pending) (f : Values) (w : Text) → Live rows q f → Live (all_rows rows q) (Some (codes "words", w ∷ [])) (add (codes "words") w f)
  live-word rows q f w live = record {
    clean = (word-pending table rules k w (all_rows rows q)).0;
    shows = λ id. ap (values_in id) (word-pending table rules k w (all_rows rows q)).1 ∙ added (codes "words") w (all_rows rows q) f live.shows id;
  }

  live-value : (name v : Text) (rows : List Row) (q : Pending) (f : Values) → Live rows q f → Live (with_value name v (all_rows rows q)) None (add name v f)
  live-value name v rows q f live = record {
    clean = refl;
    shows = added name v (all_rows rows q) f live.shows;
  }

  live-taken : (name v : Text) (rows : List Row) (f : Values) → takes_value table name ≡ Some true → ((id : Text) → values_in id rows ≡ f id)
      → Live rows (Some (name, v ∷ [])) (add name v f)
  live-taken name v rows f is shows = record {
    clean = (value-pending table rules k name v rows is).0;
    shows = λ id. ap (values_in id) (value-pending table rules k name v rows is).1 ∙ added name v rows f shows id;
  }

  -- ---- the end of the words

  no-rest : (f : Values) (id : Text) → f id ≡ f id ++ in_rest (only []) id
  no-rest f id = by (bytes_eq (codes "words") id)
    where
      by : (b : Bool) → f id ≡ f id ++ cond b [] []
      by true = sym (append-nil (f id))
      by false = sym (append-nil (f id))

  module _ (rows : List Row) (q : Pending) (waits : Waiting) (t : Bool) where
    last-here : last top (state rows q waits t) [] ≡ all_rows rows q
    last-here = k.rows (all_rows rows q)

    end-fault : pending_fault rows q ≡ [] → ending top (state rows q waits t) [] ≡ []
    unfolding walk_fault
    end-fault clean = past _ _ clean ∙ past _ _ (k.defaults (all_rows rows q)) ∙ k.checks (finished rules (held rows q))

    at-end : (f : Values) → Live rows q f → Outcome (state rows q waits t) [] f (only [])
    at-end f live = record {
      taken = λ e. (refl, (λ id. ap (values_in id) last-here ∙ live.shows id ∙ no-rest f id), refl);
      takes = λ e. end-fault live.clean;
    }

    pending-ends : (e : ErrorKind) (es : Kinds) → pending_fault rows q ≡ e ∷ es → ending top (state rows q waits t) [] ≢ []
    unfolding walk_fault
    pending-ends e es is h =
        no-cons e _ (sym (ap (λ (l : Kinds). or_else l (or_else (defaults_fault (all_rows rows q) rules) (check_fault top (finished rules (held rows q)) false))) is) ∙ h)

  -- ---- after `--`

  later : (rows : List Row) (q : Pending) (waits : Waiting) (f : Values) (words : List Text) → Live rows q f → Outcome (state rows q waits true) words f (only words)
  later rows q waits f [] live = at-end rows q waits true f live
  later rows q waits f (x ∷ words) live = moves _ _ x words f (add (codes "words") x f) _ (only words)
      (later-turn table rules k rows q waits x ∙ live.clean) (later-walk table rules k rows q waits x) refl (and-word x f (only words)) (λ e. e)
      (later (all_rows rows q) (Some (codes "words", x ∷ [])) positional (add (codes "words") x f) words (live-word rows q f x live))

  doomed-later : (rows : List Row) (q : Pending) (waits : Waiting) (e : ErrorKind) (es : Kinds) (words : List Text) → pending_fault rows q ≡ e ∷ es
      → ending top (state rows q waits true) words ≢ []
  doomed-later rows q waits e es [] is = pending-ends rows q waits true e es is
  doomed-later rows q waits e es (x ∷ words) is = fails top _ x words e es (later-turn table rules k rows q waits x ∙ is)

  -- ---- before it

  -- what `clap` makes of the words, if no value is due, and if one is
  abbrev Free : List Text → Type 0
  Free words = (rows : List Row) (q : Pending) (b : Bool) (f : Values) → Live rows q f → Outcome (state rows q (free b) false) words f (rest_of table None words)

  abbrev Due : List Text → Type 0
  Due words = (rows : List Row) (name : Text) (f : Values) → takes_value table name ≡ Some true → ((id : Text) → values_in id rows ≡ f id)
      → Outcome (state rows (Some (name, [])) (option name) false) words f (rest_of table (Some name) words)

  module _ (words : List Text) (free_more : Free words) (due_more : Due words) where
    abbrev more : Option Text → Rest
    more due = rest_of table due words

    other-ends : (r : Rest) → (and_other r).others ≡ 0 → ⊥
    other-ends r e = no-more r.others e

    module _ (rows : List Row) (q : Pending) (b : Bool) (f : Values) (live : Live rows q f) where
      passes : or_else (or_else (pending_fault rows q) []) [] ≡ []
      passes = ap (λ (l : Kinds). or_else (or_else l []) []) live.clean

      module _ (c : ℕ) (cs : Text) where
        abbrev name : Text
        name = (name_and_value (c ∷ cs)).0

        free-long : (t : Option Bool) (v : Option Text) → takes_value table name ≡ t → (name_and_value (c ∷ cs)).1 ≡ v
            → Outcome (state rows q (free b) false) ((45 ∷ 45 ∷ c ∷ cs) ∷ words) f (with_option name t v more)
        free-long None None is has = refuses _ _ _ _ (fails top _ _ words _ [] (unknown-turn table rules k rows q c cs (free b) is)) (other-ends (more None))
        free-long None (Some v) is has = refuses _ _ _ _ (fails top _ _ words _ [] (unknown-turn table rules k rows q c cs (free b) is)) (other-ends (more None))
        free-long (Some false) (Some v) is has = refuses _ _ _ _ (fails top _ _ words _ [] (flag-value-turn table rules k rows q c cs (free b) is v has)) (other-ends (more None))
        free-long (Some false) None is has = moves _ _ _ words f (add name [] f) _ (more None)
            (flag-turn table rules k rows q c cs (free b) is has ∙ passes) (flag-walk table rules k rows q c cs (free b) is has) refl
            (λ id. and-option name [] f (more None) id (k.apart name false is)) (no-words name [] (more None) (k.apart name false is))
            (free_more (with_value name [] (all_rows rows q)) None false (add name [] f) (live-value name [] rows q f live))
        free-long (Some true) (Some v) is has = moves _ _ _ words f (add name v f) _ (more None)
            (value-turn table rules k rows q c cs (free b) is v has ∙ passes) (value-walk table rules k rows q c cs (free b) is v has) refl
            (λ id. and-option name v f (more None) id (k.apart name true is)) (no-words name v (more None) (k.apart name true is))
            (free_more (with_value name v (all_rows rows q)) None false (add name v f) (live-value name v rows q f live))
        free-long (Some true) None is has = moves _ _ _ words f f _ (more (Some name))
            (due-turn table rules k rows q c cs (free b) is has ∙ ap (λ (l : Kinds). or_else l []) live.clean) (due-walk table rules k rows q c cs (free b) is has) refl
            (λ id. refl) (λ e. e) (due_more (all_rows rows q) name f is live.shows)

      abbrev Freely : Text → Type 0
      Freely x = Outcome (state rows q (free b) false) (x ∷ words) f (rest_of table None (x ∷ words))

      free-by : (x : Text) → Spelling x → Freely x
      free-by x (plain o) = subst (λ (r : Rest). Outcome (state rows q (free b) false) (x ∷ words) f r) (sym (rest-plain table words x o))
          (moves _ _ x words f (add (codes "words") x f) _ (more None) (plain-turn table rules k rows q b x o ∙ live.clean) (plain-walk table rules k rows q b x o)
          refl (and-word x f (more None)) (λ e. e)
          (free_more (all_rows rows q) (Some (codes "words", x ∷ [])) true (add (codes "words") x f) (live-word rows q f x live)))
      free-by x (ends is) = subst Freely (sym is) (moves _ _ _ words f f _ (only words) (ends-turn table rules k rows q (free b)).0 (ends-turn table rules k rows q (free b)).1
          refl (λ id. refl) (λ e. e) (later rows q (free b) f words live))
      free-by x (long c cs is) = subst Freely (sym is) (free-long c cs _ _ refl refl)
      free-by x (short d ds y is a h) = subst Freely (sym is) (subst (λ (r : Rest). Outcome (state rows q (free b) false) ((45 ∷ d ∷ ds) ∷ words) f r)
          (sym (rest-short table words d ds a)) (refuses _ _ _ _ (fails top _ _ words _ [] (short-turn table rules k rows q (free b) d ds y a h)) (other-ends (more None))))

    module _ (rows : List Row) (due : Text) (f : Values) (takes : takes_value table due ≡ Some true) (shows : (id : Text) → values_in id rows ≡ f id) where
      abbrev q : Pending
      q = Some (due, [])

      bad : pending_fault rows q ≡ InvalidValue ∷ []
      bad = no-value-pending table rules k due rows takes

      module _ (c : ℕ) (cs : Text) where
        doomed-long : (t : Option Bool) (v : Option Text) → takes_value table (name_and_value (c ∷ cs)).0 ≡ t → (name_and_value (c ∷ cs)).1 ≡ v
            → ending top (state rows q (option due) false) ((45 ∷ 45 ∷ c ∷ cs) ∷ words) ≢ []
        doomed-long None v is has = fails top _ _ words _ [] (unknown-turn table rules k rows q c cs (option due) is)
        doomed-long (Some false) (Some v) is has = fails top _ _ words _ [] (flag-value-turn table rules k rows q c cs (option due) is v has)
        doomed-long (Some false) None is has = fails top _ _ words InvalidValue []
            (flag-turn table rules k rows q c cs (option due) is has ∙ ap (λ (l : Kinds). or_else (or_else l []) []) bad)
        doomed-long (Some true) (Some v) is has = fails top _ _ words InvalidValue []
            (value-turn table rules k rows q c cs (option due) is v has ∙ ap (λ (l : Kinds). or_else (or_else l []) []) bad)
        doomed-long (Some true) None is has = fails top _ _ words InvalidValue []
            (due-turn table rules k rows q c cs (option due) is has ∙ ap (λ (l : Kinds). or_else l []) bad)

      abbrev Duly : Text → Type 0
      Duly x = Outcome (state rows q (option due) false) (x ∷ words) f (rest_of table (Some due) (x ∷ words))

      due-other : (x : Text) → is_option x ≡ true → (ending top (state rows q (option due) false) (x ∷ words) ≢ []) → Duly x
      due-other x o bad = subst (λ (r : Rest). Outcome (state rows q (option due) false) (x ∷ words) f r)
          (ap (λ (b : Bool). cond b (and_other (more None)) (and_option due x (more None))) (sym o)) (refuses _ _ _ _ bad (other-ends (more None)))

      due-by : (x : Text) → Spelling x → Duly x
      due-by x (plain o) = subst (λ (r : Rest). Outcome (state rows q (option due) false) (x ∷ words) f r)
          (ap (λ (b : Bool). cond b (and_other (more None)) (and_option due x (more None))) (sym o))
          (moves _ _ x words f (add due x f) _ (more None) (taken-turn table rules k rows due x takes o) (taken-walk table rules k rows due x takes o) refl
          (λ id. and-option due x f (more None) id (k.apart due true takes)) (no-words due x (more None) (k.apart due true takes))
          (free_more rows (Some (due, x ∷ [])) false (add due x f) (live-taken due x rows f takes shows)))
      due-by x (ends is) = subst Duly (sym is) (due-other _ refl (λ h. doomed-later rows q (option due) _ [] words bad
          (sym (goes top _ _ (codes "--") words (ends-turn table rules k rows q (option due)).0 (ends-turn table rules k rows q (option due)).1) ∙ h)))
      due-by x (long c cs is) = subst Duly (sym is) (due-other _ refl (doomed-long c cs _ _ refl refl))
      due-by x (short d ds y is a h) = subst Duly (sym is) (due-other _ refl (fails top _ _ words _ [] (short-turn table rules k rows q (option due) d ds y a h)))

  both : (words : List Text) → AllTexts words → Free words × Due words
  both [] texts = (
    λ rows q b f live. at-end rows q (free b) false f live,
    λ rows name f takes shows. refuses _ _ _ _ (pending-ends rows (Some (name, [])) (option name) false InvalidValue [] (no-value-pending table rules k name rows takes)) (no-more 0),
  )
  both (x ∷ words) texts =
      let more = both words texts.1 in (
        λ rows q b f live. free-by words more.0 more.1 rows q b f live x (spelling x texts.0),
        λ rows name f takes shows. due-by words more.0 more.1 rows name f takes shows x (spelling x texts.0),
      )

  -- what `clap` makes of the words after a command's name
  pub outcome : (words : List Text) → AllTexts words → Outcome (state [] None idle false) words (λ id. []) (rest_of table None words)
  outcome words texts = (both words texts).0 [] None false (λ id. []) (record {
    clean = refl;
    shows = λ id. refl;
  })
