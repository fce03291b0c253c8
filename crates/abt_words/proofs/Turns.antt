-- What `clap` makes of one word.
use Rattle.std.proofs.Common.{◌≡◌, ◌==◌, ◌&&◌, ◌||◌, ◌∙◌, ℕ, Bool, cond, true, false, refl, ap, ap₂, List, [], ◌∷◌, codes, Option, Some, None}
use Rattle.std.specs.Prelude.{nat_lt, option_map, slice_get}
use Rattle.std.specs.Option.{option_map_or}
use Rattle.std.specs.Str.{chars}
use Rattle.clap.specs.Faults.{defaults_fault, flags_fault, long_fault, positional_fault, settle_fault, step_fault, stray_fault, turn_fault, use_fault, walk_fault, word_fault}
use Rattle.clap.specs.Kinds.{Kinds, or_else}
use Rattle.clap.specs.Lexer.{name_and_value}
use Rattle.clap.specs.Simple.{Shape}
use Rattle.clap.specs.Walk.{Held, Row, Rule, Step, Waiting, Walk, after_flag, after_step, arg_by_long, bundle_met, idle, is_pending, long_met, next, option, option_word, plain_word, positional, pushed, settled, settled_rows, to_positional, used_by_id, value, walked, with_values, word_met}
use Rattle.clap.specs.declared.builder.value_parser.Reading.TheVariants.{AsWritten}
use Rattle.clap.specs.declared.error.kind.ErrorKind.TheVariants.{InvalidValue, TooManyValues, UnknownArgument}
use Rattle.clap.specs.declared.parser.matches.ValueSource.TheVariants.{CommandLine}
use Rattle.clap.proofs.FaultLemmas.{past}
use Rattle.abt_machine.specs.Words.{Text}
use Rattle.abt_words.specs.Rests.{Options, is_option, takes_value}
use Rattle.abt_words.proofs.Names.{name-itself}
use Rattle.abt_words.proofs.Rules.{Knows, option_built, shape_with, words_built}

-- the argument whose values are being read
abbrev pub Pending : Type 0
Pending = Option (Text × List Text)

abbrev pub held : List Row → Pending → Held
held rows q = record { rows = rows; pending = q; skip = 0 }

abbrev pub state : List Row → Pending → Waiting → Bool → Walk
state rows q waits t = record { held = held rows q; waiting = waits; position = 1; is_trailing = t; stopped = None }

-- whether a positional waits
abbrev pub free : Bool → Waiting
free true = positional
free false = idle

and-false : (b : Bool) (x y : Kinds) → cond (b && false) x y ≡ y
and-false true x y = refl
and-false false x y = refl

or-false : (b : Bool) → (b || false) ≡ b
or-false true = refl
or-false false = refl

-- with one more value of an argument
abbrev pub with_value : Text → Text → List Row → List Row
with_value name v rows = with_values name AsWritten CommandLine (v ∷ []) rows

module _ (table : Options) (rules : List Rule) (k : Knows table rules) where
  abbrev top : Shape
  top = shape_with rules

  -- the faults of what is pending, and the rows with it
  abbrev pending_fault : List Row → Pending → Kinds
  pending_fault rows q = settle_fault rules false (held rows q)

  abbrev all_rows : List Row → Pending → List Row
  all_rows rows q = settled_rows rules q rows

  -- ---- what is pending

  pub no-value-pending : (name : Text) (rows : List Row) → takes_value table name ≡ Some true → pending_fault rows (Some (name, [])) ≡ InvalidValue ∷ []
  no-value-pending name rows is = ap (λ (o : Option Rule). option_map_or (λ a. use_fault false a [] rows) o []) (k.id name true is)

  pub value-pending : (name v : Text) (rows : List Row) → takes_value table name ≡ Some true
      → (pending_fault rows (Some (name, v ∷ [])) ≡ []) × (all_rows rows (Some (name, v ∷ [])) ≡ with_value name v rows)
  value-pending name v rows is = (
    ap (λ (o : Option Rule). option_map_or (λ a. use_fault false a (v ∷ []) rows) o []) (k.id name true is),
    ap (λ (o : Option Rule). used_by_id o (v ∷ []) rows) (k.id name true is),
  )

  pub word-pending : (v : Text) (rows : List Row)
      → (pending_fault rows (Some (codes "words", v ∷ [])) ≡ []) × (all_rows rows (Some (codes "words", v ∷ [])) ≡ with_value (codes "words") v rows)
  word-pending v rows = (
    ap (λ (o : Option Rule). option_map_or (λ a. use_fault false a (v ∷ []) rows) o []) k.words,
    ap (λ (o : Option Rule). used_by_id o (v ∷ []) rows) k.words,
  )

  -- ---- `--`

  module _ (rows : List Row) (q : Pending) where
    pub ends-turn : (waits : Waiting) → (turn_fault top [] (state rows q waits false) (codes "--") ≡ [])
        × (walked rules [] (state rows q waits false) (codes "--") ≡ state rows q waits true)
    unfolding walked
    ends-turn idle = (refl, refl)
    ends-turn (option id) = (refl, refl)
    ends-turn positional = (refl, refl)

  -- ---- `--name` and `--name=value`

  -- what a word makes of the walk, by the rule that its name finds and the value in it
  abbrev long_faults : List Row → Pending → Waiting → Text → Option Rule → Option Text → Kinds
  long_faults rows q waits word o v =
      let met = long_met rules o v (held rows q) in
      let step = after_flag rules waits word met.0 met.1 in
      or_else (long_fault rules false o v (held rows q)) (step_fault top 1 step.0 step.1)

  abbrev long_walked : List Row → Pending → Waiting → Text → Option Rule → Option Text → Walk
  long_walked rows q waits word o v =
      let met = long_met rules o v (held rows q) in
      let step = after_flag rules waits word met.0 met.1 in
      after_step rules word (state rows q waits false) step.0 step.1

  module _ (rows : List Row) (q : Pending) (c : ℕ) (cs : Text) where
    abbrev word : Text
    word = 45 ∷ 45 ∷ c ∷ cs

    abbrev name : Text
    name = (name_and_value (c ∷ cs)).0

    abbrev attached : Option Text
    attached = (name_and_value (c ∷ cs)).1

    faults-are : (waits : Waiting) → turn_fault top [] (state rows q waits false) word ≡ long_faults rows q waits word (arg_by_long rules name) attached
    faults-are idle = refl
    faults-are (option id) = refl
    faults-are positional = refl

    walk-is : (waits : Waiting) → walked rules [] (state rows q waits false) word ≡ long_walked rows q waits word (arg_by_long rules name) attached
    unfolding walked
    walk-is idle = refl
    walk-is (option id) = refl
    walk-is positional = refl

    module _ (waits : Waiting) where
      pub unknown-turn : takes_value table name ≡ None → turn_fault top [] (state rows q waits false) word ≡ UnknownArgument ∷ []
      unknown-turn is = faults-are waits ∙ ap (λ (o : Option Rule). long_faults rows q waits word o attached) (k.long name ∙ ap (option_map (option_built name)) is)

      module _ (takes : Bool) (v : Option Text) (is : takes_value table name ≡ Some takes) (has : attached ≡ v) where
        rule-is : arg_by_long rules name ≡ Some (option_built name takes)
        rule-is = k.long name ∙ ap (option_map (option_built name)) is

        known-faults : turn_fault top [] (state rows q waits false) word ≡ long_faults rows q waits word (Some (option_built name takes)) v
        known-faults = faults-are waits ∙ ap₂ (λ (o : Option Rule) (v : Option Text). long_faults rows q waits word o v) rule-is has

        known-walk : walked rules [] (state rows q waits false) word ≡ long_walked rows q waits word (Some (option_built name takes)) v
        known-walk = walk-is waits ∙ ap₂ (λ (o : Option Rule) (v : Option Text). long_walked rows q waits word o v) rule-is has

      module _ (is : takes_value table name ≡ Some true) where
        pub value-turn : (v : Text) → attached ≡ Some v → turn_fault top [] (state rows q waits false) word ≡ or_else (or_else (pending_fault rows q) []) []
        value-turn v has = known-faults true (Some v) is has

        pub value-walk : (v : Text) → attached ≡ Some v → walked rules [] (state rows q waits false) word ≡ state (with_value name v (all_rows rows q)) None idle false
        value-walk v has = known-walk true (Some v) is has

        pub due-turn : attached ≡ None → turn_fault top [] (state rows q waits false) word ≡ or_else (pending_fault rows q) []
        due-turn has = known-faults true None is has

        pub due-walk : attached ≡ None → walked rules [] (state rows q waits false) word ≡ state (all_rows rows q) (Some (name, [])) (option name) false
        due-walk has = known-walk true None is has

      module _ (is : takes_value table name ≡ Some false) where
        pub flag-value-turn : (v : Text) → attached ≡ Some v → turn_fault top [] (state rows q waits false) word ≡ TooManyValues ∷ []
        flag-value-turn v has = known-faults false (Some v) is has

        pub flag-turn : attached ≡ None → turn_fault top [] (state rows q waits false) word ≡ or_else (or_else (pending_fault rows q) []) []
        flag-turn has = known-faults false None is has

        pub flag-walk : attached ≡ None → walked rules [] (state rows q waits false) word ≡ state (with_value name [] (all_rows rows q)) None idle false
        flag-walk has = known-walk false None is has

  -- ---- `-x`

  pub short-turn : (rows : List Row) (q : Pending) (waits : Waiting) (d : ℕ) (ds : Text) (x : ℕ) → (d == 45) ≡ false → slice_get (chars (d ∷ ds)) 0 ≡ Some x
      → turn_fault top [] (state rows q waits false) (45 ∷ d ∷ ds) ≡ UnknownArgument ∷ []
  unfolding walked bundle_met flags_fault walk_fault defaults_fault
  short-turn rows q idle d ds x e f = let s = k.short x in simp (e, f, s) refl
  short-turn rows q (option id) d ds x e f = let s = k.short x in simp (e, f, s) refl
  short-turn rows q positional d ds x e f = let s = k.short x in simp (e, f, s) refl

  -- ---- a word that is no option

  plain-fault : (h : Held) (waits : Waiting) (w : Text) → is_option w ≡ false → word_fault top [] false waits w h ≡ []
  plain-fault h idle [] e = refl
  plain-fault h (option id) [] e = refl
  plain-fault h positional [] e = refl
  plain-fault h idle (c ∷ []) e = by (c == 45) refl
    where
      by : (b : Bool) → (c == 45) ≡ b → word_fault top [] false idle (c ∷ []) h ≡ []
      by true f = simp f refl
      by false f = simp f refl
  plain-fault h (option id) (c ∷ []) e = by (c == 45) refl
    where
      by : (b : Bool) → (c == 45) ≡ b → word_fault top [] false (option id) (c ∷ []) h ≡ []
      by true f = simp f refl
      by false f = simp f refl
  plain-fault h positional (c ∷ []) e = by (c == 45) refl
    where
      by : (b : Bool) → (c == 45) ≡ b → word_fault top [] false positional (c ∷ []) h ≡ []
      by true f = simp f refl
      by false f = simp f refl
  plain-fault h idle (c ∷ d ∷ ds) e = simp e refl
  plain-fault h (option id) (c ∷ d ∷ ds) e = simp e refl
  plain-fault h positional (c ∷ d ∷ ds) e = simp e refl

  plain-met : (h : Held) (waits : Waiting) (w : Text) → is_option w ≡ false → word_met rules [] false waits 1 w h ≡ plain_word rules waits w h
  plain-met h idle [] e = refl
  plain-met h (option id) [] e = refl
  plain-met h positional [] e = refl
  plain-met h idle (c ∷ []) e = by (c == 45) refl
    where
      by : (b : Bool) → (c == 45) ≡ b → word_met rules [] false idle 1 (c ∷ []) h ≡ plain_word rules idle (c ∷ []) h
      by true f = simp f refl
      by false f = simp f refl
  plain-met h (option id) (c ∷ []) e = by (c == 45) refl
    where
      by : (b : Bool) → (c == 45) ≡ b → word_met rules [] false (option id) 1 (c ∷ []) h ≡ plain_word rules (option id) (c ∷ []) h
      by true f = simp f refl
      by false f = simp f refl
  plain-met h positional (c ∷ []) e = by (c == 45) refl
    where
      by : (b : Bool) → (c == 45) ≡ b → word_met rules [] false positional 1 (c ∷ []) h ≡ plain_word rules positional (c ∷ []) h
      by true f = simp f refl
      by false f = simp f refl
  plain-met h idle (c ∷ d ∷ ds) e = simp e refl
  plain-met h (option id) (c ∷ d ∷ ds) e = simp e refl
  plain-met h positional (c ∷ d ∷ ds) e = simp e refl

  -- a word goes to the positional
  module _ (rows : List Row) (q : Pending) where
    goes-fault : step_fault top 1 (held rows q) value ≡ pending_fault rows q
    goes-fault = ap (λ (o : Option Rule). option_map_or (λ a. positional_fault rules false a (held rows q)) o (stray_fault top)) k.first
        ∙ and-false (is_pending words_built q) [] (pending_fault rows q)

    goes-held : (b : Bool) → cond (b && false) (held rows q) (settled rules (held rows q)) ≡ settled rules (held rows q)
    goes-held true = refl
    goes-held false = refl

    goes-walk : (waits : Waiting) (t : Bool) (w : Text) → after_step rules w (state rows q waits t) (held rows q) value
        ≡ state (all_rows rows q) (Some (codes "words", w ∷ [])) positional t
    goes-walk waits t w = ap (λ (o : Option Rule). to_positional rules o w (state rows q waits t) (held rows q)) k.first
        ∙ ap (λ (h : Held). record {
          held = pushed (codes "words") w h;
          waiting = positional;
          position = 1;
          is_trailing = t || false;
          stopped = None;
        }) (goes-held (is_pending words_built q))
        ∙ ap (λ (b : Bool). state (all_rows rows q) (Some (codes "words", w ∷ [])) positional b) (or-false t)

    -- no option waits for its value
    pub plain-turn : (b : Bool) (w : Text) → is_option w ≡ false → turn_fault top [] (state rows q (free b) false) w ≡ pending_fault rows q
    plain-turn true w e = past _ _ (plain-fault (held rows q) positional w e)
        ∙ ap (λ (m : Held × Step). step_fault top 1 m.0 m.1) (plain-met (held rows q) positional w e) ∙ goes-fault
    plain-turn false w e = past _ _ (plain-fault (held rows q) idle w e)
        ∙ ap (λ (m : Held × Step). step_fault top 1 m.0 m.1) (plain-met (held rows q) idle w e) ∙ goes-fault

    pub plain-walk : (b : Bool) (w : Text) → is_option w ≡ false
        → walked rules [] (state rows q (free b) false) w ≡ state (all_rows rows q) (Some (codes "words", w ∷ [])) positional false
    unfolding walked
    plain-walk true w e = ap (λ (m : Held × Step). after_step rules w (state rows q positional false) m.0 m.1) (plain-met (held rows q) positional w e) ∙ goes-walk positional false w
    plain-walk false w e = ap (λ (m : Held × Step). after_step rules w (state rows q idle false) m.0 m.1) (plain-met (held rows q) idle w e) ∙ goes-walk idle false w

    -- after `--`
    pub later-turn : (waits : Waiting) (w : Text) → turn_fault top [] (state rows q waits true) w ≡ pending_fault rows q
    later-turn waits w = goes-fault

    pub later-walk : (waits : Waiting) (w : Text) → walked rules [] (state rows q waits true) w ≡ state (all_rows rows q) (Some (codes "words", w ∷ [])) positional true
    unfolding walked
    later-walk waits w = goes-walk waits true w

  -- ---- the value of an option

  module _ (rows : List Row) (name w : Text) (is : takes_value table name ≡ Some true) (e : is_option w ≡ false) where
    abbrev old : Held
    old = held rows (Some (name, []))

    taken-met : word_met rules [] false (option name) 1 w old ≡ (held rows (Some (name, w ∷ [])), next idle)
    taken-met = plain-met old (option name) w e
        ∙ ap (λ (o : Option Rule). ((option_word o name w old).0, next (option_word o name w old).1)) (k.id name true is)
        ∙ ap (λ (b : Bool). (held rows (Some (name, w ∷ [])), next (cond (nat_lt (cond b 1 0) 1) (option name) idle))) (name-itself name)

    pub taken-turn : turn_fault top [] (state rows (Some (name, [])) (option name) false) w ≡ []
    taken-turn = past _ _ (plain-fault old (option name) w e) ∙ ap (λ (m : Held × Step). step_fault top 1 m.0 m.1) taken-met

    pub taken-walk : walked rules [] (state rows (Some (name, [])) (option name) false) w ≡ state rows (Some (name, w ∷ [])) idle false
    unfolding walked
    taken-walk = ap (λ (m : Held × Step). after_step rules w (state rows (Some (name, [])) (option name) false) m.0 m.1) taken-met
