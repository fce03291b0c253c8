-- The faults of a line, by the lines above it.
use Rattle.std.specs.Prelude.{ℕ, ◌+◌, ◌*◌, ◌==◌, ◌&&◌, ◌||◌, if◌then◌else◌, Bool, true, false, not, is_none, is_some, length, drop, List, [], ◌∷◌, find, map, nat_le, nat_lt, Option, Some, None, slice_get, unwrap_or}
use Rattle.std.specs.List.{list_all, list_any}
use Rattle.std.specs.Option.{option_map_or}
use Rattle.std.specs.Str.{is_utf8}
use Rattle.abt_machine.specs.declared.grammar.Form.{Form}
use Rattle.abt_machine.specs.declared.grammar.Form.TheVariants as form
use Rattle.abt_machine.specs.declared.grammar.Format.{Format}
use Rattle.abt_machine.specs.declared.grammar.Format.TheVariants as format
use Rattle.abt_machine.specs.declared.grammar.Number.{Number}
use Rattle.abt_machine.specs.declared.grammar.Number.TheVariants as number
use Rattle.abt_machine.specs.declared.grammar.Role.TheVariants as role
use Rattle.abt_machine.specs.declared.operations.Body.{Body}
use Rattle.abt_machine.specs.declared.operations.Body.TheVariants as body
use Rattle.abt_machine.specs.declared.operations.Op.{Op}
use Rattle.abt_machine.specs.declared.operations.Op.TheVariants as op
use Rattle.abt_machine.specs.declared.operations.Thing.{Thing}
use Rattle.abt_machine.specs.declared.operations.Thing.TheVariants as thing
use Rattle.abt_machine.specs.declared.program.Fault.{Fault}
use Rattle.abt_machine.specs.declared.program.Fault.TheVariants as fault
use Rattle.abt_machine.specs.declared.workload.UnitPart.{UnitPart}
use Rattle.abt_machine.specs.Access.{may_take_all}
use Rattle.abt_machine.specs.Declaring.{Above, at, declared_units, listed, parts_of, units_of, word_in}
use Rattle.abt_machine.specs.Forms.{begins_with, fits, form_of, forms, is_in, numerals, section, slots}
use Rattle.abt_machine.specs.Limits.{listed_limit, object_limit, operation_limit, pool_limit, sched_limit, stream_limit, unit_limit, unit_operation_limit, word_limit}
use Rattle.abt_machine.specs.Operations.{may_block}
use Rattle.abt_machine.specs.Spelling.{has_control, is_number, value_of, words_of}
use Rattle.abt_machine.specs.Valid.{placed_scheds}
use Rattle.abt_machine.specs.Words.{Text}
use Rattle.abt_machine.specs.Workloads.{all_ops, is_sched, ops_of}

-- Skipped lines.

abbrev pub begins_comment : Text → Bool
begins_comment [] = false
begins_comment (b ∷ bs) = b == 35

-- a line without words, and a line whose first word begins with `#`, is skipped
abbrev pub is_skipped : List Text → Bool
is_skipped [] = true
is_skipped (word ∷ words) = begins_comment word

-- Version.

-- it is the first line that is not skipped, and its words are neither `abt`, `1` nor `abt`, `2` nor `abt`, `3`
abbrev pub is_no_version : Above → List Text → Bool
is_no_version a words = not a.begun && not (fits (slots (form.Version format.One)) words || fits (slots (form.Version format.Two)) words || fits (slots (form.Version format.Three)) words)

-- Unknown.

-- its first word begins no line of the text's format
abbrev pub is_unknown : Format → List Text → Bool
is_unknown F words = not (list_any (λ f. is_in F f && begins_with (slots f) words) forms)

-- Shape.

-- of sections 1, 2, 3 and 8 a text has at most one line
abbrev pub is_single : ℕ → Bool
is_single n = (n == 1) || (n == 2) || (n == 3) || (n == 8)

-- operations belong to a unit that is not a scheduler
abbrev pub takes_operations : Option UnitPart → Bool
takes_operations None = false
takes_operations (Some part) = not (is_sched part.body)

-- an operation before any `unit` or `many` line, or for a scheduler unit; a `many` line before `units`
abbrev pub is_homeless : Above → Form → Bool
is_homeless a (form.Operation o) = not (takes_operations a.last)
is_homeless a (form.Repeat o) = not (takes_operations a.last)
is_homeless a (form.Many r start) = is_none a.unit_count
is_homeless a f = false

-- it belongs to a section before the one that was reached; it is a second line of a section that has one; it has no place
-- yet; it follows `end`
abbrev pub is_misplaced : Above → Form → Bool
is_misplaced a f = nat_lt (section f) a.section || ((section f == a.section) && is_single (section f)) || is_homeless a f || (a.section == 10)

-- Twice.

-- the scheduler is the main one of a stream, or the body of a unit
abbrev pub is_placed : Above → ℕ → Bool
is_placed a g = list_any (λ h. h == g) (placed_scheds (parts_of a))

abbrev pub has_main : Above → ℕ → Bool
has_main a s = option_map_or is_some (slice_get a.mains s) false

-- a number appears twice in a list
abbrev pub has_repeated : List ℕ → Bool
has_repeated [] = false
has_repeated (n ∷ ns) = list_any (λ m. m == n) ns || has_repeated ns

-- it declares a number that is declared; it names a pool twice; it gives a stream a second main scheduler; it gives a
-- scheduler a second place, as does a `many` line of two or more units with a scheduler
abbrev pub is_twice : Above → Form → List ℕ → Bool
is_twice a (form.Pool access) numbers = nat_lt (at numbers 0) (length a.pools)
is_twice a (form.Sched rule) numbers = nat_lt (at numbers 0) (length a.scheds) || has_repeated (listed rule numbers)
is_twice a form.Stream numbers = has_main a (at numbers 0) || is_placed a (at numbers 1)
is_twice a (form.Object thing) numbers = nat_lt (at numbers 0) (length a.objects)
is_twice a (form.Unit role.Sched start) numbers = nat_lt (at numbers 0) (declared_units a) || is_placed a (at numbers 1)
is_twice a (form.Unit r start) numbers = nat_lt (at numbers 0) (declared_units a)
is_twice a (form.Many role.Sched start) numbers = nat_lt (at numbers 0) (declared_units a) || nat_lt 1 (at numbers 1) || is_placed a (at numbers 2)
is_twice a (form.Many r start) numbers = nat_lt (at numbers 0) (declared_units a)
is_twice a f numbers = false

-- Undeclared.

abbrev pub is_mutex : Thing → Bool
is_mutex thing.Mutex = true
is_mutex t = false

abbrev pub is_condition : Thing → Bool
is_condition (thing.Cond m) = true
is_condition t = false

abbrev pub is_eventual : Thing → Bool
is_eventual thing.Eventual = true
is_eventual t = false

abbrev pub is_future : Thing → Bool
is_future (thing.Future n c) = true
is_future t = false

abbrev pub is_barrier : Thing → Bool
is_barrier (thing.Barrier n) = true
is_barrier t = false

abbrev pub is_rwlock : Thing → Bool
is_rwlock thing.RwLock = true
is_rwlock t = false

-- object x is declared, and is such a thing
abbrev pub has_object : Above → (Thing → Bool) → ℕ → Bool
has_object a test x = option_map_or test (slice_get a.objects x) false

-- a number that is declared here skips none of its kind; what is named is declared, an object as the thing that its word needs
abbrev pub is_there : Above → Number → ℕ → Bool
is_there a (number.Within low high) n = true
is_there a number.StreamCount n = true
is_there a number.UnitCount n = true
is_there a number.Copies n = true
is_there a number.Times n = true
is_there a number.NewPool n = nat_le n (length a.pools)
is_there a number.NewSched n = nat_le n (length a.scheds)
is_there a number.NewObject n = nat_le n (length a.objects)
is_there a number.NewUnit n = nat_le n (declared_units a)
is_there a number.Stream n = nat_lt n (unwrap_or a.streams 0)
is_there a number.Pool n = nat_lt n (length a.pools)
is_there a number.Sched n = nat_lt n (length a.scheds)
is_there a number.Key n = nat_lt n a.keys
is_there a number.Unit n = nat_lt n (unwrap_or a.unit_count 0)
is_there a number.Mutex n = has_object a is_mutex n
is_there a number.Cond n = has_object a is_condition n
is_there a number.Eventual n = has_object a is_eventual n
is_there a number.Future n = has_object a is_future n
is_there a number.Barrier n = has_object a is_barrier n
is_there a number.RwLock n = has_object a is_rwlock n

-- there are fewer than n units
abbrev pub lacks_units : Above → ℕ → Bool
lacks_units a n = nat_lt (unwrap_or a.unit_count 0) n

-- it declares a unit that is not one of those that `units` has
abbrev pub is_beyond : Above → Form → List ℕ → Bool
is_beyond a (form.Unit r start) numbers = lacks_units a (at numbers 0 + 1)
is_beyond a (form.Many r start) numbers = lacks_units a (at numbers 0 + at numbers 1)
is_beyond a f numbers = false

-- Limit.

-- a number that has bounds keeps them
abbrev pub is_within : Format → Number → ℕ → Bool
is_within F (number.Within low high) n = nat_le low n && nat_le n high
is_within F number.StreamCount n = nat_le 1 n && nat_le n (stream_limit F)
is_within F number.UnitCount n = nat_le n (unit_limit F)
is_within F number.Copies n = nat_le 1 n && nat_le n (unit_limit F)
is_within F number.Times n = nat_le 1 n && nat_le n (unit_operation_limit F)
is_within F kind n = true

-- a unit has too many operations with n more
abbrev pub is_long : Format → Option UnitPart → ℕ → Bool
is_long F None n = false
is_long F (Some part) n = nat_lt (unit_operation_limit F) (length (ops_of part.body) + n)

-- all units have too many operations, if each that the last `unit` or `many` line declares has n more
abbrev pub is_crowded : Above → ℕ → Bool
is_crowded a n = nat_lt (operation_limit a.format) (length (all_ops (units_of a)) + a.copies * n)

-- the last unit must not have n operations more
abbrev pub has_no_room : Above → ℕ → Bool
has_no_room a n = is_long a.format a.last n || is_crowded a n

-- a said word of more bytes than it may have
abbrev pub is_long_word : Op → List Text → Bool
is_long_word (op.Say w) words = nat_lt word_limit (length (word_in words 1))
is_long_word o words = false

-- there are as many as there may be: pools, schedulers or pools of one, objects, operations of a unit or of all units, or bytes
-- of a word; the numbers of streams, keys and units are looked at by themselves
abbrev pub is_past_limit : Above → Form → List Text → List ℕ → Bool
is_past_limit a (form.Pool access) words numbers = nat_le (pool_limit a.format) (length a.pools)
is_past_limit a (form.Sched rule) words numbers = nat_le (sched_limit a.format) (length a.scheds) || nat_lt listed_limit (length (listed rule numbers))
is_past_limit a (form.Object thing) words numbers = nat_le (object_limit a.format) (length a.objects)
is_past_limit a (form.Operation o) words numbers = has_no_room a 1 || is_long_word o words
is_past_limit a (form.Repeat o) words numbers = has_no_room a (at numbers 0) || is_long_word o (drop 2 words)
is_past_limit a f words numbers = false

-- TaskBlocks and Access.

abbrev pub is_task_body : Body → Bool
is_task_body (body.Ult ops) = false
is_task_body (body.Task ops) = true
is_task_body (body.Sched g) = false

abbrev pub is_task : Option UnitPart → Bool
is_task None = false
is_task (Some part) = is_task_body part.body

-- it is an operation that may block or yield, for a task
abbrev pub blocks_task : Above → Form → Bool
blocks_task a (form.Operation o) = is_task a.last && may_block o
blocks_task a (form.Repeat o) = is_task a.last && may_block o
blocks_task a f = false

-- it is a `stream` line whose scheduler lists a pool from which that stream must not take
abbrev pub is_barred : Above → Form → List ℕ → Bool
is_barred a form.Stream numbers = not (may_take_all (parts_of a) (at numbers 0) (at numbers 1))
is_barred a f numbers = false

-- Missing.

-- a line of section 3 to 10 comes before `streams`; a `units` line comes while there is no pool or a stream has no main
-- scheduler; a line of section 9 or 10 comes before `units`; `end` comes while a unit is not declared
abbrev pub is_early : Above → Form → Bool
is_early a (form.Version F) = false
is_early a form.Streams = false
is_early a form.Units = is_none a.streams || (length a.pools == 0) || list_any is_none a.mains
is_early a (form.Unit r start) = is_none a.streams || is_none a.unit_count
is_early a (form.Many r start) = is_none a.streams || is_none a.unit_count
is_early a (form.Operation o) = is_none a.streams || is_none a.unit_count
is_early a (form.Repeat o) = is_none a.streams || is_none a.unit_count
is_early a form.End = is_none a.streams || is_none a.unit_count || nat_lt (declared_units a) (unwrap_or a.unit_count 0)
is_early a f = is_none a.streams

-- The table of faults.

-- the values of words that are numbers, each with what it is
abbrev pub valued : List (Number × Text) → List (Number × ℕ)
valued = map (λ (p : Number × Text). (p.0, value_of p.1))

-- the values alone
abbrev pub values : List (Number × ℕ) → List ℕ
values = map (λ (p : Number × ℕ). p.1)

-- the numbers of a line of this form
abbrev pub numbers_of : Form → List Text → List (Number × ℕ)
numbers_of f words = valued (numerals (slots f) words)

abbrev pub values_of : Form → List Text → List ℕ
values_of f words = values (numbers_of f words)

-- this holds of a line's form, if it has one
abbrev pub of_form : (Form → Bool) → Option Form → Bool
of_form test form = option_map_or test form false

-- a line of these words that is not skipped, and has this form if it has any, has a fault
abbrev pub has : Above → Text → List Text → Option Form → Fault → Bool
has a line words form fault.Utf8 = not (is_utf8 line)
has a line words form fault.Version = is_no_version a words
has a line words form fault.Unknown = is_unknown a.format words
has a line words form fault.Shape = is_none form || has_control line || of_form (is_misplaced a) form
has a line words form fault.Number = of_form (λ f. not (list_all (λ p. is_number p.1) (numerals (slots f) words))) form
has a line words form fault.Twice = of_form (λ f. is_twice a f (values_of f words)) form
has a line words form fault.Undeclared = of_form (λ f. not (list_all (λ p. is_there a p.0 p.1) (numbers_of f words)) || is_beyond a f (values_of f words)) form
has a line words form fault.Limit = of_form (λ f. not (list_all (λ p. is_within a.format p.0 p.1) (numbers_of f words)) || is_past_limit a f words (values_of f words)) form
has a line words form fault.TaskBlocks = of_form (blocks_task a) form
has a line words form fault.Access = of_form (λ f. is_barred a f (values_of f words)) form
has a line words form fault.NoEnd = false
has a line words form fault.Missing = of_form (is_early a) form

-- a line that is skipped has no fault but `utf8`
abbrev pub has_skipped : Text → Fault → Bool
has_skipped line fault.Utf8 = not (is_utf8 line)
has_skipped line f = false

-- the line has this fault below lines that declare a
abbrev pub line_has : Above → Text → Fault → Bool
line_has a line f = if is_skipped (words_of line) then has_skipped line f else has a line (words_of line) (form_of a.format (words_of line)) f

-- in the order in which they are looked for
abbrev pub faults : List Fault
faults =
    fault.Utf8 ∷ fault.Version ∷ fault.Unknown ∷ fault.Shape ∷ fault.Number ∷ fault.Twice ∷ fault.Undeclared ∷ fault.Limit ∷
    fault.TaskBlocks ∷ fault.Access ∷ fault.NoEnd ∷ fault.Missing ∷ []

-- the first fault of a line below lines that declare a
abbrev pub line_fault : Above → Text → Option Fault
line_fault a line = find (line_has a line) faults
