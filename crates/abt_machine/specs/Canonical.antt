-- The one text in which a workload is written.
use Rattle.std.specs.Prelude.{ℕ, zero, suc, ◌&&◌, Bool, if◌then◌else◌, List, [], ◌∷◌, ◌++◌, length, nat_le, map, flat_map, Option, Some, None, slice_index_or, decimal}
use Rattle.std.specs.List.{enumerate_from, list_all}
use Rattle.abt_machine.specs.declared.grammar.Form.{Form}
use Rattle.abt_machine.specs.declared.grammar.Form.TheVariants as form
use Rattle.abt_machine.specs.declared.grammar.Format.{Format}
use Rattle.abt_machine.specs.declared.grammar.Format.TheVariants as format
use Rattle.abt_machine.specs.declared.grammar.Role.{Role}
use Rattle.abt_machine.specs.declared.grammar.Role.TheVariants as role
use Rattle.abt_machine.specs.declared.numbers.PoolNo.{PoolNo}
use Rattle.abt_machine.specs.declared.numbers.SchedNo.{SchedNo}
use Rattle.abt_machine.specs.declared.operations.Access.{Access}
use Rattle.abt_machine.specs.declared.operations.Access.TheVariants as access
use Rattle.abt_machine.specs.declared.operations.Body.{Body}
use Rattle.abt_machine.specs.declared.operations.Body.TheVariants as body
use Rattle.abt_machine.specs.declared.operations.Op.{Op}
use Rattle.abt_machine.specs.declared.operations.Op.TheVariants as op
use Rattle.abt_machine.specs.declared.operations.Rule.{Rule}
use Rattle.abt_machine.specs.declared.operations.Rule.TheVariants as rule
use Rattle.abt_machine.specs.declared.operations.Thing.{Thing}
use Rattle.abt_machine.specs.declared.operations.Thing.TheVariants as thing
use Rattle.abt_machine.specs.declared.workload.Parts.{Parts}
use Rattle.abt_machine.specs.declared.workload.PoolPart.{PoolPart}
use Rattle.abt_machine.specs.declared.workload.SchedPart.{SchedPart}
use Rattle.abt_machine.specs.declared.workload.UnitPart.{UnitPart}
use Rattle.abt_machine.specs.Forms.{Slot, Fixed, KindWord, CombineWord, AnyWord, Numeral, PoolList, combine_name, is_in, kind_name, slots}
use Rattle.abt_machine.specs.Limits.{object_limit, operation_limit, pool_limit, sched_limit, stream_limit, text_limit, unit_limit, unit_operation_limit}
use Rattle.abt_machine.specs.Numbers.{truth}
use Rattle.abt_machine.specs.Words.{Text, text_of, numbered}
use Rattle.abt_machine.specs.Workloads.{all_ops, ops_of}

-- Lines of a form.

-- the words at these places: the fixed words, this word at a place with a choice, and in order the digits of these numbers
abbrev pub filled : List Slot → Text → List ℕ → List Text
filled [] word numbers = []
filled (Fixed t ∷ places) word numbers = t ∷ filled places word numbers
filled (KindWord ∷ places) word numbers = word ∷ filled places word numbers
filled (CombineWord ∷ places) word numbers = word ∷ filled places word numbers
filled (AnyWord ∷ places) word numbers = word ∷ filled places word numbers
filled (Numeral kind ∷ places) word [] = []
filled (Numeral kind ∷ places) word (n ∷ numbers) = decimal n ∷ filled places word numbers
filled (PoolList ∷ places) word numbers = map decimal numbers

-- the words of a line of this form, with these numbers; the word is `[]` if the form leaves no choice
abbrev pub form_words : Form → Text → List ℕ → List Text
form_words f word numbers = filled (slots f) word numbers

-- Pools.

-- the numbers of the streams that an access names
abbrev pub access_numbers : Access → List ℕ
access_numbers (access.Priv s) = s.0 ∷ []
access_numbers (access.Spsc s t) = s.0 ∷ t.0 ∷ []
access_numbers (access.Mpsc t) = t.0 ∷ []
access_numbers (access.Spmc s) = s.0 ∷ []
access_numbers access.Mpmc = []

abbrev pub pool_line : ℕ → PoolPart → List Text
pool_line p part = form_words (form.Pool part.access) (kind_name part.kind) (p ∷ access_numbers part.access)

-- Schedulers.

-- the numbers that stand before a rule's pools
abbrev pub rule_numbers : Rule → List ℕ
rule_numbers rule.Basic = []
rule_numbers rule.Prio = []
rule_numbers (rule.Randws seed) = seed ∷ []
rule_numbers (rule.User k) = k ∷ []

-- the numbers of a scheduler's line
abbrev pub sched_numbers : ℕ → SchedPart → List ℕ
sched_numbers g part = g ∷ rule_numbers part.rule ++ map (λ (p : PoolNo). p.0) part.pools

abbrev pub sched_line : ℕ → SchedPart → List Text
sched_line g part = form_words (form.Sched part.rule) [] (sched_numbers g part)

abbrev pub stream_line : ℕ → SchedNo → List Text
stream_line s g = form_words form.Stream [] (s ∷ g.0 ∷ [])

-- Objects.

-- the numbers of a thing
abbrev pub thing_numbers : Thing → List ℕ
thing_numbers thing.Mutex = []
thing_numbers (thing.Cond m) = m.0 ∷ []
thing_numbers thing.Eventual = []
thing_numbers (thing.Future n c) = n ∷ []
thing_numbers (thing.Barrier n) = n ∷ []
thing_numbers thing.RwLock = []

-- the word for what a future computes from its values
abbrev pub thing_word : Thing → Text
thing_word (thing.Future n c) = combine_name c
thing_word t = []

abbrev pub object_line : ℕ → Thing → List Text
object_line x thing = form_words (form.Object thing) (thing_word thing) (x ∷ thing_numbers thing)

-- Units.

-- the word of this number
abbrev pub word_of : Parts → ℕ → Text
word_of W n = slice_index_or W.words n []

-- the numbers of an operation's line, in order
abbrev pub op_numbers : Op → List ℕ
op_numbers (op.Set n) = n ∷ []
op_numbers (op.Add n) = n ∷ []
op_numbers (op.Say w) = []
op_numbers op.Print = []
op_numbers (op.KeySet k) = k ∷ []
op_numbers (op.KeyGet k) = k ∷ []
op_numbers op.Yield = []
op_numbers (op.YieldTo v p) = v.0 ∷ p.0 ∷ []
op_numbers op.Suspend = []
op_numbers op.Exit = []
op_numbers (op.Resume v) = v.0 ∷ []
op_numbers (op.Create v p) = v.0 ∷ p.0 ∷ []
op_numbers (op.Join v) = v.0 ∷ []
op_numbers (op.Cancel v) = v.0 ∷ []
op_numbers (op.Migrate v p) = v.0 ∷ p.0 ∷ []
op_numbers (op.MigrateTo v s) = v.0 ∷ s.0 ∷ []
op_numbers (op.Migratable v b) = v.0 ∷ truth b ∷ []
op_numbers (op.Revive v p) = v.0 ∷ p.0 ∷ []
op_numbers (op.Lock x) = x.0 ∷ []
op_numbers (op.TryLock x) = x.0 ∷ []
op_numbers (op.Unlock x) = x.0 ∷ []
op_numbers (op.Load x) = x.0 ∷ []
op_numbers (op.Store x) = x.0 ∷ []
op_numbers (op.CondWait x) = x.0 ∷ []
op_numbers (op.Signal x) = x.0 ∷ []
op_numbers (op.Broadcast x) = x.0 ∷ []
op_numbers (op.EvWait x) = x.0 ∷ []
op_numbers (op.EvSet x) = x.0 ∷ []
op_numbers (op.EvReset x) = x.0 ∷ []
op_numbers (op.EvTest x) = x.0 ∷ []
op_numbers (op.FuWait x) = x.0 ∷ []
op_numbers (op.FuSet x) = x.0 ∷ []
op_numbers (op.FuReset x) = x.0 ∷ []
op_numbers (op.FuTest x) = x.0 ∷ []
op_numbers (op.BarWait x) = x.0 ∷ []
op_numbers (op.ReadLock x) = x.0 ∷ []
op_numbers (op.WriteLock x) = x.0 ∷ []
op_numbers (op.RwUnlock x) = x.0 ∷ []
op_numbers (op.RwLoad x) = x.0 ∷ []
op_numbers (op.RwStore x) = x.0 ∷ []
op_numbers (op.Calc c k) = k ∷ []
op_numbers (op.Call f) = f ∷ []

-- the word that it says, if it says one
abbrev pub op_word : Parts → Op → Text
op_word W (op.Say w) = word_of W w
op_word W o = []

-- the words of an operation's line: those of its form, with its word and its numbers
abbrev pub op_words : Parts → Op → List Text
op_words W o = form_words (form.Operation o) (op_word W o) (op_numbers o)

-- what a unit is, by its line
abbrev pub role_of : Body → Role
role_of (body.Ult ops) = role.Ult
role_of (body.Task ops) = role.Task
role_of (body.Sched g) = role.Sched

-- the number of the scheduler that a unit is
abbrev pub body_numbers : Body → List ℕ
body_numbers (body.Ult ops) = []
body_numbers (body.Task ops) = []
body_numbers (body.Sched g) = g.0 ∷ []

-- the number of the pool that a unit starts in
abbrev pub start_numbers : Option PoolNo → List ℕ
start_numbers None = []
start_numbers (Some p) = p.0 ∷ []

-- the line of a unit
abbrev pub unit_header : ℕ → UnitPart → List Text
unit_header u part = form_words (form.Unit (role_of part.body) part.start) [] (u ∷ body_numbers part.body ++ start_numbers part.start)

-- the line of a unit, and the lines of its operations
abbrev pub unit_lines : Parts → ℕ → UnitPart → List (List Text)
unit_lines W u part = unit_header u part ∷ map (op_words W) (ops_of part.body)

-- The whole text.

-- keys are declared only if there are any
abbrev pub keys_lines : ℕ → List (List Text)
keys_lines zero = []
keys_lines (suc n) = form_words form.Keys [] (suc n ∷ []) ∷ []

-- the version and the counts of streams and of keys
abbrev pub opening_lines : Format → ℕ → ℕ → List (List Text)
opening_lines F streams keys = form_words (form.Version F) [] [] ∷ form_words form.Streams [] (streams ∷ []) ∷ keys_lines keys

-- the lines before that of the number of units
abbrev pub first_lines : Format → Parts → List (List Text)
first_lines F W =
    opening_lines F W.streams W.keys ++
    numbered pool_line W.pools ++
    numbered sched_line W.scheds ++
    numbered stream_line W.mains ++
    numbered object_line W.objects

-- the line of the number of units
abbrev pub units_words : Parts → List Text
units_words W = form_words form.Units [] (length W.units ∷ [])

-- the lines of a workload in a format, each as its words
abbrev pub workload_lines : Format → Parts → List (List Text)
workload_lines F W =
    first_lines F W ++
    units_words W ∷
    flat_map (λ p. unit_lines W p.0 p.1) (enumerate_from 0 W.units) ++
    form_words form.End [] [] ∷ []

-- the text of a workload in a format
abbrev pub text_in : Format → Parts → Text
text_in F W = text_of (workload_lines F W)

-- a format allows this unit's operations: as many as it has, and each of them
abbrev pub has_unit : Format → UnitPart → Bool
has_unit F part = nat_le (length (ops_of part.body)) (unit_operation_limit F) && list_all (λ o. is_in F (form.Operation o)) (ops_of part.body)

-- a format allows as many parts of each kind as this workload has, and its operations
abbrev pub has_parts : Format → Parts → Bool
has_parts F W =
    nat_le W.streams (stream_limit F) && nat_le (length W.pools) (pool_limit F) && nat_le (length W.scheds) (sched_limit F) && nat_le (length W.objects) (object_limit F) &&
    nat_le (length W.units) (unit_limit F) && nat_le (length (all_ops W.units)) (operation_limit F) && list_all (has_unit F) W.units

-- a format has a text of this workload: it allows its parts, and as many bytes as its text has in that format
abbrev pub has_text : Format → Parts → Bool
has_text F W = has_parts F W && nat_le (length (text_in F W)) (text_limit F)

-- a workload is written in the least format that has a text of it
abbrev pub format_for : Parts → Format
format_for W = if has_text format.One W then format.One else (if has_text format.Two W then format.Two else format.Three)

abbrev pub canonical_text : Parts → Text
canonical_text W = text_in (format_for W) W
