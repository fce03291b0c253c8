-- Whether parts are those of a workload, computed with the proof.
use Rattle.std.proofs.Common.{ℕ, zero, suc, ◌≡◌, ◌<◌, ◌≤◌, ◌^◌, true, List, [], ◌∷◌, length, map, Option, Some, None, nat_lt, refl, arith}
use Rattle.std.specs.Prelude.{IsAscii}
use Rattle.std.specs.List.{list_all, list_any, range_with_len}
use Rattle.std.proofs.lemmas.Bool.{and_parts, ltb-true}
use Rattle.std.proofs.lemmas.Str.{IsUtf8-from_ascii}
use Rattle.abt_machine.specs.declared.grammar.Format.TheVariants as format
use Rattle.abt_machine.specs.declared.grammar.Number.{Number}
use Rattle.abt_machine.specs.declared.grammar.Number.TheVariants as number
use Rattle.abt_machine.specs.declared.numbers.PoolNo.{PoolNo}
use Rattle.abt_machine.specs.declared.operations.Access.{Access}
use Rattle.abt_machine.specs.declared.operations.Access.TheVariants as access
use Rattle.abt_machine.specs.declared.operations.Body.{Body}
use Rattle.abt_machine.specs.declared.operations.Body.TheVariants as body
use Rattle.abt_machine.specs.declared.operations.Op.{Op}
use Rattle.abt_machine.specs.declared.operations.Op.TheVariants as op
use Rattle.abt_machine.specs.declared.operations.Rule.{Rule}
use Rattle.abt_machine.specs.declared.operations.Rule.TheVariants as rule
use Rattle.abt_machine.specs.declared.operations.Thing.{Thing}
use Rattle.abt_machine.specs.declared.operations.Thing.TheVariants as thing
use Rattle.abt_machine.specs.declared.workload.Parts.{Parts}
use Rattle.abt_machine.specs.declared.workload.PoolPart.{PoolPart}
use Rattle.abt_machine.specs.declared.workload.SchedPart.{SchedPart}
use Rattle.abt_machine.specs.declared.workload.UnitPart.{UnitPart}
use Rattle.abt_machine.specs.Access.{may_take_all}
use Rattle.abt_machine.specs.Canonical.{op_numbers}
use Rattle.abt_machine.specs.Forms.{Slot, Fixed, Numeral, op_slots}
use Rattle.abt_machine.specs.Limits.{key_limit, listed_limit, object_limit, operation_limit, pool_limit, sched_limit, size_limit, stream_limit, unit_limit, unit_operation_limit, word_limit}
use Rattle.abt_machine.specs.Operations.{AreNamed, IsDeclared, IsNamed, may_block}
use Rattle.abt_machine.specs.Valid.{IsAccess, IsBody, IsRule, IsSched, IsStream, IsThing, IsUnit, IsValid, IsVisible, IsWord, placed_scheds, words_said}
use Rattle.abt_machine.specs.Words.{Text}
use Rattle.abt_machine.specs.Workloads.{all_ops, main_of, ops_of, thing_at}
use Rattle.abt_machine.proofs.Elements.{map-pairs}
use Rattle.abt_rows.proofs.Deciding.{all, apart, each_below, each_once, entries, given, is_at_most, is_false, is_less, is_true, same, same_list, whenever}

-- Pools, schedulers and streams.

abbrev pool_access : (streams : ℕ) (a : Access) → Option (IsAccess streams a)
pool_access streams (access.Priv s) = is_less s.0 streams
pool_access streams (access.Spsc s t) = given (is_less s.0 streams) (λ here. given (is_less t.0 streams) (λ there. Some (here, there)))
pool_access streams (access.Mpsc t) = is_less t.0 streams
pool_access streams (access.Spmc s) = is_less s.0 streams
pool_access streams access.Mpmc = Some tt

abbrev sched_rule : (r : Rule) → Option (IsRule r)
sched_rule rule.Basic = Some tt
sched_rule rule.Prio = Some tt
sched_rule (rule.Randws seed) = is_less seed (2 ^ 64)
sched_rule (rule.User k) = is_less k 2

abbrev scheduler : (pools : ℕ) (part : SchedPart) → Option (IsSched pools part)
scheduler pools part =
    given (sched_rule part.rule) (λ rule.
    given (is_less 0 (length part.pools)) (λ some.
    given (is_at_most (length part.pools) listed_limit) (λ few.
    given (all (λ (p : PoolNo). p.0 < pools) (λ (p : PoolNo). is_less p.0 pools) part.pools) (λ listed.
    given (each_once (map (λ (p : PoolNo). p.0) part.pools)) (λ once.
    Some (record { rule = rule; some_pool = some; few_pools = few; listed = listed; once = map-pairs part.pools once }))))))

abbrev stream : (W : Parts) (s : ℕ) → Option (IsStream W s)
stream W s =
    given (is_less (main_of W s) (length W.scheds)) (λ main.
    given (is_true (may_take_all W s (main_of W s))) (λ takes.
    Some (record { main = main; takes = takes })))

-- Numbers, and the objects that they name.

abbrev object_named : (W : Parts) (k : Number) (x : ℕ) (o : Option Thing) → thing_at W x ≡ o → Option (IsNamed W k x)
object_named W number.Mutex x (Some thing.Mutex) e = Some e
object_named W number.Cond x (Some (thing.Cond m)) e = Some (m, e)
object_named W number.Eventual x (Some thing.Eventual) e = Some e
object_named W number.Future x (Some (thing.Future n c)) e = Some (n, c, e)
object_named W number.Barrier x (Some (thing.Barrier n)) e = Some (n, e)
object_named W number.RwLock x (Some thing.RwLock) e = Some e
object_named W k x o e = None

abbrev named : (W : Parts) (k : Number) (n : ℕ) → Option (IsNamed W k n)
named W (number.Within low high) n = given (is_at_most low n) (λ above. given (is_at_most n high) (λ below. Some (above, below)))
named W number.Stream n = is_less n W.streams
named W number.Pool n = is_less n (length W.pools)
named W number.Key n = is_less n W.keys
named W number.Unit n = is_less n (length W.units)
named W k n = object_named W k n (thing_at W n) refl

abbrev size : (n : ℕ) → Option ((0 < n) × (n ≤ size_limit))
size n = given (is_less 0 n) (λ some. given (is_at_most n size_limit) (λ few. Some (some, few)))

abbrev object : (W : Parts) (x : ℕ) (t : Thing) → Option (IsThing W.objects x t)
object W x (thing.Cond m) = given (is_less m.0 x) (λ above. given (named W number.Mutex m.0) (λ is. Some (above, is)))
object W x (thing.Future n c) = size n
object W x (thing.Barrier n) = size n
object W x _ = Some tt

-- Units.

abbrev are_named : (W : Parts) (places : List Slot) (numbers : List ℕ) → Option (AreNamed W places numbers)
are_named W (Fixed word ∷ []) [] = Some tt
are_named W (Fixed word ∷ Numeral k ∷ []) (n ∷ []) = named W k n
are_named W (Fixed word ∷ Numeral k ∷ Numeral l ∷ []) (n ∷ m ∷ []) = given (named W k n) (λ first. given (named W l m) (λ second. Some (first, second)))
are_named W (Fixed word ∷ Fixed other ∷ Numeral k ∷ []) (n ∷ []) = named W k n
are_named W places numbers = None

abbrev operation : (W : Parts) (o : Op) → Option (IsDeclared W o)
operation W (op.Say w) = is_less w (length W.words)
operation W o = are_named W (op_slots o) (op_numbers o)

abbrev unit_body : (scheds : ℕ) (b : Body) → Option (IsBody scheds b)
unit_body scheds (body.Ult ops) = Some tt
unit_body scheds (body.Task ops) = is_false (list_any may_block ops)
unit_body scheds (body.Sched g) = is_less g.0 scheds

abbrev unit : (W : Parts) (part : UnitPart) → Option (IsUnit W part)
unit W part =
    given (unit_body (length W.scheds) part.body) (λ kind.
    given (is_at_most (length (ops_of part.body)) (unit_operation_limit format.Three)) (λ few.
    given (all (IsDeclared W) (operation W) (ops_of part.body)) (λ ops.
    given (whenever (λ (p : PoolNo). p.0 < length W.pools) (λ (p : PoolNo). is_less p.0 (length W.pools)) part.start) (λ start.
    Some (record { kind = kind; few_ops = few; ops = ops; start = start })))))

-- Words.

pub ascii : (bs : Text) → list_all (λ b. nat_lt b 128) bs ≡ true → IsAscii bs
ascii [] e i = omega arith
ascii (b ∷ bs) e zero = ltb-true b 128 (and_parts (nat_lt b 128) _ e).0
ascii (b ∷ bs) e (suc i) = ascii bs (and_parts (nat_lt b 128) _ e).1 i

abbrev visible : (b : ℕ) → Option (IsVisible b)
visible b = given (is_less 32 b) (λ no_blank. given (apart b 127) (λ no_delete. Some (no_blank, no_delete)))

abbrev said_word : (word : Text) → Option (IsWord word)
said_word word =
    given (is_less 0 (length word)) (λ some.
    given (is_at_most (length word) word_limit) (λ few.
    given (all IsVisible visible word) (λ seen.
    given (is_true (list_all (λ b. nat_lt b 128) word)) (λ plain.
    Some (record { some_byte = some; few_bytes = few; visible = seen; utf8 = IsUtf8-from_ascii word (ascii word plain) })))))

-- All of them.

-- whether these are the parts of a workload whose words are ASCII
abbrev pub validity : (W : Parts) → Option (IsValid W)
validity W =
    given (is_less 0 W.streams) (λ some_stream.
    given (is_at_most W.streams (stream_limit format.Three)) (λ few_streams.
    given (is_at_most W.keys key_limit) (λ few_keys.
    given (is_less 0 (length W.pools)) (λ some_pool.
    given (is_at_most (length W.pools) (pool_limit format.Three)) (λ few_pools.
    given (all (λ (part : PoolPart). IsAccess W.streams part.access) (λ (part : PoolPart). pool_access W.streams part.access) W.pools) (λ pools.
    given (is_less 0 (length W.scheds)) (λ some_sched.
    given (is_at_most (length W.scheds) (sched_limit format.Three)) (λ few_scheds.
    given (all (IsSched (length W.pools)) (scheduler (length W.pools)) W.scheds) (λ scheds.
    given (same (length W.mains) W.streams) (λ mains.
    given (each_below (IsStream W) (stream W) W.streams) (λ streams.
    given (each_once (placed_scheds W)) (λ one_place.
    given (is_at_most (length W.objects) (object_limit format.Three)) (λ few_objects.
    given (entries W.objects (IsThing W.objects) (object W)) (λ objects.
    given (is_at_most (length W.units) (unit_limit format.Three)) (λ few_units.
    given (all (IsUnit W) (unit W) W.units) (λ units.
    given (is_at_most (length (all_ops W.units)) (operation_limit format.Three)) (λ few_ops.
    given (same_list (words_said W) (range_with_len 0 (length W.words))) (λ said.
    given (all IsWord said_word W.words) (λ words.
    Some (record {
      some_stream = some_stream;
      few_streams = few_streams;
      few_keys = few_keys;
      some_pool = some_pool;
      few_pools = few_pools;
      pools = pools;
      some_sched = some_sched;
      few_scheds = few_scheds;
      scheds = scheds;
      mains = mains;
      streams = streams;
      one_place = one_place;
      few_objects = few_objects;
      objects = objects;
      few_units = few_units;
      units = units;
      few_ops = few_ops;
      said = said;
      words = words;
    }))))))))))))))))))))
