-- How much a workload text may declare, by its format, and how much the words of a command may ask for.
use Rattle.std.specs.Prelude.{ℕ}
use Rattle.abt_machine.specs.declared.grammar.Format.{Format}
use Rattle.abt_machine.specs.declared.grammar.Format.TheVariants as format

-- the maximum number of bytes of a text
abbrev pub text_limit : Format → ℕ
text_limit format.One = 4194304
text_limit format.Two = 8388608
text_limit format.Three = 134217728

-- the maximum number of streams that a text declares
abbrev pub stream_limit : Format → ℕ
stream_limit format.One = 8
stream_limit format.Two = 16
stream_limit format.Three = 64

-- the maximum number of keys that a text declares
abbrev pub key_limit : ℕ
key_limit = 16

-- how many functions units may call
abbrev pub function_limit : ℕ
function_limit = 8

-- the maximum numbers of pools, schedulers and objects that a text declares
abbrev pub pool_limit : Format → ℕ
pool_limit format.One = 64
pool_limit format.Two = 64
pool_limit format.Three = 1024

abbrev pub sched_limit : Format → ℕ
sched_limit format.One = 64
sched_limit format.Two = 64
sched_limit format.Three = 1024

abbrev pub object_limit : Format → ℕ
object_limit format.One = 256
object_limit format.Two = 256
object_limit format.Three = 65536

-- the maximum number of pools that a scheduler lists
abbrev pub listed_limit : ℕ
listed_limit = 8

-- the maximum number of compartments of a future, and of parties of a barrier
abbrev pub size_limit : ℕ
size_limit = 4096

-- the maximum number of bytes of a said word
abbrev pub word_limit : ℕ
word_limit = 64

-- the maximum number of units that a text declares
abbrev pub unit_limit : Format → ℕ
unit_limit format.One = 256
unit_limit format.Two = 4096
unit_limit format.Three = 65536

-- the maximum number of operations of a unit
abbrev pub unit_operation_limit : Format → ℕ
unit_operation_limit format.One = 256
unit_operation_limit format.Two = 256
unit_operation_limit format.Three = 4096

-- the maximum number of operations of all units; in format 1 the other limits allow no more
abbrev pub operation_limit : Format → ℕ
operation_limit format.One = 65536
operation_limit format.Two = 65536
operation_limit format.Three = 1048576

-- how many steps each stream may make, if no word of the command says how many
abbrev pub default_steps : ℕ
default_steps = 10000

-- the maximum number of steps that a word may ask for
abbrev pub step_limit : ℕ
step_limit = 100000

-- the maximum number of adders that a word may ask for, each a unit
abbrev pub adder_limit : ℕ
adder_limit = 126
