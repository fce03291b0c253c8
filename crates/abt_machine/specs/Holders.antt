-- Who holds a reader-writer lock.
use Rattle.std.specs.Prelude.{ℕ, ◌+◌, ◌-◌, ◌==◌, nat_lt, if◌then◌else◌, Bool, ◌||◌, ◌&&◌, is_none, None, Some, slice_index, slice_set}
use Rattle.std.specs.List.{sum}
use Rattle.abt_machine.specs.Fronts.{is_some_of}
use Rattle.abt_machine.specs.State.{RwLock}

-- how many times a unit may read at the same time
abbrev pub read_limit : ℕ
read_limit = 65535

-- how many times unit u reads
abbrev pub count_of : ℕ → RwLock → ℕ
count_of u lock = slice_index lock.counts u

abbrev pub with_count : ℕ → ℕ → RwLock → RwLock
with_count u n lock = record lock { counts = slice_set lock.counts u n }

-- unit u writes
abbrev pub writes : ℕ → RwLock → Bool
writes u lock = is_some_of u lock.writer

-- unit u reads
abbrev pub reads : ℕ → RwLock → Bool
reads u lock = nat_lt 0 (count_of u lock)

-- unit u writes or reads
abbrev pub holds : ℕ → RwLock → Bool
holds u lock = writes u lock || reads u lock

-- no unit writes, and none reads
abbrev pub is_free : RwLock → Bool
is_free lock = is_none lock.writer && (sum lock.counts == 0)

-- unit u reads once more
abbrev pub read_by : ℕ → RwLock → RwLock
read_by u lock = with_count u (count_of u lock + 1) lock

abbrev pub written_by : ℕ → RwLock → RwLock
written_by u lock = record lock { writer = Some u }

-- unit u gives up the lock if it writes, and otherwise reads once less
abbrev pub given_up : ℕ → RwLock → RwLock
given_up u lock = if writes u lock then record lock { writer = None } else with_count u (count_of u lock - 1) lock
