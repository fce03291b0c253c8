-- The text of the generator's workload for three adders.
use Rattle.std.specs.Prelude.{List, [], ◌∷◌, codes, flat_map}
use Rattle.abt_machine.specs.Words.{Text, ended}

-- line by line
abbrev pub three_lines : List Text
three_lines =
    codes "abt 1" ∷ codes "streams 4" ∷
    codes "pool 0 deque mpmc" ∷ codes "pool 1 deque mpmc" ∷ codes "pool 2 deque mpmc" ∷ codes "pool 3 deque mpmc" ∷
    codes "sched 0 randws 3 0 1 2 3" ∷ codes "sched 1 randws 4 1 0 2 3" ∷ codes "sched 2 randws 5 2 0 1 3" ∷ codes "sched 3 randws 6 3 0 1 2" ∷
    codes "stream 0 main 0" ∷ codes "stream 1 main 1" ∷ codes "stream 2 main 2" ∷ codes "stream 3 main 3" ∷
    codes "object 0 mutex" ∷ codes "units 4" ∷
    codes "unit 0 ult at 0" ∷ codes "create 1 1" ∷ codes "create 2 2" ∷ codes "create 3 3" ∷ codes "join 1" ∷ codes "join 2" ∷ codes "join 3" ∷
    codes "lock 0" ∷ codes "load 0" ∷ codes "print" ∷ codes "unlock 0" ∷
    codes "unit 1 ult later" ∷ codes "yield" ∷ codes "lock 0" ∷ codes "load 0" ∷ codes "add 1" ∷ codes "store 0" ∷ codes "unlock 0" ∷
    codes "unit 2 ult later" ∷ codes "yield" ∷ codes "lock 0" ∷ codes "load 0" ∷ codes "add 2" ∷ codes "store 0" ∷ codes "unlock 0" ∷
    codes "unit 3 ult later" ∷ codes "yield" ∷ codes "lock 0" ∷ codes "load 0" ∷ codes "add 3" ∷ codes "store 0" ∷ codes "unlock 0" ∷
    codes "end" ∷ []

abbrev pub three_text : Text
three_text = flat_map ended three_lines
