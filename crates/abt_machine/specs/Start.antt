-- The first state: each unit with a start stands in its pool, in order of number, and every other is unborn.
use Rattle.std.specs.Prelude.{ℕ, zero, suc, ◌+◌, if◌then◌else◌, not, false, [], length, replicate, Option, Some, None}
use Rattle.abt_machine.specs.declared.events.Place.{Place}
use Rattle.abt_machine.specs.declared.events.Place.TheVariants as place
use Rattle.abt_machine.specs.declared.events.Wish.TheVariants as wish
use Rattle.abt_machine.specs.declared.workload.Parts.{Parts}
use Rattle.abt_machine.specs.Numbers.{pool_no}
use Rattle.abt_machine.specs.Workloads.{body_at, is_sched, main_of, start_of}
use Rattle.abt_machine.specs.Sites.{home_from}
use Rattle.abt_machine.specs.Fronts.{is_some_of}
use Rattle.abt_machine.specs.Frames.{frame_at}
use Rattle.abt_machine.specs.State.{State, Plain}

-- how many units below n start in p
abbrev pub count_at : Parts → ℕ → ℕ → ℕ
count_at W p zero = 0
count_at W p (suc n) = (if is_some_of p (start_of W n) then 1 else 0) + count_at W p n

abbrev pub start_place : Parts → ℕ → Option ℕ → Place
start_place W u None = place.Unborn
start_place W u (Some p) = place.Pool (pool_no p) (count_at W p u)

-- lives are numbered from 1, so 0 is not a life
abbrev pub first_life : Option ℕ → ℕ
first_life None = 0
first_life (Some p) = 1

abbrev pub start : Parts → State
start W = record {
  place = λ u. start_place W u (start_of W u);
  carried = λ u. record { position = 0; acc = 0; keys = replicate W.keys 0; home = home_from (start_of W u); output = [] };
  desk = λ u. record { life = first_life (start_of W u); cancel = false; migrate = None; migratable = not (is_sched (body_at W u)) };
  pool_next = λ p. count_at W p (length W.units);
  join_next = λ v. 0;
  object_next = λ x. 0;
  mutex = λ x. record { owner = None; number = 0 };
  eventual = λ x. None;
  future = λ x. record { filled = 0; value = 0 };
  rwlock = λ x. record { writer = None; counts = replicate (length W.units) 0; wishes = replicate (length W.units) wish.Read; number = 0 };
  stream = λ s. record { mark = Plain; top = frame_at (main_of W s) 0 false; below = [] };
}
