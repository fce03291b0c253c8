-- What a future is left with, when workers have set numbers on it.
use Rattle.std.specs.Prelude.{◌≡◌, ℕ, ◌+◌, ◌*◌, ◌/◌, ◌%◌, ◌<◌, ◌==◌, Bool, true, false, List, map, Some}
use Rattle.std.specs.List.{All, count_by, filter, range_with_len}
use Rattle.abt_interleave.specs.declared.entries.Entry.{Entry}
use Rattle.abt_interleave.specs.Histories.{last_stamp, Legal, entry_stamps}
use Rattle.booth_caller.specs.Calling.{acts_of}
use Rattle.abt_callbacks.specs.declared.fold.FoldShape.{FoldShape}
use Rattle.abt_callbacks.specs.declared.acts.FutureAct.{FutureAct}
use Rattle.abt_callbacks.specs.declared.acts.FutureAct.TheVariants.{Set}
use Rattle.abt_callbacks.specs.declared.acts.FutureAnswer.{FutureAnswer}
use Rattle.abt_callbacks.specs.declared.acts.FutureAnswer.TheVariants.{Kept, Ready, Vacant, Full}
use Rattle.abt_callbacks.specs.Futures.{Does, CalledFutureValue, empty}

-- the numbers of one worker: those from 1 to n whose remainder is the worker's number, rising
abbrev pub numbers_for : ℕ → ℕ → ℕ → List ℕ
numbers_for workers n worker = filter (λ v. v % workers == worker) (range_with_len 1 n)

-- the acts by which it sets them
abbrev pub sets_of : ℕ → ℕ → ℕ → List FutureAct
sets_of workers n worker = map Set (numbers_for workers n worker)

-- the answer is the fold's
abbrev pub is_ready : FutureAnswer → Bool
is_ready Kept = false
is_ready (Ready r) = true
is_ready Vacant = false
is_ready Full = false

-- the sum of the numbers from 1 to n
abbrev pub plain_sum : ℕ → ℕ
plain_sum n = n * (n + 1) / 2

-- One legal history leads from the empty future of this fold to this one: each worker set its numbers, each once, in order, and nothing else was asked;
-- exactly one set was answered with the fold's answer; and the future keeps the plain sum.
pub record IsFolded {F : Type 0} (shape_of : F → FoldShape) (May : F → List ℕ → ℕ → Type 0) (fold : F) (workers n : ℕ) (future : CalledFutureValue F) (clock : ℕ) : Type 0 where
  pub history : List (Entry FutureAct FutureAnswer)
  pub legal : Legal (Does shape_of May) (empty fold n) history future
  pub last : clock ≡ last_stamp (entry_stamps history)
  pub of_workers : All (λ e. e.caller < workers) history
  pub sets : (worker : ℕ) → worker < workers → acts_of worker history ≡ sets_of workers n worker
  pub once : count_by (λ e. is_ready e.answer) history ≡ 1
  pub kept : future.answer ≡ Some (plain_sum n)
