-- What contracts see of a scheduler, and when it is one of a workload.
use Rattle.std.specs.Prelude.{ℕ, ◌≡◌, ◌<◌, ◌%◌, ⊤, List, [], ◌∷◌, length, map, Option, Some, None, IfSome, option_map}
use Rattle.std.specs.Global.{Vec}
use Rattle.std.specs.declared.snapshot.Snapshot.{Snapshot}
use Rattle.abt_machine.specs.declared.numbers.PoolNo.{PoolNo}
use Rattle.abt_machine.specs.declared.operations.Rule.{Rule}
use Rattle.abt_machine.specs.declared.operations.Rule.TheVariants as rule
use Rattle.abt_machine.specs.declared.workload.Parts.{Parts}
use Rattle.abt_machine.specs.Rounds.{IsOrder, generator_at, turned}
use Rattle.abt_machine.specs.Workloads.{pools_of, rule_of}
use Rattle.rand_pcg.specs.Lcg.{Lcg}

-- pools as their numbers
abbrev pub pool_numbers : List PoolNo → List ℕ
pool_numbers = map (λ (p : PoolNo). p.0)

-- the list that a snapshot remembers
abbrev pub list_of : Option (Snapshot (Vec PoolNo)) → Option (List PoolNo)
list_of = option_map (λ (list : Snapshot (Vec PoolNo)). list.value.items)

-- a scheduler's number, the number of its next round, the generator of its words, if its rule draws some, and the list of all
-- its rounds, if its rule leaves them one and a round has made it
pub record SchedulerValue : Type 0 where
  pub number : ℕ
  pub round : ℕ
  pub words : Option Lcg
  pub fixed : Option (List PoolNo)

-- the pools from which a word chooses: all but the first, turned so that the chosen one stands first
abbrev pub chosen_by : ℕ → List ℕ → List ℕ
chosen_by word [] = []
chosen_by word (p ∷ []) = p ∷ []
chosen_by word (p ∷ q ∷ ps) = p ∷ turned (word % length (q ∷ ps)) (q ∷ ps)

-- how many words were drawn before a round: one in each if there is a choice among the pools
abbrev pub words_drawn : List ℕ → ℕ → ℕ
words_drawn [] round = 0
words_drawn (p ∷ []) round = 0
words_drawn (p ∷ q ∷ ps) round = round

-- the generator that a rule has before a round
abbrev pub words_by : Option Rule → List ℕ → ℕ → ℕ → Option Lcg
words_by None ps g round = None
words_by (Some rule.Basic) ps g round = None
words_by (Some rule.Prio) ps g round = None
words_by (Some (rule.Randws seed)) ps g round = Some (generator_at seed g (words_drawn ps round))
words_by (Some (rule.User k)) ps g round = None

-- the generator of scheduler g before a round
abbrev pub words_before : Parts → ℕ → ℕ → Option Lcg
words_before W g round = words_by (rule_of W g) (pools_of W g) g round

-- the rules that leave all rounds of a scheduler one list
abbrev pub IsFixedRule : Option Rule → Type 0
IsFixedRule None = ⊥
IsFixedRule (Some rule.Basic) = ⊤
IsFixedRule (Some rule.Prio) = ⊤
IsFixedRule (Some (rule.Randws seed)) = ⊥
IsFixedRule (Some (rule.User k)) = ⊥

-- the list of all rounds of scheduler g, whose rule leaves them one: that of round 0, with no stored order
pub record IsFixed (W : Parts) (g : ℕ) (list : List ℕ) : Type 0 where
  pub rule : IsFixedRule (rule_of W g)
  pub order : IsOrder W [] g 0 list

-- a scheduler that W declares, with the words of its rounds so far behind it; a list that it remembers is that of all its rounds
pub record IsSchedulerOf (W : Parts) (s : SchedulerValue) : Type 0 where
  pub declared : s.number < length W.scheds
  pub words : s.words ≡ words_before W s.number s.round
  pub fixed : IfSome s.fixed (λ list. IsFixed W s.number (pool_numbers list))

-- scheduler g names no stored order from number count on
abbrev pub IsStored : Parts → ℕ → ℕ → Type 0
IsStored W g count = (k : ℕ) → rule_of W g ≡ Some (rule.User k) → k < count
