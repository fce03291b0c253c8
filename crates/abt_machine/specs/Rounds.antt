-- In which order a scheduler visits its pools, round by round.
use Rattle.std.specs.Prelude.{ℕ, zero, suc, ◌≡◌, ◌<◌, ◌%◌, ◌==◌, List, [], ◌∷◌, ◌++◌, filter, reverse, take, drop, length, Option, Some, None, slice_get, IsPermutation}
use Rattle.abt_machine.specs.declared.operations.Access.{Access}
use Rattle.abt_machine.specs.declared.operations.Access.TheVariants as access
use Rattle.abt_machine.specs.declared.operations.OrderShape.{OrderShape}
use Rattle.abt_machine.specs.declared.operations.OrderShape.TheVariants as shape
use Rattle.abt_machine.specs.declared.operations.Rule.{Rule}
use Rattle.abt_machine.specs.declared.operations.Rule.TheVariants as rule
use Rattle.abt_machine.specs.declared.workload.Parts.{Parts}
use Rattle.abt_machine.specs.Workloads.{access_of, pools_of, rule_of}
use Rattle.abt_machine.specs.State.{Frame}
use Rattle.rand_pcg.specs.Lcg.{Lcg, started, increment_of}
use Rattle.rand_pcg.specs.Pcg.{pcg32, multiplier_64}

-- BASIC visits by class of access: first what one stream has alone, then what one stream takes from, then the rest
abbrev pub class_of : Access → ℕ
class_of (access.Priv a) = 0
class_of (access.Spsc a b) = 1
class_of (access.Mpsc b) = 1
class_of (access.Spmc a) = 2
class_of access.Mpmc = 2

abbrev pub of_class : Parts → ℕ → List ℕ → List ℕ
of_class W c ps = filter (λ p. class_of (access_of W p) == c) ps

-- the list from place k on, and then its first k
abbrev pub turned : {A : Type 0} → ℕ → List A → List A
turned k ps = drop k ps ++ take k ps

-- the generator of scheduler g with this seed, after n words
abbrev pub generator_at : ℕ → ℕ → ℕ → Lcg
generator_at seed g zero = started 64 multiplier_64 seed (increment_of 64 g)
generator_at seed g (suc n) = (pcg32 (generator_at seed g n)).1

-- word n of the generator, counted from 0 (PCG32, O'Neill 2014)
abbrev pub word_at : ℕ → ℕ → ℕ → ℕ
word_at seed g n = (pcg32 (generator_at seed g n)).0

-- RANDWS visits its first pool first, then the others cyclically from one that the round's word chooses; of one pool no word is drawn
abbrev pub stolen : ℕ → ℕ → ℕ → List ℕ → List ℕ
stolen seed g r [] = []
stolen seed g r (p ∷ []) = p ∷ []
stolen seed g r (p ∷ q ∷ ps) = p ∷ turned (word_at seed g r % length (q ∷ ps)) (q ∷ ps)

-- place i of a rotated list of n has place (r + i) mod n of the list
abbrev pub rotated : ℕ → List ℕ → List ℕ
rotated r [] = []
rotated r (p ∷ ps) = turned (r % length (p ∷ ps)) (p ∷ ps)

-- the lists that a round may visit: one alone, any order of the pools, or none
pub data Choice : Type 0 where
  Only : List ℕ → Choice
  AnyOrder : Choice
  NoOrder : Choice

-- a user's order, by the shape of the stored order that its number names
abbrev pub shaped : Option OrderShape → ℕ → List ℕ → Choice
shaped (Some shape.Rotate) r ps = Only (rotated r ps)
shaped (Some shape.Mirror) r ps = Only (reverse ps)
shaped (Some shape.Free) r ps = AnyOrder
shaped None r ps = NoOrder

abbrev pub choice_by : Parts → List OrderShape → ℕ → ℕ → Option Rule → List ℕ → Choice
choice_by W Z g r (Some rule.Basic) ps = Only ((of_class W 0 ps ++ of_class W 1 ps) ++ of_class W 2 ps)
choice_by W Z g r (Some rule.Prio) ps = Only ps
choice_by W Z g r (Some (rule.Randws seed)) ps = Only (stolen seed g r ps)
choice_by W Z g r (Some (rule.User k)) ps = shaped (slice_get Z k) r ps
choice_by W Z g r None ps = NoOrder

-- what round r of scheduler g may visit, Z being the shapes of the stored orders
abbrev pub choice_of : Parts → List OrderShape → ℕ → ℕ → Choice
choice_of W Z g r = choice_by W Z g r (rule_of W g) (pools_of W g)

-- a round of these pools may visit them in this order
abbrev pub IsChosen : Choice → List ℕ → List ℕ → Type 0
IsChosen (Only one) ps order = order ≡ one
IsChosen AnyOrder ps order = IsPermutation ps order
IsChosen NoOrder ps order = ⊥

-- a list that round r of scheduler g may visit
abbrev pub IsOrder : Parts → List OrderShape → ℕ → ℕ → List ℕ → Type 0
IsOrder W Z g r order = IsChosen (choice_of W Z g r) (pools_of W g) order

-- the second list begins with the first
abbrev pub IsPrefixOf : List ℕ → List ℕ → Type 0
IsPrefixOf xs ys = (rest : List ℕ) × (xs ++ rest ≡ ys)

-- p may be the next pool of the frame's round
abbrev pub IsNextPool : Parts → List OrderShape → Frame → ℕ → Type 0
IsNextPool W Z f p = (order : List ℕ) × IsOrder W Z f.sched f.round order × IsPrefixOf (f.seen ++ p ∷ []) order

-- each user scheduler names a stored order
abbrev pub OrdersStored : Parts → List OrderShape → Type 0
OrdersStored W Z = (g k : ℕ) → rule_of W g ≡ Some (rule.User k) → k < length Z
