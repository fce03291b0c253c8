-- The lines before the units are taken.
use Rattle.std.proofs.Common.{◌≡◌, ◌<◌, ◌≤◌, ◌∙◌, ◌==◌, ℕ, zero, suc, true, false, List, [], ◌∷◌, ◌++◌, Option, Some, ap, arith, is_none, length, map, refl, subst, sym}
use Rattle.std.specs.List.{list_any}
use Rattle.std.proofs.lemmas.Bool.{ne_eqb}
use Rattle.abt_machine.specs.declared.grammar.Form.TheVariants as form
use Rattle.abt_machine.specs.declared.grammar.Format.{Format}
use Rattle.abt_machine.specs.declared.grammar.Format.TheVariants as format
use Rattle.abt_machine.specs.declared.grammar.Number.TheVariants as number
use Rattle.abt_machine.specs.declared.numbers.SchedNo.{SchedNo}
use Rattle.abt_machine.specs.declared.workload.Parts.{Parts}
use Rattle.abt_machine.specs.Canonical.{form_words, keys_lines, object_line, pool_line, sched_line, stream_line, units_words}
use Rattle.abt_machine.specs.Declaring.{Above, nothing}
use Rattle.abt_machine.specs.Limits.{key_limit, stream_limit}
use Rattle.abt_machine.specs.Valid.{IsValid}
use Rattle.abt_machine.specs.Words.{Text, numbered}
use Rattle.abt_workload.proofs.Allowing.{Allows}
use Rattle.abt_workload.proofs.Filled.{in-each, takes}
use Rattle.abt_workload.proofs.Fitting.{IsSmall, fit, fit-within}
use Rattle.abt_workload.proofs.Heads.{all_mains, head, head_lines, placing}
use Rattle.abt_workload.proofs.InOrder.{placed-alone, reached, reached-le}
use Rattle.abt_workload.proofs.ObjectLines.{objects-taken}
use Rattle.abt_workload.proofs.Places.{or-both}
use Rattle.abt_workload.proofs.PoolLines.{pooling, pools-taken}
use Rattle.abt_workload.proofs.SchedLines.{scheduling, scheds-taken}
use Rattle.abt_workload.proofs.StreamLines.{mains-full, mains_from, streams-taken}
use Rattle.abt_workload.proofs.Taking.{Takes, TakesAll, takes-append}

-- Lines of sections that have one line.

-- what the version's line declares
abbrev versioned : Format → Above
versioned F = record nothing { begun = true; format = F; section = 1 }

-- the version's line
version-taken : (F : Format) → Takes nothing (form_words (form.Version F) [] []) (versioned F)
version-taken format.One =
    takes nothing (versioned format.One) (form.Version format.One) [] [] (form_words (form.Version format.One) [] [])
    record { words_are = refl; form_is = refl; skipped = refl; plain = refl; chosen = λ e. cc }
    refl
    tt
    record { version = refl; placed = refl; once = refl; beyond = refl; limit = refl; task = refl; access = refl; early = refl }
    refl
version-taken format.Two =
    takes nothing (versioned format.Two) (form.Version format.Two) [] [] (form_words (form.Version format.Two) [] [])
    record { words_are = refl; form_is = refl; skipped = refl; plain = refl; chosen = λ e. cc }
    refl
    tt
    record { version = refl; placed = refl; once = refl; beyond = refl; limit = refl; task = refl; access = refl; early = refl }
    refl
version-taken format.Three =
    takes nothing (versioned format.Three) (form.Version format.Three) [] [] (form_words (form.Version format.Three) [] [])
    record { words_are = refl; form_is = refl; skipped = refl; plain = refl; chosen = λ e. cc }
    refl
    tt
    record { version = refl; placed = refl; once = refl; beyond = refl; limit = refl; task = refl; access = refl; early = refl }
    refl

-- nothing but streams is declared below their number, and no more than a workload may have
below-small : (F : Format) (n : ℕ) → IsSmall (versioned F)
below-small F n = record { streams = omega arith; keys = omega arith; pools = omega arith; scheds = omega arith; objects = omega arith; units = omega arith }

-- the line of the number of streams
count-taken : (F : Format) (n : ℕ) → 0 < n → n ≤ stream_limit F → Takes (versioned F) (form_words form.Streams [] (n ∷ [])) (pooling F 2 n 0 [])
count-taken F n some few =
    takes (versioned F) (pooling F 2 n 0 []) form.Streams [] (n ∷ []) (form_words form.Streams [] (n ∷ []))
    record { words_are = refl; form_is = refl; skipped = refl; plain = refl; chosen = λ e. cc }
    (in-each F form.Streams refl)
    (fit (versioned F) (below-small F n) number.StreamCount n (omega arith, few), tt)
    record { version = refl; placed = refl; once = refl; beyond = refl; limit = refl; task = refl; access = refl; early = refl }
    refl

-- the section before the pools
abbrev keys_section : ℕ → ℕ
keys_section zero = 2
keys_section (suc k) = 3

-- it is not past that of the pools
keys-low : (k : ℕ) → keys_section k ≤ 4
keys-low zero = omega arith
keys-low (suc k) = omega arith

-- the line of the number of keys, where there are some
keys-taken : (F : Format) (n k : ℕ) → k ≤ key_limit → TakesAll (pooling F 2 n 0 []) (keys_lines k) (pooling F (keys_section k) n k [])
keys-taken F n zero few = refl
keys-taken F n (suc k) few = (pooling F 3 n (suc k) [], line, refl)
  where
    line : Takes (pooling F 2 n 0 []) (form_words form.Keys [] (suc k ∷ [])) (pooling F 3 n (suc k) [])
    line =
        takes (pooling F 2 n 0 []) (pooling F 3 n (suc k) []) form.Keys [] (suc k ∷ []) (form_words form.Keys [] (suc k ∷ []))
        record { words_are = refl; form_is = refl; skipped = refl; plain = refl; chosen = λ e. cc }
        (in-each F form.Keys refl)
        (fit-within (pooling F 2 n 0 []) 0 key_limit (suc k) (omega arith) few (omega arith), tt)
        record { version = refl; placed = refl; once = refl; beyond = refl; limit = refl; task = refl; access = refl; early = refl }
        refl

-- each stream has a main scheduler
all-some : (gs : List SchedNo) → list_any is_none (map (λ (g : SchedNo). Some g) gs) ≡ false
all-some [] = refl
all-some (g ∷ gs) = all-some gs

-- All lines.

module _ (F : Format) (W : Parts) (v : IsValid W) (allows : Allows F W) where
  -- What is declared below the lines of each section, and which section they reached.

  -- below the number of streams
  abbrev below_count : Above
  below_count = pooling F 2 W.streams 0 []

  -- the section below the pools
  abbrev pools_reached : ℕ
  pools_reached = reached (keys_section W.keys) 4 W.pools

  -- below the pools
  abbrev below_pools : Above
  below_pools = pooling F pools_reached W.streams W.keys W.pools

  -- it is not past that of pools
  pools-low : pools_reached ≤ 4
  pools-low = reached-le (keys_section W.keys) 4 W.pools (keys-low W.keys)

  -- the section below the schedulers
  abbrev scheds_reached : ℕ
  scheds_reached = reached pools_reached 5 W.scheds

  -- below the schedulers
  abbrev below_scheds : Above
  below_scheds = scheduling F scheds_reached W.streams W.keys W.pools W.scheds

  -- it is not past that of schedulers
  scheds-low : scheds_reached ≤ 5
  scheds-low = let le = pools-low in reached-le pools_reached 5 W.scheds (omega arith)

  -- the section below the streams
  abbrev mains_reached : ℕ
  mains_reached = reached scheds_reached 6 W.mains

  -- below the streams
  abbrev below_mains : Above
  below_mains = placing F mains_reached W.streams W.keys W.pools W.scheds (all_mains W) []

  -- it is not past that of streams
  mains-low : mains_reached ≤ 6
  mains-low = let le = scheds-low in reached-le scheds_reached 6 W.mains (omega arith)

  -- the section below the objects
  abbrev objects_reached : ℕ
  objects_reached = reached mains_reached 7 W.objects

  -- below the objects
  abbrev below_objects : Above
  below_objects = placing F objects_reached W.streams W.keys W.pools W.scheds (all_mains W) W.objects

  -- it is not past that of objects
  objects-low : objects_reached ≤ 7
  objects-low = let le = mains-low in reached-le mains_reached 7 W.objects (omega arith)

  -- The lines from the keys on.

  -- the lines from the keys to the pools
  abbrev up_to_pools : List (List Text)
  up_to_pools = keys_lines W.keys ++ numbered pool_line W.pools

  -- those from the keys to the schedulers
  abbrev up_to_scheds : List (List Text)
  up_to_scheds = up_to_pools ++ numbered sched_line W.scheds

  -- those from the keys to the streams
  abbrev up_to_mains : List (List Text)
  up_to_mains = up_to_scheds ++ numbered stream_line W.mains

  -- those from the keys to the objects
  abbrev up_to_objects : List (List Text)
  up_to_objects = up_to_mains ++ numbered object_line W.objects

  -- the lines to the pools are taken
  pools-from : TakesAll below_count up_to_pools below_pools
  pools-from =
      takes-append below_count (pooling F (keys_section W.keys) W.streams W.keys []) below_pools (keys_lines W.keys) (numbered pool_line W.pools)
      (keys-taken F W.streams W.keys v.few_keys) (pools-taken F W v allows (keys_section W.keys) (keys-low W.keys))

  -- the lines to the schedulers are taken
  scheds-from : TakesAll below_count up_to_scheds below_scheds
  scheds-from =
      takes-append below_count below_pools below_scheds up_to_pools (numbered sched_line W.scheds)
      pools-from (scheds-taken F W v allows pools_reached (let le = pools-low in omega arith))

  -- all streams have their main schedulers then
  mains-all : mains_from W.streams W.mains ≡ all_mains W
  mains-all = ap (λ (n : ℕ). mains_from n W.mains) (sym v.mains) ∙ mains-full W.mains

  -- the lines of streams are taken
  stream-lines : TakesAll below_scheds (numbered stream_line W.mains) below_mains
  stream-lines =
      subst (λ (ms : List (Option SchedNo)). TakesAll below_scheds (numbered stream_line W.mains) (placing F mains_reached W.streams W.keys W.pools W.scheds ms []))
      mains-all (streams-taken F W v scheds_reached (let le = scheds-low in omega arith))

  -- the lines to the streams are taken
  streams-from : TakesAll below_count up_to_mains below_mains
  streams-from = takes-append below_count below_scheds below_mains up_to_scheds (numbered stream_line W.mains) scheds-from stream-lines

  -- the lines to the objects are taken
  objects-from : TakesAll below_count up_to_objects below_objects
  objects-from =
      takes-append below_count below_mains below_objects up_to_mains (numbered object_line W.objects)
      streams-from (objects-taken F W v allows mains_reached (let le = mains-low in omega arith))

  -- the line of the number of units
  units-taken : Takes below_objects (units_words W) (head F W)
  units-taken =
      let low : objects_reached ≤ 7 = objects-low in
      let small : IsSmall below_objects = record { streams = v.few_streams; keys = v.few_keys; pools = v.few_pools; scheds = v.few_scheds; objects = v.few_objects; units = omega arith } in
      let some : 0 < length W.pools = v.some_pool in
      takes below_objects (head F W) form.Units [] (length W.units ∷ []) (units_words W)
      record { words_are = refl; form_is = refl; skipped = refl; plain = refl; chosen = λ e. cc }
      (in-each F form.Units refl)
      (fit below_objects small number.UnitCount (length W.units) allows.few_units, tt)
      record {
        version = refl;
        placed = placed-alone below_objects form.Units (omega arith) (omega arith) refl;
        once = refl;
        beyond = refl;
        limit = refl;
        task = refl;
        access = refl;
        early = or-both (length W.pools == 0) _ (ne_eqb (length W.pools) 0 (λ e. omega (arith, e))) (all-some W.mains);
      }
      refl

  -- the lines before the units are taken, and declare all but the units
  pub head-taken : TakesAll nothing (head_lines F W) (head F W)
  head-taken =
      let rest = takes-append below_count below_objects (head F W) up_to_objects (units_words W ∷ []) objects-from (head F W, units-taken, refl) in
      (versioned F, version-taken F, (below_count, count-taken F W.streams v.some_stream allows.streams, rest))
