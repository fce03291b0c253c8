-- The lines of main schedulers are taken.
use Rattle.std.proofs.Common.{◌≡◌, ◌≢◌, ◌<◌, ◌≤◌, ◌∙◌, ◌==◌, ℕ, zero, suc, true, false, not, List, [], ◌∷◌, ◌++◌, Option, Some, None, ap, append_assoc, arith, flat_map, is_some, length, map, option_to_list, refl, replicate, slice_get, slice_set, subst, sym}
use Rattle.std.specs.List.{AllPairs, list_any}
use Rattle.std.specs.Option.{option_map_or}
use Rattle.std.proofs.lemmas.List.{append-nil, map-append}
use Rattle.abt_machine.specs.declared.grammar.Form.TheVariants as form
use Rattle.abt_machine.specs.declared.grammar.Format.{Format}
use Rattle.abt_machine.specs.declared.numbers.SchedNo.{SchedNo}
use Rattle.abt_machine.specs.declared.workload.Parts.{Parts}
use Rattle.abt_machine.specs.declared.workload.UnitPart.{UnitPart}
use Rattle.abt_machine.specs.Access.{may_take_all}
use Rattle.abt_machine.specs.Canonical.{stream_line}
use Rattle.abt_machine.specs.Declaring.{Above}
use Rattle.abt_machine.specs.Forms.{slots}
use Rattle.abt_machine.specs.Valid.{IsStream, IsValid, sched_in}
use Rattle.abt_machine.specs.Words.{numbered}
use Rattle.abt_machine.specs.Workloads.{main_from, main_of}
use Rattle.abt_workload.proofs.Filled.{given, in-each, takes}
use Rattle.abt_workload.proofs.Fitting.{IsSmall, all-fit}
use Rattle.abt_workload.proofs.Growing.{any-none}
use Rattle.abt_workload.proofs.Heads.{placing}
use Rattle.abt_workload.proofs.InOrder.{front-shorter, get-here, not-before, placed-among, reached, section-taken}
use Rattle.abt_workload.proofs.Places.{or-both}
use Rattle.abt_workload.proofs.Taking.{Takes, TakesAll}

-- Main schedulers.

-- the main schedulers of this many streams, if the first streams have these
abbrev pub mains_from : ℕ → List SchedNo → List (Option SchedNo)
mains_from n [] = replicate n None
mains_from zero (g ∷ gs) = Some g ∷ mains_from zero gs
mains_from (suc n) (g ∷ gs) = Some g ∷ mains_from n gs

-- the main schedulers of all streams
pub mains-full : (gs : List SchedNo) → mains_from (length gs) gs ≡ map (λ (g : SchedNo). Some g) gs
mains-full [] = refl
mains-full (g ∷ gs) = ap (λ (ms : List (Option SchedNo)). Some g ∷ ms) (mains-full gs)

-- the next stream gets its main scheduler
mains-and : (n : ℕ) (gs : List SchedNo) (g : SchedNo) → length gs < n → slice_set (mains_from n gs) (length gs) (Some g) ≡ mains_from n (gs ++ g ∷ [])
mains-and zero gs g lt = absurd (omega arith)
mains-and (suc n) [] g lt = refl
mains-and (suc n) (h ∷ gs) g lt = ap (λ (ms : List (Option SchedNo)). Some h ∷ ms) (mains-and n gs g (omega arith))

-- the main schedulers that are declared
mains-declared : (n : ℕ) (gs : List SchedNo) → flat_map option_to_list (mains_from n gs) ≡ gs
mains-declared n [] = any-none n
mains-declared zero (g ∷ gs) = ap (λ (hs : List SchedNo). g ∷ hs) (mains-declared zero gs)
mains-declared (suc n) (g ∷ gs) = ap (λ (hs : List SchedNo). g ∷ hs) (mains-declared n gs)

-- if no stream has a main scheduler, this one has none
none-at : (n s : ℕ) → option_map_or is_some (slice_get (let none : Option SchedNo = None in replicate n none) s) false ≡ false
none-at zero s = refl
none-at (suc n) zero = refl
none-at (suc n) (suc s) = none-at n s

-- the next stream has no main scheduler
no-main : (n : ℕ) (gs : List SchedNo) → option_map_or is_some (slice_get (mains_from n gs) (length gs)) false ≡ false
no-main n [] = none-at n 0
no-main zero (g ∷ gs) = no-main zero gs
no-main (suc n) (g ∷ gs) = no-main n gs

-- Places.

-- schedulers by their numbers
abbrev numbers_of_scheds : List SchedNo → List ℕ
numbers_of_scheds = map (λ (g : SchedNo). g.0)

-- the main scheduler of the next stream has no place yet
unplaced : (n : ℕ) (front : List SchedNo) (g : SchedNo) (rest : List SchedNo) (more : List ℕ) → AllPairs (λ x y. x ≢ y) (numbers_of_scheds (front ++ g ∷ rest) ++ more)
    → list_any (λ h. h == g.0) (numbers_of_scheds (flat_map option_to_list (mains_from n front)) ++ []) ≡ false
unplaced n front g rest more h =
    let declared : numbers_of_scheds (flat_map option_to_list (mains_from n front)) ++ [] ≡ numbers_of_scheds front =
    append-nil _ ∙ ap numbers_of_scheds (mains-declared n front) in
    let parted : numbers_of_scheds (front ++ g ∷ rest) ++ more ≡ numbers_of_scheds front ++ g.0 ∷ (numbers_of_scheds rest ++ more) =
    ap (λ (ns : List ℕ). ns ++ more) (map-append (λ (h : SchedNo). h.0) front (g ∷ rest))
    ∙ append_assoc (numbers_of_scheds front) (numbers_of_scheds (g ∷ rest)) more in
    ap (list_any (λ m. m == g.0)) declared
    ∙ not-before (numbers_of_scheds front) g.0 (numbers_of_scheds rest ++ more) (subst (λ (ns : List ℕ). AllPairs (λ x y. x ≢ y) ns) parted h)

-- Lines.

-- what is declared while main schedulers are
abbrev below : Format → Parts → ℕ → List SchedNo → Above
below F W section mains = placing F section W.streams W.keys W.pools W.scheds (mains_from W.streams mains) []

-- the line of the next stream is taken
stream-taken : (F : Format) (W : Parts) → IsValid W → (section : ℕ) → section ≤ 6 → (front : List SchedNo) (g : SchedNo) (rest : List SchedNo) → front ++ g ∷ rest ≡ W.mains
    → Takes (below F W section front) (stream_line (length front) g) (below F W 6 (front ++ g ∷ []))
stream-taken F W v section le front g rest e =
    let a : Above = below F W section front in
    let s : ℕ = length front in
    let lt : s < length W.mains = front-shorter front g rest W.mains e in
    let count : length W.mains ≡ W.streams = v.mains in
    let within : s < W.streams = omega arith in
    let is : main_of W s ≡ g.0 = ap main_from (get-here front g rest W.mains e) in
    let stream : IsStream W s = v.streams s within in
    let there : g.0 < length W.scheds = subst (λ n. n < length W.scheds) is stream.main in
    let taking : may_take_all W s g.0 ≡ true = subst (λ n. may_take_all W s n ≡ true) is stream.takes in
    let more : List ℕ = flat_map (λ (part : UnitPart). sched_in part.body) W.units in
    let places : AllPairs (λ x y. x ≢ y) (numbers_of_scheds (front ++ g ∷ rest) ++ more) =
    subst (λ (gs : List SchedNo). AllPairs (λ x y. x ≢ y) (numbers_of_scheds gs ++ more)) (sym e) v.one_place in
    let small : IsSmall a = record { streams = v.few_streams; keys = v.few_keys; pools = v.few_pools; scheds = v.few_scheds; objects = omega arith; units = omega arith } in
    takes a (below F W 6 (front ++ g ∷ [])) form.Stream [] (s ∷ g.0 ∷ []) (stream_line s g)
    record { words_are = refl; form_is = refl; skipped = refl; plain = refl; chosen = λ e. cc }
    (in-each F form.Stream refl)
    (all-fit a small (given (slots form.Stream) (s ∷ g.0 ∷ [])) (within, there))
    record {
      version = refl;
      placed = placed-among a form.Stream le (omega arith) refl refl;
      once = or-both _ _ (no-main W.streams front) (unplaced W.streams front g rest more places);
      beyond = refl;
      limit = refl;
      task = refl;
      access = ap not taking;
      early = refl;
    }
    (ap (λ (ms : List (Option SchedNo)). placing F 6 W.streams W.keys W.pools W.scheds ms []) (mains-and W.streams front g within))

-- the lines of a workload's main schedulers are taken
pub streams-taken : (F : Format) (W : Parts) → IsValid W → (section : ℕ) → section ≤ 6
    → TakesAll (below F W section []) (numbered stream_line W.mains) (below F W (reached section 6 W.mains) W.mains)
streams-taken F W v section le = section-taken stream_line (below F W) section 6 le W.mains (stream-taken F W v)
