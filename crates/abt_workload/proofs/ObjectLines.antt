-- The lines of objects are taken.
use Rattle.std.proofs.Common.{◌≡◌, ◌<◌, ◌≤◌, ℕ, List, [], ◌∷◌, ◌++◌, ap, arith, length, refl}
use Rattle.std.proofs.lemmas.Bool.{le-ltb, lt-leb}
use Rattle.abt_machine.specs.declared.grammar.Form.{Form}
use Rattle.abt_machine.specs.declared.grammar.Form.TheVariants as form
use Rattle.abt_machine.specs.declared.grammar.Format.{Format}
use Rattle.abt_machine.specs.declared.grammar.Format.TheVariants as format
use Rattle.abt_machine.specs.declared.operations.Combine.TheVariants as combine
use Rattle.abt_machine.specs.declared.operations.Thing.{Thing}
use Rattle.abt_machine.specs.declared.operations.Thing.TheVariants as thing
use Rattle.abt_machine.specs.declared.workload.Parts.{Parts}
use Rattle.abt_machine.specs.Canonical.{object_line, thing_numbers, thing_word}
use Rattle.abt_machine.specs.Declaring.{Above, thing_with}
use Rattle.abt_machine.specs.Faults.{values}
use Rattle.abt_machine.specs.Forms.{combine_name, slots}
use Rattle.abt_machine.specs.Limits.{object_limit}
use Rattle.abt_machine.specs.Valid.{IsThing, IsValid}
use Rattle.abt_machine.specs.Words.{numbered}
use Rattle.abt_workload.proofs.Allowing.{Allows}
use Rattle.abt_workload.proofs.Filled.{IsWritten, blank, given, in-each, takes}
use Rattle.abt_workload.proofs.Fitting.{AreMet, IsSmall, all-fit}
use Rattle.abt_workload.proofs.Heads.{all_mains, placing}
use Rattle.abt_workload.proofs.InOrder.{front-shorter, get-front, get-here, placed-among, reached, section-taken}
use Rattle.abt_workload.proofs.Taking.{Takes, TakesAll, plain-word}

-- what is declared while objects are
abbrev below : Format → Parts → ℕ → List Thing → Above
below F W section objects = placing F section W.streams W.keys W.pools W.scheds (all_mains W) objects

-- an object's line is written of its form
written : (x : ℕ) (t : Thing) → IsWritten (blank (form.Object t)) (thing_word t) (x ∷ thing_numbers t) (object_line x t)
written x (thing.Future n combine.Sum) = record { words_are = refl; form_is = refl; skipped = refl; plain = refl; chosen = λ _. plain-word (combine_name combine.Sum) refl }
written x (thing.Future n combine.Max) = record { words_are = refl; form_is = refl; skipped = refl; plain = refl; chosen = λ _. plain-word (combine_name combine.Max) refl }
written x (thing.Future n combine.Count) = record { words_are = refl; form_is = refl; skipped = refl; plain = refl; chosen = λ _. plain-word (combine_name combine.Count) refl }
written x _ = record { words_are = refl; form_is = refl; skipped = refl; plain = refl; chosen = λ e. cc }

-- the numbers of a line are in order
met : (F : Format) (W : Parts) (section : ℕ) (front rest : List Thing) (t : Thing) → front ++ rest ≡ W.objects → IsThing W.objects (length front) t
    → AreMet (below F W section front) (given (slots (blank (form.Object t))) (length front ∷ thing_numbers t))
met F W section front rest (thing.Cond m) e h = (refl, get-front front rest W.objects m.0 thing.Mutex e h.0 h.1)
met F W section front rest (thing.Future n c) e h = let low = h.0 in let high = h.1 in (refl, (omega arith, high, omega arith))
met F W section front rest (thing.Barrier n) e h = let low = h.0 in let high = h.1 in (refl, (omega arith, high, omega arith))
met F W section front rest _ e h = refl

-- the line says the object
thing-again : (x : ℕ) (t : Thing) → thing_with (thing_with t [] []) (object_line x t) (values (given (slots (blank (form.Object t))) (x ∷ thing_numbers t))) ≡ t
thing-again x (thing.Future n combine.Sum) = refl
thing-again x (thing.Future n _) = refl
thing-again x _ = refl

-- the line of the next object is taken
object-taken : (F : Format) (W : Parts) → IsValid W → Allows F W → (section : ℕ) → section ≤ 7 → (front : List Thing) (t : Thing) (rest : List Thing) → front ++ t ∷ rest ≡ W.objects
    → Takes (below F W section front) (object_line (length front) t) (below F W 7 (front ++ t ∷ []))
object-taken F W v allows section le front t rest e =
    let a : Above = below F W section front in
    let x : ℕ = length front in
    let f : Form = blank (form.Object t) in
    let ns : List ℕ = x ∷ thing_numbers t in
    let lt : x < length W.objects = front-shorter front t rest W.objects e in
    let few : length W.objects ≤ object_limit F = allows.objects in
    let valid : length W.objects ≤ object_limit format.Three = v.few_objects in
    let h : IsThing W.objects x t = v.objects x t (get-here front t rest W.objects e) in
    let small : IsSmall a = record { streams = v.few_streams; keys = v.few_keys; pools = v.few_pools; scheds = v.few_scheds; objects = omega arith; units = omega arith } in
    takes a (below F W 7 (front ++ t ∷ [])) f (thing_word t) ns (object_line x t)
    (written x t)
    (in-each F f refl)
    (all-fit a small (given (slots f) ns) (met F W section front (t ∷ rest) t e h))
    record {
      version = refl;
      placed = placed-among a f le (omega arith) refl refl;
      once = le-ltb x x (omega arith);
      beyond = refl;
      limit = lt-leb (object_limit F) x (omega arith);
      task = refl;
      access = refl;
      early = refl;
    }
    (ap (λ (u : Thing). below F W 7 (front ++ u ∷ [])) (thing-again x t))

-- the lines of a workload's objects are taken
pub objects-taken : (F : Format) (W : Parts) → IsValid W → Allows F W → (section : ℕ) → section ≤ 7
    → TakesAll (below F W section []) (numbered object_line W.objects) (below F W (reached section 7 W.objects) W.objects)
objects-taken F W v allows section le = section-taken object_line (below F W) section 7 le W.objects (object-taken F W v allows)
