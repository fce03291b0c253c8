-- Every event of a run names declared things.
use Rattle.std.proofs.Common.{ℕ, suc, ◌<◌, ◌≤◌, ◌^◌, ◌%◌, ◌-◌, List, [], ◌∷◌, length, Contains, Option, Some, None, refl, sym, subst, arith}
use Rattle.std.specs.List.{AllByRecursion}
use Rattle.std.proofs.lemmas.List.Elements.{All-contains}
use Rattle.abt_machine.specs.declared.events.Event.{Event}
use Rattle.abt_machine.specs.declared.events.Place.TheVariants as place
use Rattle.abt_machine.specs.declared.events.What.{What}
use Rattle.abt_machine.specs.declared.events.What.TheVariants as what
use Rattle.abt_machine.specs.declared.grammar.Format.TheVariants as format
use Rattle.abt_machine.specs.declared.operations.Op.{Op}
use Rattle.abt_machine.specs.declared.operations.Op.TheVariants as op
use Rattle.abt_machine.specs.Stored.{Stored, IsReturned, Returns}
use Rattle.abt_machine.specs.declared.workload.Parts.{Parts}
use Rattle.abt_machine.specs.Events.{May, after}
use Rattle.abt_machine.specs.Limits.{pool_limit, stream_limit, unit_limit, unit_operation_limit}
use Rattle.abt_machine.specs.Lines.{InHand, InNext, InTray}
use Rattle.abt_machine.specs.Numbers.{stream_no}
use Rattle.abt_machine.specs.Rounds.{IsNextPool, OrdersStored}
use Rattle.abt_machine.specs.Runs.{Run, RunFrom}
use Rattle.abt_machine.specs.Sound.{Sound}
use Rattle.abt_machine.specs.Stamps.{Stamped}
use Rattle.abt_machine.specs.Start.{start}
use Rattle.abt_machine.specs.State.{State, Carried, Frame}
use Rattle.abt_machine.specs.Valid.{IsValid}
use Rattle.abt_machine.specs.Workloads.{body_at, op_at, ops_of, pools_of}
use Rattle.abt_machine.proofs.Declared.{few-unit-ops, listed-declared}
use Rattle.abt_laws.proofs.Lists.{EachOf}
use Rattle.abt_laws.proofs.Orders.{next_pool-listed}
use Rattle.abt_laws.proofs.SoundStart.{start-is-sound}
use Rattle.abt_laws.proofs.SoundSteps.{stepping}
use Rattle.abt_laws.proofs.Standing.{first-stands, front-stands, is-declared}
use Rattle.abt_bounds.proofs.Accesses.{each-at}
use Rattle.abt_bounds.proofs.JournalTexts.{journal-texts-differ}
use Rattle.abt_bounds.proofs.Stamping.{stamps-fit-length}
use Rattle.abt_bounds.proofs.Turns.{keeps}
use Rattle.abt_bounds.specs.Laws.{IsWritten, NamesDeclared, RunTextsDiffer, RunsNameDeclared, what_numbers}

-- Events.

-- the next pool of a round is declared
next-declared : (W : Parts) (Z : Stored) (f : Frame) (p : ℕ) → IsValid W → IsNextPool W Z.orders f p → p < length W.pools
next-declared W Z f p valid next =
    All-contains (λ q. q < length W.pools) (pools_of W f.sched) p (listed-declared W f.sched valid) (next_pool-listed W Z f p next)

below : (m : ℕ) → m % 2 ^ 64 < 2 ^ 64
below m = omega arith

-- what a call returned is a word
is-word : (o : Option ℕ) (n : ℕ) → IsReturned o n → n < 2 ^ 64
is-word None n h = h
is-word (Some m) n h = subst (λ i. i < 2 ^ 64) (sym h) (below m)

returned-word : (Z : Stored) (o : Option Op) (u : ℕ) (c : Carried) (n : ℕ) → Returns Z o u c n → n < 2 ^ 64
returned-word Z (Some (op.Call f)) u c n h = is-word (Z.returns f u c.acc c.keys) n h
returned-word Z None u c n h = absurd h
returned-word Z (Some o) u c n h = absurd h

names : (W : Parts) (Z : Stored) (S : State) (s : ℕ) (w : What) → IsValid W → Sound W Z S → s < W.streams → May W Z S s w → NamesDeclared W w
names W Z S s (what.Miss p) valid sound declared may = next-declared W Z (S.stream s).top p.0 valid may.2
names W Z S s (what.Take p u) valid sound declared may = (next-declared W Z (S.stream s).top p.0 valid may.2, (front-stands W S s p.0 u.0 may.1).declared)
names W Z S s (what.Look u) valid sound declared may = (first-stands W S (InNext s) u.0 may.1).declared
names W Z S s (what.Step u k c) valid sound declared may =
    ((first-stands W S (InHand s) u.0 may.1).declared, subst (λ n. n < length (ops_of (body_at W u.0))) may.2 (stepping W Z S s u.0 sound declared may.0 may.1).position)
names W Z S s (what.Call u k n) valid sound declared may = (
  (first-stands W S (InHand s) u.0 may.1).declared,
  subst (λ i. i < length (ops_of (body_at W u.0))) may.2 (stepping W Z S s u.0 sound declared may.0 may.1).position,
  returned-word Z (op_at W u.0 k) u.0 (S.carried u.0) n may.3,
)
names W Z S s (what.Put u p) valid sound declared may = ((first-stands W S (InTray s) u.0 may.1).declared, subst (λ q. q < length W.pools) may.2 (sound.homes u.0))
names W Z S s (what.End u c) valid sound declared may = (first-stands W S (InHand s) u.0 may.1).declared
names W Z S s (what.Enter u) valid sound declared may = (first-stands W S (InHand s) u.0 may.1).declared
names W Z S s (what.Leave u) valid sound declared may = is-declared W S sound.undeclared u.0 (place.Frame (stream_no s) (length (S.stream s).below - 1)) may.1 (λ e. cc)

-- Runs.

abbrev IsNamed : Parts → Event → Type 0
IsNamed W e = (e.stream.0 < W.streams) × NamesDeclared W e.what

along : (W : Parts) (Z : Stored) (S : State) (es : List Event) → IsValid W → OrdersStored W Z.orders → Sound W Z S → RunFrom W Z S es → EachOf (IsNamed W) es
along W Z S [] valid stored sound run = tt
along W Z S (e ∷ es) valid stored sound run = (
  (run.0, names W Z S e.stream.0 e.what valid sound run.0 run.1),
  along W Z (after W S e.stream.0 e.what) es valid stored (keeps W Z valid stored S e.stream.0 e.what sound run.0 run.1) run.2,
)

pub runs-name-declared : (W : Parts) (Z : Stored) → RunsNameDeclared W Z
runs-name-declared W Z valid stored J e run has =
    subst (IsNamed W) has.2 (each-at (IsNamed W) J has.0 e (along W Z (start W) J valid stored (start-is-sound W Z valid stored) run) has.1)

-- Texts.

few-pools : (W : Parts) (p : ℕ) → IsValid W → p < length W.pools → p < 10 ^ 64
few-pools W p valid l = let few : length W.pools ≤ pool_limit format.Three = valid.few_pools in omega arith

few-units : (W : Parts) (u : ℕ) → IsValid W → u < length W.units → u < 10 ^ 64
few-units W u valid l = let few : length W.units ≤ unit_limit format.Three = valid.few_units in omega arith

few-ops : (W : Parts) (u k : ℕ) → IsValid W → u < length W.units → k < length (ops_of (body_at W u)) → k < 10 ^ 64
few-ops W u k valid declared l =
    let few : length (ops_of (body_at W u)) ≤ unit_operation_limit format.Three = few-unit-ops W u valid in omega arith

what-written : (W : Parts) (w : What) → IsValid W → NamesDeclared W w → AllByRecursion (λ n. n < 10 ^ 64) (what_numbers w)
what-written W (what.Miss p) valid h = (few-pools W p.0 valid h, tt)
what-written W (what.Take p u) valid h = (few-pools W p.0 valid h.0, (few-units W u.0 valid h.1, tt))
what-written W (what.Look u) valid h = (few-units W u.0 valid h, tt)
what-written W (what.Step u k c) valid h = (few-units W u.0 valid h.0, (few-ops W u.0 k valid h.0 h.1, tt))
what-written W (what.Call u k n) valid h = (few-units W u.0 valid h.0, (few-ops W u.0 k valid h.0 h.1, (let l : n < 2 ^ 64 = h.2 in omega arith, tt)))
what-written W (what.Put u p) valid h = (few-units W u.0 valid h.0, (few-pools W p.0 valid h.1, tt))
what-written W (what.End u c) valid h = (few-units W u.0 valid h, tt)
what-written W (what.Enter u) valid h = (few-units W u.0 valid h, tt)
what-written W (what.Leave u) valid h = (few-units W u.0 valid h, tt)

event-written : (W : Parts) (e : Event) (n : ℕ) → IsValid W → IsNamed W e → e.stamp ≤ n → n < 10 ^ 64 → IsWritten e
event-written W e n valid named few short =
    let few_streams : W.streams ≤ stream_limit format.Three = valid.few_streams in
    let declared : e.stream.0 < W.streams = named.0 in
    let stamp : e.stamp < 10 ^ 64 = omega arith in
    let stream : e.stream.0 < 10 ^ 64 = omega arith in (stamp, (stream, what-written W e.what valid named.1))

-- each event of a list, of which each has what is said of those that it contains
each-contained : {A : Type 0} (P : A → Type 0) (xs : List A) → ((x : A) → Contains xs x → P x) → AllByRecursion P xs
each-contained P [] h = tt
each-contained P (x ∷ xs) h = (h x (0, omega arith, refl), each-contained P xs (λ y has. h y (suc has.0, (let l : has.0 < length xs = has.1 in omega arith), has.2)))

run-written : (W : Parts) (Z : Stored) (J : List Event) → IsValid W → OrdersStored W Z.orders → Run W Z J → Stamped W J → length J < 10 ^ 64 → AllByRecursion IsWritten J
run-written W Z J valid stored run stamped short =
    each-contained IsWritten J (λ e has. event-written W e (length J) valid (runs-name-declared W Z valid stored J e run has) (stamps-fit-length W J e stamped has) short)

pub run-texts-differ : (W : Parts) (Z : Stored) → RunTextsDiffer W Z
run-texts-differ W Z valid stored J K run other stamped also short brief same =
    journal-texts-differ J K (run-written W Z J valid stored run stamped short) (run-written W Z K valid stored other also brief) same
