-- Each schedule of streams has a run, and if nothing is free just one.
use Rattle.std.proofs.Common.{◌≡◌, ℕ, ◌<◌, List, [], ◌∷◌, refl, ap, sym, ◌∙◌, subst}
use Rattle.std.specs.List.{AllByRecursion}
use Rattle.abt_machine.specs.declared.events.Event.{Event}
use Rattle.abt_machine.specs.declared.events.What.{What}
use Rattle.abt_machine.specs.Stored.{Stored}
use Rattle.abt_machine.specs.declared.workload.Parts.{Parts}
use Rattle.abt_machine.specs.Numbers.{stream_no}
use Rattle.abt_machine.specs.State.{State}
use Rattle.abt_machine.specs.Start.{start}
use Rattle.abt_machine.specs.Valid.{IsValid}
use Rattle.abt_machine.specs.Rounds.{OrdersStored}
use Rattle.abt_machine.specs.Events.{May, after}
use Rattle.abt_machine.specs.Runs.{RunFrom}
use Rattle.abt_machine.specs.Sound.{Sound}
use Rattle.abt_laws.proofs.SoundRuns.{events-keep-sound}
use Rattle.abt_laws.proofs.SoundStart.{start-is-sound}
use Rattle.abt_bounds.proofs.Choosing.{one-next}
use Rattle.abt_bounds.proofs.Coming.{some-next}
use Rattle.abt_bounds.specs.Laws.{HasNoFree, NothingWider, OneRunOfTurns, SomeRunOfTurns, turns}

abbrev made : ℕ → ℕ → What → Event
made t s w = record { stamp = t; stream = stream_no s; what = w }

abbrev turn_of : Event → ℕ × ℕ
turn_of e = (e.stamp, e.stream.0)

head-is : {a b : ℕ × ℕ} {xs ys : List (ℕ × ℕ)} → a ∷ xs ≡ b ∷ ys → a ≡ b
head-is e = cc

tail-is : {a b : ℕ × ℕ} {xs ys : List (ℕ × ℕ)} → a ∷ xs ≡ b ∷ ys → xs ≡ ys
tail-is e = cc

module _ (W : Parts) (Z : Stored) (valid : IsValid W) (stored : OrdersStored W Z.orders) where
  pub keeps : (S : State) (s : ℕ) (w : What) → Sound W Z S → s < W.streams → May W Z S s w → Sound W Z (after W S s w)
  keeps S s w sound declared may = events-keep-sound W Z valid stored S (after W S s w) (made 0 s w) sound (declared, may, refl)

  -- events of one turn in one state
  same-event : (S : State) (e f : Event) → HasNoFree W Z → Sound W Z S → May W Z S e.stream.0 e.what → May W Z S f.stream.0 f.what → turn_of e ≡ turn_of f → e ≡ f
  same-event S e f none sound m n same =
      let stream : e.stream.0 ≡ f.stream.0 = ap (λ (t : ℕ × ℕ). t.1) same in
      let whats : e.what ≡ f.what = one-next W Z none S f.stream.0 e.what f.what sound (subst (λ s. May W Z S s e.what) stream m) n in
      ap (λ (t : ℕ × ℕ). made t.0 t.1 e.what) same ∙ ap (made f.stamp f.stream.0) whats

  one-from : (S : State) (J K : List Event) → HasNoFree W Z → Sound W Z S → RunFrom W Z S J → RunFrom W Z S K → turns J ≡ turns K → J ≡ K
  one-from S [] [] none sound run other same = refl
  one-from S [] (f ∷ fs) none sound run other same = cc
  one-from S (e ∷ es) [] none sound run other same = cc
  one-from S (e ∷ es) (f ∷ fs) none sound run other same =
      let first : e ≡ f = same-event S e f none sound run.1 other.1 (head-is same) in
      let rest : es ≡ fs =
      one-from (after W S e.stream.0 e.what) es fs none (keeps S e.stream.0 e.what sound run.0 run.1) run.2
      (subst (λ (g : Event). RunFrom W Z (after W S g.stream.0 g.what) fs) (sym first) other.2) (tail-is same) in
      ap (λ x. x ∷ es) first ∙ ap (λ xs. f ∷ xs) rest

  some-from : (S : State) (ts : List (ℕ × ℕ)) → Sound W Z S → AllByRecursion (λ (t : ℕ × ℕ). t.1 < W.streams) ts → (J : List Event) × RunFrom W Z S J × (turns J ≡ ts)
  some-from S [] sound declared = ([], tt, refl)
  some-from S (t ∷ ts) sound declared =
      let is : (w : What) × May W Z S t.1 w = some-next W Z S t.1 sound declared.0 in
      let rest : (J : List Event) × RunFrom W Z (after W S t.1 is.0) J × (turns J ≡ ts) = some-from (after W S t.1 is.0) ts (keeps S t.1 is.0 sound declared.0 is.1) declared.1 in
      (made t.0 t.1 is.0 ∷ rest.0, (declared.0, is.1, rest.1), ap (λ us. t ∷ us) rest.2)

pub one-run-of-turns : (W : Parts) (Z : Stored) → OneRunOfTurns W Z
one-run-of-turns W Z valid stored none J K run other same = one-from W Z valid stored (start W) J K none (start-is-sound W Z valid stored) run other same

pub some-run-of-turns : (W : Parts) (Z : Stored) → SomeRunOfTurns W Z
some-run-of-turns W Z valid stored ts declared = some-from W Z valid stored (start W) ts (start-is-sound W Z valid stored) declared

-- a relation that May is within, and that has one event at most, has no other than May
pub nothing-wider : (W : Parts) (Z : Stored) → NothingWider W Z
nothing-wider W Z wide wider one S s w sound declared is_wide =
    let is : (v : What) × May W Z S s v = some-next W Z S s sound declared in
    subst (May W Z S s) (one S s is.0 w sound (wider S s is.0 is.1) is_wide) is.1
