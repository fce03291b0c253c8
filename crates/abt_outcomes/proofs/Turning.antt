-- Rotations by misses alone leave nothing to do.
use Rattle.std.proofs.Common.{◌≡◌, ℕ, ◌<◌, true, List, [], ◌∷◌, length, Contains, get_or, refl, ap, sym, ◌∙◌, subst, inl, inr}
use Rattle.std.proofs.lemmas.List.Elements.{Contains-get_or}
use Rattle.abt_machine.specs.declared.events.Event.{Event}
use Rattle.abt_machine.specs.declared.events.What.{What}
use Rattle.abt_machine.specs.declared.events.What.TheVariants as what
use Rattle.abt_machine.specs.declared.numbers.PoolNo.{PoolNo}
use Rattle.abt_machine.specs.declared.numbers.StreamNo.{StreamNo}
use Rattle.abt_machine.specs.Stored.{Stored}
use Rattle.abt_machine.specs.declared.workload.Parts.{Parts}
use Rattle.abt_machine.specs.Numbers.{pool_no}
use Rattle.abt_machine.specs.Workloads.{main_of, pools_of}
use Rattle.abt_machine.specs.Valid.{IsValid, IsStream}
use Rattle.abt_machine.specs.Rounds.{OrdersStored}
use Rattle.abt_machine.specs.Queues.{queue}
use Rattle.abt_machine.specs.State.{State}
use Rattle.abt_machine.specs.Lines.{Line, InPool, InTray, InHand, InNext, standing, ticket_in}
use Rattle.abt_machine.specs.Next.{RoundDue}
use Rattle.abt_machine.specs.Events.{May, after}
use Rattle.abt_machine.specs.Runs.{RunFrom, state_after}
use Rattle.abt_machine.specs.Sound.{Sound}
use Rattle.abt_machine.proofs.Declared.{some-listed}
use Rattle.abt_laws.specs.Laws.{AllMisses, IsMiss}
use Rattle.abt_laws.proofs.Dues.{due-no_tray, due-no_next, due-no_hand}
use Rattle.abt_laws.proofs.Quiet.{miss-stacks-none}
use Rattle.abt_laws.proofs.SoundRuns.{events-keep-sound}
use Rattle.abt_laws.proofs.Standing.{empty-standing}
use Rattle.abt_outcomes.specs.Laws.{MissesEnd, MissedRotationsEnd}
use Rattle.abt_outcomes.specs.Rotations.{EndsEmpty, HasEmptied, HasMissed}
use Rattle.abt_outcomes.proofs.Emptied.{IsQuietAt, SeenEmpty, fresh-empty, main-round-quiet, missed-empty, quiet-at-stays, quiet-everywhere, seen-after-miss}

stays-quiet : (W : Parts) (S : State) (s : ℕ) (es : List Event) → AllMisses es → IsQuietAt W S s → IsQuietAt W (state_after W S es) s
stays-quiet W S s [] misses at = at
stays-quiet W S s (e ∷ es) misses at = stays-quiet W (after W S e.stream.0 e.what) s es misses.1 (quiet-at-stays W S s e.stream.0 e.what misses.0 at)

-- Whole rounds.

-- a miss that ends the round of a main scheduler empty
ends-quiet : (W : Parts) (Z : Stored) (S : State) (s : ℕ) (e : Event) → e.stream.0 < W.streams → Sound W Z S → May W Z S e.stream.0 e.what → (S.stream s).below ≡ [] → SeenEmpty W S s →
    EndsEmpty s e (after W S e.stream.0 e.what) → IsQuietAt W (after W S e.stream.0 e.what) s
ends-quiet W Z S s e declared sound may alone seen ends =
    let T : State = after W S e.stream.0 e.what in
    let below : (T.stream e.stream.0).below ≡ [] = miss-stacks-none W S e.stream.0 e.stream.0 e.what ends.1 ∙ (ap (λ r. (S.stream r).below) ends.0 ∙ alone) in
    let empty : (T.stream e.stream.0).top.empty ≡ true = ap (λ r. (T.stream r).top.empty) ends.0 ∙ ends.2 in
    subst (IsQuietAt W T) ends.0 (main-round-quiet W Z S e.stream.0 e.what declared sound may (subst (SeenEmpty W S) (sym ends.0) seen) ends.1 below empty)

emptied-quiet : (W : Parts) (Z : Stored) (S : State) (s : ℕ) (es : List Event) → IsValid W → OrdersStored W Z.orders → Sound W Z S → RunFrom W Z S es → AllMisses es → (S.stream s).below ≡ [] →
    SeenEmpty W S s →
    HasEmptied W s S es → IsQuietAt W (state_after W S es) s
emptied-quiet W Z S s [] valid stored sound run misses alone seen emptied = absurd emptied
emptied-quiet W Z S s (e ∷ es) valid stored sound run misses alone seen emptied =
    let T : State = after W S e.stream.0 e.what in
    elim emptied [
      | inl now ↦ stays-quiet W T s es misses.1 (ends-quiet W Z S s e run.0 sound run.1 alone seen now)
      | inr later ↦
          emptied-quiet W Z T s es valid stored (events-keep-sound W Z valid stored S T e sound (run.0, run.1, refl)) run.2 misses.1
          (miss-stacks-none W S s e.stream.0 e.what misses.0 ∙ alone) (seen-after-miss W Z S s e.stream.0 e.what misses.0 run.1 seen) later
    ]

pub missed-rotations-end : (W : Parts) (Z : Stored) → MissedRotationsEnd W Z
missed-rotations-end W Z valid stored S es sound run misses alone rotation =
    quiet-everywhere W (state_after W S es) (λ s l.
    emptied-quiet W Z S s es valid stored sound run misses (alone s l) (fresh-empty W S s (rotation.fresh s l)) (rotation.emptied s l))

-- Pools that were missed.

-- a stream that misses holds nothing
record IsIdleAt (W : Parts) (S : State) (s : ℕ) : Type 0 where
  tray : standing W S (InTray s) ≡ []
  next : standing W S (InNext s) ≡ []
  hand : standing W S (InHand s) ≡ []

miss-idle : (W : Parts) (Z : Stored) (S : State) (s : ℕ) (p : PoolNo) → Sound W Z S → May W Z S s (what.Miss p) → IsIdleAt W S s
miss-idle W Z S s p sound may = record {
  tray = empty-standing W S (InTray s) (due-no_tray W S s sound.undeclared RoundDue may.0 tt);
  next = empty-standing W S (InNext s) (due-no_next W S s sound.undeclared RoundDue may.0 tt);
  hand = empty-standing W S (InHand s) (due-no_hand W S s sound.undeclared RoundDue may.0 tt);
}

-- misses move nobody
miss-moves-none : (W : Parts) (S : State) (s : ℕ) (w : What) → IsMiss w → (after W S s w).place ≡ S.place
miss-moves-none W S s (what.Miss p) miss = refl
miss-moves-none W S s _ miss = absurd miss

misses-move-none : (W : Parts) (S : State) (es : List Event) → AllMisses es → (state_after W S es).place ≡ S.place
misses-move-none W S [] misses = refl
misses-move-none W S (e ∷ es) misses = misses-move-none W (after W S e.stream.0 e.what) es misses.1 ∙ miss-moves-none W S e.stream.0 e.what misses.0

standing-same : (W : Parts) (S T : State) (l : Line) → T.place ≡ S.place → standing W T l ≡ standing W S l
standing-same W S T l e = ap (λ f. queue (λ u. ticket_in l (f u)) (length W.units)) e

idle-before : (W : Parts) (S T : State) (s : ℕ) → T.place ≡ S.place → IsIdleAt W T s → IsIdleAt W S s
idle-before W S T s e idle = record {
  tray = sym (standing-same W S T (InTray s) e) ∙ idle.tray;
  next = sym (standing-same W S T (InNext s) e) ∙ idle.next;
  hand = sym (standing-same W S T (InHand s) e) ∙ idle.hand;
}

-- if stream s missed pool p, with misses alone before, it holds nothing at first, and the pool is empty
missed-shows : (W : Parts) (Z : Stored) (S : State) (s p : ℕ) (es : List Event) → IsValid W → OrdersStored W Z.orders → Sound W Z S → RunFrom W Z S es → AllMisses es → HasMissed s p es →
    IsIdleAt W S s × (standing W S (InPool p) ≡ [])
missed-shows W Z S s p [] valid stored sound run misses has = absurd has
missed-shows W Z S s p (e ∷ es) valid stored sound run misses has =
    let T : State = after W S e.stream.0 e.what in
    elim has [
      | inl now ↦
          let missed : May W Z S e.stream.0 (what.Miss (pool_no p)) = subst (May W Z S e.stream.0) now.1 run.1 in
          let own : May W Z S s (what.Miss (pool_no p)) = subst (λ (r : StreamNo). May W Z S r.0 (what.Miss (pool_no p))) now.0 missed in
          (miss-idle W Z S s (pool_no p) sound own, missed-empty W S s p own.1)
      | inr later ↦
          let same : T.place ≡ S.place = miss-moves-none W S e.stream.0 e.what misses.0 in
          let shows : IsIdleAt W T s × (standing W T (InPool p) ≡ []) =
          missed-shows W Z T s p es valid stored (events-keep-sound W Z valid stored S T e sound (run.0, run.1, refl)) run.2 misses.1 later in
          (idle-before W S T s same shows.0, sym (standing-same W S T (InPool p) same) ∙ shows.1)
    ]

-- the main scheduler of a stream lists a pool
lists-some : (W : Parts) (s : ℕ) → IsValid W → s < W.streams → (p : ℕ) × Contains (pools_of W (main_of W s)) p
lists-some W s valid l =
    let stream : IsStream W s = valid.streams s l in
    (get_or (pools_of W (main_of W s)) 0 0, Contains-get_or (pools_of W (main_of W s)) 0 0 (some-listed W (main_of W s) valid stream.main))

pub misses-end : (W : Parts) (Z : Stored) → MissesEnd W Z
misses-end W Z valid stored S es sound run misses alone missed =
    quiet-everywhere W (state_after W S es) (λ s l.
    let some : (p : ℕ) × Contains (pools_of W (main_of W s)) p = lists-some W s valid l in
    let idle : IsIdleAt W S s = (missed-shows W Z S s some.0 es valid stored sound run misses (missed s some.0 l some.1)).0 in
    let at : IsQuietAt W S s = record {
      tray = idle.tray;
      next = idle.next;
      hand = idle.hand;
      frames = alone s l;
      pools = λ p listed. (missed-shows W Z S s p es valid stored sound run misses (missed s p l listed)).1;
    } in
    stays-quiet W S s es misses at)
