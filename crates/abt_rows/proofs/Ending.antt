-- How a run ended, computed with the proof.
use Rattle.std.proofs.Common.{ℕ, zero, suc, ◌≡◌, ◌<◌, ◌≤◌, List, [], ◌∷◌, length, Option, Some, None, refl, sym, subst, ◌∙◌, arith, inl, inr}
use Rattle.std.specs.Prelude.{All, false, ◌==◌}
use Rattle.std.proofs.lemmas.Bool.{cases_lt, ne_eqb}
use Rattle.std.proofs.lemmas.List.Elements.{All-contains}
use Rattle.std.proofs.lemmas.Option.{slice_get_past}
use Rattle.abt_machine.specs.declared.events.Event.{Event}
use Rattle.abt_machine.specs.declared.events.Outcome.{Outcome}
use Rattle.abt_machine.specs.declared.events.Outcome.TheVariants as outcome
use Rattle.abt_machine.specs.declared.events.Place.{Place}
use Rattle.abt_machine.specs.declared.events.Place.TheVariants as place
use Rattle.abt_machine.specs.declared.workload.Parts.{Parts}
use Rattle.abt_machine.specs.Events.{change, after}
use Rattle.abt_machine.specs.Lines.{standing, InPool, InTray, InHand, InNext}
use Rattle.abt_machine.specs.Maps.{put_at, put_all}
use Rattle.abt_machine.specs.Next.{Due, due, StepDue}
use Rattle.abt_machine.specs.Outcomes.{Quiet, IsOver, AllEnded, EndsAs, Spent, steps_of}
use Rattle.abt_machine.specs.Runs.{state_after, last_state}
use Rattle.abt_machine.specs.Start.{start}
use Rattle.abt_machine.specs.State.{State}
use Rattle.abt_machine.specs.Workloads.{main_of, pools_of}
use Rattle.abt_rows.proofs.Deciding.{all, each_below, either, given, is_less, same}

-- Quiet.

abbrev nothing_in : {A : Type 0} (xs : List A) → Option (xs ≡ [])
nothing_in [] = Some refl
nothing_in (x ∷ xs) = None

-- nothing stands in the lines of stream s, nor in its main scheduler's pools
pub record IsQuiet (W : Parts) (S : State) (s : ℕ) : Type 0 where
  pub tray : standing W S (InTray s) ≡ []
  pub next : standing W S (InNext s) ≡ []
  pub hand : standing W S (InHand s) ≡ []
  pub frames : (S.stream s).below ≡ []
  pub pools : All (λ p. standing W S (InPool p) ≡ []) (pools_of W (main_of W s))

abbrev is_quiet : (W : Parts) (S : State) (s : ℕ) → Option (IsQuiet W S s)
is_quiet W S s =
    given (nothing_in (standing W S (InTray s))) (λ tray.
    given (nothing_in (standing W S (InNext s))) (λ next.
    given (nothing_in (standing W S (InHand s))) (λ hand.
    given (nothing_in (S.stream s).below) (λ frames.
    given (all (λ p. standing W S (InPool p) ≡ []) (λ p. nothing_in (standing W S (InPool p))) (pools_of W (main_of W s))) (λ pools.
    Some (record { tray = tray; next = next; hand = hand; frames = frames; pools = pools }))))))

pub quiet-together : (W : Parts) (S : State) → ((s : ℕ) → s < W.streams → IsQuiet W S s) → Quiet W S
quiet-together W S still = record {
  trays = λ s lt. (still s lt).tray;
  nexts = λ s lt. (still s lt).next;
  hands = λ s lt. (still s lt).hand;
  frames = λ s lt. (still s lt).frames;
  pools = λ s p lt at. All-contains (λ q. standing W S (InPool q) ≡ []) (pools_of W (main_of W s)) p (still s lt).pools at;
}

-- whether each stream is quiet
abbrev quiet : (W : Parts) (S : State) → Option (Quiet W S)
quiet W S = given (each_below (IsQuiet W S) (is_quiet W S) W.streams) (λ still. Some (quiet-together W S still))

-- All units over, or not.

abbrev over : (q : Place) → Option (IsOver q)
over place.Unborn = Some tt
over (place.Ended c) = Some tt
over _ = None

abbrev not_over : (q : Place) → Option (IsOver q → ⊥)
not_over place.Unborn = None
not_over (place.Ended c) = None
not_over (place.Pool p t) = Some (λ h. h)
not_over (place.Hand s) = Some (λ h. h)
not_over (place.Next s) = Some (λ h. h)
not_over (place.Tray s t) = Some (λ h. h)
not_over (place.Frame s d) = Some (λ h. h)
not_over (place.Blocked x t) = Some (λ h. h)

-- a map that is changed below n alone, is the same from n on
pub elsewhere : {A : Type 0} (f : ℕ → A) (ps : List (ℕ × A)) (n u : ℕ) → All (λ (p : ℕ × A). p.0 < n) ps → n ≤ u → put_all f ps u ≡ f u
elsewhere f [] n u below le = refl
elsewhere f (p ∷ ps) n u below le =
    let less : p.0 < n = below 0 p (omega arith) in
    let other : (u == p.0) ≡ false = ne_eqb _ _ (omega arith) in
    let here : put_at f p.0 p.1 u ≡ f u = rw other refl in
    elsewhere (put_at f p.0 p.1) ps n u (λ k d lt. below (suc k) d (omega (arith, lt))) le ∙ here

-- whether undeclared units stay where they are
abbrev undeclared_stay : (W : Parts) (S : State) (J : List Event) → Option ((u : ℕ) → length W.units ≤ u → (state_after W S J).place u ≡ S.place u)
undeclared_stay W S [] = Some (λ u le. refl)
undeclared_stay W S (e ∷ es) =
    given (all (λ (m : ℕ × Place). m.0 < length W.units) (λ m. is_less m.0 (length W.units)) (change W S e.stream.0 e.what).moves) (λ below.
    given (undeclared_stay W (after W S e.stream.0 e.what) es) (λ rest.
    Some (λ u le. rest u le ∙ elsewhere S.place (change W S e.stream.0 e.what).moves (length W.units) u below le)))

pub ended : (W : Parts) (J : List Event) → ((u : ℕ) → u < length W.units → IsOver ((last_state W J).place u)) →
    ((u : ℕ) → length W.units ≤ u → (last_state W J).place u ≡ (start W).place u) → AllEnded (last_state W J)
ended W J declared stay u = elim (cases_lt u (length W.units)) [
  | inl below ↦ declared u below
  | inr from ↦
      let unborn : (start W).place u ≡ place.Unborn = rw (slice_get_past W.units u from) refl in
      subst IsOver (sym (stay u from ∙ unborn)) tt
]

-- whether each unit is over
abbrev all_ended : (W : Parts) (J : List Event) → Option (AllEnded (last_state W J))
all_ended W J =
    given (each_below (λ u. IsOver ((last_state W J).place u)) (λ u. over ((last_state W J).place u)) (length W.units)) (λ declared.
    given (undeclared_stay W (start W) J) (λ stay. Some (ended W J declared stay)))

-- whether one of the units below n isn't over
abbrev one_waits : (S : State) (n : ℕ) → Option (AllEnded S → ⊥)
one_waits S zero = None
one_waits S (suc n) = either (given (not_over (S.place n)) (λ waits. Some (λ every. waits (every n)))) (one_waits S n)

-- Spent.

abbrev step_by : (W : Parts) (S : State) (d : Due) → due W S 0 ≡ d → Option (due W S 0 ≡ StepDue)
step_by W S StepDue e = Some e
step_by W S _ e = None

pub none-before : (W : Parts) (n : ℕ) (J : List Event) (r : ℕ) → r < 0 → Spent W n J r → ⊥
none-before W n J r below h = omega (arith, below)

-- whether stream s is the first that is spent; only stream 0 is looked at
abbrev first_spent : (W : Parts) (n : ℕ) (J : List Event) (s : ℕ) → Option (Spent W n J s × ((r : ℕ) → r < s → Spent W n J r → ⊥))
first_spent W n J zero =
    given (is_less 0 W.streams) (λ some.
    given (same (steps_of 0 J) n) (λ steps.
    given (step_by W (last_state W J) (due W (last_state W J) 0) refl) (λ step. Some ((some, steps, step), none-before W n J))))
first_spent W n J (suc s) = None

-- whether a journal ended so; only stream 0 is looked at for a budget
abbrev pub ending : (W : Parts) (n : ℕ) (J : List Event) (o : Outcome) → Option (EndsAs W n J o)
ending W n J outcome.Finished = given (quiet W (last_state W J)) (λ still. given (all_ended W J) (λ every. Some (still, every)))
ending W n J outcome.Stuck = given (quiet W (last_state W J)) (λ still. given (one_waits (last_state W J) (length W.units)) (λ waits. Some (still, waits)))
ending W n J (outcome.Budget s) = first_spent W n J s.0
