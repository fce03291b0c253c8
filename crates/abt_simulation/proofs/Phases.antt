-- A desk's value, and where its unit is, by its place.
use Rattle.std.proofs.Common.{◌≡◌, ℕ, ◌==◌, Bool, true, false, List, Option, Some, None, refl, sym, ◌∙◌, ap}
use Rattle.std.proofs.lemmas.Bool.{eq-eqb, false≢true}
use Rattle.std.specs.Prelude.{◌&&◌, if◌then◌else◌, option_map}
use Rattle.abt_machine.specs.declared.events.Place.{Place}
use Rattle.abt_machine.specs.declared.events.Place.TheVariants as place
use Rattle.abt_machine.specs.declared.events.Spot.TheVariants as spot
use Rattle.abt_machine.specs.Stored.{Stored}
use Rattle.abt_machine.specs.declared.workload.Parts.{Parts}
use Rattle.abt_machine.specs.Workloads.{body_at, is_sched}
use Rattle.abt_machine.specs.State.{State, Desk}
use Rattle.abt_machine.specs.Lines.{Joining}
use Rattle.abt_machine.specs.Codes.{is_unborn, is_ended, is_alive, is_suspended}
use Rattle.abt_machine.specs.Values.{Owned, owned_at, owned_in, Phase, phase_at, desk_value}
use Rattle.abt_machine.specs.Desks.{unborn_in, suspended_in, ended_in, has_ended, is_living, is_out, takes_back}
use Rattle.abt_laws.proofs.Options.{none≢some, some-injective}
use Rattle.abt_laws.proofs.Places.{line_of}
use Rattle.abt_simulation.proofs.Acting.{IsActing}

-- a desk's value, by its phase, its joiners and its requests
pub desk-is : (W : Parts) (T : State) (v : ℕ) (phase : Phase) (joiners : List Owned) (d : Desk) → phase_at (owned_at T v) (T.place v) ≡ phase → owned_in W T (Joining v) ≡ joiners → T.desk v ≡ d →
    desk_value W T v ≡ record { number = v; sched = is_sched (body_at W v); phase = phase; joiners = joiners; cancel = d.cancel; migrate = d.migrate; migratable = d.migratable }
desk-is W T v phase joiners d p j e = λ i. record { number = v; sched = is_sched (body_at W v); phase = p i; joiners = j i; cancel = (e i).cancel; migrate = (e i).migrate; migratable = (e i).migratable }

-- a desk takes back its own unit, if it is in a hand
pub takes-own : (W : Parts) (Z : Stored) (S : State) (s : ℕ) (o : Owned) → IsActing W Z S s o.number → takes_back (desk_value W S o.number) o ≡ true
takes-own W Z S s o acts = ap (λ pl. is_out (phase_at (owned_at S o.number) pl) && o.number == o.number) acts.in_hand ∙ eq-eqb o.number o.number refl

-- the unit if the test holds
abbrev pub if_so : Bool → Owned → Option Owned
if_so b o = if b then Some o else None

-- whether it lives
pub living-at : (o : Owned) (pl : Place) → is_living (phase_at o pl) ≡ is_alive pl
living-at o (place.Blocked spot.Suspended t) = refl
living-at o _ = refl

-- whether it has ended
pub ended-at : (o : Owned) (pl : Place) → has_ended (phase_at o pl) ≡ is_ended pl
ended-at o (place.Blocked spot.Suspended t) = refl
ended-at o _ = refl

-- it is at its desk, unborn
pub unborn_in-at : (o : Owned) (pl : Place) → unborn_in (phase_at o pl) ≡ if_so (is_unborn pl) o
unborn_in-at o (place.Blocked spot.Suspended t) = refl
unborn_in-at o _ = refl

-- suspended
pub suspended_in-at : (o : Owned) (pl : Place) → suspended_in (phase_at o pl) ≡ if_so (is_suspended pl) o
suspended_in-at o (place.Blocked spot.Suspended t) = refl
suspended_in-at o _ = refl

-- ended
pub ended_in-at : (o : Owned) (pl : Place) → ended_in (phase_at o pl) ≡ if_so (is_ended pl) o
ended_in-at o (place.Blocked spot.Suspended t) = refl
ended_in-at o _ = refl

-- Units that such a test finds.

-- it is not found if the test fails
pub so-none : (b : Bool) (o : Owned) → if_so b o ≡ None → b ≡ false
so-none true o e = absurd (none≢some (sym e))
so-none false o e = refl

-- it is found if the test holds, and this is made of it
pub so-mapped : (f : Owned → Owned) (b : Bool) (o p : Owned) → option_map f (if_so b o) ≡ Some p → (b ≡ true) × (f o ≡ p)
so-mapped f true o p e = (refl, some-injective e)
so-mapped f false o p e = absurd (none≢some e)

-- They stand in no line.

-- an unborn unit
pub unborn-nowhere : (pl : Place) → is_unborn pl ≡ true → line_of pl ≡ None
unborn-nowhere place.Unborn e = refl
unborn-nowhere _ e = absurd (false≢true e)

-- an ended one
pub ended-nowhere : (pl : Place) → is_ended pl ≡ true → line_of pl ≡ None
ended-nowhere (place.Ended c) e = refl
ended-nowhere _ e = absurd (false≢true e)

-- a suspended one
pub suspended-nowhere : (pl : Place) → is_suspended pl ≡ true → line_of pl ≡ None
suspended-nowhere (place.Blocked spot.Suspended t) e = refl
suspended-nowhere _ e = absurd (false≢true e)
