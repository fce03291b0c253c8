-- What holds of the adders in each state of a run.
use Rattle.std.proofs.Common.{◌≡◌, ◌≢◌, ℕ, zero, suc, ◌<◌, ◌≤◌, ◌+◌, ◌⊎◌, [], ◌∷◌, Some}
use Rattle.abt_machine.specs.declared.events.Piece.TheVariants as piece
use Rattle.abt_machine.specs.declared.events.Place.{Place}
use Rattle.abt_machine.specs.declared.events.Place.TheVariants as place
use Rattle.abt_machine.specs.declared.events.Spot.TheVariants as spot
use Rattle.abt_machine.specs.State.{Carried, Mutex}
use Rattle.abt_laws.proofs.Sums.{sum_up}
use Rattle.abt_adders.specs.Laws.{sum_to}

-- what its place says of a unit's program: it is unborn, goes on, is suspended, joins a unit, waits at an object or has ended
pub data Stage : Type 0 where
  Absent : Stage
  Active : Stage
  Sleeps : Stage
  Joins : ℕ → Stage
  Waits : ℕ → Stage
  Over : Stage

abbrev pub stage : Place → Stage
stage place.Unborn = Absent
stage (place.Pool p t) = Active
stage (place.Hand s) = Active
stage (place.Next s) = Active
stage (place.Tray s t) = Active
stage (place.Frame s d) = Active
stage (place.Blocked spot.Suspended t) = Sleeps
stage (place.Blocked (spot.Join v) t) = Joins v.0
stage (place.Blocked (spot.Object x) t) = Waits x.0
stage (place.Ended c) = Over

abbrev pub Mine : Mutex → ℕ → Type 0
Mine m u = m.owner ≡ Some u

abbrev pub NotMine : Mutex → ℕ → Type 0
NotMine m u = m.owner ≢ Some u

-- adder v, which goes on, at each position
abbrev pub AdderGoes : Mutex → ℕ → Carried → ℕ → Type 0
AdderGoes m v c zero = NotMine m v
AdderGoes m v c (suc zero) = NotMine m v
AdderGoes m v c (suc (suc zero)) = Mine m v
AdderGoes m v c (suc (suc (suc zero))) = Mine m v × (c.acc ≡ m.number)
AdderGoes m v c (suc (suc (suc (suc zero)))) = Mine m v × (c.acc ≡ m.number + v)
AdderGoes m v c (suc (suc (suc (suc (suc zero))))) = Mine m v
AdderGoes m v c (suc (suc (suc (suc (suc (suc zero)))))) = NotMine m v
AdderGoes m v c (suc (suc (suc (suc (suc (suc (suc k))))))) = ⊥

-- adder v, where unit 0 is at position p
abbrev pub AdderAt : ℕ → Mutex → ℕ → Carried → Stage → Type 0
AdderAt p m v c Absent = (p < v) × (c.position ≡ 0) × NotMine m v
AdderAt p m v c Active = (v ≤ p) × AdderGoes m v c c.position
AdderAt p m v c Sleeps = ⊥
AdderAt p m v c (Joins w) = ⊥
AdderAt p m v c (Waits x) = (v ≤ p) × (x ≡ 0) × (c.position ≡ 2) × NotMine m v
AdderAt p m v c Over = (v ≤ p) × (c.position ≡ 6) × NotMine m v

-- unit 0, which goes on, after its lock and j operations more
abbrev pub FirstEnds : ℕ → Mutex → Carried → ℕ → Type 0
FirstEnds n m c zero = Mine m 0 × (c.output ≡ [])
FirstEnds n m c (suc zero) = Mine m 0 × (c.output ≡ []) × (c.acc ≡ sum_to n)
FirstEnds n m c (suc (suc zero)) = Mine m 0 × (c.output ≡ piece.Number (sum_to n) ∷ [])
FirstEnds n m c (suc (suc (suc zero))) = NotMine m 0 × (c.output ≡ piece.Number (sum_to n) ∷ [])
FirstEnds n m c (suc (suc (suc (suc j)))) = ⊥

-- before its lock, or after it
abbrev pub FirstGoes : ℕ → Mutex → Carried → Type 0
FirstGoes n m c = ((c.position ≤ n + n) × NotMine m 0 × (c.output ≡ [])) ⊎ ((j : ℕ) × (c.position ≡ suc (n + n) + j) × FirstEnds n m c j)

abbrev pub FirstAt : ℕ → Mutex → Carried → Stage → Type 0
FirstAt n m c Absent = ⊥
FirstAt n m c Active = FirstGoes n m c
FirstAt n m c Sleeps = ⊥
FirstAt n m c (Joins v) = (0 < v) × (v ≤ n) × (c.position ≡ n + v) × NotMine m 0 × (c.output ≡ [])
FirstAt n m c (Waits x) = (x ≡ 0) × (c.position ≡ suc (n + n)) × NotMine m 0 × (c.output ≡ [])
FirstAt n m c Over = (c.position ≡ n + n + 4) × NotMine m 0 × (c.output ≡ piece.Number (sum_to n) ∷ [])

-- what adder v has stored by this position
abbrev pub stored : ℕ → ℕ → ℕ
stored v zero = 0
stored v (suc zero) = 0
stored v (suc (suc zero)) = 0
stored v (suc (suc (suc zero))) = 0
stored v (suc (suc (suc (suc zero)))) = 0
stored v (suc (suc (suc (suc (suc k))))) = v

-- what all adders have stored; unit 0 counts for nothing here
abbrev pub all_stored : ℕ → (ℕ → Carried) → ℕ
all_stored n c = sum_up (λ v. stored v (c v).position) (suc n)

-- the steps of all units
abbrev pub all_steps : ℕ → (ℕ → Carried) → ℕ
all_steps n c = sum_up (λ v. (c v).position) (suc n)

-- n adders, after t steps, with these stages, with this to carry and with this mutex
pub record Adding (n t : ℕ) (f : ℕ → Stage) (c : ℕ → Carried) (m : Mutex) : Type 0 where
  pub first : FirstAt n m (c 0) (f 0)
  pub adders : (v : ℕ) → 0 < v → v ≤ n → AdderAt (c 0).position m v (c v) (f v)
  -- whom unit 0 has joined has ended
  pub joined : (v : ℕ) → 0 < v → v ≤ n → n + v ≤ (c 0).position → (f 0 ≡ Joins v → ⊥) → f v ≡ Over
  pub owned : (v : ℕ) → Mine m v → v ≤ n
  pub silent : (v : ℕ) → 0 < v → (c v).output ≡ []
  pub number : m.number ≡ all_stored n c
  pub steps : t ≡ all_steps n c
