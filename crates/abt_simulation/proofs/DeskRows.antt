-- Operations at a desk. Unit u, in the hand of stream s, makes the step.
use Rattle.std.proofs.Common.{◌≡◌, ◌≢◌, ℕ, suc, ◌<◌, Bool, true, false, [], ◌∷◌, ◌++◌, length, Option, Some, None, refl, sym, ◌∙◌, ap, subst, inl, inr}
use Rattle.std.specs.Prelude.{not, option_map}
use Rattle.std.proofs.lemmas.Bool.{cond-true}
use Rattle.abt_machine.specs.declared.events.Code.{Code}
use Rattle.abt_machine.specs.declared.events.Code.TheVariants as code
use Rattle.abt_machine.specs.declared.events.Place.{Place}
use Rattle.abt_machine.specs.declared.events.Place.TheVariants as place
use Rattle.abt_machine.specs.declared.events.Site.TheVariants as site
use Rattle.abt_machine.specs.declared.events.Spot.TheVariants as spot
use Rattle.abt_machine.specs.declared.numbers.PoolNo.{PoolNo}
use Rattle.abt_machine.specs.declared.numbers.StreamNo.{StreamNo}
use Rattle.abt_machine.specs.declared.numbers.UnitNo.{UnitNo}
use Rattle.abt_machine.specs.declared.operations.Op.{Op}
use Rattle.abt_machine.specs.declared.operations.Op.TheVariants as op
use Rattle.abt_machine.specs.Stored.{Stored}
use Rattle.abt_machine.specs.declared.workload.Parts.{Parts}
use Rattle.abt_machine.specs.Numbers.{stream_no, unit_no}
use Rattle.abt_machine.specs.Maps.{put_at}
use Rattle.abt_machine.specs.Workloads.{body_at, is_sched}
use Rattle.abt_machine.specs.Access.{may_put}
use Rattle.abt_machine.specs.Sites.{first_pool}
use Rattle.abt_machine.specs.State.{State, Carried, Desk}
use Rattle.abt_machine.specs.Lines.{Joining, tray_end}
use Rattle.abt_machine.specs.Carrying.{advanced, newborn}
use Rattle.abt_machine.specs.Changes.{Change, no_change, changed, to_tray, goes_on}
use Rattle.abt_machine.specs.Codes.{is_unborn, is_ended, is_alive, is_suspended, unless, code_of}
use Rattle.abt_machine.specs.Steps.{begins, asks, joins, op_row}
use Rattle.abt_machine.specs.Values.{Owned, owned_at, owned_in, part_of, DeskIs, DeskValue, Phase, Out, Suspended, phase_at, desk_value}
use Rattle.abt_machine.specs.Acts as act
use Rattle.abt_machine.specs.Acts.{Answer, moved, reborn}
use Rattle.abt_machine.specs.Desks.{DeskGives, unborn_in, suspended_in, ended_in, is_living, takes_back, with_phase}
use Rattle.abt_machine.specs.Plans.{Effect, Calls, keeps, to_caller}
use Rattle.abt_machine.specs.Turns.{stepped}
use Rattle.abt_laws.proofs.Maps.{put_at-same, put_at-other, put_at-cases}
use Rattle.abt_laws.proofs.Places.{line_of, place_in, same-self}
use Rattle.abt_laws.proofs.SoundChanges.{placed-below}
use Rattle.abt_laws.proofs.Codes.{IsRefusal}
use Rattle.abt_laws.proofs.LinesAfter.{NoneFrom}
use Rattle.abt_simulation.proofs.Acting.{IsActing}
use Rattle.abt_simulation.proofs.OwnedLines.{owned-stays}
use Rattle.abt_simulation.proofs.OwnParts.{IsAway, off-object, off-nowhere, nowhere-ticket, hand-only, away-other, part-keeps}
use Rattle.abt_simulation.proofs.Shapes.{owned, wakes-part, goes-part, blocks-part, line-joined, line-same}
use Rattle.abt_simulation.proofs.Rows.{Row, RowBy, ValueBy, ValueRow, ValueDone, row-by_value, desk-at, value-same, refuses}
use Rattle.abt_simulation.proofs.Phases.{desk-is, takes-own, if_so, living-at, ended-at, unborn_in-at, suspended_in-at, ended_in-at, so-none, so-mapped, unborn-nowhere, ended-nowhere, suspended-nowhere}

-- What desks answer to operations that let a unit come out.

-- the desk gives its unit, as f makes it, if it is found there so, else it refuses with code c
abbrev Told : (Phase → Option Owned) → (Owned → Owned) → Code → DeskValue → Answer → DeskValue → Type 0
Told found f c old (act.Given o) new = (option_map f (found old.phase) ≡ Some o) × (new ≡ with_phase Out old)
Told found f c old (act.Coded d) new = (c ≡ d) × (found old.phase ≡ None) × (new ≡ old)
Told found f c old _ new = ⊥

-- a desk that is to resume its unit
resume-told : (old : DeskValue) (b : Answer) (new : DeskValue) → DeskGives old act.Resume b new → Told suspended_in (λ o. o) code.UnitState old b new
resume-told old (act.Given o) new gives = (ap (option_map (λ q. q)) gives.0, gives.1)
resume-told old (act.Coded code.UnitState) new gives = (refl, gives.0, gives.1)
resume-told old _ new gives = absurd gives

-- to create it
create-told : (p : ℕ) (old : DeskValue) (b : Answer) (new : DeskValue) → DeskGives old (act.Create p) b new → Told unborn_in (reborn p) code.Exists old b new
create-told p old (act.Given o) new gives = gives
create-told p old (act.Coded code.Exists) new gives = (refl, gives.0, gives.1)
create-told p old _ new gives = absurd gives

-- to revive it
revive-told : (p : ℕ) (old : DeskValue) (b : Answer) (new : DeskValue) → DeskGives old (act.Revive p) b new → Told ended_in (reborn p) code.UnitState old b new
revive-told p old (act.Given o) new gives = gives
revive-told p old (act.Coded code.UnitState) new gives = (refl, gives.0, gives.1)
revive-told p old _ new gives = absurd gives

module _ (W : Parts) (Z : Stored) (S : State) (s u : ℕ) (acts : IsActing W Z S s u) where
  -- a row by the desk's value
  desk-row : (a : Op) (v : UnitNo) (asked : act.Act) (brings : Answer → Effect) → ValueBy W S s u a (λ T. desk_value W T v.0) DeskGives (Calls (site.Desk v) asked brings) → RowBy W S s u a (Calls (site.Desk v) asked brings)
  desk-row a v asked brings row = row-by_value W S s u a (Calls (site.Desk v) asked brings) _ _ _ (desk-at W v.0) row

  -- a refusal by the desk
  desk-refuses : (a : Op) (c : Code) (v : UnitNo) (new : DeskValue) → IsRefusal c → c ≡ code_of W S s u a → new ≡ desk_value W S v.0 → ValueDone W S s u a (λ T. desk_value W T v.0) (to_caller (owned_at S u) (act.Coded c)) new
  desk-refuses a code.Ok v new r is same = absurd r
  desk-refuses a c v new r is same = refuses W Z S s u acts a c (site.Desk v) DeskIs (λ T. desk_value W T v.0) DeskGives new (desk-at W v.0) r is same

  -- Requests: the desk of v becomes d.

  -- u goes on
  asks-own : (v : ℕ) (d : Desk) → part_of W (changed S (asks S u v d)) s ≡ stepped (part_of W S s) (keeps (moved (owned_at S u)) [])
  asks-own v d = goes-part W Z S s u acts (advanced (S.carried u)) (record no_change { desks = (v, d) ∷ [] })

  -- a desk stays if only what u carries changes
  desk-same : (v : ℕ) → desk_value W (changed S (goes_on S u)) v ≡ desk_value W S v
  desk-same v = value-same W Z S s u acts (site.Desk (unit_no v)) DeskIs (λ T. desk_value W T v) DeskGives (advanced (S.carried u)) (desk-at W v)

  -- the desk has the new requests
  asks-desk : (v : ℕ) (d : Desk) → desk_value W (changed S (asks S u v d)) v ≡ record (desk_value W S v) { cancel = d.cancel; migrate = d.migrate; migratable = d.migratable }
  asks-desk v d = desk-is W (changed S (asks S u v d)) v _ _ d (ap (λ (k : DeskValue). k.phase) (desk-same v)) (ap (λ (k : DeskValue). k.joiners) (desk-same v)) (put_at-same S.desk v d)

  -- the code of a request by whether the unit lives
  by-life : (v : ℕ) (b : Bool) (rest : Code) → is_living (desk_value W S v).phase ≡ b → unless (is_alive (S.place v)) code.UnitState rest ≡ unless b code.UnitState rest
  by-life v b rest e = ap (λ t. unless t code.UnitState rest) (sym (living-at (owned_at S v) (S.place v)) ∙ e)

  -- a request to cancel, by the answer
  pub cancel-value : (v : UnitNo) → ValueRow W S s u (op.Cancel v) (λ T. desk_value W T v.0) DeskGives
  cancel-value v (act.Coded code.Ok) new gives = record { code = sym (by-life v.0 true code.Ok gives.0); own = asks-own v.0 (record (S.desk v.0) { cancel = true }); called = asks-desk v.0 (record (S.desk v.0) { cancel = true }) ∙ sym gives.1 }
  cancel-value v (act.Coded code.UnitState) new gives = desk-refuses _ code.UnitState v new tt (sym (by-life v.0 false code.Ok gives.0)) gives.1
  cancel-value v _ new gives = absurd gives

  -- a request to migrate to pool p
  module _ (a : Op) (v : UnitNo) (p : ℕ) (is : code_of W S s u a ≡ unless (is_alive (S.place v.0)) code.UnitState (unless (S.desk v.0).migratable code.NotMigratable code.Ok)) (row : op_row W S s u a ≡ asks S u v.0 (record (S.desk v.0) { migrate = Some p })) where
    -- the code of such a request of a unit that lives
    by-both : (b : Bool) → is_living (desk_value W S v.0).phase ≡ true → (S.desk v.0).migratable ≡ b → code_of W S s u a ≡ unless b code.NotMigratable code.Ok
    by-both b living e = is ∙ (by-life v.0 true (unless (S.desk v.0).migratable code.NotMigratable code.Ok) living ∙ ap (λ t. unless t code.NotMigratable code.Ok) e)

    -- the request, by the answer
    migrates : (b : Answer) (new : DeskValue) → DeskGives (desk_value W S v.0) (act.AskMigrate p) b new → ValueDone W S s u a (λ T. desk_value W T v.0) (to_caller (owned_at S u) b) new
    migrates (act.Coded code.Ok) new gives = record {
      code = sym (by-both true gives.0 gives.1);
      own = ap (λ c. part_of W (changed S c) s) row ∙ asks-own v.0 (record (S.desk v.0) { migrate = Some p });
      called = ap (λ c. desk_value W (changed S c) v.0) row ∙ (asks-desk v.0 (record (S.desk v.0) { migrate = Some p }) ∙ sym gives.2);
    }
    migrates (act.Coded code.UnitState) new gives = desk-refuses a code.UnitState v new tt (sym (is ∙ by-life v.0 false _ gives.0)) gives.1
    migrates (act.Coded code.NotMigratable) new gives = desk-refuses a code.NotMigratable v new tt (sym (by-both false gives.0 gives.1)) gives.2
    migrates _ new gives = absurd gives

  -- the row of migrate
  pub migrate-row : (v : UnitNo) (p : PoolNo) → may_put W s p.0 ≡ true → RowBy W S s u (op.Migrate v p) (Calls (site.Desk v) (act.AskMigrate p.0) (to_caller (owned_at S u)))
  migrate-row v p may = desk-row _ v (act.AskMigrate p.0) _ (migrates _ v p.0 (cond-true (may_put W s p.0) _ _ may) refl)

  -- the row of migrateto
  pub migrateto-row : (v : UnitNo) (r : StreamNo) → may_put W s (first_pool W r.0) ≡ true → RowBy W S s u (op.MigrateTo v r) (Calls (site.Desk v) (act.AskMigrate (first_pool W r.0)) (to_caller (owned_at S u)))
  migrateto-row v r may = desk-row _ v (act.AskMigrate (first_pool W r.0)) _ (migrates _ v (first_pool W r.0) (cond-true (may_put W s (first_pool W r.0)) _ _ may) refl)

  -- the code of migratable by whether the unit is a scheduler
  by-body : (v : ℕ) (b : Bool) → is_sched (body_at W v) ≡ b → unless (not (is_sched (body_at W v))) code.NotMigratable code.Ok ≡ unless (not b) code.NotMigratable code.Ok
  by-body v b e = ap (λ t. unless (not t) code.NotMigratable code.Ok) e

  -- whether a unit may migrate, by the answer
  pub migratable-value : (v : UnitNo) (b : Bool) → ValueRow W S s u (op.Migratable v b) (λ T. desk_value W T v.0) DeskGives
  migratable-value v b (act.Coded code.Ok) new gives = record { code = sym (by-body v.0 false gives.0); own = asks-own v.0 (record (S.desk v.0) { migratable = b }); called = asks-desk v.0 (record (S.desk v.0) { migratable = b }) ∙ sym gives.1 }
  migratable-value v b (act.Coded code.NotMigratable) new gives = desk-refuses _ code.NotMigratable v new tt (sym (by-body v.0 true gives.0)) gives.1
  migratable-value v b _ new gives = absurd gives

  -- Joining and suspension: u leaves the hand.

  -- if u moves to a place at which its desk is out, the phase of each desk stays
  phase-stays : (v : ℕ) (pl : Place) (k : Carried) → ((q : Owned) → phase_at q pl ≡ Out) → phase_at (owned v (put_at S.carried u k v)) (put_at S.place u pl v) ≡ phase_at (owned_at S v) (S.place v)
  phase-stays v pl k out =
      elim (put_at-cases S.place u pl v) [
        | inl x ↦ ap (phase_at (owned v (put_at S.carried u k v))) x.1 ∙ (out (owned v (put_at S.carried u k v)) ∙ sym (ap (phase_at (owned_at S v)) (ap S.place x.0 ∙ acts.in_hand)))
        | inr x ↦ (λ i. phase_at (owned v (put_at-other S.carried u k v x.0 i)) (x.1 i))
      ]

  -- if v has ended, u goes on
  joins-ended : (v : ℕ) (pl : Place) → is_ended pl ≡ true → joins S u v pl ≡ goes_on S u
  joins-ended v (place.Ended c) e = refl
  joins-ended v _ e = absurd cc

  -- if it has not, u joins it
  joins-waits : (v : ℕ) (pl : Place) → is_ended pl ≡ false → joins S u v pl ≡ record (goes_on S u) { moves = (u, place_in (Joining v) (S.join_next v)) ∷ []; join_next = (v, suc (S.join_next v)) ∷ [] }
  joins-waits v (place.Ended c) e = absurd cc
  joins-waits v _ e = refl

  -- u is the last joiner then
  joins-desk : (v : ℕ) → desk_value W (changed S (record (goes_on S u) { moves = (u, place_in (Joining v) (S.join_next v)) ∷ []; join_next = (v, suc (S.join_next v)) ∷ [] })) v
      ≡ record (desk_value W S v) { joiners = owned_in W S (Joining v) ++ moved (owned_at S u) ∷ [] }
  joins-desk v =
      let T : State = changed S (record (goes_on S u) { moves = (u, place_in (Joining v) (S.join_next v)) ∷ []; join_next = (v, suc (S.join_next v)) ∷ [] }) in
      desk-is W T v _ _ (S.desk v) (phase-stays v (place_in (Joining v) (S.join_next v)) (advanced (S.carried u)) (λ q. refl))
      (line-joined W Z S s u acts (Joining v) tt (S.join_next v) [] (advanced (S.carried u)) (record no_change { join_next = (v, suc (S.join_next v)) ∷ [] }) (same-self v) (placed-below W Z S (Joining v) (S.join_next v) acts.sound (λ w t k. k.1)) tt) refl

  -- a join, by the answer
  pub join-value : (v : UnitNo) → ValueRow W S s u (op.Join v) (λ T. desk_value W T v.0) DeskGives
  join-value v (act.Given b) new gives =
      let row : joins S u v.0 (S.place v.0) ≡ goes_on S u = joins-ended v.0 (S.place v.0) (sym (ended-at (owned_at S v.0) (S.place v.0)) ∙ gives.0) in
      record {
        code = refl;
        own = ap (λ c. part_of W (changed S c) s) row ∙ (goes-part W Z S s u acts (advanced (S.carried u)) no_change ∙ ap (λ q. stepped (part_of W S s) (keeps q [])) (sym gives.1));
        called = ap (λ c. desk_value W (changed S c) v.0) row ∙ (desk-same v.0 ∙ sym gives.2);
      }
  join-value v act.Rested new gives =
      let row : joins S u v.0 (S.place v.0) ≡ record (goes_on S u) { moves = (u, place_in (Joining v.0) (S.join_next v.0)) ∷ []; join_next = (v.0, suc (S.join_next v.0)) ∷ [] } = joins-waits v.0 (S.place v.0) (sym (ended-at (owned_at S v.0) (S.place v.0)) ∙ gives.0) in
      record {
        code = refl;
        own = ap (λ c. part_of W (changed S c) s) row
            ∙ blocks-part W Z S s u acts (place_in (Joining v.0) (S.join_next v.0)) [] (advanced (S.carried u)) (record no_change { join_next = (v.0, suc (S.join_next v.0)) ∷ [] }) (off-object s (Joining v.0) (S.join_next v.0) tt) tt tt;
        called = ap (λ c. desk_value W (changed S c) v.0) row ∙ (joins-desk v.0 ∙ sym gives.1);
      }
  join-value v _ new gives = absurd gives

  -- the desk has its unit, suspended
  suspends-desk : desk_value W (changed S (op_row W S s u op.Suspend)) u ≡ with_phase (Suspended (moved (owned_at S u))) (desk_value W S u)
  suspends-desk =
      let pl : Place = place.Blocked spot.Suspended 0 in
      let T : State = changed S (op_row W S s u op.Suspend) in
      desk-is W T u _ _ (S.desk u) (ap (phase_at (owned_at T u)) (put_at-same S.place u pl) ∙ ap (λ (k : Carried). Suspended (owned u k)) (put_at-same S.carried u (advanced (S.carried u))))
      (line-same W Z S s u acts (Joining u) tt ((u, pl) ∷ []) (advanced (S.carried u)) no_change (refl, tt) (hand-only W Z S s u acts (Joining u) refl, tt)) refl

  -- a suspension, by the answer
  pub suspend-value : ValueRow W S s u op.Suspend (λ T. desk_value W T u) DeskGives
  suspend-value act.Rested new gives = record {
    code = refl;
    own = blocks-part W Z S s u acts (place.Blocked spot.Suspended 0) [] (advanced (S.carried u)) no_change (off-nowhere s (place.Blocked spot.Suspended 0) refl) tt tt;
    called = suspends-desk ∙ sym (gives ∙ cond-true (takes_back (desk_value W S u) (moved (owned_at S u))) _ _ (takes-own W Z S s (moved (owned_at S u)) acts));
  }
  suspend-value _ new gives = absurd gives

  -- Units that come out of their desk, which stand in no line.

  -- u goes on after this change, v comes to the tray as f makes it, and its desk is out
  abbrev Comes : ℕ → (Owned → Owned) → Change → Type 0
  Comes v f c =
      (part_of W (changed S c) s ≡ stepped (part_of W S s) (keeps (moved (owned_at S u)) (f (owned_at S v) ∷ []))) × (desk_value W (changed S c) v ≡ with_phase Out (desk_value W S v))

  module _ (v : ℕ) (declared : v < length W.units) (nowhere : line_of (S.place v) ≡ None) where
    -- v is not with stream s
    away : IsAway W S s v
    away = record { declared = declared; off = off-nowhere s (S.place v) nowhere }

    -- v is not u
    v-other : v ≢ u
    v-other = away-other W Z S s u acts v away.off

    -- the desk is out once v is on the tray, in whichever of its lives
    out-desk : (c : Change) (n : ℕ) → let d : Change = record c { moves = to_tray W S s (v ∷ []) } in
        NoneFrom (Joining v) S.place c.carried → (changed S d).desk v ≡ record (S.desk v) { life = n } → desk_value W (changed S d) v ≡ with_phase Out (desk_value W S v)
    out-desk c n keys desk =
        let d : Change = record c { moves = to_tray W S s (v ∷ []) } in
        desk-is W (changed S d) v _ _ (record (S.desk v) { life = n }) (ap (phase_at (owned_at (changed S d) v)) (put_at-same S.place v (place.Tray (stream_no s) (tray_end W S s))))
        (owned-stays W S d (Joining v) (refl, tt) (nowhere-ticket (Joining v) (S.place v) nowhere, tt) keys) desk

    -- v is resumed
    resumes : Comes v (λ o. o) (op_row W S s u (op.Resume (unit_no v)))
    resumes = (
      wakes-part W Z S s u acts (v ∷ []) (advanced (S.carried u)) no_change ((λ m. m), tt) (away, tt),
      out-desk (goes_on S u) (S.desk v).life (hand-only W Z S s u acts (Joining v) refl, tt) refl,
    )

    -- v begins a life with home p
    begins-life : (p : ℕ) → Comes v (reborn p) (begins W S s u v p)
    begins-life p =
        let f : ℕ → Carried = put_at S.carried u (advanced (S.carried u)) in
        let k : Carried = newborn p (S.carried v) in (
          part-keeps W Z S s u acts [] (v ∷ []) ((u, advanced (S.carried u)) ∷ (v, k) ∷ []) (begins W S s u v p) tt ((λ m. m), tt) (away, tt) (inl refl, (inr away.off, tt))
              ∙ (λ i. stepped (part_of W S s) (keeps (owned u ((put_at-other f v k u (λ e. v-other (sym e)) ∙ put_at-same S.carried u (advanced (S.carried u))) i)) (owned v (put_at-same f v k i) ∷ []))),
          out-desk (begins W S s u v p) (suc (S.desk v).life) (hand-only W Z S s u acts (Joining v) refl, (nowhere-ticket (Joining v) (S.place v) nowhere, tt)) (put_at-same S.desk v (record (S.desk v) { life = suc (S.desk v).life })),
        )

  -- the row of an operation to which v's desk answers so, and whose code is by a test of v's place
  told-row : (a : Op) (v : UnitNo) (asked : act.Act) (found : Phase → Option Owned) (f : Owned → Owned) (c : Code) (test : Place → Bool) → IsRefusal c → ((o : Owned) (pl : Place) → found (phase_at o pl) ≡ if_so (test pl) o) →
      ((pl : Place) → test pl ≡ true → line_of pl ≡ None) → ((b : Answer) (new : DeskValue) → DeskGives (desk_value W S v.0) asked b new → Told found f c (desk_value W S v.0) b new) →
      code_of W S s u a ≡ unless (test (S.place v.0)) c code.Ok → (line_of (S.place v.0) ≡ None → Comes v.0 f (op_row W S s u a)) → RowBy W S s u a (Calls (site.Desk v) asked (to_caller (owned_at S u)))
  told-row a v asked found f c test refusal at nowhere told is comes = desk-row a v asked _ (λ b new gives. by b new (told b new gives)) where
    -- the code, and where v is found
    by-test : (b : Bool) → test (S.place v.0) ≡ b → unless b c code.Ok ≡ code_of W S s u a
    by-test b e = sym (is ∙ ap (λ t. unless t c code.Ok) e)

    here : found (desk_value W S v.0).phase ≡ if_so (test (S.place v.0)) (owned_at S v.0)
    here = at (owned_at S v.0) (S.place v.0)

    by : (b : Answer) (new : DeskValue) → Told found f c (desk_value W S v.0) b new → ValueDone W S s u a (λ T. desk_value W T v.0) (to_caller (owned_at S u) b) new
    by (act.Given o) new t =
        let out : (test (S.place v.0) ≡ true) × (f (owned_at S v.0) ≡ o) = so-mapped f (test (S.place v.0)) (owned_at S v.0) o (ap (option_map f) (sym here) ∙ t.0) in
        let done : Comes v.0 f (op_row W S s u a) = comes (nowhere (S.place v.0) out.0) in
        record { code = by-test true out.0; own = done.0 ∙ ap (λ q. stepped (part_of W S s) (keeps (moved (owned_at S u)) (q ∷ []))) out.1; called = done.1 ∙ sym t.1 }
    by (act.Coded d) new t =
        subst (λ k. ValueDone W S s u a (λ T. desk_value W T v.0) (to_caller (owned_at S u) (act.Coded k)) new) t.0
        (desk-refuses a c v new refusal (by-test false (so-none (test (S.place v.0)) (owned_at S v.0) (sym here ∙ t.1))) t.2)
    by _ new t = absurd t

  -- the row of resume
  pub resume-row : (v : UnitNo) → v.0 < length W.units → Row W S s u (op.Resume v)
  resume-row v declared = told-row _ v act.Resume suspended_in (λ o. o) code.UnitState is_suspended tt suspended_in-at suspended-nowhere (resume-told (desk_value W S v.0)) refl (resumes v.0 declared)

  -- the row of create
  pub create-row : (v : UnitNo) (p : PoolNo) → v.0 < length W.units → may_put W s p.0 ≡ true → RowBy W S s u (op.Create v p) (Calls (site.Desk v) (act.Create p.0) (to_caller (owned_at S u)))
  create-row v p declared may =
      told-row _ v (act.Create p.0) unborn_in (reborn p.0) code.Exists is_unborn tt unborn_in-at unborn-nowhere (create-told p.0 (desk_value W S v.0)) (cond-true (may_put W s p.0) _ _ may) (λ nowhere. begins-life v.0 declared nowhere p.0)

  -- the row of revive
  pub revive-row : (v : UnitNo) (p : PoolNo) → v.0 < length W.units → may_put W s p.0 ≡ true → RowBy W S s u (op.Revive v p) (Calls (site.Desk v) (act.Revive p.0) (to_caller (owned_at S u)))
  revive-row v p declared may =
      told-row _ v (act.Revive p.0) ended_in (reborn p.0) code.UnitState is_ended tt ended_in-at ended-nowhere (revive-told p.0 (desk_value W S v.0)) (cond-true (may_put W s p.0) _ _ may) (λ nowhere. begins-life v.0 declared nowhere p.0)
