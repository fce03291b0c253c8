-- What a miss, a take, a put and a look mean to units.
use Rattle.std.proofs.Common.{◌≡◌, ℕ, Bool, true, false, [], ◌∷◌, Option, Some, None, refl, sym, ◌∙◌, ap, subst, inl}
use Rattle.abt_machine.specs.declared.events.Place.{Place}
use Rattle.abt_machine.specs.declared.events.Place.TheVariants as place
use Rattle.abt_machine.specs.declared.events.What.TheVariants as what
use Rattle.abt_machine.specs.declared.numbers.PoolNo.{PoolNo}
use Rattle.abt_machine.specs.declared.numbers.UnitNo.{UnitNo}
use Rattle.abt_machine.specs.Stored.{Stored}
use Rattle.abt_machine.specs.declared.workload.Parts.{Parts}
use Rattle.abt_machine.specs.Numbers.{stream_no, pool_no}
use Rattle.abt_machine.specs.Maps.{put_at}
use Rattle.abt_machine.specs.Workloads.{body_at}
use Rattle.abt_machine.specs.Carrying.{with_home}
use Rattle.abt_machine.specs.State.{State, Stream, Carried, Desk, Mark, Plain, Asked}
use Rattle.abt_machine.specs.Lines.{InPool, InTray, tray_end}
use Rattle.abt_machine.specs.Frames.{marked, round_taken, round_missed}
use Rattle.abt_machine.specs.Changes.{changed}
use Rattle.abt_machine.specs.Events.{May, after, look_row, without_requests}
use Rattle.abt_machine.specs.Sound.{Sound}
use Rattle.abt_laws.proofs.SoundEvents.{handed}
use Rattle.abt_laws.proofs.Marks.{marks-kept, marks-elsewhere}
use Rattle.abt_laws.proofs.Standing.{next-place, StandsIn, first-stands, front-stands}
use Rattle.abt_laws.proofs.Maps.{put_at-same, put_at-other, put_all-kept}
use Rattle.abt_laws.proofs.Exits.{is_exited, exited_at}
use Rattle.abt_laws.proofs.LifeTies.{IsOutside, IsBusy, passage_of_mark, passage_at, Fate, Drifting}
use Rattle.abt_laws.proofs.LifeActs.{event-fate, acts-quietly}

module _ (W : Parts) (Z : Stored) (S : State) (s u : ℕ) where
  pub miss-fate : (p : PoolNo) → Fate W u (what.Miss p) S (after W S s (what.Miss p))
  miss-fate p = Drifting refl (λ n. refl) (record { life = refl; position = refl; moves = inl refl; marks = λ r at. marks-kept S s (round_missed W p.0 (S.stream s)) refl r })

  pub take-fate : (p : PoolNo) (v : UnitNo) → May W Z S s (what.Take p v) → Fate W u (what.Take p v) S (after W S s (what.Take p v))
  take-fate p v may =
      let is : StandsIn W S (InPool p.0) v.0 = front-stands W S s p.0 v.0 may.1 in
      let from : S.place v.0 ≡ place.Pool (pool_no p.0) is.ticket = is.at in
      let there : put_at S.place v.0 (place.Next (stream_no s)) v.0 ≡ place.Next (stream_no s) = put_at-same S.place v.0 (place.Next (stream_no s)) in
      event-fate W (what.Take p v) S (after W S s (what.Take p v)) v u refl (λ n. refl)
      (acts-quietly (body_at W v.0) v.0 (what.Take p v) S (after W S s (what.Take p v)) (record { positions = refl; cause = refl; enters = refl; leaves = refl })
      (subst IsOutside (sym from) tt) (subst IsBusy (sym there) tt) (ap (passage_at (after W S s (what.Take p v)).stream) there) (ap (exited_at (after W S s (what.Take p v)).stream) there) refl refl)
      (λ other. record { life = refl; position = refl; moves = inl (put_at-other S.place v.0 (place.Next (stream_no s)) u other); marks = λ r at. marks-kept S s (round_taken (S.stream s)) refl r })

  pub put-fate : (v : UnitNo) (p : PoolNo) → May W Z S s (what.Put v p) → Fate W u (what.Put v p) S (after W S s (what.Put v p))
  put-fate v p may =
      let is : StandsIn W S (InTray s) v.0 = first-stands W S (InTray s) v.0 may.1 in
      let from : S.place v.0 ≡ place.Tray (stream_no s) is.ticket = is.at in
      let there : put_at S.place v.0 (place.Pool p (S.pool_next p.0)) v.0 ≡ place.Pool p (S.pool_next p.0) = put_at-same S.place v.0 (place.Pool p (S.pool_next p.0)) in
      event-fate W (what.Put v p) S (after W S s (what.Put v p)) v u refl (λ n. refl)
      (acts-quietly (body_at W v.0) v.0 (what.Put v p) S (after W S s (what.Put v p)) (record { positions = refl; cause = refl; enters = refl; leaves = refl })
      (subst IsOutside (sym from) tt) (subst IsBusy (sym there) tt) (ap (passage_at S.stream) there) (ap (exited_at S.stream) there) refl refl)
      (λ other. record { life = refl; position = refl; moves = inl (put_at-other S.place v.0 (place.Pool p (S.pool_next p.0)) u other); marks = λ r at. refl })

  -- A look.

  module _ (sound : Sound W Z S) (v : UnitNo) (may : May W Z S s (what.Look v)) where
    from : S.place v.0 ≡ place.Next (stream_no s)
    from = next-place W S s v.0 may.1

    nobody-held : S.place u ≡ place.Hand (stream_no s) → ⊥
    nobody-held at = sound.hand_or_next s u v.0 at from

    look-life : (n : ℕ) → (put_at S.desk v.0 (without_requests (S.desk v.0)) n).life ≡ (S.desk n).life
    look-life n = put_all-kept (λ m (d : Desk). d.life ≡ (S.desk m).life) S.desk ((v.0, without_requests (S.desk v.0)) ∷ []) n (refl, tt) refl

    handed-fate : (m : Mark) → passage_of_mark m ≡ (0, 0) → is_exited m ≡ false → Fate W u (what.Look v) S (changed S (handed S s v.0 m))
    handed-fate m fresh alive =
        let there : (changed S (handed S s v.0 m)).place v.0 ≡ place.Hand (stream_no s) = put_at-same S.place v.0 (place.Hand (stream_no s)) in
        let mark : ((changed S (handed S s v.0 m)).stream s).mark ≡ m = ap (λ (own : Stream). own.mark) (put_at-same S.stream s (marked m (S.stream s))) in
        event-fate W (what.Look v) S (changed S (handed S s v.0 m)) v u refl (λ n. refl)
        (acts-quietly (body_at W v.0) v.0 (what.Look v) S (changed S (handed S s v.0 m)) (record { positions = refl; cause = refl; enters = refl; leaves = refl })
        (subst IsOutside (sym from) tt) (subst IsBusy (sym there) tt) (ap (passage_at (changed S (handed S s v.0 m)).stream) there ∙ (ap passage_of_mark mark ∙ fresh)) (ap (exited_at (changed S (handed S s v.0 m)).stream) there ∙ (ap is_exited mark ∙ alive)) (look-life v.0) refl)
        (λ other. record { life = look-life u; position = refl; moves = inl (put_at-other S.place v.0 (place.Hand (stream_no s)) u other); marks = marks-elsewhere S s u (marked m (S.stream s)) nobody-held })

    migrated-fate : (p : ℕ) → Fate W u (what.Look v) S (changed S (look_row W S s v.0 false (Some p)))
    migrated-fate p =
        let T : State = changed S (look_row W S s v.0 false (Some p)) in
        let to : Place = place.Tray (stream_no s) (tray_end W S s) in
        let there : T.place v.0 ≡ to = put_at-same S.place v.0 to in
        let position : (n : ℕ) → (T.carried n).position ≡ (S.carried n).position = λ n. put_all-kept (λ m (c : Carried). c.position ≡ (S.carried m).position) S.carried ((v.0, with_home p (S.carried v.0)) ∷ []) n (refl, tt) refl in
        event-fate W (what.Look v) S T v u refl (λ n. refl)
        (acts-quietly (body_at W v.0) v.0 (what.Look v) S T (record { positions = refl; cause = refl; enters = refl; leaves = refl })
        (subst IsOutside (sym from) tt) (subst IsBusy (sym there) tt) (ap (passage_at T.stream) there) (ap (exited_at T.stream) there) (look-life v.0) (position v.0))
        (λ other. record { life = look-life u; position = position u; moves = inl (put_at-other S.place v.0 to u other); marks = λ r at. refl })

    pub look-fate : Fate W u (what.Look v) S (after W S s (what.Look v))
    look-fate = by (S.desk v.0).cancel (S.desk v.0).migrate where
      by : (b : Bool) (o : Option ℕ) → Fate W u (what.Look v) S (changed S (look_row W S s v.0 b o))
      by true o = handed-fate Asked refl refl
      by false (Some p) = migrated-fate p
      by false None = handed-fate Plain refl refl
