-- What an end, an entry and a leave mean to units.
use Rattle.std.proofs.Common.{◌≡◌, ℕ, ◌+◌, ◌<◌, ◌≤◌, true, false, List, [], ◌∷◌, length, refl, sym, ◌∙◌, ap, subst, inl, inr}
use Rattle.std.proofs.lemmas.List.{append-nil}
use Rattle.abt_machine.specs.declared.events.Cause.{Cause}
use Rattle.abt_machine.specs.declared.events.Cause.TheVariants as cause
use Rattle.abt_machine.specs.declared.events.Place.{Place}
use Rattle.abt_machine.specs.declared.events.Place.TheVariants as place
use Rattle.abt_machine.specs.declared.events.What.TheVariants as what
use Rattle.abt_machine.specs.declared.numbers.UnitNo.{UnitNo}
use Rattle.abt_machine.specs.declared.operations.Body.{Body}
use Rattle.abt_machine.specs.declared.operations.Body.TheVariants as body
use Rattle.abt_machine.specs.Stored.{Stored}
use Rattle.abt_machine.specs.declared.workload.Parts.{Parts}
use Rattle.abt_machine.specs.Numbers.{stream_no}
use Rattle.abt_machine.specs.Maps.{put_at}
use Rattle.abt_machine.specs.Workloads.{body_at, ops_of, is_sched}
use Rattle.abt_machine.specs.State.{State, Stream, Frame, Desk, Mark, Plain, Asked, Left, Exited}
use Rattle.abt_machine.specs.Lines.{Joining, standing, tray_end}
use Rattle.abt_machine.specs.Frames.{entered, left, sched_of}
use Rattle.abt_machine.specs.Next.{EndDue, LeaveDue, due_of_unit}
use Rattle.abt_machine.specs.Changes.{to_tray}
use Rattle.abt_machine.specs.Events.{May, after, without_requests}
use Rattle.abt_machine.specs.Lives.{count_up}
use Rattle.abt_laws.proofs.LineMoves.{tray_moves-each}
use Rattle.abt_laws.proofs.Marks.{marks-kept, marks-elsewhere, left-mark}
use Rattle.abt_laws.proofs.Standing.{hand-place, hand-none}
use Rattle.abt_laws.proofs.Options.{none≢some}
use Rattle.abt_laws.proofs.Lists.{EachOf}
use Rattle.abt_laws.proofs.Dues.{enters-plain, due-unit, leave-below, due-idle, due_of_unit-cases, end-mark}
use Rattle.abt_laws.proofs.Exits.{is_exited, is_own, exited_at, done-kept}
use Rattle.abt_laws.proofs.Maps.{put_at-same, put_at-other, put_all-kept}
use Rattle.abt_laws.proofs.LifeLists.{MayEnd, passage_of_cause}
use Rattle.abt_laws.proofs.LifeTies.{IsOutside, IsBusy, ends_at, passage_of_mark, passage_at, Acts, Fate}
use Rattle.abt_laws.proofs.LifeStepShapes.{LeavesOthers, moved-other}
use Rattle.abt_laws.proofs.LifeRows.{AllOutside, line-outside}
use Rattle.abt_laws.proofs.LifeActs.{event-fate}

-- a unit at position k may end so, and a scheduler unit has passed as the end says
abbrev EndFits : Mark → Body → ℕ → Cause → Type 0
EndFits m b k c = MayEnd b k c × (is_sched b ≡ true → passage_of_mark m ≡ passage_of_cause c)

asked-fits : (b : Body) (k : ℕ) → EndFits Asked b k cause.Asked
asked-fits (body.Ult ops) k = (tt, λ h. refl)
asked-fits (body.Task ops) k = (tt, λ h. refl)
asked-fits (body.Sched g) k = (tt, λ h. refl)

own-fits : (b : Body) (k : ℕ) → EndFits Exited b k cause.Own
own-fits (body.Ult ops) k = (tt, λ h. refl)
own-fits (body.Task ops) k = (tt, λ h. refl)
own-fits (body.Sched g) k = (tt, λ h. refl)

done-fits : (m : Mark) (b : Body) (k : ℕ) → is_sched b ≡ false → length (ops_of b) ≤ k → EndFits m b k cause.Done
done-fits m (body.Ult ops) k program over = (over, λ h. cc)
done-fits m (body.Task ops) k program over = (over, λ h. cc)
done-fits m (body.Sched g) k program over = cc

-- an end that is due fits
due-fits : (W : Parts) (s : ℕ) (m : Mark) (b : Body) (k : ℕ) (c : Cause) → due_of_unit W s m b k ≡ EndDue c → EndFits m b k c
due-fits W s m b k c =
    due_of_unit-cases W s k (λ m b d. d ≡ EndDue c → EndFits m b k c)
    (λ b h. let e : cause.Asked ≡ c = cc in subst (EndFits Asked b k) e (asked-fits b k))
    (λ b h. let e : cause.Own ≡ c = cc in subst (EndFits Exited b k) e (own-fits b k))
    (λ g h. cc)
    (λ g h. let e : cause.Access ≡ c = cc in subst (EndFits Plain (body.Sched g) k) e (tt, λ i. refl))
    (λ g h. let e : cause.Done ≡ c = cc in subst (EndFits Left (body.Sched g) k) e (tt, λ i. refl))
    (λ m b program more h. cc)
    (λ m b program over h. let e : cause.Done ≡ c = cc in subst (EndFits m b k) e (done-fits m b k program over))
    m b

module _ (W : Parts) (Z : Stored) (S : State) (s u : ℕ) where
  -- An end.

  module _ (v : UnitNo) (c : Cause) (may : May W Z S s (what.End v c)) where
    ends-from : S.place v.0 ≡ place.Hand (stream_no s)
    ends-from = hand-place W S s v.0 may.1

    abbrev ended : State
    ended = after W S s (what.End v c)

    joiners-outside : AllOutside S (standing W S (Joining v.0))
    joiners-outside = line-outside W S (Joining v.0) (λ t. tt)

    -- the joiners come from outside to the tray
    joiner-moves : (P : ℕ × Place → Type 0) → ((n i : ℕ) → IsOutside (S.place n) → P (n, place.Tray (stream_no s) i)) → EachOf P (to_tray W S s (standing W S (Joining v.0)))
    joiner-moves P h = tray_moves-each P (λ n. IsOutside (S.place n)) s (tray_end W S s) (standing W S (Joining v.0)) h joiners-outside

    ended-place : ended.place v.0 ≡ place.Ended c
    ended-place =
        put_all-kept (λ n pl. n ≡ v.0 → pl ≡ place.Ended c) (put_at S.place v.0 (place.Ended c)) (to_tray W S s (standing W S (Joining v.0))) v.0
        (joiner-moves (λ m. m.0 ≡ v.0 → m.1 ≡ place.Ended c) (λ n i out same. absurd (subst IsOutside (ap S.place same ∙ ends-from) out)))
        (λ same. put_at-same S.place v.0 (place.Ended c)) refl

    ended-moves : EachOf (LeavesOthers S v.0) ((v.0, place.Ended c) ∷ to_tray W S s (standing W S (Joining v.0)))
    ended-moves = (inl refl, joiner-moves (LeavesOthers S v.0) (λ n i out. inr (out, tt)))

    ended-life : (n : ℕ) → (ended.desk n).life ≡ (S.desk n).life
    ended-life n = put_all-kept (λ m (d : Desk). d.life ≡ (S.desk m).life) S.desk ((v.0, without_requests (S.desk v.0)) ∷ []) n (refl, tt) refl

    end-fits : EndFits (S.stream s).mark (body_at W v.0) (S.carried v.0).position c
    end-fits = due-fits W s (S.stream s).mark (body_at W v.0) (S.carried v.0).position c (due-unit W S s (EndDue c) v.0 may.0 tt may.1)

    ended-exited : exited_at S.stream (S.place v.0) ≡ is_own c
    ended-exited = ap (exited_at S.stream) ends-from ∙ end-mark W s (S.stream s).mark (body_at W v.0) (S.carried v.0).position c (due-unit W S s (EndDue c) v.0 may.0 tt may.1)

    ended-passage : is_sched (body_at W v.0) ≡ true → passage_at S.stream (S.place v.0) ≡ passage_of_cause c
    ended-passage h = ap (passage_at S.stream) ends-from ∙ end-fits.1 h

    end-acts : Acts (body_at W v.0) v.0 (what.End v c) S ended
    end-acts = record {
      busy = subst IsBusy (sym ends-from) tt;
      born = λ e. let differs : place.Ended c ≡ place.Unborn = sym ended-place ∙ e in cc;
      life = ended-life v.0;
      steps = sym (append-nil (count_up (S.carried v.0).position));
      ends = ap ends_at ended-place;
      passes = λ h. ap (passage_at S.stream) ended-place ∙ (whole c ∙ ap (λ (p : ℕ × ℕ). (p.0 + 0, p.1 + 0)) (sym (ended-passage h)));
      done = done-kept (ops_of (body_at W v.0)) (exited_at S.stream (S.place v.0)) (exited_at S.stream (ended.place v.0)) (S.carried v.0).position (S.carried v.0).position (ap (exited_at S.stream) ended-place ∙ sym ended-exited) refl;
      cause = λ d h. let same : c ≡ d = cc in (ended-place ∙ ap (λ (x : Cause). place.Ended x) same, subst (MayEnd (body_at W v.0) (S.carried v.0).position) same end-fits.0);
    } where
      whole : (d : Cause) → passage_of_cause d ≡ ((passage_of_cause d).0 + 0, (passage_of_cause d).1 + 0)
      whole cause.Done = refl
      whole cause.Asked = refl
      whole cause.Access = refl
      whole cause.Own = refl

    pub end-fate : Fate W u (what.End v c) S ended
    end-fate =
        event-fate W (what.End v c) S ended v u refl (λ n. refl) end-acts
        (λ other. record { life = ended-life u; position = refl; moves = moved-other S v.0 u ((v.0, place.Ended c) ∷ to_tray W S s (standing W S (Joining v.0))) other ended-moves; marks = λ r at. refl })

  -- An entry and a leave.

  pub enter-fate : (v : UnitNo) → May W Z S s (what.Enter v) → Fate W u (what.Enter v) S (after W S s (what.Enter v))
  enter-fate v may =
      let T : State = after W S s (what.Enter v) in
      let to : Place = place.Frame (stream_no s) (length (S.stream s).below) in
      let from : S.place v.0 ≡ place.Hand (stream_no s) = hand-place W S s v.0 may.1 in
      let there : T.place v.0 ≡ to = put_at-same S.place v.0 to in
      let fresh : passage_at S.stream (S.place v.0) ≡ (0, 0) = ap (passage_at S.stream) from ∙ ap passage_of_mark (enters-plain W S s v.0 may.0 may.1) in
      event-fate W (what.Enter v) S T v u refl (λ n. refl) (record {
        busy = subst IsBusy (sym from) tt;
        born = λ e. let differs : to ≡ place.Unborn = sym there ∙ e in cc;
        life = refl;
        steps = sym (append-nil (count_up (S.carried v.0).position));
        ends = ap ends_at there;
        passes = λ h. ap (passage_at T.stream) there ∙ ap (λ (p : ℕ × ℕ). (p.0 + 1, p.1 + 0)) (sym fresh);
        done = done-kept (ops_of (body_at W v.0)) (exited_at S.stream (S.place v.0)) (exited_at T.stream (T.place v.0)) (S.carried v.0).position (S.carried v.0).position
            (ap (exited_at T.stream) there ∙ sym (ap (exited_at S.stream) from ∙ ap is_exited (enters-plain W S s v.0 may.0 may.1))) refl;
        cause = λ c h. absurd (none≢some h);
      })
      (λ other. record { life = refl; position = refl; moves = inl (put_at-other S.place v.0 to u other); marks = λ r at. marks-kept S s (entered (sched_of (body_at W v.0)) (S.stream s)) refl r })

  pub leave-fate : u < length W.units → (v : UnitNo) → May W Z S s (what.Leave v) → Fate W u (what.Leave v) S (after W S s (what.Leave v))
  leave-fate declared v may =
      let T : State = after W S s (what.Leave v) in
      let to : Place = place.Hand (stream_no s) in
      let below : (f : Frame) × (rest : List Frame) × ((S.stream s).below ≡ f ∷ rest) = leave-below W S s may.0 in
      let there : T.place v.0 ≡ to = put_at-same S.place v.0 to in
      let mark : (T.stream s).mark ≡ Left = ap (λ (own : Stream). own.mark) (put_at-same S.stream s (left (S.stream s))) ∙ left-mark (S.stream s) below.0 below.1 below.2 in
      event-fate W (what.Leave v) S T v u refl (λ n. refl) (record {
        busy = subst IsBusy (sym may.1) tt;
        born = λ e. let differs : to ≡ place.Unborn = sym there ∙ e in cc;
        life = refl;
        steps = sym (append-nil (count_up (S.carried v.0).position));
        ends = ap ends_at there;
        passes = λ h. ap (passage_at T.stream) there ∙ (ap passage_of_mark mark ∙ ap (λ (p : ℕ × ℕ). (p.0 + 0, p.1 + 1)) (sym (ap (passage_at S.stream) may.1)));
        done = done-kept (ops_of (body_at W v.0)) (exited_at S.stream (S.place v.0)) (exited_at T.stream (T.place v.0)) (S.carried v.0).position (S.carried v.0).position
            (ap (exited_at T.stream) there ∙ (ap is_exited mark ∙ sym (ap (exited_at S.stream) may.1))) refl;
        cause = λ c h. absurd (none≢some h);
      })
      (λ other. record { life = refl; position = refl; moves = inl (put_at-other S.place v.0 to u other); marks = marks-elsewhere S s u (left (S.stream s)) (hand-none W S s u declared (due-idle W S s LeaveDue may.0 tt).0) })
