-- Events of one stream, which end its turns or not, and the logs that they make longer.
use Rattle.std.proofs.Common.{◌≡◌, ℕ, ◌==◌, inl, inr, List, [], ◌∷◌, ◌++◌, refl, sym, ◌∙◌, ap, subst}
use Rattle.std.proofs.lemmas.Bool.{cases_eq}
use Rattle.std.proofs.lemmas.List.{append_assoc, append-nil}
use Rattle.std.proofs.lemmas.List.Elements.{filter-append}
use Rattle.abt_machine.specs.declared.events.Event.{Event}
use Rattle.abt_machine.specs.declared.events.What.{What}
use Rattle.abt_machine.specs.Stored.{Stored}
use Rattle.abt_machine.specs.declared.workload.Parts.{Parts}
use Rattle.abt_interleave.proofs.OneList.{of-other, of-own}
use Rattle.abt_drain.specs.InRotation.{NoneEndsTurns, events_by}
use Rattle.abt_drain.specs.Moments.{Makes, Moment, event_at}
use Rattle.abt_drain.specs.Rotations.{AreLogged}

-- none of these events ends the turns, and none of those that follow
pub none-ends-join : (W : Parts) (s : ℕ) (J es fs : List Event) → NoneEndsTurns W s J es → NoneEndsTurns W s (J ++ es) fs → NoneEndsTurns W s J (es ++ fs)
none-ends-join W s J [] fs one two = subst (λ K. NoneEndsTurns W s K fs) (append-nil J) two
none-ends-join W s J (e ∷ es) fs one two = (one.0, none-ends-join W s (J ++ e ∷ []) es fs one.1 (subst (λ K. NoneEndsTurns W s K fs) (sym (append_assoc J (e ∷ []) es)) two))

pub by-join : (s : ℕ) (es fs : List Event) → events_by s (es ++ fs) ≡ events_by s es ++ events_by s fs
by-join s es fs = filter-append (λ (e : Event). e.stream.0 == s) es fs

-- Logs.

pub none-logged : (m : Moment) → AreLogged m [] m
none-logged m r = sym (append-nil (m.logs r))

pub logged-join : (old mid new : Moment) (es fs : List Event) → AreLogged old es mid → AreLogged mid fs new → AreLogged old (es ++ fs) new
logged-join old mid new es fs one two r =
    two r ∙ (ap (λ log. log ++ events_by r fs) (one r)
    ∙ (append_assoc (old.logs r) (events_by r es) (events_by r fs) ∙ ap (λ log. old.logs r ++ log) (sym (by-join r es fs))))

pub makes-logged : (W : Parts) (Z : Stored) (s : ℕ) (w : What) (old new : Moment) → Makes W Z s w old new → AreLogged old (event_at new s w ∷ []) new
makes-logged W Z s w old new makes r = elim (cases_eq s r) [
  | inl e ↦ subst (λ q. new.logs q ≡ old.logs q ++ events_by q (event_at new s w ∷ [])) e
      (makes.log ∙ ap (λ log. old.logs s ++ log) (sym (of-own (λ (e : Event). e.stamp) (λ (e : Event). e.stream.0) s (event_at new s w) [] refl)))
  | inr ne ↦ (makes.others r ne).log
      ∙ (sym (append-nil (old.logs r)) ∙ ap (λ log. old.logs r ++ log) (sym (of-other (λ (e : Event). e.stamp) (λ (e : Event). e.stream.0) r (event_at new s w) [] ne)))
]
