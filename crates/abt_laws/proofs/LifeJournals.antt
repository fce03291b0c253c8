-- What one event at the end of a journal adds to the lives of units.
use Rattle.std.proofs.Common.{◌≡◌, ◌≢◌, ℕ, ◌+◌, ◌==◌, ◌&&◌, if◌then◌else◌, false, List, [], ◌∷◌, ◌++◌, Some, refl, sym, ◌∙◌, ap, ap₂, append_assoc}
use Rattle.std.proofs.lemmas.Bool.{eq-eqb, ne_eqb}
use Rattle.std.proofs.lemmas.List.{append-nil}
use Rattle.std.proofs.lemmas.List.Elements.{filter_map-append}
use Rattle.std.proofs.lemmas.List.Sums.{sum_by-append}
use Rattle.abt_machine.specs.declared.events.Event.{Event}
use Rattle.abt_machine.specs.declared.events.What.{What}
use Rattle.abt_machine.specs.declared.workload.Parts.{Parts}
use Rattle.abt_machine.specs.Workloads.{start_of}
use Rattle.abt_machine.specs.Start.{first_life}
use Rattle.abt_machine.specs.Fronts.{is_some_of}
use Rattle.abt_machine.specs.Lives.{life_after, last_life_from, last_life, unit_of, events_from, life_events, positions_in, position_in, ends_in, cause_in, enters_in, leaves_in, is_enter, is_leave}

-- what an event adds to the events of unit u in life l, now being the life that u is in
abbrev pub added_event : ℕ → ℕ → ℕ → What → List What
added_event u l now w = if is_some_of u (unit_of w) && (now == l) then w ∷ [] else []

last_life_from-append : (W : Parts) (u now : ℕ) (J : List Event) (e : Event) → last_life_from W u now (J ++ e ∷ []) ≡ life_after W u (last_life_from W u now J) e.what
last_life_from-append W u now [] e = refl
last_life_from-append W u now (f ∷ J) e = last_life_from-append W u (life_after W u now f.what) J e

pub last_life-append : (W : Parts) (J : List Event) (e : Event) (u : ℕ) → last_life W (J ++ e ∷ []) u ≡ life_after W u (last_life W J u) e.what
last_life-append W J e u = last_life_from-append W u (first_life (start_of W u)) J e

events_from-append : (W : Parts) (u l now : ℕ) (J : List Event) (e : Event) → events_from W u l now (J ++ e ∷ []) ≡ events_from W u l now J ++ added_event u l (last_life_from W u now J) e.what
events_from-append W u l now [] e = append-nil (added_event u l now e.what)
events_from-append W u l now (f ∷ J) e =
    ap (λ rest. added_event u l now f.what ++ rest) (events_from-append W u l (life_after W u now f.what) J e)
    ∙ sym (append_assoc (added_event u l now f.what) (events_from W u l (life_after W u now f.what) J) (added_event u l (last_life_from W u (life_after W u now f.what) J) e.what))

pub life_events-append : (W : Parts) (J : List Event) (e : Event) (u l : ℕ) → life_events W (J ++ e ∷ []) u l ≡ life_events W J u l ++ added_event u l (last_life W J u) e.what
life_events-append W J e u l = events_from-append W u l (first_life (start_of W u)) J e

-- an event of another unit adds nothing
pub added_event-other : (u l now : ℕ) (w : What) → is_some_of u (unit_of w) ≡ false → added_event u l now w ≡ []
added_event-other u l now w h = ap (λ b. if b && (now == l) then w ∷ [] else []) h

-- an event of the unit adds itself to the life that the unit is in, and nothing to others
pub added_event-now : (u now : ℕ) (w : What) → unit_of w ≡ Some u → added_event u now now w ≡ w ∷ []
added_event-now u now w h = ap (λ o. if is_some_of u o && (now == now) then w ∷ [] else []) h ∙ ap₂ (λ b c. if b && c then w ∷ [] else []) (eq-eqb u u refl) (eq-eqb now now refl)

pub added_event-another : (u l now : ℕ) (w : What) → unit_of w ≡ Some u → now ≢ l → added_event u l now w ≡ []
added_event-another u l now w h ne = ap (λ o. if is_some_of u o && (now == l) then w ∷ [] else []) h ∙ ap₂ (λ b c. if b && c then w ∷ [] else []) (eq-eqb u u refl) (ne_eqb now l ne)

-- Steps, ends, entries and leaves of two lists one after the other.

pub positions_in-append : (es fs : List What) → positions_in (es ++ fs) ≡ positions_in es ++ positions_in fs
positions_in-append es fs = filter_map-append position_in es fs

pub ends_in-append : (es fs : List What) → ends_in (es ++ fs) ≡ ends_in es ++ ends_in fs
ends_in-append es fs = filter_map-append cause_in es fs

pub enters_in-append : (es fs : List What) → enters_in (es ++ fs) ≡ enters_in es + enters_in fs
enters_in-append es fs = sum_by-append (λ w. if is_enter w then 1 else 0) es fs

pub leaves_in-append : (es fs : List What) → leaves_in (es ++ fs) ≡ leaves_in es + leaves_in fs
leaves_in-append es fs = sum_by-append (λ w. if is_leave w then 1 else 0) es fs
