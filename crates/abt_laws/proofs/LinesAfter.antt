-- Who stands in a line after moves.
use Rattle.std.proofs.Common.{◌≡◌, ℕ, suc, ◌<◌, ◌==◌, if◌then◌else◌, Bool, true, false, List, [], ◌∷◌, ◌++◌, Some, None, refl, sym, ◌∙◌, ap, subst, arith, append_assoc, inl, inr}
use Rattle.std.specs.Prelude.{filter}
use Rattle.std.proofs.lemmas.Bool.{cond-true, cond-false, cases_eq, eq-eqb, ne_eqb}
use Rattle.std.proofs.lemmas.List.{append-nil}
use Rattle.abt_machine.specs.declared.events.Place.{Place}
use Rattle.abt_machine.specs.Maps.{put_at, put_all}
use Rattle.abt_machine.specs.Queues.{queue}
use Rattle.abt_machine.specs.Lines.{Line, ticket_in}
use Rattle.abt_laws.proofs.Lists.{EachOf, EachOf-then, Among}
use Rattle.abt_laws.proofs.Maps.{KeyOf, KeyOf-cases, put_at-same, put_at-other, put_at-cases, put_all-other, put_all-value}
use Rattle.abt_laws.proofs.Options.{none≢some, some-injective}
use Rattle.abt_laws.proofs.Queues.{HasTicket, queue-cong, queue-each}
use Rattle.abt_laws.proofs.Places.{place_in}
use Rattle.abt_laws.proofs.Arrivals.{IsEmpty, IsBelow}
use Rattle.abt_laws.proofs.LineMoves.{line_moves}
use Rattle.abt_laws.proofs.Filters.{queue-filter, filter-all, filter-none}
use Rattle.abt_laws.proofs.Prefixes.{distinct-apart, filter-drop}
use Rattle.abt_laws.proofs.Pushes.{IsDistinct, each-among, queue-distinct, queue-push}

-- who of n units stands in a line at these places, in order
abbrev pub line_at : ℕ → Line → (ℕ → Place) → List ℕ
line_at n l f = queue (λ u. ticket_in l (f u)) n

-- whether a unit is not moved
abbrev pub stays : {A : Type 0} → List (ℕ × A) → ℕ → Bool
stays [] u = true
stays (m ∷ ms) u = if u == m.0 then false else stays ms u

-- a unit that is moved does not stay
pub stays-key : {A : Type 0} (ms : List (ℕ × A)) (u : ℕ) → KeyOf u ms → stays ms u ≡ false
stays-key [] u k = absurd k
stays-key (m ∷ ms) u k =
    elim (cases_eq u m.0) [
      | inl same ↦ cond-true (u == m.0) _ _ (eq-eqb u m.0 same)
      | inr other ↦ cond-false (u == m.0) _ _ (ne_eqb u m.0 other) ∙ stays-key ms u (elim k [ inl e ↦ absurd (other e) | inr b ↦ b ])
    ]

-- any other stays
pub stays-other : {A : Type 0} (ms : List (ℕ × A)) (u : ℕ) → (KeyOf u ms → ⊥) → stays ms u ≡ true
stays-other [] u out = refl
stays-other (m ∷ ms) u out = cond-false (u == m.0) _ _ (ne_eqb u m.0 (λ e. out (inl e))) ∙ stays-other ms u (λ k. out (inr k))

-- no move goes to line l
abbrev pub NoneTo : Line → List (ℕ × Place) → Type 0
NoneTo l ms = EachOf (λ (m : ℕ × Place). ticket_in l m.1 ≡ None) ms

-- no moved unit stands in line l
abbrev pub NoneFrom : {A : Type 0} → Line → (ℕ → Place) → List (ℕ × A) → Type 0
NoneFrom l f ms = EachOf (λ m. ticket_in l (f m.0) ≡ None) ms

-- who stands in the line is not moved then
pub none-from : {A : Type 0} (l : Line) (f : ℕ → Place) (ms : List (ℕ × A)) → NoneFrom l f ms → (u t : ℕ) → ticket_in l (f u) ≡ Some t → KeyOf u ms → ⊥
none-from l f [] a u t h k = k
none-from l f (m ∷ ms) a u t h k = elim k [ inl e ↦ none≢some (sym a.0 ∙ (ap (λ n. ticket_in l (f n)) (sym e) ∙ h)) | inr b ↦ none-from l f ms a.1 u t h b ]

-- Moves to other lines.

module _ (n : ℕ) (l : Line) (f : ℕ → Place) (ms : List (ℕ × Place)) (to : NoneTo l ms) where
  -- who is moved has no ticket there afterwards, and who is not keeps the ticket
  pub ticket-left : (u : ℕ) → ticket_in l (put_all f ms u) ≡ (if stays ms u then ticket_in l (f u) else None)
  ticket-left u =
      elim (KeyOf-cases u ms) [
        | inl k ↦ put_all-value (λ _ pl. ticket_in l pl ≡ None) f ms u to k ∙ sym (cond-false (stays ms u) _ _ (stays-key ms u k))
        | inr out ↦ ap (ticket_in l) (put_all-other f ms u out) ∙ sym (cond-true (stays ms u) _ _ (stays-other ms u out))
      ]

  -- the others stay in order
  pub line-left : line_at n l (put_all f ms) ≡ filter (stays ms) (line_at n l f)
  line-left = queue-cong _ _ n (λ u _. ticket-left u) ∙ queue-filter (stays ms) (λ u. ticket_in l (f u)) n

  -- nobody of the line moves
  pub line-stays : NoneFrom l f ms → line_at n l (put_all f ms) ≡ line_at n l f
  line-stays from =
      line-left
      ∙ filter-all (stays ms) (line_at n l f)
      (EachOf-then (HasTicket (λ u. ticket_in l (f u)) n) (λ u. stays ms u ≡ true) (line_at n l f) (λ u h. stays-other ms u (none-from l f ms from u h.ticket h.has)) (queue-each (λ u. ticket_in l (f u)) n))

  -- all of the line move
  pub line-emptied : EachOf (λ u. KeyOf u ms) (line_at n l f) → line_at n l (put_all f ms) ≡ []
  line-emptied all = line-left ∙ filter-none (stays ms) (line_at n l f) (EachOf-then (λ u. KeyOf u ms) (λ u. stays ms u ≡ false) (line_at n l f) (λ u k. stays-key ms u k) all)

-- Moves to the end of the line.

-- one unit
pub line-gets : (n : ℕ) (l : Line) (f : ℕ → Place) (u t : ℕ) → ticket_in l (place_in l t) ≡ Some t → u < n → ticket_in l (f u) ≡ None → IsBelow l t f → line_at n l (put_at f u (place_in l t)) ≡ line_at n l f ++ u ∷ []
line-gets n l f u t has less none below =
    queue-cong _ (put_at (λ v. ticket_in l (f v)) u (Some t)) n
    (λ v _. elim (put_at-cases f u (place_in l t) v) [
      | inl x ↦ ap (ticket_in l) x.1 ∙ (has ∙ sym (ap (put_at (λ v. ticket_in l (f v)) u (Some t)) x.0 ∙ put_at-same (λ v. ticket_in l (f v)) u (Some t)))
      | inr x ↦ ap (ticket_in l) x.1 ∙ sym (put_at-other (λ v. ticket_in l (f v)) u (Some t) v x.0)
    ])
    ∙ queue-push (λ v. ticket_in l (f v)) u t none below n less

module _ (n : ℕ) (l : Line) (has : (t : ℕ) → ticket_in l (place_in l t) ≡ Some t) where
  -- the next ticket is above all
  below-next : (f : ℕ → Place) (u t : ℕ) → IsBelow l t f → IsBelow l (suc t) (put_at f u (place_in l t))
  below-next f u t below v k h =
      elim (put_at-cases f u (place_in l t) v) [
        | inl x ↦ (let e : t ≡ k = some-injective (sym (has t) ∙ (ap (ticket_in l) (sym x.1) ∙ h)) in omega arith)
        | inr x ↦ (let b : k < t = below v k (ap (ticket_in l) (sym x.1) ∙ h) in omega arith)
      ]

  -- the others are as they were
  others-away : (f : ℕ → Place) (u t : ℕ) (us : List ℕ) → (Among u us → ⊥) → ((v : ℕ) → Among v us → (v < n) × (ticket_in l (f v) ≡ None)) → (v : ℕ) → Among v us → (v < n) × (ticket_in l (put_at f u (place_in l t) v) ≡ None)
  others-away f u t us out new v m = ((new v m).0, ap (ticket_in l) (put_at-other f u (place_in l t) v (λ e. out (subst (λ w. Among w us) e m))) ∙ (new v m).1)

  -- several, in order
  pub line-gets_all : (us : List ℕ) (t : ℕ) (f : ℕ → Place) → IsDistinct us → ((v : ℕ) → Among v us → (v < n) × (ticket_in l (f v) ≡ None)) → IsBelow l t f → line_at n l (put_all f (line_moves l t us)) ≡ line_at n l f ++ us
  line-gets_all [] t f apart new below = sym (append-nil (line_at n l f))
  line-gets_all (u ∷ us) t f apart new below =
      line-gets_all us (suc t) (put_at f u (place_in l t)) apart.1 (others-away f u t us apart.0 (λ v m. new v (inr m))) (below-next f u t below)
      ∙ (ap (λ vs. vs ++ us) (line-gets n l f u t (has t) (new u (inl refl)).0 (new u (inl refl)).1 below) ∙ append_assoc (line_at n l f) (u ∷ []) us)

-- who stands nowhere in an empty line, and the line is empty
pub line-empty : (n : ℕ) (l : Line) (f : ℕ → Place) → IsEmpty l f → line_at n l f ≡ []
line-empty n l f empty = by (line_at n l f) (queue-each (λ u. ticket_in l (f u)) n) where
  by : (us : List ℕ) → EachOf (HasTicket (λ u. ticket_in l (f u)) n) us → us ≡ []
  by [] each = refl
  by (u ∷ us) each = absurd (empty u each.0.ticket each.0.has)

-- nobody comes to an empty line by moves to others
pub empty-after_moves : (l : Line) (f : ℕ → Place) (ms : List (ℕ × Place)) → NoneTo l ms → IsEmpty l f → IsEmpty l (put_all f ms)
empty-after_moves l f ms to empty u t h =
    elim (KeyOf-cases u ms) [
      | inl k ↦ none≢some (sym (put_all-value (λ _ pl. ticket_in l pl ≡ None) f ms u to k) ∙ h)
      | inr out ↦ empty u t (ap (ticket_in l) (sym (put_all-other f ms u out)) ∙ h)
    ]

-- moves, and then others
pub put_all-append : {A : Type 0} (f : ℕ → A) (ps qs : List (ℕ × A)) → put_all f (ps ++ qs) ≡ put_all (put_all f ps) qs
put_all-append f [] qs = refl
put_all-append f (p ∷ ps) qs = put_all-append (put_at f p.0 p.1) ps qs

-- One unit that leaves a line.

-- the list without unit u, which goes to x
abbrev pub all_but : {A : Type 0} → ℕ → A → List ℕ → List ℕ
all_but u x us = filter (stays ((u, x) ∷ [])) us

-- the list without a unit that is not in it
pub all_but-none : {A : Type 0} (u : ℕ) (x : A) (us : List ℕ) → (Among u us → ⊥) → all_but u x us ≡ us
all_but-none u x [] out = refl
all_but-none u x (v ∷ vs) out =
    cond-true (stays ((u, x) ∷ []) v) _ _ (stays-other ((u, x) ∷ []) v (λ k. elim k [ inl e ↦ out (inl (sym e)) | inr none ↦ none ])) ∙ ap (λ ws. v ∷ ws) (all_but-none u x vs (λ m. out (inr m)))

-- without its first
pub all_but-first : {A : Type 0} (u : ℕ) (x : A) (us : List ℕ) → IsDistinct (u ∷ us) → all_but u x (u ∷ us) ≡ us
all_but-first u x us d = cond-false (stays ((u, x) ∷ []) u) _ _ (stays-key ((u, x) ∷ []) u (inl refl)) ∙ all_but-none u x us d.0

-- the last is among them
among-end : (v : ℕ) (us : List ℕ) → Among v (us ++ v ∷ [])
among-end v [] = inl refl
among-end v (u ∷ us) = inr (among-end v us)

-- without its last
pub all_but-last : {A : Type 0} (u : ℕ) (x : A) (us : List ℕ) → IsDistinct (us ++ u ∷ []) → all_but u x (us ++ u ∷ []) ≡ us
all_but-last u x [] d = all_but-first u x [] d
all_but-last u x (v ∷ vs) d =
    cond-true (stays ((u, x) ∷ []) v) _ _ (stays-other ((u, x) ∷ []) v (λ k. elim k [ inl e ↦ d.0 (subst (λ w. Among w (vs ++ u ∷ [])) (sym e) (among-end u vs)) | inr none ↦ none ]))
    ∙ ap (λ ws. v ∷ ws) (all_but-last u x vs d.1)

-- Some that leave a line from its head.

-- if those at the head of a line are moved, and nobody else is, the others stay in order
pub line-behind : (n : ℕ) (l : Line) (f : ℕ → Place) (ms : List (ℕ × Place)) (us vs : List ℕ) → NoneTo l ms → line_at n l f ≡ us ++ vs → ((v : ℕ) → Among v us → KeyOf v ms) → ((v : ℕ) → KeyOf v ms → Among v us) → line_at n l (put_all f ms) ≡ vs
line-behind n l f ms us vs to parts moved only =
    let apart : IsDistinct (us ++ vs) = subst IsDistinct parts (queue-distinct (λ u. ticket_in l (f u)) n) in
    line-left n l f ms to
    ∙ (ap (filter (stays ms)) parts
    ∙ (filter-drop (stays ms) us vs (each-among (λ u. stays ms u ≡ false) us (λ v m. stays-key ms v (moved v m)))
    ∙ filter-all (stays ms) vs (each-among (λ u. stays ms u ≡ true) vs (λ v m. stays-other ms v (λ k. distinct-apart v us vs apart (only v k) m)))))
