-- Rounds whose pools were all found empty, while nothing came into them.
use Rattle.std.proofs.Common.{◌≡◌, ◌≢◌, ℕ, suc, ◌<◌, ◌+◌, ◌==◌, Bool, true, false, List, [], ◌∷◌, ◌++◌, length, None, Contains, refl, ap, sym, ◌∙◌, subst, arith, inl, inr, length-append}
use Rattle.std.specs.List.Sorted.{IsPermutation}
use Rattle.std.proofs.lemmas.Bool.{cases_eq, cond_both, eqb-true}
use Rattle.std.proofs.lemmas.List.Elements.{Contains-push_cases, Contains-append_cases}
use Rattle.std.proofs.lemmas.List.Sorted.{Contains-permutation, length_permutation}
use Rattle.abt_machine.specs.declared.events.What.{What}
use Rattle.abt_machine.specs.declared.events.What.TheVariants as what
use Rattle.abt_machine.specs.declared.numbers.PoolNo.{PoolNo}
use Rattle.abt_machine.specs.declared.operations.Kind.{Kind}
use Rattle.abt_machine.specs.declared.operations.Kind.TheVariants as kind
use Rattle.abt_machine.specs.Stored.{Stored}
use Rattle.abt_machine.specs.declared.workload.Parts.{Parts}
use Rattle.abt_machine.specs.Workloads.{kind_of, main_of, pools_of}
use Rattle.abt_machine.specs.Queues.{first, last}
use Rattle.abt_machine.specs.State.{State, Stream, Frame}
use Rattle.abt_machine.specs.Lines.{InPool, InTray, InHand, InNext, standing}
use Rattle.abt_machine.specs.Next.{RoundDue}
use Rattle.abt_machine.specs.Fronts.{at_end, front, owns, side_by}
use Rattle.abt_machine.specs.Rounds.{IsNextPool}
use Rattle.abt_machine.specs.Frames.{frame_at, frame_missed, round_missed}
use Rattle.abt_machine.specs.Events.{May, after}
use Rattle.abt_machine.specs.Outcomes.{Quiet}
use Rattle.abt_machine.specs.Sound.{Sound}
use Rattle.abt_laws.specs.Laws.{IsMiss}
use Rattle.abt_laws.proofs.Dues.{due-no_tray, due-no_next, due-no_hand}
use Rattle.abt_laws.proofs.Maps.{put_at-other, put_at-same}
use Rattle.abt_laws.proofs.Options.{none≢some}
use Rattle.abt_laws.proofs.Orders.{order-permutes}
use Rattle.abt_laws.proofs.Quiet.{lone-frame-main, miss-stacks-none}
use Rattle.abt_laws.proofs.Standing.{empty-standing}
use Rattle.abt_outcomes.proofs.Fresh.{others-fresh}

-- The pools that a round has seen.

-- the pools that the round of stream s has seen are empty
abbrev pub SeenEmpty : Parts → State → ℕ → Type 0
SeenEmpty W S s = (p : ℕ) → Contains (S.stream s).top.seen p → standing W S (InPool p) ≡ []

none-in : (p : ℕ) → Contains [] p → ⊥
none-in p has = let l = has.1 in omega arith

-- a round that has seen none
pub fresh-empty : (W : Parts) (S : State) (s : ℕ) → (S.stream s).top.seen ≡ [] → SeenEmpty W S s
fresh-empty W S s fresh p has = absurd (none-in p (subst (λ ps. Contains ps p) fresh has))

last-none : (us : List ℕ) → last us ≡ None → us ≡ []
last-none [] e = refl
last-none (u ∷ []) e = absurd (none≢some (sym e))
last-none (u ∷ v ∷ us) e = let rest : v ∷ us ≡ [] = last-none (v ∷ us) e in cc

first-none : (us : List ℕ) → first us ≡ None → us ≡ []
first-none [] e = refl
first-none (u ∷ us) e = absurd (none≢some (sym e))

no-front : (k : Kind) (own : Bool) (us : List ℕ) → at_end (side_by k own) us ≡ None → us ≡ []
no-front kind.Fifo own us e = first-none us e
no-front kind.Deque false us e = first-none us e
no-front kind.Deque true us e = last-none us e

-- a pool that answers with no unit has none
pub missed-empty : (W : Parts) (S : State) (s p : ℕ) → front W S s p ≡ None → standing W S (InPool p) ≡ []
missed-empty W S s p e = no-front (kind_of W p) (owns W s p) (standing W S (InPool p)) e

-- After a miss.

-- the stream's own part after its miss
missed : (W : Parts) (S : State) (s : ℕ) (p : PoolNo) → (after W S s (what.Miss p)).stream s ≡ round_missed W p.0 (S.stream s)
missed W S s p = put_at-same S.stream s (round_missed W p.0 (S.stream s))

-- the pools of a missed frame that are seen are those before, and the missed one
missed-seen : (W : Parts) (f : Frame) (p : ℕ) (P : ℕ → Type 0) → ((q : ℕ) → Contains f.seen q → P q) → P p → (q : ℕ) → Contains (frame_missed W f p).seen q → P q
missed-seen W f p P old now q =
    cond_both (length (pools_of W f.sched) == suc (length f.seen)) (frame_at f.sched (suc f.round) true) (record { sched = f.sched; round = f.round; seen = f.seen ++ p ∷ []; empty = false })
    (λ (g : Frame). Contains g.seen q → P q)
    (λ _ has. absurd (none-in q has))
    (λ _ has. elim (Contains-push_cases f.seen p q has) [ inl before ↦ old q before | inr same ↦ subst P same now ])

-- a miss of the stream
seen-missed : (W : Parts) (S : State) (s : ℕ) (p : PoolNo) → front W S s p.0 ≡ None → SeenEmpty W S s → SeenEmpty W (after W S s (what.Miss p)) s
seen-missed W S s p none seen q has =
    missed-seen W (S.stream s).top p.0 (λ q. standing W S (InPool q) ≡ []) seen (missed-empty W S s p.0 none) q
    (subst (λ (own : Stream). Contains own.top.seen q) (missed W S s p) has)

-- a miss of another stream
seen-other : (W : Parts) (S : State) (s r : ℕ) (p : PoolNo) → s ≢ r → SeenEmpty W S s → SeenEmpty W (after W S r (what.Miss p)) s
seen-other W S s r p other seen q has =
    seen q (subst (λ (own : Stream). Contains own.top.seen q) (put_at-other S.stream r (round_missed W p.0 (S.stream r)) s other) has)

-- any miss
pub seen-after-miss : (W : Parts) (Z : Stored) (S : State) (s r : ℕ) (w : What) → IsMiss w → May W Z S r w → SeenEmpty W S s → SeenEmpty W (after W S r w) s
seen-after-miss W Z S s r (what.Miss p) miss may seen =
    elim (cases_eq s r) [
      | inl same ↦ subst (λ q. SeenEmpty W (after W S r (what.Miss p)) q) (sym same) (seen-missed W S r p may.1 (subst (SeenEmpty W S) same seen))
      | inr other ↦ seen-other W S s r p other seen
    ]
seen-after-miss W Z S s r _ miss may seen = absurd miss

-- any event of the stream itself
pub seen-after-own : (W : Parts) (Z : Stored) (S : State) (s : ℕ) (w : What) → s < W.streams → Sound W Z S → May W Z S s w → SeenEmpty W S s → SeenEmpty W (after W S s w) s
seen-after-own W Z S s (what.Miss p) declared sound may seen = seen-missed W S s p may.1 seen
seen-after-own W Z S s (what.Take p u) declared sound may seen = fresh-empty W (after W S s (what.Take p u)) s (others-fresh W Z S s (what.Take p u) declared sound may (λ m. m))
seen-after-own W Z S s (what.Look u) declared sound may seen = fresh-empty W (after W S s (what.Look u)) s (others-fresh W Z S s (what.Look u) declared sound may (λ m. m))
seen-after-own W Z S s (what.Step u k c) declared sound may seen = fresh-empty W (after W S s (what.Step u k c)) s (others-fresh W Z S s (what.Step u k c) declared sound may (λ m. m))
seen-after-own W Z S s (what.Call u k n) declared sound may seen = fresh-empty W (after W S s (what.Call u k n)) s (others-fresh W Z S s (what.Call u k n) declared sound may (λ m. m))
seen-after-own W Z S s (what.Put u p) declared sound may seen = fresh-empty W (after W S s (what.Put u p)) s (others-fresh W Z S s (what.Put u p) declared sound may (λ m. m))
seen-after-own W Z S s (what.End u c) declared sound may seen = fresh-empty W (after W S s (what.End u c)) s (others-fresh W Z S s (what.End u c) declared sound may (λ m. m))
seen-after-own W Z S s (what.Enter u) declared sound may seen = fresh-empty W (after W S s (what.Enter u)) s (others-fresh W Z S s (what.Enter u) declared sound may (λ m. m))
seen-after-own W Z S s (what.Leave u) declared sound may seen = fresh-empty W (after W S s (what.Leave u)) s (others-fresh W Z S s (what.Leave u) declared sound may (λ m. m))

-- A round that ended empty.

-- a frame's round ends empty only at its last pool
ended-whole : (W : Parts) (f : Frame) (p : ℕ) → (frame_missed W f p).empty ≡ true → length (pools_of W f.sched) ≡ suc (length f.seen)
ended-whole W f p =
    cond_both (length (pools_of W f.sched) == suc (length f.seen)) (frame_at f.sched (suc f.round) true) (record { sched = f.sched; round = f.round; seen = f.seen ++ p ∷ []; empty = false })
    (λ (g : Frame). g.empty ≡ true → length (pools_of W f.sched) ≡ suc (length f.seen))
    (λ yes _. eqb-true (length (pools_of W f.sched)) (suc (length f.seen)) yes)
    (λ no e. cc)

-- if the last pool of a round is missed, each pool of its scheduler was seen or is the missed one
listed-seen : (W : Parts) (Z : Stored) (f : Frame) (p q : ℕ) → IsNextPool W Z.orders f p → length (pools_of W f.sched) ≡ suc (length f.seen) → Contains (pools_of W f.sched) q → Contains
    (f.seen ++ p ∷ []) q
listed-seen W Z f p q (order, chosen, more) whole listed =
    let permutes : IsPermutation (pools_of W f.sched) order = order-permutes W Z f.sched f.round order chosen in
    let long : length order ≡ length (pools_of W f.sched) = length_permutation (pools_of W f.sched) order permutes in
    let parts : length ((f.seen ++ p ∷ []) ++ more.0) ≡ length (f.seen ++ p ∷ []) + length more.0 = length-append (f.seen ++ p ∷ []) more.0 in
    let seen : length (f.seen ++ p ∷ []) ≡ length f.seen + 1 = length-append f.seen (p ∷ []) in
    let same : length ((f.seen ++ p ∷ []) ++ more.0) ≡ length order = ap length more.1 in
    let has : Contains ((f.seen ++ p ∷ []) ++ more.0) q = subst (λ xs. Contains xs q) (sym more.1) (Contains-permutation (pools_of W f.sched) order q permutes listed) in
    elim (Contains-append_cases (f.seen ++ p ∷ []) more.0 q has) [ inl is ↦ is | inr out ↦ (let l = out.1 in absurd (omega arith)) ]

-- all pools of its scheduler are empty
pub round-emptied : (W : Parts) (Z : Stored) (S : State) (s : ℕ) (p : PoolNo) → May W Z S s (what.Miss p) → SeenEmpty W S s → (frame_missed W (S.stream s).top p.0).empty ≡ true →
    (q : ℕ) → Contains (pools_of W (S.stream s).top.sched) q → standing W S (InPool q) ≡ []
round-emptied W Z S s p may seen ended q listed =
    let f : Frame = (S.stream s).top in
    elim (Contains-push_cases f.seen p.0 q (listed-seen W Z f p.0 q may.2 (ended-whole W f p.0 ended) listed)) [
      | inl before ↦ seen q before
      | inr same ↦ subst (λ n. standing W S (InPool n) ≡ []) same (missed-empty W S s p.0 may.1)
    ]

-- A stream of which nothing is left to do.

pub record IsQuietAt (W : Parts) (S : State) (s : ℕ) : Type 0 where
  pub tray : standing W S (InTray s) ≡ []
  pub next : standing W S (InNext s) ≡ []
  pub hand : standing W S (InHand s) ≡ []
  pub frames : (S.stream s).below ≡ []
  pub pools : (p : ℕ) → Contains (pools_of W (main_of W s)) p → standing W S (InPool p) ≡ []

pub quiet-everywhere : (W : Parts) (S : State) → ((s : ℕ) → s < W.streams → IsQuietAt W S s) → Quiet W S
quiet-everywhere W S each = record {
  trays = λ s l. (let at = each s l in at.tray);
  nexts = λ s l. (let at = each s l in at.next);
  hands = λ s l. (let at = each s l in at.hand);
  frames = λ s l. (let at = each s l in at.frames);
  pools = λ s p l listed. (let at = each s l in at.pools p listed);
}

-- it stays so at every miss
pub quiet-at-stays : (W : Parts) (S : State) (s r : ℕ) (w : What) → IsMiss w → IsQuietAt W S s → IsQuietAt W (after W S r w) s
quiet-at-stays W S s r (what.Miss p) miss at = record { tray = at.tray; next = at.next; hand = at.hand; frames = miss-stacks-none W S s r (what.Miss p) tt ∙ at.frames; pools = at.pools }
quiet-at-stays W S s r _ miss at = absurd miss

-- a stream is so after a miss that ends a round of its main scheduler empty, if the pools that the round saw before are empty
pub main-round-quiet : (W : Parts) (Z : Stored) (S : State) (s : ℕ) (w : What) → s < W.streams → Sound W Z S → May W Z S s w → SeenEmpty W S s → IsMiss w →
    ((after W S s w).stream s).below ≡ [] → ((after W S s w).stream s).top.empty ≡ true → IsQuietAt W (after W S s w) s
main-round-quiet W Z S s (what.Miss p) declared sound may seen miss alone ended =
    let none : (S.stream s).below ≡ [] = sym (ap (λ (own : Stream). own.below) (missed W S s p)) ∙ alone in
    let main : (S.stream s).top.sched ≡ main_of W s = lone-frame-main W Z S s declared sound none in
    let whole : (frame_missed W (S.stream s).top p.0).empty ≡ true = sym (ap (λ (own : Stream). own.top.empty) (missed W S s p)) ∙ ended in
    record {
      tray = empty-standing W S (InTray s) (due-no_tray W S s sound.undeclared RoundDue may.0 tt);
      next = empty-standing W S (InNext s) (due-no_next W S s sound.undeclared RoundDue may.0 tt);
      hand = empty-standing W S (InHand s) (due-no_hand W S s sound.undeclared RoundDue may.0 tt);
      frames = alone;
      pools = λ q listed. round-emptied W Z S s p may seen whole q (subst (λ g. Contains (pools_of W g) q) (sym main) listed);
    }
main-round-quiet W Z S s _ declared sound may seen miss alone ended = absurd miss
