-- A seed makes one run, if nothing is free.
use Rattle.std.proofs.Common.{◌≡◌, ◌∙◌, ℕ, zero, suc, ◌<◌, ◌≤◌, ◌+◌, ◌⊎◌, List, [], ◌∷◌, ◌++◌, ap, append-nil, append_assoc, arith, inl, inr, length, refl, subst, sym}
use Rattle.std.proofs.lemmas.Bool.{cases_lt}
use Rattle.abt_machine.specs.declared.events.Event.{Event}
use Rattle.abt_machine.specs.declared.events.What.{What}
use Rattle.abt_machine.specs.declared.numbers.StreamNo.{StreamNo}
use Rattle.abt_machine.specs.Stored.{Stored}
use Rattle.abt_machine.specs.declared.workload.Parts.{Parts}
use Rattle.abt_machine.specs.Events.{May}
use Rattle.abt_machine.specs.Numbers.{stream_no}
use Rattle.abt_machine.specs.Rounds.{OrdersStored}
use Rattle.abt_machine.specs.Runs.{Run, RunFrom, last_state}
use Rattle.abt_machine.specs.Sound.{Sound}
use Rattle.abt_machine.specs.Start.{start}
use Rattle.abt_machine.specs.Valid.{IsValid}
use Rattle.abt_bounds.specs.Laws.{HasNoFree}
use Rattle.abt_bounds.proofs.Choosing.{one-next}
use Rattle.abt_drain.specs.InRotation.{EndsTurns, StopsBy}
use Rattle.abt_explore.specs.Laws.{AreCounted, CountsFrom}
use Rattle.abt_laws.proofs.RunParts.{last_state-sound, run-front, run-rest}
use Rattle.abt_laws.proofs.SoundRuns.{runs-are-sound}
use Rattle.abt_schedule.specs.Drawing.{streams_of_rotation}
use Rattle.abt_schedule.specs.Seeds.{AreDrawnRotations, AreTurnsOf, IsSeeded, IsTurn, OneRunASeed}

-- the stamp of an event among others
counted-at : (t : ℕ) (J : List Event) (e : Event) (es : List Event) → CountsFrom t (J ++ e ∷ es) → e.stamp ≡ length J + t
counted-at t [] e es counted = omega (arith, counted.0)
counted-at t (f ∷ J) e es counted = let rest : e.stamp ≡ length J + suc t = counted-at (suc t) J e es counted.1 in omega arith

-- events are the same by their three parts
same-parts : (e f : Event) → e.stamp ≡ f.stamp → e.stream.0 ≡ f.stream.0 → e.what ≡ f.what → e ≡ f
same-parts e f stamps streams whats =
    let numbers : e.stream ≡ f.stream = ap stream_no streams in
    ap (λ n. record e { stamp = n }) stamps ∙ (ap (λ (r : StreamNo). record e { stamp = f.stamp; stream = r }) numbers ∙ ap (λ (w : What). record f { what = w }) whats)

-- both parts of a list
same-cons : (e f : Event) (es fs : List Event) → e ≡ f → es ≡ fs → e ∷ es ≡ f ∷ fs
same-cons e f es fs first rest = ap (λ x. x ∷ es) first ∙ ap (λ xs. f ∷ xs) rest

same-append : (es fs xs ys : List Event) → es ≡ fs → xs ≡ ys → es ++ xs ≡ fs ++ ys
same-append es fs xs ys first rest = ap (λ zs. zs ++ xs) first ∙ ap (λ zs. fs ++ zs) rest

module _ (W : Parts) (Z : Stored) (valid : IsValid W) (stored : OrdersStored W Z.orders) (none : HasNoFree W Z) where
  -- a run whose stamps count its events
  abbrev IsCountedRun : List Event → Type 0
  IsCountedRun J = Run W Z J × AreCounted J

  -- two of them go on from the same events by the same event, if both are of one stream
  one-event : (J : List Event) (e f : Event) (es fs : List Event) → IsCountedRun (J ++ e ∷ es) → IsCountedRun (J ++ f ∷ fs) → e.stream.0 ≡ f.stream.0 → e ≡ f
  one-event J e f es fs a b streams =
      let sound : Sound W Z (last_state W J) = last_state-sound W Z J (runs-are-sound W Z) valid stored (run-front W Z (start W) J (e ∷ es) a.0) in
      let one : RunFrom W Z (last_state W J) (e ∷ es) = run-rest W Z (start W) J (e ∷ es) a.0 in
      let two : RunFrom W Z (last_state W J) (f ∷ fs) = run-rest W Z (start W) J (f ∷ fs) b.0 in
      let whats : e.what ≡ f.what = one-next W Z none (last_state W J) e.stream.0 e.what f.what sound one.1 (subst (λ s. May W Z (last_state W J) s f.what) (sym streams) two.1) in
      same-parts e f (counted-at 1 J e es a.1 ∙ sym (counted-at 1 J f fs b.1)) streams whats

  module _ (n : ℕ) where
    -- turns that begin with the same event are one if what follows is
    turn-by : (s : ℕ) (J es fs : List Event) (e f : Event) → e ≡ f → (IsTurn W n s (J ++ e ∷ []) es → IsTurn W n s (J ++ e ∷ []) fs → es ≡ fs)
        → ((EndsTurns W s J e × (es ≡ [])) ⊎ ((EndsTurns W s J e → ⊥) × IsTurn W n s (J ++ e ∷ []) es))
        → ((EndsTurns W s J f × (fs ≡ [])) ⊎ ((EndsTurns W s J f → ⊥) × IsTurn W n s (J ++ f ∷ []) fs)) → e ∷ es ≡ f ∷ fs
    turn-by s J es fs e f same rest (inl p) (inl q) = same-cons e f es fs same (p.1 ∙ sym q.1)
    turn-by s J es fs e f same rest (inl p) (inr q) = absurd (q.0 (subst (λ (x : Event). EndsTurns W s J x) same p.0))
    turn-by s J es fs e f same rest (inr p) (inl q) = absurd (p.0 (subst (λ (x : Event). EndsTurns W s J x) (sym same) q.0))
    turn-by s J es fs e f same rest (inr p) (inr q) = same-cons e f es fs same (rest p.1 (subst (λ (x : Event). IsTurn W n s (J ++ x ∷ []) fs) (sym same) q.1))

    -- a stream has one turn
    one-turn : (s : ℕ) (J es fs xs ys : List Event) → IsCountedRun (J ++ (es ++ xs)) → IsCountedRun (J ++ (fs ++ ys)) → IsTurn W n s J es → IsTurn W n s J fs → es ≡ fs
    one-turn s J [] [] xs ys a b t u = refl
    one-turn s J [] (f ∷ fs) xs ys a b t u = absurd (u.0 t)
    one-turn s J (e ∷ es) [] xs ys a b t u = absurd (t.0 u)
    one-turn s J (e ∷ es) (f ∷ fs) xs ys a b t u =
        let same : e ≡ f = one-event J e f (es ++ xs) (fs ++ ys) a b (t.1 ∙ sym u.1) in
        let one : IsCountedRun ((J ++ e ∷ []) ++ (es ++ xs)) = subst IsCountedRun (sym (append_assoc J (e ∷ []) (es ++ xs))) a in
        let two : IsCountedRun ((J ++ e ∷ []) ++ (fs ++ ys)) =
        subst IsCountedRun (sym (append_assoc J (e ∷ []) (fs ++ ys))) (subst (λ (x : Event). IsCountedRun (J ++ x ∷ (fs ++ ys))) (sym same) b) in
        turn-by s J es fs e f same (λ p q. one-turn s (J ++ e ∷ []) es fs xs ys one two p q) t.2 u.2

    -- streams have one list of turns
    one-turns : (streams : List ℕ) (J es fs xs ys : List Event) → IsCountedRun (J ++ (es ++ xs)) → IsCountedRun (J ++ (fs ++ ys)) → AreTurnsOf W n streams J es → AreTurnsOf W n streams J fs → es ≡ fs
    one-turns [] J es fs xs ys a b t u = t ∙ sym u
    one-turns (s ∷ streams) J es fs xs ys a b (turn, rest, is, first, others) (turn', rest', is', first', others') =
        let one : IsCountedRun (J ++ (turn ++ (rest ++ xs))) = subst IsCountedRun (ap (λ zs. J ++ zs) (ap (λ zs. zs ++ xs) is ∙ append_assoc turn rest xs)) a in
        let two : IsCountedRun (J ++ (turn' ++ (rest' ++ ys))) = subst IsCountedRun (ap (λ zs. J ++ zs) (ap (λ zs. zs ++ ys) is' ∙ append_assoc turn' rest' ys)) b in
        let turns : turn ≡ turn' = one-turn s J turn turn' (rest ++ xs) (rest' ++ ys) one two first first' in
        let rests : rest ≡ rest' = one-turns streams (J ++ turn) rest rest' xs ys
        (subst IsCountedRun (sym (append_assoc J turn (rest ++ xs))) one)
        (subst IsCountedRun (sym (append_assoc J turn (rest' ++ ys))) (subst (λ zs. IsCountedRun (J ++ (zs ++ (rest' ++ ys)))) (sym turns) two))
        others (subst (λ zs. AreTurnsOf W n streams (J ++ zs) rest') (sym turns) others') in
        is ∙ (same-append turn turn' rest rest' turns rests ∙ sym is')

    module _ (seed : ℕ) where
      -- that many rotations are one list
      one-rotations : (k : ℕ) (J K xs ys : List Event) → IsCountedRun (J ++ xs) → IsCountedRun (K ++ ys) → AreDrawnRotations W seed n k J → AreDrawnRotations W seed n k K → J ≡ K
      one-rotations zero J K xs ys a b r q = r ∙ sym q
      one-rotations (suc k) J K xs ys a b (before, es, is, rotations, turns, goes) (before', es', is', rotations', turns', goes') =
          let one : IsCountedRun (before ++ (es ++ xs)) = subst IsCountedRun (ap (λ zs. zs ++ xs) is ∙ append_assoc before es xs) a in
          let two : IsCountedRun (before' ++ (es' ++ ys)) = subst IsCountedRun (ap (λ zs. zs ++ ys) is' ∙ append_assoc before' es' ys) b in
          let befores : before ≡ before' = one-rotations k before before' (es ++ xs) (es' ++ ys) one two rotations rotations' in
          let lasts : es ≡ es' = one-turns (streams_of_rotation W seed k) before es es' xs ys one (subst (λ zs. IsCountedRun (zs ++ (es' ++ ys))) (sym befores) two)
          turns (subst (λ zs. AreTurnsOf W n (streams_of_rotation W seed k) zs es') (sym befores) turns') in
          is ∙ (same-append before before' es es' befores lasts ∙ sym is')

      -- fewer rotations, which are first
      first-rotations : (k m : ℕ) (K : List Event) → k ≤ m → AreDrawnRotations W seed n m K → (front : List Event) × (rest : List Event) × (K ≡ front ++ rest) × AreDrawnRotations W seed n k front
      first-rotations k zero K below r = let none : k ≡ 0 = omega arith in (K, [], sym (append-nil K), subst (λ i. AreDrawnRotations W seed n i K) (sym none) r)
      first-rotations k (suc m) K below (before, es, is, rotations, turns, goes) = elim (cases_lt m k) [
        | inl above ↦ (let all : k ≡ suc m = omega arith in (K, [], sym (append-nil K), subst (λ i. AreDrawnRotations W seed n i K) (sym all) (before, es, is, rotations, turns, goes)))
        | inr under ↦ (let first = first-rotations k m before under rotations in (first.0, first.1 ++ es, is ∙ (ap (λ zs. zs ++ es) first.2 ∙ append_assoc first.0 first.1 es), first.3))
      ]

      -- a run that stopped after k rotations more does not go on by a rotation more
      no-more : (k m : ℕ) (before last front rest : List Event) → IsCountedRun (before ++ last) → IsCountedRun (front ++ rest) → AreDrawnRotations W seed n k before → AreTurnsOf W n (streams_of_rotation W seed k) before last → StopsBy W n before last
          → AreDrawnRotations W seed n m front → k < m → ⊥
      no-more k m before last front rest a b rotations turns stops others less =
          let first = first-rotations (suc k) m front (omega arith) others in
          by first.0 first.1 first.2 first.3
        where
          by : (some more : List Event) → front ≡ some ++ more → AreDrawnRotations W seed n (suc k) some → ⊥
          by some more is (early, es, same, earlier, next, goes) =
              let two : IsCountedRun (early ++ (es ++ (more ++ rest))) = subst IsCountedRun (ap (λ zs. zs ++ rest) is ∙ (append_assoc some more rest ∙ (ap (λ zs. zs ++ (more ++ rest)) same ∙ append_assoc early es (more ++ rest)))) b in
              let one : IsCountedRun (before ++ (last ++ [])) = subst (λ zs. IsCountedRun (before ++ zs)) (sym (append-nil last)) a in
              let befores : before ≡ early = one-rotations k before early (last ++ []) (es ++ (more ++ rest)) one two rotations earlier in
              let lasts : last ≡ es = one-turns (streams_of_rotation W seed k) before last es [] (more ++ rest) one (subst (λ zs. IsCountedRun (zs ++ (es ++ (more ++ rest)))) (sym befores) two)
              turns (subst (λ zs. AreTurnsOf W n (streams_of_rotation W seed k) zs es) (sym befores) next) in
              goes (subst (λ zs. StopsBy W n zs es) befores (subst (λ zs. StopsBy W n before zs) lasts stops))

      -- as many rotations make the same run
      as-many : (J K : List Event) → IsCountedRun J → IsCountedRun K → (j : IsSeeded W seed n J) → (k : IsSeeded W seed n K) → j.many ≡ k.many → J ≡ K
      as-many J K a b j k many =
          let one : IsCountedRun (j.before ++ (j.last ++ [])) = subst IsCountedRun (j.all ∙ ap (λ zs. j.before ++ zs) (sym (append-nil j.last))) a in
          let two : IsCountedRun (k.before ++ (k.last ++ [])) = subst IsCountedRun (k.all ∙ ap (λ zs. k.before ++ zs) (sym (append-nil k.last))) b in
          let befores : j.before ≡ k.before = one-rotations j.many j.before k.before (j.last ++ []) (k.last ++ []) one two j.rotations (subst (λ i. AreDrawnRotations W seed n i k.before) (sym many) k.rotations) in
          let lasts : j.last ≡ k.last = one-turns (streams_of_rotation W seed j.many) j.before j.last k.last [] [] one (subst (λ zs. IsCountedRun (zs ++ (k.last ++ []))) (sym befores) two)
          j.turns (subst (λ zs. AreTurnsOf W n (streams_of_rotation W seed j.many) zs k.last) (sym befores) (subst (λ i. AreTurnsOf W n (streams_of_rotation W seed i) k.before k.last) (sym many) k.turns)) in
          j.all ∙ (same-append j.before k.before j.last k.last befores lasts ∙ sym k.all)

      one-seeded : (J K : List Event) → IsCountedRun J → IsCountedRun K → IsSeeded W seed n J → IsSeeded W seed n K → J ≡ K
      one-seeded J K a b j k =
          let one : IsCountedRun (j.before ++ j.last) = subst IsCountedRun j.all a in
          let two : IsCountedRun (k.before ++ k.last) = subst IsCountedRun k.all b in
          elim (cases_lt j.many k.many) [
            | inl less ↦ absurd (no-more j.many k.many j.before j.last k.before k.last one two j.rotations j.turns j.stops k.rotations less)
            | inr above ↦ elim (cases_lt k.many j.many) [
              | inl more ↦ absurd (no-more k.many j.many k.before k.last j.before j.last two one k.rotations k.turns k.stops j.rotations more)
              | inr below ↦ as-many J K a b j k (omega arith)
            ]
          ]

pub one-run : (W : Parts) (Z : Stored) → OneRunASeed W Z
one-run W Z valid stored none seed n J K a b j k = one-seeded W Z valid stored none n seed J K (a, j.counted) (b, k.counted) j k
