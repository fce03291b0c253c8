-- A stream's turns.
use Rattle.std.proofs.Common.{◌≡◌, ℕ, List, [], ◌∷◌, ◌++◌, Option, Some, None, refl, sym, subst}
use Rattle.abt_interleave.specs.Deeds.{Heard, Does}
use Rattle.abt_interleave.specs.Machines.{Machine, DeedOf}
use Rattle.abt_interleave.specs.Histories.{Extends}
use Rattle.abt_interleave.specs.Lines.{CallOf, Sees, Walks, Gone}
use Rattle.abt_interleave.specs.Passes.{MovesOf, Turn, Did, Met, deeds_of, Calls, Turns, clock_after, Shows, TurnsGoOn, TurnsMeet, TurnsAreGone}
use Rattle.abt_interleave.proofs.Prefixes.{extends-self, extends-then, sees-then}

module _ (M : Machine) {Pass : Type 0} (moves : MovesOf M Pass) (s : ℕ) where
  one-more : (clock : ℕ) (part part1 part2 : M.Part) (pass pass1 pass2 : Pass) (ts : List (Turn M)) (d : DeedOf M) →
      Turns M moves s clock part pass ts part1 pass1 → d.stream ≡ s → M.Steps s part1 d.what d.heard part2 → Calls M moves (clock_after M clock ts) d d.heard pass1 pass2 →
      Turns M moves s clock part pass (ts ++ Did d ∷ []) part2 pass2
  one-more clock part part1 part2 pass pass1 pass2 [] d w own step call =
      (own, part2, pass2, subst (λ p. M.Steps s p d.what d.heard part2) (sym w.0) step, subst (λ p. Calls M moves clock d d.heard p pass2) (sym w.1) call, (refl, refl))
  one-more clock part part1 part2 pass pass1 pass2 (Did e ∷ ts) d w own step call = (w.0, w.1, w.2, w.3, w.4, one-more e.stamp w.1 part1 part2 w.2 pass1 pass2 ts d w.5 own step call)
  one-more clock part part1 part2 pass pass1 pass2 (Met x a ∷ ts) d w own step call = (w.0, w.1, one-more clock part part1 part2 w.0 pass1 pass2 ts d w.2 own step call)

  one-met : (clock : ℕ) (part part1 : M.Part) (pass pass1 pass2 : Pass) (ts : List (Turn M)) (x : M.Place) (a : M.Act) →
      Turns M moves s clock part pass ts part1 pass1 → moves pass1 x (clock_after M clock ts) a None pass2 → Turns M moves s clock part pass (ts ++ Met x a ∷ []) part1 pass2
  one-met clock part part1 pass pass1 pass2 [] x a w move = (pass2, subst (λ p. moves p x clock a None pass2) (sym w.1) move, (w.0, refl))
  one-met clock part part1 pass pass1 pass2 (Did e ∷ ts) x a w move = (w.0, w.1, w.2, w.3, w.4, one-met e.stamp w.1 part1 w.2 pass1 pass2 ts x a w.5 move)
  one-met clock part part1 pass pass1 pass2 (Met y b ∷ ts) x a w move = (w.0, w.1, one-met clock part part1 w.0 pass1 pass2 ts x a w.2 move)

  does-turns : (clock : ℕ) (part part' : M.Part) (pass pass' : Pass) (ts : List (Turn M)) → Turns M moves s clock part pass ts part' pass' → Does M.Steps s part (deeds_of M ts) part'
  does-turns clock part part' pass pass' [] w = w.0
  does-turns clock part part' pass pass' (Did d ∷ ts) w = (w.0, w.1, w.3, does-turns d.stamp w.1 part' w.2 pass' ts w.5)
  does-turns clock part part' pass pass' (Met x a ∷ ts) w = does-turns clock part part' w.0 pass' ts w.2

  module _ {Lock : Type 0} (lock : M.Place → Lock) (carried : Lock → ℕ) (own : Pass → Type 0) (seen : Pass → Lock → List (CallOf M)) (shows : Shows M lock carried s own seen moves) where
    -- what one deed's call shows, and that the pass stays the stream's own
    called : (clock : ℕ) (pass new : Pass) (d : DeedOf M) (heard : Option (Heard M.Place M.Act M.Answer)) → own pass → d.stream ≡ s → Calls M moves clock d heard pass new → own new × Sees M lock carried s (seen pass) clock d heard (seen new)
    called clock pass new d None mine who w = (subst own (sym w.1) mine, (w.0, λ l. subst (λ p. Extends s (seen pass l) (seen p l)) (sym w.1) (extends-self s (seen pass l))))
    called clock pass new d (Some h) mine who w = (shows.stays pass new h.0 clock h.1 (Some (d.stamp, h.2)) mine w, shows.answered pass new h.0 clock h.1 h.2 d mine w who)

    -- lines that went on before the walk
    walks-then : (clock : ℕ) (a b after : Lock → List (CallOf M)) (ds : List (DeedOf M)) → ((l : Lock) → Extends s (a l) (b l)) → Walks M lock carried s b clock ds after → Walks M lock carried s a clock ds after
    walks-then clock a b after [] x w = λ l. extends-then s (a l) (b l) (after l) (x l) (w l)
    walks-then clock a b after (d ∷ ds) x w = (w.0, sees-then M lock carried s a b w.0 clock d d.heard x w.1, w.2)

    walk-turns : (clock : ℕ) (part part' : M.Part) (pass pass' : Pass) (ts : List (Turn M)) → own pass → Turns M moves s clock part pass ts part' pass' → Walks M lock carried s (seen pass) clock (deeds_of M ts) (seen pass')
    walk-turns clock part part' pass pass' [] mine w = λ l. subst (λ p. Extends s (seen pass l) (seen p l)) w.1 (extends-self s (seen pass l))
    walk-turns clock part part' pass pass' (Did d ∷ ts) mine w =
        let c = called clock pass w.2 d d.heard mine w.0 w.4 in
        (seen w.2, c.1, walk-turns d.stamp w.1 part' w.2 pass' ts c.0 w.5)
    walk-turns clock part part' pass pass' (Met x a ∷ ts) mine w =
        walks-then clock (seen pass) (seen w.0) (seen pass') (deeds_of M ts) (shows.worn pass w.0 x clock a mine w.1) (walk-turns clock part part' w.0 pass' ts (shows.stays pass w.0 x clock a None mine w.1) w.2)

    gone : (clock : ℕ) (part part' : M.Part) (pass pass' : Pass) (ts : List (Turn M)) → own pass → ((l : Lock) → seen pass l ≡ []) → Turns M moves s clock part pass ts part' pass' → Gone M lock carried s clock part (deeds_of M ts) part' (seen pass')
    gone clock part part' pass pass' ts mine fresh w = record {
      does = does-turns clock part part' pass pass' ts w;
      walks = subst (λ before. Walks M lock carried s before clock (deeds_of M ts) (seen pass')) (λ i l. fresh l i) (walk-turns clock part part' pass pass' ts mine w);
    }

module _ (M : Machine) {Pass : Type 0} (moves : MovesOf M Pass) where
  pub turns-go-on : TurnsGoOn M moves
  turns-go-on s clock part part1 part2 pass pass1 pass2 ts d w own step call = one-more M moves s clock part part1 part2 pass pass1 pass2 ts d w own step call

  pub turns-meet : TurnsMeet M moves
  turns-meet s clock part part1 pass pass1 pass2 ts x a w move = one-met M moves s clock part part1 pass pass1 pass2 ts x a w move

  pub turns-are-gone : (own : Pass → Type 0) (Lock : Type 0) → TurnsAreGone M moves own Lock
  turns-are-gone own Lock lock carried s clock seen part part' pass pass' ts shows mine fresh w = gone M moves s lock carried own seen shows clock part part' pass pass' ts mine fresh w
