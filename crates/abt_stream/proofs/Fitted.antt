-- After a turn the stream fits.
use Rattle.std.proofs.Common.{◌≡◌, ◌<◌, ◌++◌, ℕ, [], Option, None, Some, inl, inr, ap, sym, subst}
use Rattle.std.proofs.lemmas.List.Elements.{All-cons, All-head, All-nil}
use Rattle.std.specs.List.{All}
use Rattle.abt_machine.specs.declared.events.Site.{Site}
use Rattle.abt_machine.specs.declared.events.What.{What}
use Rattle.abt_machine.specs.declared.events.What.TheVariants as what
use Rattle.abt_machine.specs.declared.numbers.PoolNo.{PoolNo}
use Rattle.abt_machine.specs.declared.numbers.StreamNo.{StreamNo}
use Rattle.abt_machine.specs.declared.operations.Side.{Side}
use Rattle.abt_machine.specs.declared.workload.Parts.{Parts}
use Rattle.abt_machine.specs.Stored.{Stored}
use Rattle.abt_machine.specs.Acts.{Act, Answer}
use Rattle.abt_machine.specs.Acts as act
use Rattle.abt_machine.specs.Turns.{Heard}
use Rattle.abt_machine.specs.Valid.{IsValid}
use Rattle.abt_machine.specs.Values.{Held, Owned}
use Rattle.abt_calls.specs.Effects.{unit_in}
use Rattle.abt_calls.specs.Holders.{units_held}
use Rattle.abt_calls.specs.Streams.{contents_heard}
use Rattle.abt_calls.proofs.TurnUnits.{events-fit}
use Rattle.abt_chain.specs.Keeping.{Have, IsPoolOf, contents_answered}
use Rattle.abt_unit.specs.Fits.{Fits}
use Rattle.abt_commons.specs.Replies.{Told}
use Rattle.abt_stream.specs.declared.turns.Turn.{Turn}
use Rattle.abt_stream.specs.declared.turns.Turn.TheVariants as turn
use Rattle.abt_stream.specs.Heeding.{Heeds}
use Rattle.abt_stream.specs.Events.{VisitBy, VisitedBy, emptied, passed, took}
use Rattle.abt_stream.specs.Keeping.{KeepsStream}
use Rattle.abt_stream.specs.Streams.{FitsStream, StreamValue}
use Rattle.abt_stream.specs.Turned.{Made, Turned, Went}

module _ {P : Type 0} (moves : P → Site → ℕ → Act → Told → P → Type 0) (V W : Parts) (same : V ≡ W) (valid : IsValid W) (old : StreamValue) (before : P) (new : StreamValue) (after : P)
    (fits : FitsStream W old) (keeps : KeepsStream W old new) where
  -- what was heard is the workload's
  told : (heard : Option Heard) → Went (Heeds moves V) old.clock before heard new.clock after → Have (Fits W) (IsPoolOf W) (contents_heard heard)
  told None went = (All-nil (Fits W), All-nil (IsPoolOf W))
  told (Some h) went = subst (λ (U : Parts). Have (Fits U) (IsPoolOf U) (contents_answered h.2)) same went.1

  fits-with : All (Fits W) (units_held new.held) → FitsStream W new
  fits-with units =
      let kept = keeps.frames (record { top = fits.top; below = fits.below; order = fits.order }) in
      record { number = subst (λ (n : StreamNo). n.0 < W.streams) (sym keeps.number) fits.number; top = kept.top; below = kept.below; order = kept.order; units = units }

  made-fits : (Z : Stored) (w : What) → Made (Heeds moves V) W Z old before w new after → FitsStream W new
  made-fits Z w m = fits-with (events-fit W Z old.number.0 old.held w m.heard new.held valid m.steps fits.units (told m.heard m.went))

  unmoved : new ≡ old → FitsStream W new
  unmoved is = subst (λ (s : StreamValue). FitsStream W s) (sym is) fits

  pub turn-fits : (Z : Stored) (t : Turn) → Turned (Heeds moves V) W Z old before t new after → FitsStream W new
  turn-fits Z turn.Stepped h = made-fits Z h.0 h.1
  turn-fits Z turn.EmptyRound h = made-fits Z (what.Miss h.0) h.1
  turn-fits Z turn.Moved h = made-fits Z h.0 h.1
  turn-fits Z turn.Spent h = unmoved h.1
  turn-fits Z turn.Worn h = unmoved h.0

  -- the unit that a pool answered with
  given-fits : (o : Owned) → Have (Fits V) (IsPoolOf V) (contents_answered (act.Given o)) → Fits W o
  given-fits o have = subst (λ (U : Parts). Fits U o) same (All-head (Fits V) o [] have.0)

  visited-fits : (p : PoolNo) (answer : Answer) (t : Turn) → old.held.next ≡ None → old.held.hand ≡ None
      → Have (Fits V) (IsPoolOf V) (contents_answered answer) → VisitedBy old p answer t new → FitsStream W new
  visited-fits p (act.Given o) turn.Moved next hand have h =
      let held : new.held ≡ (took old o).held = ap (λ (s : StreamValue). s.held) h in
      let without = subst (λ (n : Option Owned). All (Fits W) (((unit_in old.held.hand ++ unit_in n) ++ old.held.tray) ++ old.held.framed)) next fits.units in
      let nobody = subst (λ (n : Option Owned). All (Fits W) (((unit_in n ++ []) ++ old.held.tray) ++ old.held.framed)) hand without in
      let others : All (Fits W) (old.held.tray ++ old.held.framed) = nobody in
      let one : All (Fits W) (((unit_in None ++ unit_in (Some o)) ++ old.held.tray) ++ old.held.framed) = All-cons (Fits W) o (old.held.tray ++ old.held.framed) (given-fits o have) others in
      let all = subst (λ (n : Option Owned). All (Fits W) (((unit_in n ++ unit_in (Some o)) ++ old.held.tray) ++ old.held.framed)) (sym hand) one in
      fits-with (subst (λ (k : Held). All (Fits W) (units_held k)) (sym held) all)
  visited-fits p act.Miss turn.Moved next hand have h =
      let held : new.held ≡ (passed old p).held = ap (λ (s : StreamValue). s.held) h.0 in
      fits-with (subst (λ (k : Held). All (Fits W) (units_held k)) (sym held) fits.units)
  visited-fits p act.Miss turn.EmptyRound next hand have h =
      let held : new.held ≡ (emptied old).held = ap (λ (s : StreamValue). s.held) h.0 in
      fits-with (subst (λ (k : Held). All (Fits W) (units_held k)) (sym held) fits.units)
  visited-fits p answer t next hand have h = absurd h

  -- whatever round the visit was of
  pub visit-fits : (p : PoolNo) (d : Side) (t : Turn) → old.held.next ≡ None → old.held.hand ≡ None → VisitBy (Heeds moves V) old before p d t new after → FitsStream W new
  visit-fits p d t next hand (inl worn) = unmoved worn.1.same
  visit-fits p d t next hand (inr h) = visited-fits p h.0 t next hand h.1.1 h.2
