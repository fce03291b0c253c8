-- What other streams leave, and the events that wait for that reason.
use Rattle.std.proofs.Common.{◌≡◌, ◌≢◌, ◌<◌, ◌∙◌, ℕ, List, [], ◌∷◌, Option, None, ap, inl, inr, refl, subst, sym}
use Rattle.abt_machine.specs.declared.events.Event.{Event}
use Rattle.abt_machine.specs.declared.events.Site.{Site}
use Rattle.abt_machine.specs.declared.events.What.{What}
use Rattle.abt_machine.specs.Stored.{Stored}
use Rattle.abt_machine.specs.declared.workload.Parts.{Parts}
use Rattle.abt_machine.specs.Numbers.{stream_no}
use Rattle.abt_machine.specs.Valid.{IsValid}
use Rattle.abt_machine.specs.EventSites.{what_site}
use Rattle.abt_machine.specs.Events.{May, after, change}
use Rattle.abt_machine.specs.Runs.{RunFrom, state_after}
use Rattle.abt_machine.specs.State.{State}
use Rattle.abt_laws.specs.Footprint.{Apart, Within, holder}
use Rattle.abt_laws.proofs.Alike.{IsAlike, alike-after}
use Rattle.abt_laws.proofs.AlikeEvents.{may-alike}
use Rattle.abt_laws.proofs.Commute.{events-commute}
use Rattle.abt_laws.proofs.LocalEvents.{event-local}
use Rattle.abt_laws.proofs.Options.{none≢some}
use Rattle.abt_explore.specs.Alone.{IsWithout, MaySwap, Waits}

-- States that are alike.

module _ (W : Parts) (s : ℕ) (x : Option Site) where
  -- what is alike in two steps
  alike-on : (S T U : State) → IsAlike W s x S T → IsAlike W s x T U → IsAlike W s x S U
  alike-on S T U a b = record {
    units = λ u either. elim either [
      | inl first ↦
          let one = a.units u (inl first) in
          let two = b.units u (inl (subst (λ pl. Within s x (holder W u pl)) one.0 first)) in (one.0 ∙ two.0, one.1 ∙ two.1)
      | inr last ↦
          let two = b.units u (inr last) in
          let one = a.units u (inr (subst (λ pl. Within s x (holder W u pl)) (sym two.0) last)) in (one.0 ∙ two.0, one.1 ∙ two.1)
    ];
    desk = λ v e. a.desk v e ∙ b.desk v e;
    pool_next = λ p e. a.pool_next p e ∙ b.pool_next p e;
    join_next = λ v e. a.join_next v e ∙ b.join_next v e;
    object_next = λ y e. a.object_next y e ∙ b.object_next y e;
    mutex = λ y e. a.mutex y e ∙ b.mutex y e;
    eventual = λ y e. a.eventual y e ∙ b.eventual y e;
    future = λ y e. a.future y e ∙ b.future y e;
    rwlock = λ y e. a.rwlock y e ∙ b.rwlock y e;
    stream = a.stream ∙ b.stream;
  }

  alike-same : (S : State) → IsAlike W s x S S
  alike-same S = record {
    units = λ u either. (refl, refl);
    desk = λ v e. refl;
    pool_next = λ p e. refl;
    join_next = λ v e. refl;
    object_next = λ y e. refl;
    mutex = λ y e. refl;
    eventual = λ y e. refl;
    future = λ y e. refl;
    rwlock = λ y e. refl;
    stream = refl;
  }

-- Events of other streams.

-- whatever the streams other than s do from state S on, none of them touches this object, if it is one
abbrev pub IsLeft : Parts → Stored → ℕ → Option Site → State → Type 0
IsLeft W Z s x S = (K : List Event) (r : ℕ) (v : What) → IsWithout s K → RunFrom W Z S K → r ≢ s → May W Z (state_after W S K) r v → Apart (what_site W r v) x

module _ (W : Parts) (valid : IsValid W) (Z : Stored) (s : ℕ) where
  -- what they leave from state S on, they leave from a later state on
  apart-later : (x : Option Site) (S : State) (f : Event) → f.stream.0 ≢ s → f.stream.0 < W.streams → May W Z S f.stream.0 f.what → IsLeft W Z s x S → IsLeft W Z s x (after W S f.stream.0 f.what)
  apart-later x S f other declared may own K r v without run ne later = own (f ∷ K) r v (other, without) (declared, may, run) ne later

  -- then they leave what is seen there
  pub alike-along : (x : Option Site) (S : State) (K : List Event) → IsLeft W Z s x S → IsWithout s K → RunFrom W Z S K → IsAlike W s x S (state_after W S K)
  alike-along x S [] own without run = alike-same W s x S
  alike-along x S (f ∷ fs) own without run =
      let T : State = after W S f.stream.0 f.what in
      let first : IsAlike W s x S T =
      alike-after W S f.stream.0 s (what_site W f.stream.0 f.what) x (change W S f.stream.0 f.what) without.0 (own [] f.stream.0 f.what tt tt without.0 run.1)
      (event-local W valid Z S f.stream.0 f.what run.1) in
      alike-on W s x S T (state_after W T fs) first (alike-along x T fs (apart-later x S f without.0 run.0 run.1 own) without.1 run.2)

  -- and what the stream itself holds
  pub alike-alone : (S : State) (K : List Event) → IsWithout s K → RunFrom W Z S K → IsAlike W s None S (state_after W S K)
  alike-alone S K without run = alike-along None S K (λ J r v w l ne may z e f. none≢some f) without run

-- Events that wait.

module _ (W : Parts) (valid : IsValid W) (Z : Stored) (S : State) (s : ℕ) (w : What) (declared : s < W.streams) (may : May W Z S s w) (left : IsLeft W Z s (what_site W s w) S) where
  -- it may still come after what other streams do
  left-stays : (K : List Event) → IsWithout s K → RunFrom W Z S K → May W Z (state_after W S K) s w
  left-stays K without run = may-alike W valid Z S (state_after W S K) s w (alike-along W valid Z s (what_site W s w) S K left without run) may

  -- and before or after each event of another stream
  left-swaps : (K : List Event) (r : ℕ) (v : What) → IsWithout s K → RunFrom W Z S K → r < W.streams → r ≢ s → May W Z (state_after W S K) r v → MaySwap W Z (state_after W S K) s w r v
  left-swaps K r v without run there ne other =
      let T : State = state_after W S K in
      let e : Event = record { stamp = 0; stream = stream_no r; what = v } in
      let f : Event = record { stamp = 0; stream = stream_no s; what = w } in
      let later : May W Z (after W T r v) s w =
      may-alike W valid Z T (after W T r v) s w (alike-after W T r s (what_site W r v) (what_site W s w) (change W T r v) ne (left K r v without run ne other) (event-local W valid Z T r v other))
      (left-stays K without run) in
      let swap = events-commute W valid Z T (after W T r v) (after W (after W T r v) s w) e f ne (left K r v without run ne other) (there, other, refl) (declared, later, refl) in
      let first : swap.0 ≡ after W T s w = swap.1.2 in
      record {
        may = subst (λ (R : State). May W Z R r v) first swap.2.1;
        same = sym (swap.2.2 ∙ ap (λ (R : State). after W R r v) first);
      }

  -- if no other stream touches its object, it waits
  pub left-waits : Waits W Z S s w
  left-waits = record { stays = left-stays; swaps = left-swaps }
