-- The stamps of a run on lives are Lamport's, as those of all logs in one list are.
use Rattle.std.proofs.Common.{◌≡◌, ℕ, ◌+◌, ◌<◌, ◌⊎◌, ◌∙◌, inl, inr, Bool, List, [], ◌∷◌, ◌++◌, map, refl, sym, ap, subst, arith}
use Rattle.std.specs.Prelude.{Contains}
use Rattle.std.proofs.lemmas.List.Elements.{Contains-append_cases, Contains-append_left, Contains-append_right, Contains-push, Contains-push_cases}
use Rattle.abt_machine.specs.declared.events.Event.{Event}
use Rattle.abt_machine.specs.Stored.{Stored}
use Rattle.abt_machine.specs.declared.workload.Parts.{Parts}
use Rattle.abt_machine.specs.Stamps.{AllAfter, IsLeast, Lamport, LamportFrom, Shares}
use Rattle.abt_machine.specs.Start.{start}
use Rattle.abt_machine.specs.Values.{object_of, part_of}
use Rattle.abt_interleave.proofs.Members.{Among, from-among, to-among}
use Rattle.abt_simulation.specs.Journals.{events_of}
use Rattle.abt_simulation.specs.Merging.{IsJournalOf, StreamDeed, event_of}
use Rattle.abt_simulation.proofs.MergedStamps.{merged-is-lamport}
use Rattle.abt_simulation.proofs.Tallied.{journals-exist}
use Rattle.abt_drain.specs.Moments.{IsReachedMoment, Moment}
use Rattle.abt_waves.specs.Fleets.{IsWave}
use Rattle.abt_streams.specs.Runs.{HasLogs, RiseWhereShared}

-- Members of mapped lists.

among-map : {A B : Type 0} (f : A → B) (xs : List A) (y : B) → Among y (map f xs) → (x : A) × Among x xs × (f x ≡ y)
among-map f [] y m = absurd m
among-map f (x ∷ xs) y m = elim m [
  | inl same ↦ (x, inl refl, sym same)
  | inr later ↦ (let found = among-map f xs y later in (found.0, inr found.1, found.2))
]

map-among : {A B : Type 0} (f : A → B) (xs : List A) (x : A) → Among x xs → Among (f x) (map f xs)
map-among f [] x m = absurd m
map-among f (z ∷ zs) x m = elim m [
  | inl same ↦ inl (ap f same)
  | inr later ↦ inr (map-among f zs x later)
]

module _ (W : Parts) where
  -- each event of stamps that are Lamport's is the least that it can be
  least-in : (K earlier es : List Event) → LamportFrom W earlier es → ((f : Event) → Contains earlier f → Contains K f) → ((f : Event) → Among f es → Contains K f) → (e : Event) → Among e es → IsLeast W K e
  least-in K earlier [] stamps before within e m = absurd m
  least-in K earlier (f ∷ fs) stamps before within e m = elim m [
    | inl same ↦ subst (IsLeast W K) (sym same) (elim stamps.1 [
      | inl one ↦ inl one
      | inr up ↦ inr (up.0, before up.0 up.1, up.2, up.3)
    ])
    | inr later ↦ least-in K (earlier ++ f ∷ []) fs stamps.2
        (λ g c. elim (Contains-push_cases earlier f g c) [
          | inl old ↦ before g old
          | inr here ↦ subst (Contains K) here (within f (inl refl))
        ])
        (λ g n. within g (inr n)) e later
  ]

  least-more : (J K : List Event) (e : Event) → ((f : Event) → Contains J f → Contains K f) → IsLeast W J e → IsLeast W K e
  least-more J K e more least = elim least [
    | inl one ↦ inl one
    | inr up ↦ inr (up.0, more up.0 up.1, up.2, up.3)
  ]

  after-all : (e : Event) (es : List Event) → AllAfter W e es → (f : Event) → Among f es → Shares W e f → e.stamp < f.stamp
  after-all e [] all f m shares = absurd m
  after-all e (g ∷ gs) all f m shares = elim m [
    | inl same ↦ subst (λ (h : Event). e.stamp < h.stamp) (sym same) (all.0 (subst (Shares W e) same shares))
    | inr later ↦ after-all e gs all.1 f later shares
  ]

  shares-back : (e f : Event) → Shares W e f → Shares W f e
  shares-back e f shares = elim shares [
    | inl own ↦ inl (sym own)
    | inr at ↦ inr (at.0, at.2, at.1)
  ]

  -- if stamps rise where something is shared, and each is the least that it can be among all, they are Lamport's
  rising-is-lamport : (K earlier es : List Event) → ((f : Event) → Contains earlier f → (e : Event) → Among e es → Shares W f e → f.stamp < e.stamp) → RiseWhereShared W es
      → ((e : Event) → Among e es → IsLeast W K e) → ((f : Event) → Contains K f → Contains earlier f ⊎ Among f es) → LamportFrom W earlier es
  rising-is-lamport K earlier [] above rise least all = tt
  rising-is-lamport K earlier (e ∷ es) above rise least all = (
    λ f c shares. above f c e (inl refl) shares,
    here,
    rising-is-lamport K (earlier ++ e ∷ []) es above-next rise.1 (λ f m. least f (inr m)) all-next,
  ) where
    before : (f : Event) → Contains K f → Shares W f e → e.stamp ≡ f.stamp + 1 → Contains earlier f
    before f c shares up = elim (all f c) [
      | inl old ↦ old
      | inr m ↦ elim m [
        | inl same ↦ (let one : f.stamp ≡ e.stamp = ap (λ (g : Event). g.stamp) same in absurd (omega (arith, one, up)))
        | inr later ↦ (let less : e.stamp < f.stamp = after-all e es rise.0 f later (shares-back f e shares) in absurd (omega (arith, less, up)))
      ]
    ]

    here : IsLeast W earlier e
    here = elim (least e (inl refl)) [
      | inl one ↦ inl one
      | inr up ↦ inr (up.0, before up.0 up.1 up.2 up.3, up.2, up.3)
    ]

    above-next : (f : Event) → Contains (earlier ++ e ∷ []) f → (g : Event) → Among g es → Shares W f g → f.stamp < g.stamp
    above-next f c g m shares = elim (Contains-push_cases earlier e f c) [
      | inl old ↦ above f old g (inr m) shares
      | inr same ↦ subst (λ (h : Event). h.stamp < g.stamp) same (after-all e es rise.0 g m (subst (λ (h : Event). Shares W h g) (sym same) shares))
    ]

    all-next : (f : Event) → Contains K f → Contains (earlier ++ e ∷ []) f ⊎ Among f es
    all-next f c = elim (all f c) [
      | inl old ↦ inl (Contains-append_left earlier (e ∷ []) f old)
      | inr m ↦ elim m [
        | inl same ↦ inl (subst (Contains (earlier ++ e ∷ [])) (sym same) (Contains-push earlier e))
        | inr later ↦ inr later
      ]
    ]

-- The events of the journal are those of all logs.

module _ (W : Parts) (Z : Stored) (live : List Bool) (old new : Moment) (wave : IsWave W Z live old new) (es : List Event) (journal : IsJournalOf wave.deeds es) (J : List Event) (has : HasLogs old J) where
  in-log : (s : ℕ) (e : Event) → Contains (new.logs s) e → Contains (old.logs s) e ⊎ Contains (events_of wave.deeds s) e
  in-log s e c = Contains-append_cases (old.logs s) (events_of wave.deeds s) e (subst (λ (l : List Event). Contains l e) (wave.logs s) c)

  of-wave : (s : ℕ) (e : Event) → Contains (events_of wave.deeds s) e → Contains es e
  of-wave s e c =
      let found : (d : StreamDeed) × Among d (wave.deeds s) × (event_of d ≡ e) = among-map event_of (wave.deeds s) e (to-among (events_of wave.deeds s) e c) in
      subst (Contains es) found.2 (journal.all s found.0 (from-among (wave.deeds s) found.0 found.1))

  to-wave : (e : Event) → Contains es e → Contains (events_of wave.deeds e.stream.0) e
  to-wave e c =
      let found : (d : StreamDeed) × Contains (wave.deeds d.stream) d × (event_of d ≡ e) = journal.only e c in
      subst (λ (f : Event). Contains (events_of wave.deeds f.stream.0) f) found.2
      (from-among (events_of wave.deeds found.0.stream) (event_of found.0) (map-among event_of (wave.deeds found.0.stream) found.0 (to-among (wave.deeds found.0.stream) found.0 found.1)))

  -- so it is after one wave more
  pub logs-with-wave : HasLogs new (J ++ es)
  logs-with-wave = record {
    all = λ s e c. elim (in-log s e c) [
      | inl before ↦ Contains-append_left J es e (has.all s e before)
      | inr own ↦ Contains-append_right J es e (of-wave s e own)
    ];
    only = λ e c. subst (λ (l : List Event). Contains l e) (sym (wave.logs e.stream.0)) (elim (Contains-append_cases J es e c) [
      | inl before ↦ Contains-append_left (old.logs e.stream.0) (events_of wave.deeds e.stream.0) e (has.only e before)
      | inr own ↦ Contains-append_right (old.logs e.stream.0) (events_of wave.deeds e.stream.0) e (to-wave e own)
    ]);
  }

module _ (W : Parts) (Z : Stored) (n : ℕ) (m : Moment) (reached : IsReachedMoment W Z n m) (J : List Event) (has : HasLogs m J) where
  -- all logs in one list
  merged : (K : List Event) × IsJournalOf reached.deeds K
  merged = let j = journals-exist W Z (part_of W (start W)) (object_of W (start W)) reached.deeds reached.histories m.parts m.objects reached.gathered in (j.0, j.1)

  merged-lamport : Lamport W merged.0
  merged-lamport = merged-is-lamport W Z (part_of W (start W)) (object_of W (start W)) reached.deeds reached.histories m.parts m.objects merged.0 reached.gathered reached.timed merged.1

  from-merged : (e : Event) → Contains merged.0 e → Contains J e
  from-merged e c =
      let found : (d : StreamDeed) × Contains (reached.deeds d.stream) d × (event_of d ≡ e) = merged.1.only e c in
      subst (Contains J) found.2 (has.all found.0.stream (event_of found.0) (subst (λ (l : List Event). Contains l (event_of found.0)) (reached.logs found.0.stream)
      (from-among (events_of reached.deeds found.0.stream) (event_of found.0) (map-among event_of (reached.deeds found.0.stream) found.0 (to-among (reached.deeds found.0.stream) found.0 found.1)))))

  to-merged : (e : Event) → Contains J e → Contains merged.0 e
  to-merged e c =
      let log : Contains (events_of reached.deeds e.stream.0) e = subst (λ (l : List Event). Contains l e) (sym (reached.logs e.stream.0)) (has.only e c) in
      let found : (d : StreamDeed) × Among d (reached.deeds e.stream.0) × (event_of d ≡ e) = among-map event_of (reached.deeds e.stream.0) e (to-among (events_of reached.deeds e.stream.0) e log) in
      subst (Contains merged.0) found.2 (merged.1.all e.stream.0 found.0 (from-among (reached.deeds e.stream.0) found.0 found.1))

  -- stamps that rise where something is shared are Lamport's
  pub lives-lamport : RiseWhereShared W J → LamportFrom W [] J
  lives-lamport rise = rising-is-lamport W J [] J (λ f c. absurd (to-among [] f c)) rise least (λ f c. inr (to-among J f c)) where
    least : (e : Event) → Among e J → IsLeast W J e
    least e a = least-more W merged.0 J e from-merged
        (least-in W merged.0 [] merged.0 merged-lamport.1 (λ f c. absurd (to-among [] f c)) (λ f n. from-among merged.0 f n) e (to-among merged.0 e (to-merged e (from-among J e a))))
