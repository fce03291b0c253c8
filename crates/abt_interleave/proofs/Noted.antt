-- Every call of a run passes a test that every step's call passes: the run is one of a machine whose objects note whether all
-- calls so far passed, which no step makes false.
use Rattle.std.proofs.Common.{◌≡◌, Bool, true, false, List, [], ◌∷◌, Option, Some, None, refl, sym, ◌∙◌, ap, subst, inl, inr}
use Rattle.std.specs.Prelude.{◌&&◌}
use Rattle.std.proofs.lemmas.Bool.{cases_Bool}
use Rattle.abt_interleave.specs.Histories.{Leads}
use Rattle.abt_interleave.specs.Deeds.{Answered, Heard}
use Rattle.abt_interleave.specs.Machines.{Machine, EntryOf, Goes, IsRunTo, IsSimulated, TellsPlaces}
use Rattle.abt_interleave.proofs.Merged.{logs-merge}
use Rattle.abt_interleave.specs.Passing.{CallPasses, EntriesPass, GivesPassing, StepsPass, TestOf}

both : (a b : Bool) → (a && b) ≡ true → (a ≡ true) × (b ≡ true)
both true true e = (refl, refl)
both true false e = cc
both false b e = cc

module _ (M : Machine) (test : TestOf M) where
  -- an object, and whether all calls on it passed
  abbrev Noted : Type 0
  Noted = M.Object × Bool

  abbrev gives : Noted → M.Act → M.Answer → Noted → Type 0
  gives o a b n = M.Gives o.0 a b n.0 × (n.1 ≡ (o.1 && test o.0 a))

  -- the machine with notes, none of which is false
  abbrev noting : Machine
  noting = record {
    State = M.State;
    Part = M.Part;
    Object = Noted;
    Place = M.Place;
    Act = M.Act;
    Answer = M.Answer;
    What = M.What;
    streams = M.streams;
    same = M.same;
    part_of = M.part_of;
    object_of = λ S x. (M.object_of S x, true);
    Steps = M.Steps;
    Gives = gives;
    May = M.May;
    after = M.after;
    Sound = M.Sound;
  }

  -- Its steps are events.

  abbrev plain : (M.Place → Noted) → M.Place → M.Object
  plain objects x = (objects x).0

  plain-answered : (S : M.State) (heard : Option (Heard M.Place M.Act M.Answer)) (objects : M.Place → Noted) → Answered gives (λ x. (M.object_of S x, true)) heard objects → Answered M.Gives (M.object_of S) heard (plain objects)
  plain-answered S None objects answered = λ x. ap (λ (n : Noted). n.0) (answered x)
  plain-answered S (Some h) objects answered = (answered.0.0, λ x other. ap (λ (n : Noted). n.0) (answered.1 x other))

  all-true : TellsPlaces M → (S : M.State) (heard : Option (Heard M.Place M.Act M.Answer)) (objects : M.Place → Noted) → CallPasses M test S heard
      → Answered gives (λ x. (M.object_of S x, true)) heard objects → (x : M.Place) → (objects x).1 ≡ true
  all-true tells S None objects passes answered x = ap (λ (n : Noted). n.1) (answered x)
  all-true tells S (Some h) objects passes answered x =
      elim (cases_Bool (M.same h.0 x)) [
        | inl t ↦ subst (λ y. (objects y).1 ≡ true) ((tells h.0 x).0 t) (answered.0.1 ∙ passes)
        | inr f ↦ ap (λ (n : Noted). n.1) (answered.1 x (λ e. let t : true ≡ false = sym ((tells h.0 x).1 e) ∙ f in cc))
      ]

  noting-simulated : TellsPlaces M → IsSimulated M → StepsPass M test → IsSimulated noting
  noting-simulated tells simulated pass S s w heard part objects sound declared steps answered =
      let g : Goes M S s w part (plain objects) = simulated S s w heard part (plain objects) sound declared steps (plain-answered S heard objects answered) in
      record {
        may = g.may;
        sound = g.sound;
        own = g.own;
        others = g.others;
        called = λ x i. (g.called x i, sym (all-true tells S heard objects (pass S s w heard part sound declared steps) answered x) i);
      }

  -- Histories with notes.

  -- whether all of these passed, and those before them
  abbrev noted : (o : M.Object) (es : List (EntryOf M)) (q : M.Object) → Leads M.Gives o es q → Bool → Bool
  noted o [] q l b = b
  noted o (e ∷ es) q l b = noted l.0 es q l.2 (b && test o e.act)

  leads-noted : (o : M.Object) (es : List (EntryOf M)) (q : M.Object) (l : Leads M.Gives o es q) (b : Bool) → Leads gives (o, b) es (q, noted o es q l b)
  leads-noted o [] q l b = λ i. (l i, b)
  leads-noted o (e ∷ es) q l b = ((l.0, b && test o e.act), (l.1, refl), leads-noted l.0 es q l.2 (b && test o e.act))

  leads-passing : (o : M.Object) (es : List (EntryOf M)) (q : M.Object) (l : Leads M.Gives o es q) (b : Bool) → noted o es q l b ≡ true → (b ≡ true) × Leads (GivesPassing M test) o es q
  leads-passing o [] q l b e = (e, l)
  leads-passing o (x ∷ xs) q l b e =
      let later : ((b && test o x.act) ≡ true) × Leads (GivesPassing M test) l.0 xs q = leads-passing l.0 xs q l.2 (b && test o x.act) e in
      let now : (b ≡ true) × (test o x.act ≡ true) = both b (test o x.act) later.0 in
      (now.0, (l.0, (l.1, now.1), later.1))

pub entries-pass : (M : Machine) → EntriesPass M
entries-pass M tells simulated test pass S sound logs histories ends finals J gathered sorted x =
    let finals_noted : M.Place → M.Object × Bool = λ y. (finals y, noted M test (M.object_of S y) (histories y) (finals y) (gathered.legal y).1 true) in
    let run : IsRunTo (noting M test) S J ends finals_noted =
    logs-merge (noting M test) tells (noting-simulated M test tells simulated pass) S sound logs histories ends finals_noted J
    (record {
      courses = gathered.courses;
      undeclared = gathered.undeclared;
      legal = λ y. ((gathered.legal y).0, leads-noted M test (M.object_of S y) (histories y) (finals y) (gathered.legal y).1 true);
      matched = gathered.matched;
    })
    sorted in
    ((gathered.legal x).0, (leads-passing M test (M.object_of S x) (histories x) (finals x) (gathered.legal x).1 true (sym (ap (λ (n : M.Object × Bool). n.1) (run.objects x)))).1)
