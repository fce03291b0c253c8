-- A split is made, or the objects come back.
use Rattle.std.proofs.Common.{◌≡◌, ◌++◌, [], map, reverse, sym, ◌∙◌, ap, subst, arith}
use Rattle.std.specs.List.{All}
use Rattle.std.proofs.lemmas.List.{append-nil, reverse-reverse, with_items_is}
use Rattle.abt_booth.specs.Seats.{opening_of}
use Rattle.abt_commons.specs.Held.{IsWhole, objects_value}
use Rattle.abt_commons.specs.Closing.{AllUnlocked}
use Rattle.abt_commons.proofs.Untouched.{all-back, whole-room}
use Rattle.abt_commons.proofs.split.Split.make.Goals.{After-lock_all, After-unlocked-ones}
use Rattle.abt_commons.proofs.split.Split.make.Goals as goal

-- what is locked and what is left are all objects
all : (g : _) (c : After-lock_all g) → map opening_of c.lock_all.new.booths.items ++ reverse c.lock_all.new.room.items ≡ c.objects.inside.ones.items
all g c =
    c.lock_all.ensures.objects ∙ (ap (λ bs. map opening_of bs ++ reverse c.reverse.new.self.items) c.in-Ok.ensures.items ∙ (ap reverse c.reverse.ensures.items ∙ reverse-reverse c.objects.inside.ones.items))

pub invariant_of-result-2 : goal.invariant_of-result-2
invariant_of-result-2 g c =
    let s = c.objects.inside in
    let booths = c.lock_all.new.booths.items in
    let room = c.lock_all.new.room.items in
    let whole = all g (goal.at.invariant_of-result-2 g c).After-lock_all in
    let none : room ≡ [] = c.in_default-lock_all.ensures.all in
    let locked : map opening_of booths ≡ s.ones.items = sym (append-nil (map opening_of booths)) ∙ (ap (λ xs. map opening_of booths ++ reverse xs) (sym none) ∙ whole) in
    let many = whole-room booths room s.ones.items whole in (
      record {
        ours = subst (λ os. All (λ one. one.workload ≡ s.w.now) os) (sym locked) c.objects.invariant.0;
        whole = subst (λ os. IsWhole (objects_value s.w.now os s.clocks.items)) (sym locked) c.objects.invariant.1;
        seated = c.lock_all.ensures.seated;
        some = c.requires;
      },
      none,
      omega (arith, many, c.lock_all.ensures.room, c.reverse.ensures.capacity, s.ones.ok.0, s.ones.ok.1),
    )

pub unlocked-ones-requires-clause-room : goal.unlocked-ones-requires-clause-room
unlocked-ones-requires-clause-room g c =
    let s = c.objects.inside in
    let many = whole-room c.lock_all.new.booths.items c.lock_all.new.room.items s.ones.items (all g (goal.at.unlocked-ones-requires-clause-room g c).After-lock_all) in
    omega (arith, many, c.lock_all.ensures.room, c.reverse.ensures.capacity, s.ones.ok.0, s.ones.ok.1)

-- the objects and the clocks that come back are those that came
module _ (g : _) (c : After-unlocked-ones g) (whole : map opening_of c.lock_all.new.booths.items ++ reverse c.lock_all.new.room.items ≡ c.objects.inside.ones.items) where
  seats : c.as_mut_slice-in-Err.result.now ≡ c.lock_all.new.passes
  seats = c.as_mut_slice-in-Err.ensures.value ∙ with_items_is c.in-Ok-turnless.passes c.lock_all.new.passes (c.lock_all.ensures.dealt.many ∙ (sym c.in-Ok-turnless.ensures.many ∙ sym c.in-Ok-turnless.passes.ok.0))

  ended : AllUnlocked c.lock_all.new.booths.items c.lock_all.new.passes c.objects.inside.clocks.items c.lock_all.new.room.items c.unlocked-ones.result.0.items c.unlocked-ones.result.1.items
  ended = subst (λ ps. AllUnlocked c.lock_all.new.booths.items ps c.objects.inside.clocks.items c.lock_all.new.room.items c.unlocked-ones.result.0.items c.unlocked-ones.result.1.items) seats
      c.unlocked-ones.ensures

  back : (c.unlocked-ones.result.0.items ≡ c.objects.inside.ones.items) × (c.unlocked-ones.result.1.items ≡ c.objects.inside.clocks.items)
  back = all-back c.lock_all.new.booths.items c.lock_all.new.room.items c.objects.inside.ones.items whole c.objects.inside.w.now c.objects.inside.clocks.items c.unlocked-ones.result.1.items c.args.streams
      c.lock_all.new.passes c.unlocked-ones.result.0.items c.objects.invariant.1 c.lock_all.ensures.dealt ended

pub invariant_of-result : goal.invariant_of-result
invariant_of-result g c =
    let s = c.objects.inside in
    let same = back g (goal.at.invariant_of-result g c).After-unlocked-ones (all g (goal.at.invariant_of-result g c).After-lock_all) in (
      subst (λ os. All (λ one. one.workload ≡ s.w.now) os) (sym same.0) c.objects.invariant.0,
      subst (λ os. IsWhole (objects_value s.w.now os c.unlocked-ones.result.1.items)) (sym same.0) (subst (λ cs. IsWhole (objects_value s.w.now s.ones.items cs)) (sym same.1) c.objects.invariant.1),
    )

pub returns-in-Err-clause-refused : goal.returns-in-Err-clause-refused
returns-in-Err-clause-refused g c =
    let same = back g (goal.at.returns-in-Err-clause-refused g c).After-unlocked-ones (all g (goal.at.returns-in-Err-clause-refused g c).After-lock_all) in
    (λ i. objects_value c.objects.inside.w.now (same.0 i) (same.1 i)) ∙ c.objects.view_is
