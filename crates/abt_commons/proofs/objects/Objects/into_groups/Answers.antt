-- One object more, and all.
use Rattle.std.proofs.Common.{◌≡◌, ◌++◌, ◌∷◌, [], List, map, length, refl, sym, ◌∙◌, ap, subst, arith, append-nil}
use Rattle.std.specs.List.{All}
use Rattle.std.specs.Vec.Iter.{into_iter_items}
use Rattle.std.proofs.lemmas.List.Elements.{All-head, All-tail}
use Rattle.abt_commons.specs.Groups.{all_rows, rows_from, rows_in}
use Rattle.abt_commons.specs.Held.{OneValue, objects_value}
use Rattle.abt_commons.proofs.Giving.{numbered-rows, one-fits, one-given}
use Rattle.abt_commons.proofs.objects.Objects.into_groups.Goals as goal

nothing-left : {X : Type 0} (xs : List X) → length xs ≡ 0 → xs ≡ []
nothing-left [] none = refl
nothing-left (x ∷ xs) none = absurd (omega (arith, none))

pub loop-one-preserved : goal.loop-one-preserved
loop-one-preserved c =
    let at = c.loop-one in
    let W = c.self.inside.w.now in
    let one = c.in-Some.one in
    let rest = into_iter_items c.next.new.self in
    let is : into_iter_items at.one-iterator ≡ one ∷ rest = c.in-Some.ensures.steps.0 in
    let ours : All (λ (o : OneValue). o.workload ≡ W) (one ∷ rest) = subst (All (λ (o : OneValue). o.workload ≡ W)) is at.invariant.ours in
    let own : one.workload ≡ W = All-head (λ (o : OneValue). o.workload ≡ W) one rest ours in
    let gave = c.in_ok-give.ensures.rows in
    record {
      next = tt;
      finite = tt;
      rows = one-given W at.number one c.site_at.result rest (into_iter_items at.one-iterator) is own c.site_at.ensures (rows_in at.groups.items) (rows_in c.give.new.groups.items) gave
          (rows_from W 0 (map (λ (o : OneValue). o.object) (into_iter_items c.into_iter-one-iterator.result))) at.invariant.rows;
      ours = All-tail (λ (o : OneValue). o.workload ≡ W) one rest ours;
      fits = one-fits W at.number one c.site_at.result rest (into_iter_items at.one-iterator) is own c.site_at.ensures (rows_in at.groups.items) (rows_in c.give.new.groups.items) gave
          c.in_ok-give.ensures.fits at.invariant.fits;
      many = (let were = at.invariant.many in let fewer : length (into_iter_items at.one-iterator) ≡ length (one ∷ rest) = ap (λ (os : List OneValue). length os) is in omega (arith, were, fewer));
      left = (let were = at.invariant.left in let gone = c.in-Some.ensures.steps.1 in let fewer : length (into_iter_items at.one-iterator) ≡ length (one ∷ rest) = ap (λ (os : List OneValue). length os) is in omega (arith, were, gone, fewer));
    }

pub returns-clause-rows : goal.returns-clause-rows
returns-clause-rows c =
    let at = c.loop-one in
    let s = c.self.inside in
    let none = c.in-None.ensures.steps in
    let empty : into_iter_items at.one-iterator ≡ [] = nothing-left (into_iter_items at.one-iterator) (sym at.invariant.left ∙ none.0) in
    let all : into_iter_items c.into_iter-one-iterator.result ≡ s.ones.items = c.into_iter-one-iterator.ensures.into_iter_gives.0 in
    let e : s.w.now ≡ c.args.self.workload = ap (λ held. held.workload) c.self.view_is in
    sym (append-nil (rows_in at.groups.items))
    ∙ (ap (λ (os : List OneValue). rows_in at.groups.items ++ rows_from s.w.now at.number (map (λ one. one.object) os)) (sym empty)
    ∙ (at.invariant.rows
    ∙ (ap (λ (os : List OneValue). rows_from s.w.now 0 (map (λ one. one.object) os)) all
    ∙ (numbered-rows (objects_value s.w.now s.ones.items s.clocks.items) c.self.invariant.1.objects
    ∙ ap all_rows c.self.view_is))))
