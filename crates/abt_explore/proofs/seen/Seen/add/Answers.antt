-- The keys are those from before and the model's.
use Rattle.std.proofs.Common.{◌≡◌, ◌∙◌, ℕ, List, ◌++◌, ap, subst}
use Rattle.std.specs.List.{each_same}
use Rattle.abt_model.specs.Keys.{model_key}
use Rattle.abt_explore.specs.Seen.{IsAdded}
use Rattle.abt_explore.specs.declared.seen.Seen.{Seen}
use Rattle.abt_explore.proofs.Adding.{adds-by}
use Rattle.abt_explore.proofs.seen.Seen.add.Goals as goal

pub returns-clause-added : goal.returns-clause-added
returns-clause-added c =
    let key : List ℕ = c.in_ok-clone.field-0.items in
    let cloned : key ≡ c.write.new.out.items = each_same c.write.new.out.items key c.in_ok-clone.ensures.cases.0 in
    let same : key ≡ model_key c.args.model.now = cloned ∙ (c.in_ok-write.ensures ∙ ap (λ (xs : List ℕ). xs ++ model_key c.args.model.now) c.clear.ensures.items) in
    let adds = adds-by (λ k. k.items) c.in_ok-clone.field-0 c.args.self.now.keys.keys c.insert.new.self.keys c.in_ok-insert.field-0 c.in_ok-insert.ensures.added c.in_ok-insert.ensures.keys in
    let new : Seen = record { keys = c.insert.new.self; bytes = c.saturating_add-self.result; next = c.write.new.out } in
    subst (λ (k : List ℕ). IsAdded k c.args.self.now new) same (record { added = adds.added; kept = adds.kept; only = adds.only })
