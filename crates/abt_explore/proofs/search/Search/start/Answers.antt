-- The search has found the start.
use Rattle.std.proofs.Common.{◌≡◌, ◌≤◌, ◌∙◌, List, [], ◌∷◌, ◌++◌, ap, arith, length, sym}
use Rattle.abt_machine.specs.declared.events.Event.{Event}
use Rattle.abt_model.specs.Keys.{model_key}
use Rattle.abt_explore.specs.declared.search.Found.{Found}
use Rattle.abt_explore.specs.declared.search.Search.{Search}
use Rattle.abt_explore.proofs.Following.{searching-begun, start-seen}
use Rattle.abt_explore.proofs.search.Search.start.Goals as goal

pub returns : goal.returns
returns c Z =
    let W = c.args.w.now in
    let model = c.in_ok-model.model in
    let first : Found = record { node = 0; depth = 0; model = model } in
    let begun : Search = record { paths = c.new.result; seen = c.add.new.self; waiting = c.push_back.new.self; ends = c.new-2.result } in
    let added = c.in_ok-add.ensures.added in
    let bytes : begun.seen.bytes ≤ length (model_key model) = omega (arith, c.in_ok-add.ensures.bytes, c.new-seen.ensures.bytes) in
    let waiting : begun.waiting.items ≡ first ∷ [] = c.in_ok-push_back.ensures.items ∙ ap (λ (fs : List Found). fs ++ first ∷ []) c.new-waiting.ensures.items in (
      start-seen W Z model begun c.new-seen.result c.in_ok-model.ensures c.new-seen.ensures.none added bytes c.new.ensures waiting c.new-2.ensures.items,
      searching-begun W Z model begun c.new-seen.result c.in_ok-model.ensures c.new-seen.ensures.none added bytes c.new.ensures waiting c.new-2.ensures.items,
      ap (λ (js : List (List Event)). length js) c.new.ensures ∙ sym (ap (λ (fs : List Found). length fs) waiting),
    )
