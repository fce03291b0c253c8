use Rattle.std.proofs.Common.{◌≡◌, List, Some, ap, length, slice_get, sym, ◌∙◌, subst}
use Rattle.abt_machine.specs.declared.numbers.PoolNo.{PoolNo}
use Rattle.abt_machine.specs.Rounds.{choice_of}
use Rattle.abt_machine.specs.State.{Frame}
use Rattle.abt_replay.specs.Nexts.{NextIs}
use Rattle.abt_order.specs.Schedulers.{pool_numbers}
use Rattle.abt_order.proofs.PoolNumbers.{length-pool_numbers}
use Rattle.abt_model.proofs.Visiting.{few-pools, next-stands, place-within, pools-declared, rule-is}
use Rattle.abt_model.proofs.visits.next_pool.Goals as goal

pub pool_at-requires : goal.pool_at-requires
pool_at-requires c =
    let W = c.args.w.now in
    let Z = c.args.z.now in
    let f = c.args.frame.now in
    let there : slice_get W.scheds f.sched ≡ Some c.sched-sched.result.now = sym (ap (λ (f : Frame). slice_get W.scheds f.sched) c.frame.view_is) ∙ c.sched-sched.ensures in
    record {
      declared = pools-declared W Z f c.sched-sched.result.now c.items-pools.result.now there c.items-pools.ensures c.requires.valid c.requires.under_way;
      stored = λ k is. c.requires.stored f.sched k (rule-is W Z f c.sched-sched.result.now c.items-pools.result.now there c.items-pools.ensures ∙ ap (λ r. Some r) is);
      count = few-pools W Z f c.sched-sched.result.now c.items-pools.result.now there c.items-pools.ensures c.requires.valid c.requires.under_way;
      place = place-within W Z f c.sched-sched.result.now c.items-pools.result.now there c.items-pools.ensures (length c.as_slice-seen.result.now) c.as_slice-seen.result.now c.requires.under_way
          (sym (ap (λ (f : Frame). f.seen) c.frame.view_is) ∙ ap pool_numbers (sym c.as_slice-seen.ensures.value)) (λ i. length c.as_slice-seen.result.now);
    }

pub returns : goal.returns
returns c =
    let W = c.args.w.now in
    let Z = c.args.z.now in
    let f : Frame = record { sched = c.frame.inside.sched.0; round = c.frame.inside.round; seen = pool_numbers c.frame.inside.seen.items; empty = c.frame.inside.empty } in
    let same : f ≡ c.args.frame.now = c.frame.view_is in
    subst (λ (f : Frame). NextIs (choice_of W Z f.sched f.round) (length f.seen) c.pool_at.result) same
    (next-stands W Z f c.sched-sched.result.now c.items-pools.result.now c.sched-sched.ensures c.items-pools.ensures (length c.as_slice-seen.result.now) c.pool_at.result
    (ap (λ (ps : List PoolNo). length ps) c.as_slice-seen.ensures.value ∙ sym (length-pool_numbers c.frame.inside.seen.items)) c.pool_at.ensures)
