use Rattle.std.proofs.Common.{◌≡◌, ◌≢◌, ◌<◌, ◌≤◌, ◌∙◌, ℕ, Some, length, sym, true}
use Rattle.std.specs.Prelude.{All, AllPairs}
use Rattle.std.specs.List.{range_with_len}
use Rattle.abt_machine.specs.declared.grammar.Format.TheVariants as format
use Rattle.abt_machine.specs.declared.operations.Thing.{Thing}
use Rattle.abt_machine.specs.declared.workload.PoolPart.{PoolPart}
use Rattle.abt_machine.specs.Limits.{key_limit, object_limit, pool_limit, sched_limit, unit_limit}
use Rattle.abt_machine.specs.Valid.{IsAccess, IsSched, IsStream, IsThing, IsUnit, IsWord, placed_scheds, words_said}
use Rattle.abt_machine.specs.Workloads.{thing_at}
use Rattle.abt_machine.proofs.Checked.{valid-places}
use Rattle.abt_machine.proofs.workload.Parts.is_valid.Goals as goal
use Rattle.abt_machine.proofs.workload.Parts.is_valid.Goals.{else-has_streams, then-has_streams, else-has_few_keys, then-has_few_keys, else-has_pools, then-has_pools, else-has_scheds, then-has_scheds, else-has_mains, then-has_mains, else-has_objects, then-has_objects, else-has_units, then-has_units, else-has_own_places, then-has_own_places, else-says_words, then-says_words}

pub returns-then-has_words : goal.returns-then-has_words
returns-then-has_words c =
    let W = c.args.self.now in
    let words : (c.if-has_own_places.value ≡ true) × All IsWord W.words =
    elim c.if-says_words.branch [ then-says_words w ↦ (w.if-says_words.true, w.has_words.ensures.0 (sym w.value-is ∙ c.if-has_words.true)) | else-says_words w ↦ absurd (cc (w.value-is, c.if-has_words.true)) ] in
    let said : (c.if-has_units.value ≡ true) × (words_said W ≡ range_with_len 0 (length W.words)) =
    elim c.if-has_own_places.branch [ then-has_own_places w ↦ (w.if-has_own_places.true, w.says_words.ensures.0 (sym w.value-is ∙ words.0)) | else-has_own_places w ↦ absurd (cc (w.value-is, words.0)) ] in
    let places : (c.if-has_objects.value ≡ true) × (All (λ g. g < sched_limit format.Three) (placed_scheds W) × AllPairs (λ a b. a ≢ b) (placed_scheds W)) =
    elim c.if-has_units.branch [ then-has_units w ↦ (w.if-has_units.true, w.has_own_places.ensures.0 (sym w.value-is ∙ said.0)) | else-has_units w ↦ absurd (cc (w.value-is, said.0)) ] in
    let units : (c.if-has_mains.value ≡ true) × ((length W.units ≤ unit_limit format.Three) × All (IsUnit W) W.units) =
    elim c.if-has_objects.branch [ then-has_objects w ↦ (w.if-has_objects.true, w.has_units.ensures.0 (sym w.value-is ∙ places.0)) | else-has_objects w ↦ absurd (cc (w.value-is, places.0)) ] in
    let objects : (c.if-has_scheds.value ≡ true) × ((length W.objects ≤ object_limit format.Three) × ((x : ℕ) (t : Thing) → thing_at W x ≡ Some t → IsThing W.objects x t)) =
    elim c.if-has_mains.branch [ then-has_mains w ↦ (w.if-has_mains.true, w.has_objects.ensures.0 (sym w.value-is ∙ units.0)) | else-has_mains w ↦ absurd (cc (w.value-is, units.0)) ] in
    let mains : (c.if-has_pools.value ≡ true) × ((length W.mains ≡ W.streams) × ((s : ℕ) → s < W.streams → IsStream W s)) =
    elim c.if-has_scheds.branch [ then-has_scheds w ↦ (w.if-has_scheds.true, w.has_mains.ensures.0 (sym w.value-is ∙ objects.0)) | else-has_scheds w ↦ absurd (cc (w.value-is, objects.0)) ] in
    let scheds : (c.if-has_few_keys.value ≡ true) × ((0 < length W.scheds) × (length W.scheds ≤ sched_limit format.Three) × All (IsSched (length W.pools)) W.scheds) =
    elim c.if-has_pools.branch [ then-has_pools w ↦ (w.if-has_pools.true, w.has_scheds.ensures.0 (sym w.value-is ∙ mains.0)) | else-has_pools w ↦ absurd (cc (w.value-is, mains.0)) ] in
    let pools : (c.if-has_streams.value ≡ true) × ((0 < length W.pools) × (length W.pools ≤ pool_limit format.Three) × All (λ (part : PoolPart). IsAccess W.streams part.access) W.pools) =
    elim c.if-has_few_keys.branch [ then-has_few_keys w ↦ (w.if-has_few_keys.true, w.has_pools.ensures.0 (sym w.value-is ∙ scheds.0)) | else-has_few_keys w ↦ absurd (cc (w.value-is, scheds.0)) ] in
    let keys : (c.has_streams.result ≡ true) × (W.keys ≤ key_limit) =
    elim c.if-has_streams.branch [ then-has_streams w ↦ (w.if-has_streams.true, w.has_few_keys.ensures.0 (sym w.value-is ∙ pools.0)) | else-has_streams w ↦ absurd (cc) ] in
    let streams = c.has_streams.ensures.0 keys.0 in (
      λ few. record {
        some_stream = streams.0;
        few_streams = streams.1;
        few_keys = keys.1;
        some_pool = pools.1.0;
        few_pools = pools.1.1;
        pools = pools.1.2;
        some_sched = scheds.1.0;
        few_scheds = scheds.1.1;
        scheds = scheds.1.2;
        mains = mains.1.0;
        streams = mains.1.1;
        one_place = places.1.1;
        few_objects = objects.1.0;
        objects = objects.1.1;
        few_units = units.1.0;
        units = units.1.1;
        few_ops = c.has_few_ops.ensures.0 few;
        said = said.1;
        words = words.1;
      },
      λ valid. c.has_few_ops.ensures.1 valid.few_ops,
    )

pub returns-else-has_words : goal.returns-else-has_words
returns-else-has_words c =
    let W = c.args.self.now in (
      λ t. absurd (cc (t, c.if-has_words.false)),
      λ valid.
          let streams : c.has_streams.result ≡ true = c.has_streams.ensures.1 (valid.some_stream, valid.few_streams) in
          let keys : c.if-has_streams.value ≡ true = elim c.if-has_streams.branch [ then-has_streams w ↦ w.value-is ∙ w.has_few_keys.ensures.1 valid.few_keys | else-has_streams w ↦ absurd (cc (w.if-has_streams.false, streams)) ] in
          let pools : c.if-has_few_keys.value ≡ true = elim c.if-has_few_keys.branch [ then-has_few_keys w ↦ w.value-is ∙ w.has_pools.ensures.1 (valid.some_pool, valid.few_pools, valid.pools) | else-has_few_keys w ↦ absurd (cc (w.if-has_few_keys.false, keys)) ] in
          let scheds : c.if-has_pools.value ≡ true = elim c.if-has_pools.branch [ then-has_pools w ↦ w.value-is ∙ w.has_scheds.ensures.1 (valid.some_sched, valid.few_scheds, valid.scheds) | else-has_pools w ↦ absurd (cc (w.if-has_pools.false, pools)) ] in
          let mains : c.if-has_scheds.value ≡ true = elim c.if-has_scheds.branch [ then-has_scheds w ↦ w.value-is ∙ w.has_mains.ensures.1 (valid.mains, valid.streams) | else-has_scheds w ↦ absurd (cc (w.if-has_scheds.false, scheds)) ] in
          let objects : c.if-has_mains.value ≡ true = elim c.if-has_mains.branch [ then-has_mains w ↦ w.value-is ∙ w.has_objects.ensures.1 (valid.few_objects, valid.objects) | else-has_mains w ↦ absurd (cc (w.if-has_mains.false, mains)) ] in
          let units : c.if-has_objects.value ≡ true = elim c.if-has_objects.branch [ then-has_objects w ↦ w.value-is ∙ w.has_units.ensures.1 (valid.few_units, valid.units) | else-has_objects w ↦ absurd (cc (w.if-has_objects.false, objects)) ] in
          let places : c.if-has_units.value ≡ true = elim c.if-has_units.branch [ then-has_units w ↦ w.value-is ∙ w.has_own_places.ensures.1 (valid-places W valid) | else-has_units w ↦ absurd (cc (w.if-has_units.false, units)) ] in
          let said : c.if-has_own_places.value ≡ true = elim c.if-has_own_places.branch [ then-has_own_places w ↦ w.value-is ∙ w.says_words.ensures.1 valid.said | else-has_own_places w ↦ absurd (cc (w.if-has_own_places.false, places)) ] in
          elim c.if-says_words.branch [ then-says_words w ↦ w.value-is ∙ w.has_words.ensures.1 valid.words | else-says_words w ↦ absurd (cc (w.if-says_words.false, said)) ],
    )
