-- One wave more.
use Rattle.std.proofs.Common.{◌≡◌, ◌∙◌, ℕ, true, List, filter, length, map, ap, sym, subst, arith}
use Rattle.std.specs.List.{range_with_len}
use Rattle.std.proofs.lemmas.List.{length-map}
use Rattle.std.proofs.lemmas.List.FromFn.{length-map-range_with_len}
use Rattle.abt_commons.specs.Held.{object_at}
use Rattle.abt_merge.specs.Logs.{AreLogs, log_of}
use Rattle.abt_order.specs.Stored.{stored_of}
use Rattle.abt_simulation.specs.Journals.{MergesTo}
use Rattle.abt_stream.specs.Streams.{StreamValue}
use Rattle.abt_drain.specs.Crews.{AllKeep}
use Rattle.abt_streams.specs.Cutting.{behind, log_lengths}
use Rattle.abt_streams.specs.Looks.{is_live_with}
use Rattle.abt_streams.proofs.Behind.{behind-logs}
use Rattle.abt_streams.proofs.Joined.{some-wave}
use Rattle.abt_streams.proofs.Journeys.{goes-on}
use Rattle.abt_streams.proofs.journey.advance.Goals as goal

pub run_wave-requires-clause-flags : goal.run_wave-requires-clause-flags
run_wave-requires-clause-flags g c =
    let W = c.args.w.now in
    let f = is_live_with (object_at c.args.journey.objects) c.args.lives.now in
    let flags : c.in_ok-flags.field-0.flags.items ≡ map f (range_with_len 0 W.streams) = c.in_ok-flags.ensures.flags in
    λ lifetimes outlive. ap length (c.deref-2.ensures.value ∙ flags) ∙ length-map-range_with_len f 0 W.streams

pub append_wave-requires-clause-lengths : goal.append_wave-requires-clause-lengths
append_wave-requires-clause-lengths g c =
    let under = c.requires.under_way.1 in
    let fleet = c.in_ok-objects.ensures.fleet c.requires.under_way.0 under.fleet in
    let lengths : c.deref-4.result.now ≡ log_lengths c.args.journey.streams.items = c.deref-4.ensures.value ∙ (c.in_ok-lengths.ensures ∙ ap log_lengths c.deref.ensures.value) in
    ap length lengths ∙ (length-map c.args.journey.streams.items _ ∙ (under.fleet.streams_are.many ∙ (sym fleet.streams_are.many ∙ ap length (sym c.deref-3.ensures.value))))

pub append_wave-requires-clause-kept : goal.append_wave-requires-clause-kept
append_wave-requires-clause-kept g c = subst (AllKeep true) (sym c.deref-3.ensures.value) (c.in_ok-objects.ensures.keeps true c.requires.under_way.1.kept)

pub append_wave-requires-clause-logs : goal.append_wave-requires-clause-logs
append_wave-requires-clause-logs g c =
    let W = c.args.w.now in
    let Z = stored_of c.args.orders.now (g.P.Work.returns c.args.work.now) in
    let under = c.requires.under_way.1 in
    let fleet = c.in_ok-objects.ensures.fleet c.requires.under_way.0 under.fleet in
    let lengths : c.deref-4.result.now ≡ log_lengths c.args.journey.streams.items = c.deref-4.ensures.value ∙ (c.in_ok-lengths.ensures ∙ ap log_lengths c.deref.ensures.value) in
    let logs = behind-logs W Z c.args.journey.objects c.in_ok-objects.objects c.args.journey.streams.items c.in_ok-objects.streams.items c.deref-2.result.now c.in_ok-objects.ensures.wave.wave (fleet.streams_are.many ∙ sym under.fleet.streams_are.many) in
    subst (λ (streams : List StreamValue). AreLogs (behind streams c.deref-4.result.now)) (sym c.deref-3.ensures.value)
    (subst (λ (ns : List ℕ). AreLogs (behind c.in_ok-objects.streams.items ns)) (sym lengths) logs)

pub returns-clause-under_way : goal.returns-clause-under_way
returns-clause-under_way g c = λ n under.
    let W = c.args.w.now in
    let Z = stored_of c.args.orders.now (g.P.Work.returns c.args.work.now) in
    let f = is_live_with (object_at c.args.journey.objects) c.args.lives.now in
    let fleet = c.in_ok-objects.ensures.fleet n under.fleet in
    let lengths : c.deref-4.result.now ≡ log_lengths c.args.journey.streams.items = c.deref-4.ensures.value ∙ (c.in_ok-lengths.ensures ∙ ap log_lengths c.deref.ensures.value) in
    let flags : c.in_ok-flags.field-0.flags.items ≡ map f (range_with_len 0 W.streams) = c.in_ok-flags.ensures.flags in
    let numbers : c.in_ok-flags.field-0.numbers.items ≡ filter f (range_with_len 0 W.streams) = c.in_ok-flags.ensures.numbers in
    let from : c.len.result ≡ length c.args.journey.journal.items = omega (arith, c.len.ensures) in
    let appended = c.in_ok-append_wave.ensures in
    let merged : MergesTo (log_of (behind c.in_ok-objects.streams.items (log_lengths c.args.journey.streams.items))) appended.0 =
    subst (λ (ns : List ℕ). MergesTo (log_of (behind c.in_ok-objects.streams.items ns)) appended.0) lengths
    (subst (λ (streams : List StreamValue). MergesTo (log_of (behind streams c.deref-4.result.now)) appended.0) c.deref-3.ensures.value appended.1) in
    goes-on W Z n c.args.lives.now c.requires.lives c.args.journey.objects c.in_ok-objects.objects c.args.journey.streams.items c.in_ok-objects.streams.items c.args.journey.journal.items c.args.journey.waves.items under
    c.deref-2.result.now (record { from = c.len.result; streams = c.new.result }) from (c.deref-2.ensures.value ∙ flags) (c.new.ensures ∙ numbers) c.in_ok-objects.ensures.wave fleet (c.in_ok-objects.ensures.keeps true under.kept) appended.0 merged
    c.append_wave.new.journal.items c.push.new.self.items appended.2 c.in_ok-push.ensures.items

pub returns-clause-some_wave : goal.returns-clause-some_wave
returns-clause-some_wave g c = λ none. some-wave c.args.journey.waves.items (record { from = c.len.result; streams = c.new.result }) (sym c.in_ok-push.ensures.items ∙ none)
