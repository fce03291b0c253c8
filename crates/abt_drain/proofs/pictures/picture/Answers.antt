-- All units are put in.
use Rattle.std.proofs.Common.{◌≡◌, ◌<◌, ◌++◌, length, replicate, sym, ◌∙◌, ap, subst}
use Rattle.std.specs.List.{All}
use Rattle.std.proofs.lemmas.List.{length-replicate}
use Rattle.abt_machine.specs.declared.workload.Parts.{Parts}
use Rattle.abt_calls.specs.Showing.{Row}
use Rattle.abt_commons.specs.Groups.{FitsRow, all_rows, rows_in}
use Rattle.abt_report.specs.Pictures.{SaysWordsOf}
use Rattle.abt_drain.specs.Pictures.{ShowsUnits, blank, placed, rows_left}
use Rattle.abt_drain.proofs.Placing.{blanks-say, left-fit, placed-append, rows-below, some-length, words-placed}
use Rattle.abt_drain.proofs.Showing.{shows-units}
use Rattle.abt_drain.proofs.pictures.picture.Goals as goal

pub place_groups-requires : goal.place_groups-requires
place_groups-requires c =
    let W = c.args.w.now in
    let fit : All (FitsRow W) (rows_in c.in_ok-groups.groups.items) = subst (λ (V : Parts). All (FitsRow V) (rows_in c.in_ok-groups.groups.items)) c.requires.objects c.in_ok-groups.ensures.fits in
    let many : length c.in_ok-rows.rows.items ≡ length W.units = ap (λ rows. length rows) c.in_ok-rows.ensures ∙ (length-replicate c.units.result blank ∙ c.units.ensures) in
    subst (λ n. All (λ (row : Row). row.1.number < n) (rows_in c.in_ok-groups.groups.items))
    (sym (some-length (rows_left 0 c.args.streams.items) c.in_ok-rows.rows.items c.place_streams.new.rows.items c.place_streams.ensures ∙ many))
    (rows-below W (rows_in c.in_ok-groups.groups.items) fit)

pub returns-clause-units : goal.returns-clause-units
returns-clause-units c =
    let W = c.args.w.now in
    let streams = c.args.streams.items in
    let objects = c.args.objects in
    let blanks = replicate (length W.units) blank in
    let put : c.new.result ≡ placed (rows_left 0 streams ++ all_rows objects) blanks =
    c.new.ensures
    ∙ (c.place_groups.ensures
    ∙ (ap (placed (rows_in c.in_ok-groups.groups.items)) (c.place_streams.ensures ∙ ap (placed (rows_left 0 streams)) (c.in_ok-rows.ensures ∙ ap (λ n. replicate n blank) c.units.ensures))
    ∙ (ap (λ rows. placed rows (placed (rows_left 0 streams) blanks)) c.in_ok-groups.ensures.rows
    ∙ sym (placed-append (rows_left 0 streams) (all_rows objects) blanks)))) in
    subst (ShowsUnits W streams objects) (sym put) (shows-units W streams objects c.known.ensures c.requires.objects)

pub returns-clause-words : goal.returns-clause-words
returns-clause-words c =
    let W = c.args.w.now in
    let streams = c.args.streams.items in
    let groups = rows_in c.in_ok-groups.groups.items in
    let blanks = replicate c.units.result blank in
    let fit : All (FitsRow W) groups = subst (λ (V : Parts). All (FitsRow V) groups) c.requires.objects c.in_ok-groups.ensures.fits in
    let put : c.new.result ≡ placed groups (placed (rows_left 0 streams) blanks) =
    c.new.ensures ∙ (c.place_groups.ensures ∙ ap (placed groups) (c.place_streams.ensures ∙ ap (placed (rows_left 0 streams)) c.in_ok-rows.ensures)) in
    subst (All (SaysWordsOf W)) (sym put)
    (words-placed W groups (placed (rows_left 0 streams) blanks) fit (words-placed W (rows_left 0 streams) blanks (left-fit W 0 streams c.requires.fits) (blanks-say W c.units.result)))
