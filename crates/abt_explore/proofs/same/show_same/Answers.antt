-- Rows that differ at one place.
use Rattle.std.proofs.Common.{◌≡◌, ◌∙◌, ℕ, ◌<◌, List, Some, ap, arith, get_or, length, refl, sym}
use Rattle.std.specs.List.{slice_get}
use Rattle.std.specs.Option.{option_map}
use Rattle.std.proofs.lemmas.Option.{slice_get-map, slice_get_read}
use Rattle.abt_machine.specs.Texts.{ShownUnit}
use Rattle.abt_report.specs.Pictures.{unit_in_row, units_in_rows}
use Rattle.abt_report.specs.declared.pictures.Row.{Row}
use Rattle.abt_explore.proofs.same.show_same.Goals as goal

-- the unit that a row shows
unit-at : (rows : List Row) (at : ℕ) (row : Row) → at < length rows → row ≡ get_or rows at row → slice_get (units_in_rows rows) at ≡ Some (unit_in_row row)
unit-at rows at row within is = slice_get-map unit_in_row rows at ∙ ap (option_map unit_in_row) (slice_get_read rows (length rows) at row refl within is)

pub returns-then-not-shows_same : goal.returns-then-not-shows_same
returns-then-not-shows_same c =
    let one : List Row = c.args.one.now in
    let two : List Row = c.args.two.now in
    let within : c.loop-at.at < length one = c.loop-at-test.true in
    let also : c.loop-at.at < length two = omega arith in
    let first = unit-at one c.loop-at.at c.index-one-at.result within c.index-one-at.is in
    let second = unit-at two c.loop-at.at c.index-two-at.result also c.index-two-at.is in (
      (λ h. cc),
      (λ h.
          let same : Some (unit_in_row c.index-one-at.result) ≡ Some (unit_in_row c.index-two-at.result) = sym first ∙ (ap (λ (units : List ShownUnit). slice_get units c.loop-at.at) h ∙ second) in
          let rows : unit_in_row c.index-one-at.result ≡ unit_in_row c.index-two-at.result = cc in
          let yes = c.shows_same.ensures.1 rows in
          let no = c.if-not-shows_same.true in cc),
    )
