-- Units that are put into a picture.
use Rattle.std.proofs.Common.{◌≡◌, ℕ, zero, suc, ◌<◌, List, [], ◌∷◌, ◌++◌, set, map, replicate, length, refl, sym, ◌∙◌, ap, subst, length-set}
use Rattle.std.specs.Prelude.{option_map}
use Rattle.std.specs.List.{All}
use Rattle.std.proofs.lemmas.List.{map-append}
use Rattle.std.proofs.lemmas.List.Elements.{All-append, All-cons, All-head, All-map, All-nil, All-set, All-tail}
use Rattle.abt_machine.specs.declared.events.Shown.{Shown}
use Rattle.abt_machine.specs.declared.events.Shown.TheVariants as shows
use Rattle.abt_machine.specs.declared.workload.Parts.{Parts}
use Rattle.abt_machine.specs.Numbers.{stream_no}
use Rattle.abt_machine.specs.Pieces.{IsPieceOf}
use Rattle.abt_machine.specs.Values.{Owned}
use Rattle.abt_machine.proofs.Elements.{All-left, All-right, map-all}
use Rattle.abt_calls.specs.Effects.{unit_in}
use Rattle.abt_calls.specs.Showing as held
use Rattle.abt_calls.specs.Showing.{rows_as}
use Rattle.abt_commons.specs.Groups.{FitsRow}
use Rattle.abt_report.specs.declared.pictures.Row.{Row}
use Rattle.abt_report.specs.Pictures.{SaysWordsOf}
use Rattle.abt_stream.specs.declared.stream.StreamParts.{StreamParts}
use Rattle.abt_commons.specs.Acts.{owned}
use Rattle.abt_drain.specs.Pictures.{AreBelow, LeavesWhatFits, blank, placed, row_shown, rows_left, units_in_parts}

pub placed-append : (xs ys : List held.Row) (rows : List Row) → placed (xs ++ ys) rows ≡ placed ys (placed xs rows)
placed-append [] ys rows = refl
placed-append (x ∷ xs) ys rows = placed-append xs ys (set rows x.1.number (row_shown x))

pub length-placed : (xs : List held.Row) (rows : List Row) → length (placed xs rows) ≡ length rows
length-placed [] rows = refl
length-placed (x ∷ xs) rows = length-placed xs (set rows x.1.number (row_shown x)) ∙ length-set rows x.1.number (row_shown x)

pub alike-append : (x : Shown) (os qs : List Owned) (rows : List Row) → placed (rows_as x (os ++ qs)) rows ≡ placed (rows_as x qs) (placed (rows_as x os) rows)
alike-append x os qs rows = ap (λ rs. placed rs rows) (map-append (λ o. (x, o)) os qs) ∙ placed-append (rows_as x os) (rows_as x qs) rows

module _ (xs : List held.Row) (old new : List Row) (put : new ≡ placed xs old) where
  -- what is left to put in, when the first of it was put in
  pub some-put : (ys : List held.Row) (all : List Row) → placed (xs ++ ys) old ≡ all → placed ys new ≡ all
  some-put ys all before = ap (placed ys) put ∙ (sym (placed-append xs ys old) ∙ before)

  pub some-length : length new ≡ length old
  some-length = ap (λ (rows : List Row). length rows) put ∙ length-placed xs old

  -- the numbers of the rest are still those of rows
  pub still-below : (os : List Owned) → AreBelow (length old) os → AreBelow (length new) os
  still-below os all = subst (λ n. AreBelow n os) (sym some-length) all

-- Numbers below a bound.

pub below-left : (n : ℕ) (os qs : List Owned) → AreBelow n (os ++ qs) → AreBelow n os
below-left n os qs all = All-left (λ (o : Owned). o.number < n) os qs all

pub below-right : (n : ℕ) (os qs : List Owned) → AreBelow n (os ++ qs) → AreBelow n qs
below-right n os qs all = All-right (λ (o : Owned). o.number < n) os qs all

module _ (n : ℕ) (x : Shown) (os : List Owned) (ys : List held.Row) (all : All (λ (row : held.Row). row.1.number < n) (rows_as x os ++ ys)) where
  pub units-below : AreBelow n os
  units-below = map-all (λ o. (x, o)) (λ (row : held.Row). row.1.number < n) os (All-left (λ (row : held.Row). row.1.number < n) (rows_as x os) ys all)

  pub others-below : All (λ (row : held.Row). row.1.number < n) ys
  others-below = All-right (λ (row : held.Row). row.1.number < n) (rows_as x os) ys all

-- the four kinds of units that a stream leaves
module _ (parts : StreamParts) where
  abbrev in_hand : List Owned
  in_hand = unit_in (option_map owned parts.hand)

  abbrev in_next : List Owned
  in_next = unit_in (option_map owned parts.next)

  abbrev in_tray : List Owned
  in_tray = parts.tray.units

  abbrev in_frames : List Owned
  in_frames = map owned parts.frames

  but-frames : (n : ℕ) → AreBelow n (units_in_parts parts) → AreBelow n (in_hand ++ in_next ++ in_tray)
  but-frames n all = below-left n (in_hand ++ in_next ++ in_tray) in_frames all

  -- they are put in one after the other, and the numbers of the rest are still below the number of rows
  module _ (x : Shown) (a b : List Row) (first : b ≡ placed (rows_as x in_hand) a) where
    pub next-below : AreBelow (length a) (units_in_parts parts) → AreBelow (length b) in_next
    next-below all = still-below (rows_as x in_hand) a b first in_next (below-right (length a) in_hand in_next (below-left (length a) (in_hand ++ in_next) in_tray (but-frames (length a) all)))

    module _ (c : List Row) (second : c ≡ placed (rows_as x in_next) b) where
      pub tray-below : AreBelow (length a) (units_in_parts parts) → AreBelow (length c) in_tray
      tray-below all = still-below (rows_as x in_next) b c second in_tray (still-below (rows_as x in_hand) a b first in_tray (below-right (length a) (in_hand ++ in_next) in_tray (but-frames (length a) all)))

      module _ (d : List Row) (third : d ≡ placed (rows_as x in_tray) c) where
        pub frames-below : AreBelow (length a) (units_in_parts parts) → AreBelow (length d) in_frames
        frames-below all =
            still-below (rows_as x in_tray) c d third in_frames (still-below (rows_as x in_next) b c second in_frames
            (still-below (rows_as x in_hand) a b first in_frames (below-right (length a) (in_hand ++ in_next ++ in_tray) in_frames all)))

        pub four-put : (e : List Row) → e ≡ placed (rows_as x in_frames) d → e ≡ placed (rows_as x (units_in_parts parts)) a
        four-put e fourth =
            fourth
            ∙ (ap (placed (rows_as x in_frames)) (third ∙ ap (placed (rows_as x in_tray)) (second ∙ ap (placed (rows_as x in_next)) first))
            ∙ sym (alike-append x (in_hand ++ in_next ++ in_tray) in_frames a
            ∙ ap (placed (rows_as x in_frames)) (alike-append x (in_hand ++ in_next) in_tray a ∙ ap (placed (rows_as x in_tray)) (alike-append x in_hand in_next a))))

pub rows-below : (W : Parts) (rows : List held.Row) → All (FitsRow W) rows → All (λ (row : held.Row). row.1.number < length W.units) rows
rows-below W rows all = λ k d lt. (all k d lt).number

-- Words.

-- rows of units that fit say words of the workload
pub words-placed : (W : Parts) (xs : List held.Row) (rows : List Row) → All (FitsRow W) xs → All (SaysWordsOf W) rows → All (SaysWordsOf W) (placed xs rows)
words-placed W [] rows fit said = said
words-placed W (x ∷ xs) rows fit said =
    words-placed W xs (set rows x.1.number (row_shown x)) (All-tail (FitsRow W) x xs fit)
    (All-set (SaysWordsOf W) rows x.1.number (row_shown x) (let fits = All-head (FitsRow W) x xs fit in fits.output) said)

pub left-fit : (W : Parts) (s : ℕ) (streams : List StreamParts) → All (LeavesWhatFits W) streams → All (FitsRow W) (rows_left s streams)
left-fit W s [] all = All-nil (FitsRow W)
left-fit W s (parts ∷ rest) all =
    All-append (FitsRow W) (rows_as (shows.Stream (stream_no s)) (units_in_parts parts)) (rows_left (suc s) rest)
    (All-map (FitsRow W) (λ o. (shows.Stream (stream_no s), o)) (units_in_parts parts) (All-head (LeavesWhatFits W) parts rest all))
    (left-fit W (suc s) rest (All-tail (LeavesWhatFits W) parts rest all))

pub blanks-say : (W : Parts) (n : ℕ) → All (SaysWordsOf W) (replicate n blank)
blanks-say W zero = All-nil (SaysWordsOf W)
blanks-say W (suc n) = All-cons (SaysWordsOf W) blank (replicate n blank) (All-nil (IsPieceOf W)) (blanks-say W n)
