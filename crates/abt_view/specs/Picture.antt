-- The picture of a journal, as an svg.
use Rattle.std.specs.Prelude.{ℕ, ◌+◌, ◌-◌, ◌*◌, ◌/◌, ◌&&◌, nat_le, Bool, if◌then◌else◌, List, [], ◌++◌, codes, flat_map, length, max, min, Option}
use Rattle.std.specs.List.{range_with_len}
use Rattle.abt_machine.specs.declared.events.Event.{Event}
use Rattle.abt_machine.specs.declared.events.Piece.{Piece}
use Rattle.abt_machine.specs.declared.workload.Parts.{Parts}
use Rattle.abt_machine.specs.Outcomes.{steps_in}
use Rattle.abt_machine.specs.Words.{Text}
use Rattle.abt_view.specs.declared.style.TheConstants.{LEGEND, STYLE}
use Rattle.abt_view.specs.Arrows.{arrows_of}
use Rattle.abt_view.specs.Bands.{band_at, band_height, bands_in}
use Rattle.abt_view.specs.Frames.{all_frames}
use Rattle.abt_view.specs.Kinds.{greatest_stamp, refused_in}
use Rattle.abt_view.specs.Notes.{noted}
use Rattle.abt_view.specs.Shapes.{bar_in, frame_in, lines_in, mark_in}
use Rattle.abt_view.specs.Stretches.{all_stretches, streams_in}
use Rattle.abt_view.specs.Texts.{around}

-- What comes before the bands.

-- the size in pixels
abbrev pub size_text : ℕ → ℕ → Text
size_text width height = around (codes "<svg xmlns='http://www.w3.org/2000/svg' width='") width (codes "' ") ++ (around (codes "height='") height (codes "' ") ++ (around (codes "viewBox='0 0 ") width (codes " ") ++ around [] height (codes "'>\n")))

-- the line with counts
abbrev pub counts_text : List Event → Text
counts_text J = around (codes "<text class='counts' x='8' y='16'>events ") (length J) (codes ", steps ") ++ (around [] (steps_in J) (codes ", refused ") ++ (around [] (refused_in J) (codes ", streams ") ++ around [] (streams_in J) (codes "</text>\n")))

-- the name of a stream below its lane
abbrev pub lane_text : ℕ → Text
lane_text s = around (codes "<path class='lane' d='M0 ") (60 * s + 76) (codes "h1000'/>") ++ (around (codes "<text class='lane' x='4' y='") (60 * s + 72) (codes "'>") ++ around (codes "stream ") s (codes "</text>\n"))

-- the names of so many streams, and below them the kinds of marks, as the program draws them
abbrev pub names_text : ℕ → Text
names_text streams = codes "<defs><g id='names'>\n" ++ (flat_map lane_text (range_with_len 0 streams) ++ (around (codes "<g transform='translate(8 ") (60 * streams + 34) (codes ")'>") ++ LEGEND.now))

-- the picture is wide enough for the kinds of marks, and no wider than a band
abbrev pub picture_width : List Event → ℕ
picture_width J = max (min (10 * greatest_stamp J + 20) 19000) 720

-- it is as high as its bands, below the counts
abbrev pub picture_height : List Event → ℕ
picture_height J = band_height (streams_in J) * bands_in J + 24

abbrev pub head_text : List Event → Text
head_text J = size_text (picture_width J) (picture_height J) ++ (STYLE.now ++ (counts_text J ++ names_text (streams_in J)))

-- A band.

-- its place below those before it
abbrev pub window_text : ℕ → ℕ → Text
window_text height n = around (codes "<svg y='") (height * n + 24) (codes "' width='19000' height='") ++ (around [] height (codes "' viewBox='") ++ (around [] (19000 * n) (codes " 0 19000 ") ++ around [] height (codes "'>\n")))

-- ten times a number as a stamp on the axis
abbrev pub tick_text : ℕ → Text
tick_text t = around (codes "<use href='#tick' x='") t (codes "00'/>") ++ (around (codes "<text class='tick' x='") t (codes "00' y='12'>") ++ around [] t (codes "0</text>\n"))

-- the axis has every tenth stamp up to the greatest, except the band's first
abbrev pub ticks_text : ℕ → ℕ → Text
ticks_text n last = flat_map tick_text (range_with_len (190 * n + 1) (min (last / 10 - 190 * n) 189))

-- the names and the kinds of marks stand at each 1,000 pixels, so that one of them stays in view
abbrev pub column_text : ℕ → Text
column_text i = around (codes "<use href='#names' x='") i (codes "000'/>\n")

abbrev pub columns_text : ℕ → ℕ → Text
columns_text n last = flat_map column_text (range_with_len (19 * n) (min (last / 100 + 1 - 19 * n) 19))

-- the place and the axis of the band of number n
abbrev pub axis_text : List Event → ℕ → Text
axis_text J n = window_text (band_height (streams_in J)) n ++ (ticks_text n (greatest_stamp J) ++ columns_text n (greatest_stamp J))

-- the band with what it shows: what comes later lies above
abbrev pub band_text : Option Parts → List (Option Piece) → List Event → ℕ → Text
band_text names pieces J n =
    axis_text J n ++ (flat_map (frame_in (band_at n)) (all_frames J) ++ (flat_map (bar_in (band_at n) names) (all_stretches (streams_in J) (noted J pieces)) ++ (flat_map (mark_in (band_at n)) J ++ (flat_map (lines_in (band_at n)) (arrows_of J) ++ codes "</svg>\n"))))

-- The picture.

abbrev pub picture_text : Option Parts → List (Option Piece) → List Event → Text
picture_text names pieces J = head_text J ++ (flat_map (band_text names pieces J) (range_with_len 0 (bands_in J)) ++ codes "</svg>\n")

-- a journal is drawn if it has at most 20,000 events and no stamp above 20,000
abbrev pub is_small : List Event → Bool
is_small J = nat_le (length J) 20000 && nat_le (greatest_stamp J) 20000

-- the svg in place of a picture that would be too large
abbrev pub too_large : Text
too_large = codes "<svg xmlns='http://www.w3.org/2000/svg' width='720' height='40'><text x='10' y='25'>a picture has at most 20,000 events and no stamp above 20,000: use abtview trace</text></svg>\n"

-- the svg: the picture, or a line that says why there is none
abbrev pub svg_text : Option Parts → List (Option Piece) → List Event → Text
svg_text names pieces J = if is_small J then picture_text names pieces J else too_large
