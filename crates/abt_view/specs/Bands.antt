-- The bands of a picture, one below the other: each shows 1,900 stamps.
use Rattle.std.specs.Prelude.{ℕ, ◌+◌, ◌*◌, ◌/◌, ◌&&◌, nat_le, Bool, List, max, min}
use Rattle.abt_machine.specs.declared.events.Event.{Event}
use Rattle.abt_view.specs.declared.bands.Band.{Band}
use Rattle.abt_view.specs.Kinds.{greatest_stamp}

-- how many bands there are: up to that of the greatest stamp
abbrev pub bands_in : List Event → ℕ
bands_in J = greatest_stamp J / 1900 + 1

-- the band of that number, from 0 on
abbrev pub band_at : ℕ → Band
band_at n = record { first = 1900 * n; last = 1900 * n + 1899 }

-- whether a band shows a part of what lasts from one stamp to another
abbrev pub is_in : Band → ℕ → ℕ → Bool
is_in band from to = nat_le (min from to) band.last && nat_le band.first (max from to)

-- the top of a stream's lane below that of its band, in pixels
abbrev pub lane_top : ℕ → ℕ
lane_top s = 60 * s + 24

-- the height of a band with so many lanes: the axis is above them, and the kinds of marks are below
abbrev pub band_height : ℕ → ℕ
band_height streams = 60 * streams + 74
