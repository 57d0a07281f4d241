-- The shapes of geometry from plain numbers, as the exported functions take them.
use Rattle.std.specs.Prelude.{ℤ}
use Rattle.geometry.specs.declared.Point.{Point}
use Rattle.geometry.specs.declared.Interval.{Interval}
use Rattle.geometry.specs.declared.Rectangle.{Rectangle}

abbrev pub point_of : ℤ → ℤ → Point
point_of x y = record { xcoord = x; ycoord = y }

abbrev pub interval_of : ℤ → ℤ → Interval
interval_of lb ub = record { lb = lb; ub = ub }

abbrev pub rectangle_of : ℤ → ℤ → ℤ → ℤ → Rectangle
rectangle_of xl xu yl yu = record { xcoord = interval_of xl xu; ycoord = interval_of yl yu }
