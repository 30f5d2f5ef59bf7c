-- The words that clauses use: those that come from outside, and those of this crate.
pub use Rattle.nit_rect.specs.Below.{AllByRecursion, Point, int_le, int_lt, pos, ℤ}
pub use Rattle.nit_rect.specs.Intersection.{CoversBoth, HasPixels, IsApart, LiesIn, empty_rectangle}
pub use Rattle.nit_rect.specs.Limits.{most_length}
pub use Rattle.nit_rect.specs.Options.{◌>>=◌}
pub use Rattle.nit_rect.specs.Rectangle.{IsPlace, Rectangle, covers, is_rectangle, rectangle, spans}
pub use Rattle.nit_rect.specs.Strips.{times, times_among}
