-- What lemmas use: the words of clauses, the library's lemmas, and those of the crates below.
pub use Rattle.nit_rect.specs.Terms.{AllByRecursion, CoversBoth, HasPixels, IsApart, LiesIn, Point}
pub use Rattle.nit_rect.specs.Terms.{Rectangle, covers, int_le, int_lt, pos, rectangle, spans}
pub use Rattle.nit_rect.specs.Terms.{times, times_among, ℤ, ◌>>=◌}
pub use Rattle.std.proofs.Common.{arith, inr, ◌∙◌}
pub use Rattle.std.proofs.lemmas.Int.{ints}
