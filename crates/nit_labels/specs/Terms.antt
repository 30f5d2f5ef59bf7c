-- The words that clauses use: those that come from outside, and those of this crate.
pub use Rattle.nit_labels.specs.Below.{Point, most_edge, slice_index_or}
pub use Rattle.nit_labels.specs.Passes.{AreDown, AreFoundFrom, IsAgainAbove, OwnsDown, CountsDown}
pub use Rattle.nit_labels.specs.Passes.{IsLeastFrom, IsOfRun, IsRowOf, IsRun, IsTop, counted}
pub use Rattle.nit_labels.specs.Passes.{put_where}
pub use Rattle.nit_labels.specs.Places.{IsEarlier, OwnsArea, IsLeastPlace, owner_at, spot}
