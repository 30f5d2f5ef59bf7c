-- What other crates cite of labels: where one fits it owns its pixels, two share none, and a map tells the place.
pub use Rattle.nit_place.proofs.Mapped.{mapped_place}
pub use Rattle.nit_place.proofs.Names.{name_both}
pub use Rattle.nit_place.proofs.Screen.{apart, fits_within, pixel_owned}
