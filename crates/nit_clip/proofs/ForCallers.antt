-- What other crates cite of clip scripts: that bytes begin with one of their lines at most.
pub use Rattle.nit_clip.proofs.ClipLineLaws.{clip_reading}
