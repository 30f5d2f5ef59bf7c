pub use Rattle.nit_rect.specs.Limits
pub mod Below
pub mod Places
pub mod Passes
pub mod Terms
