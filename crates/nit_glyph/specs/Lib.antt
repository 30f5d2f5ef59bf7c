pub mod Glyphs
pub mod Lettering
pub mod Padded
pub mod Pictures
pub mod Texts
pub mod Terms
pub mod Below
