pub mod Text
pub mod Ranges
pub mod Input
pub mod Below
pub mod Terms
