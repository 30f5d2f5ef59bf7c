pub mod Limits
pub mod Rectangle
pub mod Intersection
pub mod Strips
pub mod Screen
pub mod Options
pub mod Terms
pub mod Below
