pub mod Channels
pub mod Inks
pub mod Updates
pub mod Sight
pub mod Sights
pub mod Zeros
pub mod Terms
pub mod Below
