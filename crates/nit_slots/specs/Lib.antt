pub mod Account
pub mod FreeSlots
pub mod Table
pub mod Slots
pub mod Below
pub mod Terms
