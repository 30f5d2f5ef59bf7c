pub mod Owners
pub mod Plans
pub mod Refreshes
pub mod Machine
pub mod PartLists
pub mod Basics
pub mod Lemmas
