pub mod Examples
pub mod Lists
pub mod SlotsAndViews
pub mod StackLemmas
pub mod SlotsAndNames
pub mod ForCallers
pub mod Basics
pub mod Lemmas
