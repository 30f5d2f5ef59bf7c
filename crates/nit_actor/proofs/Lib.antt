pub mod Roles
pub mod Shots
pub mod Turns
pub mod IdleUserLemmas
pub mod ForCallers
pub mod Basics
pub mod Lemmas
