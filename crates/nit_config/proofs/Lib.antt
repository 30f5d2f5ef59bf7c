pub mod AcceptedTables
pub mod Elements
pub mod OneAnswer
pub mod ForCallers
pub mod Basics
pub mod Lemmas
