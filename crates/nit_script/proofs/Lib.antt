pub mod Digits
pub mod Exact
pub mod CallLaws
pub mod Scripts
pub mod LinePieces
pub mod ForCallers
pub mod Basics
pub mod Lemmas
