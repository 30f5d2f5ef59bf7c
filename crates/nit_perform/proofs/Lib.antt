pub mod ForCallers
pub mod InnerLemmas
pub mod PutLemmas
pub mod RoomRunLemmas
pub mod RunLemmas
pub mod Basics
pub mod Lemmas
