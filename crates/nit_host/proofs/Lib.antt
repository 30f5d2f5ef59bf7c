mod Steps
mod Beginnings
mod ActLemmas
mod HandedWords
mod Seatings
mod Frames
mod PartsKept
mod CallChanges
mod UserMoves
mod ActMoves
mod LockOuts
mod Clicks
mod Former
mod Restacking
mod RefusedClicks
mod SeatsFound
pub mod Basics
pub mod Lemmas
