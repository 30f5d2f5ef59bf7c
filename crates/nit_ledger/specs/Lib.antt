pub mod Book
pub mod BookSeat
pub mod BookRule
pub mod Below
pub mod Terms
