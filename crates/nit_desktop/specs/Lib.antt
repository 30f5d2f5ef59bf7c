pub mod Desktop
pub mod Lending
pub mod Below
pub mod Terms
