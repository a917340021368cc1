pub mod Choices
pub mod Meaning
pub mod Transfers
