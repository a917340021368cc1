pub mod Digits
pub mod Joining
pub mod Texts
pub mod LastWords
pub mod Telling
