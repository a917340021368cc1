pub mod Places
pub mod Meaning
pub mod Names
pub mod Transfers
