pub mod Names
pub mod Wording
pub mod Refusing
