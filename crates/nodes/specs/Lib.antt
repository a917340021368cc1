pub mod View
pub mod Meaning
pub mod Hash
pub mod Linked
