pub mod Filled
pub mod Deciding
pub mod Placing
pub mod Naming
pub mod Duplicates
