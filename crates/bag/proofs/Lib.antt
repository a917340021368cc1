pub mod Bags
pub mod Pairs
