pub mod Order
pub mod Pairs
pub mod Bag
