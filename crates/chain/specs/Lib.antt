pub mod Cells
pub mod Chains
pub mod ChainBags
