pub mod States
pub mod Counts
pub mod Keeping
pub mod Refusals
pub mod Calls
pub mod Runs
pub mod Promise
pub mod Refused
