mod Sifting
mod Heaping
pub mod Calls
mod Behind
pub mod EntryCalls
pub mod ReadyCalls
mod Unchanged
