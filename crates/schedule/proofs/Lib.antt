pub mod Judging
pub mod Breaking
pub mod Choosing
pub mod Listing
pub mod Passing
mod Picking
mod Turns
mod Releasing
