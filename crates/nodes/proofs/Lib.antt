pub mod Reading
pub mod Hashing
pub mod Linking
pub mod Walking
