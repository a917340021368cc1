pub mod Pages
pub mod Blanks
pub mod Endings
pub mod Asking
