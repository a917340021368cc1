pub mod Words
pub mod Lines
pub mod Texts
pub mod Reports
pub mod Pages
