pub mod Finishes
pub mod FinishLaws
pub mod ListLaws
