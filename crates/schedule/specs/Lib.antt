pub mod Rows
pub mod TaskRows
pub mod Check
pub mod Judged
pub mod ListSchedule
pub mod Refusals
pub mod Waiting
pub mod Refused
