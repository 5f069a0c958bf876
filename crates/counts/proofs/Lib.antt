pub mod Counts
pub mod Groups
