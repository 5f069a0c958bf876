pub mod Answers
pub mod Blocks
pub mod Elements
pub mod Leads
pub mod Places
pub mod Rows
pub mod Seeks
