pub mod Entries
pub mod Messages
pub mod Rests
pub mod Roots
