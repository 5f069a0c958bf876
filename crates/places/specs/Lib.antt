pub mod Elements
pub mod Seeks
pub mod Spots
