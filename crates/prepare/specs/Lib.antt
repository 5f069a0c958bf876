pub mod Names
pub mod Positions
pub mod Prepares
pub mod Templates
