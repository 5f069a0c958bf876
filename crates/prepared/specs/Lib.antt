pub mod Books
pub mod Cases
pub mod Fits
pub mod Names
pub mod Needs
pub mod Numbers
pub mod Positions
