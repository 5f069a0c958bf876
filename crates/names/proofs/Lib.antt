pub mod Masks
pub mod Rising
