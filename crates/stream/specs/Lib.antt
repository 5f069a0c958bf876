pub mod Places
pub mod Written
