pub mod Surplus
