pub mod Judges
