pub mod Free
pub mod Kept
pub mod Words
