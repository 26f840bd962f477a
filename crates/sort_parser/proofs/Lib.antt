pub mod Ways
pub mod Nested
