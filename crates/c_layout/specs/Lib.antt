pub mod Marks
pub mod Standing
pub mod Layout
pub mod Spelled
