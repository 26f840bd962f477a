pub mod Shown
pub mod Meanings
pub mod Pieces
