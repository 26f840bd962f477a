pub mod Written
pub mod Neighbours
pub mod Marks
pub mod Plain
pub mod Items
