pub mod Views
pub mod Few
pub mod Falls
pub mod Right
pub mod Placing
