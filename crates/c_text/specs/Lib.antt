pub mod Texts
pub mod Spacing
pub mod Text
