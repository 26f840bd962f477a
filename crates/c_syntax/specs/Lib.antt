pub mod Allowed
pub mod Reading
pub mod Grammar
pub mod Spells
